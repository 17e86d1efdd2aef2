-- What a question is answered, from any state.
use Rattle.std.proofs.Common.{◌≡◌, ℕ, ◌<◌, ◌≤◌, ◌&&◌, ltb, ◌↔◌, get_or, Some, None, Ok, Option, refl, ap, ◌∙◌, arith}
use Rattle.std.proofs.lemmas.Bool.{lt-ltb, le-ltb, ltb-true, and_parts}
use Rattle.std.proofs.lemmas.Option.{cond_some}
use Rattle.history.specs.Language.{as_type, Language}
use Rattle.history.specs.Areas.{part}
use Rattle.history.specs.Working.{Record, State, record_at, type_asked, asked}
use Rattle.history.specs.Readable.{Shown}
use Rattle.history.proofs.Words.{cond_parts}

-- a number is a type exactly from 1 to 5
type_range : (n u : ℕ) → as_type n ≡ Some u → (n ≡ u) × (1 ≤ u) × (u ≤ 5)
type_range n u e =
    let c = cond_some (ltb 0 n && ltb n 6) n u e in
    let p = and_parts (ltb 0 n) (ltb n 6) c.0 in
    (c.1, omega (arith, c.1, ltb-true 0 n p.0), omega (arith, c.1, ltb-true n 6 p.1))

-- and each of these numbers is one
range_type : (n u : ℕ) → n ≡ u → 1 ≤ u → u ≤ 5 → as_type n ≡ Some u
range_type n u i a b = rw (lt-ltb 0 n (omega arith), lt-ltb n 6 (omega arith)) (ap Some i)

module _ {Frame Def Text : Type 0} (L : Language Frame Def Text) where
  open L use {blank, expression}

  -- an answer is shown by the areas
  shown_of : (book : State Frame) (s k u : ℕ) (x : Option Record) → record_at book s ≡ x → type_asked L book s k x ≡ Some u → Shown L book s k u
  shown_of book s k u None i e = cc
  shown_of book s k u (Some r) i e =
      let c = cond_parts (ltb k r.size && expression (get_or (part s book.frames) k blank)) (as_type (get_or (part s book.column) k 0)) e in
      let p = and_parts (ltb k r.size) (expression (get_or (part s book.frames) k blank)) c.0 in
      let t = type_range (get_or (part s book.column) k 0) u c.1 in
      record { row = r; there = i; below = ltb-true k r.size p.0; spoken = p.1; number = t.0; least = t.1; most = t.2 }

  -- and what they show is answered
  asked_of : (book : State Frame) (s k u : ℕ) → Shown L book s k u → type_asked L book s k (record_at book s) ≡ Some u
  asked_of book s k u w =
      rw (w.there, lt-ltb k w.row.size w.below, w.spoken) (range_type (get_or (part s book.column) k 0) u w.number w.least w.most)

  -- the answer to a question, from any state
  pub asks : (book : State Frame) (s k u : ℕ) → s < 32 → (asked L book s k ≡ Ok (Some u)) ↔ Shown L book s k u
  unfolding asked
  asks book s k u l =
      let a : asked L book s k ≡ Ok (type_asked L book s k (record_at book s)) = rw (le-ltb 31 s (omega arith)) refl in (
        (λ e. shown_of book s k u (record_at book s) refl cc),
        λ w. a ∙ ap Ok (asked_of book s k u w),
      )
