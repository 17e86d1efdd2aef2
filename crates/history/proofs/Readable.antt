-- The type reader and its questions answer as the law says.
use Rattle.std.proofs.Common.{◌≡◌, ℕ, ◌-◌, ◌<◌, ◌≤◌, Bool, true, cond, ◌&&◌, ltb, ◌↔◌, List, length, get_or, replicate, Some, None, Ok, Err, Option, refl, ap, ◌∙◌, subst, inl, inr, arith}
use Rattle.std.proofs.lemmas.Bool.{and_parts, cond-true, cases_Bool, lt-ltb, le-ltb, ltb-true}
use Rattle.std.proofs.lemmas.List.{get_or_append_left}
use Rattle.history.specs.Language.{Heads, column_of, Blame, as_type, Language, size, image, heads_in}
use Rattle.history.specs.Calls.{refusal, sized, reader_refusal, History}
use Rattle.history.specs.Plain.{Plain, due, plain}
use Rattle.history.specs.Due.{CheckedValid}
use Rattle.history.specs.Areas.{part}
use Rattle.history.specs.Working.{State, record_at, type_asked, asked}
use Rattle.history.specs.Stands.{record_of, image_at, column_at, Row, Stands}
use Rattle.history.specs.Known.{Known}
use Rattle.history.specs.Readable.{Typed, Readable}
use Rattle.history.proofs.Words.{cond_parts}
use Rattle.history.proofs.Sounds.{sound}
use Rattle.history.proofs.Valid.{valid_words}
use Rattle.history.proofs.Decides.{derives, decides}

-- two tests, or the first alone where the second holds
both_first : {X : Type 0} (a b : Bool) (x : Option X) (u : X) → cond (a && b) x None ≡ Some u → cond a x None ≡ Some u
both_first a b x u e = let c = cond_parts (a && b) x e in rw (and_parts a b c.0).0 c.1

-- where the second test holds the first decides
first_both : {X : Type 0} (a b : Bool) (x : Option X) (u : X) → b ≡ true → cond a x None ≡ Some u → cond (a && b) x None ≡ Some u
first_both a b x u i e = let c = cond_parts a x e in rw (c.0, i) c.1

module _ {Frame Def Text : Type 0} (L : Language Frame Def Text) (K : Known L) where
  open L use {blank, expression, writing, Tree, Gives}
  open K use {short, judged, spoken}

  -- the answer at place k of a definition with the part c of the column
  abbrev said : Def → List ℕ → ℕ → Option ℕ
  said d c k = cond (ltb k (size L d) && expression (get_or (writing d) k blank)) (as_type (get_or c k 0)) None

  -- a place below the end is one of the definition's frames
  image_place : (d : Def) (k : ℕ) → k < size L d → get_or (image L d) k blank ≡ get_or (writing d) k blank
  unfolding image
  image_place d k l = get_or_append_left (writing d) (replicate (256 - length (writing d)) blank) blank k l

  -- the answer from the areas is that of the definition
  asked_said : (book : State Frame) (s k : ℕ) (d : Def) (v : Blame) (b : Bool) (c : List ℕ) → part s book.frames ≡ image L d → part s book.column ≡ c → type_asked L book s k (Some (record_of L d v b)) ≡ said d c k
  asked_said book s k d v b c f e =
      elim (cases_Bool (ltb k (size L d))) [
        | inl y ↦ cc (image_place d k (ltb-true k (size L d) y))
        | inr y ↦ rw y refl
      ]

  -- on a valid definition it is what every derivation gives
  said_gives : (h : Heads) (d : Def) (n : Tree h d) (k u : ℕ) → (said d (judged h d n).0 k ≡ Some u) ↔ Gives h d n k u
  said_gives h d n k u =
      let j = judged h d n in (
        (λ e. (j.2 k u).0 (both_first (ltb k (size L d)) (expression (get_or (writing d) k blank)) (as_type (get_or j.0 k 0)) u e)),
        λ g. first_both (ltb k (size L d)) (expression (get_or (writing d) k blank)) (as_type (get_or j.0 k 0)) u (spoken h d n k u g) ((j.2 k u).1 g),
      )

  -- a question below sheet 32 is answered
  asked_in : (book : State Frame) (s k : ℕ) (o : Option ℕ) → s < 32 → type_asked L book s k (record_at book s) ≡ o → asked L book s k ≡ Ok o
  unfolding asked
  asked_in book s k o l e = rw (le-ltb 31 s (omega arith)) (ap Ok e)

  -- and beyond it refused
  asked_beyond : (book : State Frame) (s k : ℕ) → 31 < s → asked L book s k ≡ Err (refusal 31 s)
  unfolding asked
  asked_beyond book s k l = rw (lt-ltb 31 s l) refl

  -- an answer that no type fits is none
  no_answer : (o : Option ℕ) → ((u : ℕ) → o ≡ Some u → ⊥) → o ≡ None
  no_answer (Some u) n = absurd (n u refl)
  no_answer None n = refl

  module _ (h : History L) (book : State Frame) (stands : Stands L (plain L h) book) where
    -- the plain book
    abbrev p : Plain L
    p = plain L h

    -- its heads
    abbrev heads : Heads
    heads = heads_in L p.entries

    -- the record of a filled sheet
    row_filled : (s : ℕ) (d : Def) → p.entries s ≡ Some d → Row L heads (Some d) (due L p s) (record_at book s)
    row_filled s d i = subst (λ x. Row L heads x (due L p s) (record_at book s)) i (stands.row s)

    -- and of an empty one
    row_empty : (s : ℕ) → p.entries s ≡ None → record_at book s ≡ None
    row_empty s i = subst (λ x. Row L heads x (due L p s) (record_at book s)) i (stands.row s)

    -- the question on a filled sheet of a valid book
    asked_valid : CheckedValid L h → (s k : ℕ) (d : Def) → s < 32 → p.entries s ≡ Some d → (n : Tree heads d) → asked L book s k ≡ Ok (said d (judged heads d n).0 k)
    asked_valid v s k d l i n =
        let row = row_filled s d i in
        let calm = (sound L h).calm ((valid_words L h).1 v) s in
        let col : part s book.column ≡ (judged heads d n).0 = stands.column s l calm ∙ ap (column_at L heads) i ∙ ap column_of (judged heads d n).1 in
        let frm : part s book.frames ≡ image L d = stands.frames.parts s l ∙ ap (image_at L) i in
        asked_in book s k (said d (judged heads d n).0 k) l
        (ap (type_asked L book s k) row.1 ∙ asked_said book s k d row.0 (due L p s) (judged heads d n).0 frm col)

    -- no type at or past the end
    asked_past : (s k : ℕ) (d : Def) → s < 32 → p.entries s ≡ Some d → size L d ≤ k → asked L book s k ≡ Ok None
    asked_past s k d l i m =
        asked_in book s k None l
        (ap (type_asked L book s k) (row_filled s d i).1
        ∙ ap (λ q. cond (q && expression (get_or (part s book.frames) k blank)) (as_type (get_or (part s book.column) k 0)) None) (le-ltb k (size L d) m))

    -- a question is answered as the law says
    pub typed : (s k : ℕ) → Typed L h s k (asked L book s k)
    typed s k =
        record {
          beyond = asked_beyond book s k;
          within = λ l. (type_asked L book s k (record_at book s), asked_in book s k (type_asked L book s k (record_at book s)) l refl);
          typed = λ v d l i n u.
              let a = asked_valid v s k d l i n in
              let g = said_gives heads d n k u in
              ((λ e. g.0 cc), λ w. a ∙ ap Ok (g.1 w));
          untyped = λ v d l i n none.
              asked_valid v s k d l i n ∙ ap Ok (no_answer (said d (judged heads d n).0 k) (λ u e. none u ((said_gives heads d n k u).0 e)));
          past_end = asked_past s k;
          empty = λ l i. asked_in book s k None l (ap (type_asked L book s k) (row_empty s i));
        }

    -- the reader is as the law says
    pub readable : Readable L h book
    unfolding reader_refusal
    readable =
        record {
          valid_words = valid_words L h;
          opens = λ fl cl. ap (λ b. reader_refusal b fl cl) stands.flag;
          only_lengths = λ v fl cl e.
              ap (λ b. reader_refusal b fl cl) (stands.flag ∙ (valid_words L h).1 v) ∙ cond-true (sized fl cl) None (Some (refusal 32 255)) e;
          derivable = λ v.
              let none = (sound L h).clean ((valid_words L h).1 v) in
              ((decides L K p (sound L h)).valid.0 none, (derives L K p (sound L h)).0 none);
          questions = typed;
        }
