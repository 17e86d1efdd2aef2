-- The examination of a sheet answers and leaves what the law says of its walk.
use Rattle.std.proofs.Common.{◌≡◌, ℕ, suc, ◌+◌, ◌-◌, ◌*◌, ◌<◌, ◌≤◌, Bool, true, false, cond, eqb, leb, List, length, take, drop, replicate, Some, None, Ok, Err, Result, sym, refl, ap, ◌∙◌, ap₂, inl, inr}
use borrow.Rule.Slice.PartMut.{put_mid}
use Rattle.std.proofs.lemmas.Bool.{eq-eqb, le-leb, cond-true, cond-false, cases_Bool}
use Rattle.syntax.specs.declared.frame.Frame.{Frame}
use Rattle.levels.specs.Store.{Store, with_levels}
use Rattle.rules.specs.Heads.{Levels}
use Rattle.rules.specs.Faults.{Fault, fault}
use Rattle.rules.proofs.Results.{answers_same}
use Rattle.walk.specs.declared.verdict.Verdict.{Verdict}
use Rattle.walk.specs.declared.verdict.Verdict.TheVariants.{Altered}
use Rattle.walk.specs.declared.verdict.Refusal.{Refusal}
use Rattle.walk.specs.declared.verdict.Refusal.TheVariants.{OtherColumn, SmallStore}
use Rattle.walk.specs.Judge.{Numbers}
use Rattle.walk.specs.Step.{Outcome}
use Rattle.walk.specs.Outcomes as outcomes
use Rattle.walk.specs.Outcomes.{verdict_of, levels_of}
use Rattle.walk.specs.Tied.{walk_verdict, walk_levels}
use Rattle.walk.specs.Examined.{recorded, examined, Leaves, Decides}
use Rattle.history.specs.Language.{Verdict as Judged, Verdict.bad, Heads, column_of, blame, zeros}
use Rattle.history.specs.Working.{walked_again}
use Rattle.cpp.specs.Sheet.{form}
use Rattle.cpp.specs.Heads.{signature_from}
use Rattle.cpp.specs.Judge.{verdict}
use Rattle.cpp.specs.Cpp.{cpp}
use Rattle.cpp.proofs.Verdicts.{verdict_column}
use Rattle.records.specs.declared.record.Record.{Record}
use Rattle.records.specs.Records.{kept_of, row_of}
use Rattle.records.specs.Stores.{levels_again, releveled}
use Rattle.records.specs.Walks.{Held, judged, SheetWalked}
use Rattle.records.proofs.Spans.{part_long, part_written}
use Rattle.records.proofs.Judging.{again_told, levels_told, walk}

-- what is kept of a walk's verdict is what the law keeps
kept_verdict : (w : Result (List ℕ × Levels) Fault) → kept_of (walk_verdict w) ≡ blame (verdict w)
kept_verdict (Ok a) = refl
kept_verdict (Err (fault v p Γ)) = refl

-- with 256 places and room enough nothing is refused
allowed : {X : Type 0} (n k : ℕ) (x y z : X) → n ≡ 256 → 256 ≤ k → cond (eqb n 256) (cond (leb 256 k) x y) z ≡ x
allowed n k x y z e l = ap₂ (λ a b. cond a (cond b x y) z) (eq-eqb n 256 e) (le-leb 256 k l)

-- a sheet that is examined under heads held
module _ (h : Heads) (row : Record) (fs : List Frame) (hs : List Numbers) (col col' : List ℕ) (s s' : Store ℕ) (a : Result Verdict Refusal) (v : Verdict) (o : Outcome)
    (held : Held h hs) (wide : length col ≡ 256) (room : 256 ≤ s.capacity)
    (told : a ≡ examined (length col) s.capacity (recorded fs row.signature.name row.signature.head) o)
    (leaves : Leaves col col' s s' (recorded fs row.signature.name row.signature.head) o)
    (law : Decides hs fs (length col) s.capacity (recorded fs row.signature.name row.signature.head) a col' s'.levels)
    (given : a ≡ Ok v) where
  -- the frames are those recorded
  abbrev b : Bool
  b = recorded fs row.signature.name row.signature.head

  -- the law's verdict on it
  abbrev again : Judged
  again = walked_again cpp h (form fs) (row_of row)

  -- the answer is not refused
  answer_is : v ≡ cond b (verdict_of o) Altered
  answer_is = answers_same (sym given ∙ told ∙ allowed (length col) s.capacity (Ok (cond b (verdict_of o) Altered)) (Err SmallStore) (Err OtherColumn) wide room)

  -- the store is that of the walk, or as it was
  store_is : s' ≡ cond b (with_levels s (levels_of o)) s
  store_is = leaves.variables ∙ allowed (length col) s.capacity (cond b (with_levels s (levels_of o)) s) s s wide room

  -- the column is that of the walk, or 0 alone
  column_is : col' ≡ cond b (outcomes.column_of o) (replicate 256 0)
  column_is = leaves.column ∙ allowed (length col) s.capacity (cond b (outcomes.column_of o) (replicate 256 0)) col col wide room

  -- frames as recorded
  module _ (t : b ≡ true) where
    -- the walk by the rules
    abbrev w : Result (List ℕ × Levels) Fault
    w = walk h (row_of row) fs

    -- the law's verdict is the walk's
    judged_walk : again ≡ verdict w
    judged_walk = again_told h (row_of row) fs ∙ cond-true b (verdict w) (bad 3 38 0) t

    -- answer, column and store are the walk's
    walked_kept : kept_of v ≡ blame again
    walked_kept = ap kept_of (answers_same (sym given ∙ (law (signature_from h) held wide room t).verdict)) ∙ kept_verdict w ∙ ap blame (sym judged_walk)

    walked_column : col' ≡ column_of again
    walked_column = (law (signature_from h) held wide room t).column ∙ sym (verdict_column w) ∙ ap column_of (sym judged_walk)

    walked_store : s' ≡ releveled s (levels_again h (form fs) (row_of row))
    walked_store =
        let e : s' ≡ with_levels s (levels_of o) = store_is ∙ cond-true b (with_levels s (levels_of o)) s t in
        let l : levels_of o ≡ walk_levels w = sym (ap (λ (x : Store ℕ). x.levels) e) ∙ (law (signature_from h) held wide room t).levels in
        e ∙ ap (with_levels s) l ∙ ap (releveled s) (sym (levels_told h (row_of row) fs ∙ cond-true b (Some (walk_levels w)) None t))

  -- altered frames
  module _ (t : b ≡ false) where
    -- the law's verdict is 38
    judged_altered : again ≡ bad 3 38 0
    judged_altered = again_told h (row_of row) fs ∙ cond-false b (verdict (walk h (row_of row) fs)) (bad 3 38 0) t

    -- and so is what is kept, with no types and no variables
    altered_kept : kept_of v ≡ blame again
    altered_kept = ap kept_of (answer_is ∙ cond-false b (verdict_of o) Altered t) ∙ ap blame (sym judged_altered)

    altered_column : col' ≡ column_of again
    unfolding zeros
    altered_column = column_is ∙ cond-false b (outcomes.column_of o) (replicate 256 0) t ∙ ap column_of (sym judged_altered)

    altered_store : s' ≡ releveled s (levels_again h (form fs) (row_of row))
    altered_store =
        store_is
        ∙ cond-false b (with_levels s (levels_of o)) s t
        ∙ ap (releveled s) (sym (levels_told h (row_of row) fs ∙ cond-false b (Some (walk_levels (walk h (row_of row) fs))) None t))

  -- verdict, column and variables are the law's
  pub examined_sheet : (kept_of v ≡ blame again) × (col' ≡ column_of again) × (s' ≡ releveled s (levels_again h (form fs) (row_of row)))
  examined_sheet =
      elim (cases_Bool b) [
        | inl t ↦ (walked_kept t, walked_column t, walked_store t)
        | inr t ↦ (altered_kept t, altered_column t, altered_store t)
      ]

-- ## the sheet's part of the column

-- the sheet t whose part of the frames is b, its part of the column cut out and written back
module _ (b : List Frame) (t from to : ℕ) (row : Record) (fs : List Frame) (hs : List Numbers) (k col' : List ℕ) (s s' : Store ℕ) (a : Result Verdict Refusal) (v : Verdict) (o : Outcome) where
  -- its part of the column
  abbrev cut : List ℕ
  cut = take (to - from) (drop from k)

  -- an examination of its frames walks it as the law says
  pub sheet_walked :
      t < 32 → from ≡ 256 * t → to ≡ 256 * t + 256 → length k ≡ 8192 → 256 ≤ s.capacity → fs ≡ take (suc row.end) b →
      a ≡ examined (length cut) s.capacity (recorded fs row.signature.name row.signature.head) o →
      Leaves cut col' s s' (recorded fs row.signature.name row.signature.head) o →
      Decides hs fs (length cut) s.capacity (recorded fs row.signature.name row.signature.head) a col' s'.levels →
      a ≡ Ok v →
      (h : Heads) → Held h hs → SheetWalked h b t row v k (put_mid from (to - from) k col') s s'
  sheet_walked l i j e room own told leaves law given h held =
      let w = examined_sheet h row fs hs cut col' s s' a v o held (part_long k t from to l i j e) room told leaves law given in
      record {
        verdict = w.0 ∙ ap (λ gs. blame (walked_again cpp h (form gs) (row_of row))) own;
        column = part_written k (column_of (judged h b row)) col' t from to i j (w.1 ∙ ap (λ gs. column_of (walked_again cpp h (form gs) (row_of row))) own);
        variables = w.2 ∙ ap (λ gs. releveled s (levels_again h (form gs) (row_of row))) own;
      }
