-- The law's verdict on a sheet by the test that an examination makes.
use Rattle.std.proofs.Common.{◌≡◌, ℕ, Bool, true, false, cond, not, ◌&&◌, T, eqb, List, Some, None, Ok, Err, Result, sym, refl, ap, ◌∙◌, subst}
use Rattle.std.proofs.lemmas.Bool.{and_parts, and_from, eqb-true, eq-eqb, not-true, cond-false}
use Rattle.syntax.specs.declared.frame.Frame.{Frame}
use Rattle.rules.specs.Heads.{Head, head, Levels}
use Rattle.rules.specs.Sequences.{Distinct}
use Rattle.rules.specs.Programs.{param_names}
use Rattle.rules.specs.Books.{sheet_params, sheet_head}
use Rattle.rules.specs.Faults as rule
use Rattle.rules.specs.Walk.{walk_sheet}
use Rattle.rules.proofs.Results.{no_answer}
use Rattle.walk.specs.Tied.{packed_head, walk_levels}
use Rattle.walk.specs.Examined.{recorded}
use Rattle.walk.proofs.Recording.{record_decides}
use Rattle.history.specs.Words.{filled}
use Rattle.history.specs.Language.{Fault, Verdict.bad, Heads}
use Rattle.history.specs.Working as working
use Rattle.history.specs.Working.{fits, walked_again}
use Rattle.history.proofs.Words.{filled_none}
use Rattle.cpp.specs.Sheet.{Sheet, form}
use Rattle.cpp.specs.Heads.{head_code, signature_from, name_of, head_number, repeated_in}
use Rattle.cpp.specs.Judge.{verdict, judge}
use Rattle.cpp.specs.Cpp.{cpp}
use Rattle.cpp.proofs.Sheets.{has_form, form_again, forms_tied}
use Rattle.cpp.proofs.Repeats.{repeat_distinct}
use Rattle.records.specs.Stores.{levels_again}

-- ## frames that fit their record

-- two tests are one where each gives the other
same_tests : (a b : Bool) → (a ≡ true → b ≡ true) → (b ≡ true → a ≡ true) → a ≡ b
same_tests true b f g = sym (f refl)
same_tests false true f g = g refl
same_tests false false f g = refl

-- both packings of a head are one
same_codes : (h : Head) → packed_head h ≡ head_code h
same_codes (head us r) = refl

-- a sheet without a repeat has no parameter twice
once_distinct : (d : Sheet) → repeated_in d ≡ None → Distinct (param_names (sheet_params d.frames))
unfolding repeated_in
once_distinct d e = (repeat_distinct (param_names (sheet_params d.frames))).0 e

-- and the other way round
distinct_once : (d : Sheet) → Distinct (param_names (sheet_params d.frames)) → repeated_in d ≡ None
unfolding repeated_in
distinct_once d e = (repeat_distinct (param_names (sheet_params d.frames))).1 e

-- the number of a sheet's head is its packed head
head_packed : (d : Sheet) → packed_head (sheet_head d.frames) ≡ head_number d
unfolding head_number
head_packed d = same_codes (sheet_head d.frames)

-- a sheet fits its record exactly where its frames are those recorded
fits_recorded : (r : working.Record) (d : Sheet) → fits cpp r d ≡ recorded d.frames r.name r.head
fits_recorded r d = same_tests (fits cpp r d) (recorded d.frames r.name r.head) there back
  where
    there : fits cpp r d ≡ true → recorded d.frames r.name r.head ≡ true
    there e =
        let a = and_parts (eqb (name_of d) r.name) (eqb (head_number d) r.head && not (filled (repeated_in d))) e in
        let b = and_parts (eqb (head_number d) r.head) (not (filled (repeated_in d))) a.1 in
        (record_decides d.frames r.name r.head).1 (record {
          sheet = has_form d;
          named = eqb-true (name_of d) r.name a.0;
          headed = head_packed d ∙ eqb-true (head_number d) r.head b.0;
          apart = once_distinct d (filled_none (repeated_in d) (not-true (filled (repeated_in d)) b.1));
        })

    back : recorded d.frames r.name r.head ≡ true → fits cpp r d ≡ true
    back e =
        let w = (record_decides d.frames r.name r.head).0 e in
        and_from (eqb (name_of d) r.name) (eqb (head_number d) r.head && not (filled (repeated_in d))) (eq-eqb (name_of d) r.name w.named)
        (and_from (eqb (head_number d) r.head) (not (filled (repeated_in d))) (eq-eqb (head_number d) r.head (sym (head_packed d) ∙ w.headed))
        (ap (λ o. not (filled o)) (distinct_once d w.apart)))

-- frames that form no sheet are not those recorded
unformed : (fs : List Frame) (f : Fault) (n h : ℕ) → form fs ≡ Err f → recorded fs n h ≡ false
unformed fs f n h e = by (recorded fs n h) refl
  where
    by : (b : Bool) → recorded fs n h ≡ b → b ≡ false
    by true i = no_answer (sym e ∙ form_again (record { frames = fs; formed = subst T (sym ((record_decides fs n h).0 i).sheet) tt }))
    by false i = refl

-- ## the verdict and the levels by the record's test

module _ (h : Heads) (r : working.Record) (fs : List Frame) where
  -- the rules' walk over the frames
  abbrev pub walk : Result (List ℕ × Levels) rule.Fault
  walk = walk_sheet (signature_from h) fs

  -- the frames are those recorded
  abbrev pub test : Bool
  test = recorded fs r.name r.head

  -- frames as recorded get the walk's verdict, others 38
  pub again_told : walked_again cpp h (form fs) r ≡ cond test (verdict walk) (bad 3 38 0)
  unfolding judge
  again_told = by (form fs) refl
    where
      by : (o : Result Sheet Fault) → form fs ≡ o → walked_again cpp h o r ≡ cond test (verdict walk) (bad 3 38 0)
      by (Ok d) e =
          ap (λ b. cond b (judge h d) (bad 3 38 0)) (fits_recorded r d)
          ∙ ap (λ gs. cond (recorded gs r.name r.head) (verdict (walk_sheet (signature_from h) gs)) (bad 3 38 0)) (((forms_tied.told fs).formed d).0 e).1
      by (Err f) e = sym (cond-false test (verdict walk) (bad 3 38 0) (unformed fs f r.name r.head e))

  -- frames as recorded leave the walk's levels, others none
  pub levels_told : levels_again h (form fs) r ≡ cond test (Some (walk_levels walk)) None
  levels_told = by (form fs) refl
    where
      by : (o : Result Sheet Fault) → form fs ≡ o → levels_again h o r ≡ cond test (Some (walk_levels walk)) None
      by (Ok d) e =
          ap (λ b. cond b (Some (walk_levels (walk_sheet (signature_from h) d.frames))) None) (fits_recorded r d)
          ∙ ap (λ gs. cond (recorded gs r.name r.head) (Some (walk_levels (walk_sheet (signature_from h) gs))) None) (((forms_tied.told fs).formed d).0 e).1
      by (Err f) e = sym (cond-false test (Some (walk_levels walk)) None (unformed fs f r.name r.head e))
