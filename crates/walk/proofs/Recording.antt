-- The test of an examination says what the record tells: names that do not repeat are distinct, and the head is the sheet's.
use Rattle.std.proofs.Common.{◌≡◌, ℕ, Bool as Truth, true, false, not, ◌||◌, eqb, List, [], ◌∷◌, map, sym, refl, ap, ◌∙◌, subst, ap₂}
use Rattle.std.proofs.lemmas.Bool.{eqb-true, eq-eqb, and_parts, and_from, or_parts, or_left, or_right, not-true, false≢true}
use Rattle.syntax.specs.declared.frame.Frame.{Frame}
use Rattle.syntax.specs.Types.{param_of}
use Rattle.syntax.specs.Heads.{head}
use Rattle.syntax.specs.Form.{is_sheet}
use Rattle.rules.specs.Judge.{among}
use Rattle.rules.specs.Sequences.{NotIn, Distinct}
use Rattle.rules.specs.Programs.{param_names}
use Rattle.rules.specs.Books.{sheet_head}
use Rattle.rules.proofs.Books.{head_written}
use Rattle.rules.proofs.Decided.{sheet_definition}
use Rattle.walk.specs.Machines.{names_of}
use Rattle.walk.specs.Params.{param_frames, repeats, param_twice}
use Rattle.walk.specs.Tied.{packed_head}
use Rattle.walk.specs.Examined.{sheet_packed, recorded}
use Rattle.walk.specs.Recorded.{Recorded, RecordDecides}
use Rattle.walk.proofs.HeadCodes.{packed_tree}

-- ===== names =====
-- none of the names seen is among those that do not repeat
seen_apart : (xs seen : List ℕ) → repeats seen xs ≡ false → (s : ℕ) → among seen s ≡ true → NotIn s xs
seen_apart [] seen h s k = tt
seen_apart (y ∷ ys) seen h s k =
    let w = or_parts (among seen y) (repeats (y ∷ seen) ys) h in
    (other (eqb s y) refl w.0, seen_apart ys (y ∷ seen) w.1 s (or_right (eqb y s) (among seen s) k))
  where
    other : (b : Truth) → eqb s y ≡ b → among seen y ≡ false → b ≡ false
    other true e n = absurd (false≢true (sym n ∙ ap (among seen) (sym (eqb-true s y e)) ∙ k))
    other false e n = refl

repeats_distinct : (xs seen : List ℕ) → repeats seen xs ≡ false → Distinct xs
repeats_distinct [] seen h = tt
repeats_distinct (x ∷ xs) seen h =
    let w = or_parts (among seen x) (repeats (x ∷ seen) xs) h in
    (seen_apart xs (x ∷ seen) w.1 x (or_left (eqb x x) (among seen x) (eq-eqb x x refl)), repeats_distinct xs (x ∷ seen) w.1)

distinct_repeats : (xs seen : List ℕ) → Distinct xs → ((s : ℕ) → among seen s ≡ true → NotIn s xs) → repeats seen xs ≡ false
distinct_repeats [] seen d n = refl
distinct_repeats (y ∷ ys) seen d n = ap₂ ◌||◌ (fresh (among seen y) refl) (distinct_repeats ys (y ∷ seen) d.1 later)
  where
    fresh : (b : Truth) → among seen y ≡ b → b ≡ false
    fresh true e = absurd (false≢true (sym (n y e).0 ∙ eq-eqb y y refl))
    fresh false e = refl

    by : (s : ℕ) (b : Truth) → eqb y s ≡ b → (b || among seen s) ≡ true → NotIn s ys
    by s true e h = subst (λ s. NotIn s ys) (eqb-true y s e) d.0
    by s false e h = (n s h).1

    later : (s : ℕ) → among (y ∷ seen) s ≡ true → NotIn s ys
    later s h = by s (eqb y s) refl h

pub names_params : (fs : List Frame) → names_of fs ≡ param_names (map param_of fs)
names_params [] = refl
names_params (f ∷ fs) = ap (λ l. f.name ∷ l) (names_params fs)

-- ===== the head =====
pub head_packed : (fs : List Frame) → is_sheet fs ≡ true → sheet_packed fs ≡ packed_head (sheet_head fs)
head_packed fs h =
    let w = sheet_definition fs h in
    packed_tree fs w.0 w.2 ∙ ap packed_head (sym (head_written w.0) ∙ ap sheet_head w.2)

-- ===== the test =====
pub record_decides : RecordDecides
record_decides fs name h = (told, tested)
  where
    told : recorded fs name h ≡ true → Recorded fs name h
    told e =
        let a = and_parts (is_sheet fs) _ e in
        let b = and_parts (eqb (head fs).name name) _ a.1 in
        let c = and_parts (eqb (sheet_packed fs) h) _ b.1 in
        record {
          sheet = a.0;
          named = eqb-true (head fs).name name b.0;
          headed = sym (head_packed fs a.0) ∙ eqb-true (sheet_packed fs) h c.0;
          apart = subst Distinct (names_params (param_frames fs)) (repeats_distinct (names_of (param_frames fs)) [] (not-true (param_twice fs) c.1));
        }

    tested : Recorded fs name h → recorded fs name h ≡ true
    tested r =
        and_from (is_sheet fs) _ r.sheet (and_from (eqb (head fs).name name) _ (eq-eqb (head fs).name name r.named)
        (and_from (eqb (sheet_packed fs) h) (not (param_twice fs)) (eq-eqb (sheet_packed fs) h (head_packed fs r.sheet ∙ r.headed))
        (ap not (distinct_repeats (names_of (param_frames fs)) [] (subst Distinct (sym (names_params (param_frames fs))) r.apart) (λ s k. absurd (false≢true k))))))
