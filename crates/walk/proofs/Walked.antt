-- What an examination that comes to a walk answers and leaves.
use Rattle.std.proofs.Common.{◌≡◌, ℕ, ◌≤◌, Bool as Truth, true, List, length, Ok, Result, sym, refl, ap, ◌∙◌, subst}
use Rattle.std.proofs.lemmas.Bool.{eq-eqb, le-leb, and_parts}
use Rattle.syntax.specs.declared.frame.Frame.{Frame}
use Rattle.syntax.specs.Form.{is_sheet}
use Rattle.levels.specs.Store.{Store, with_levels}
use Rattle.walk.specs.declared.verdict.Verdict.{Verdict}
use Rattle.walk.specs.declared.verdict.Refusal.{Refusal}
use Rattle.walk.specs.Judge.{Numbers}
use Rattle.walk.specs.Step.{Outcome}
use Rattle.walk.specs.Outcomes.{outcome, verdict_of, column_of, levels_of}
use Rattle.walk.specs.Examined.{recorded, examined, column_after, store_after, Decides}
use Rattle.walk.proofs.Telling.{verdict_tied, column_tied, levels_tied}

-- the frames as recorded form a sheet without a parameter twice
pub recorded_sheet : (fs : List Frame) (name h : ℕ) → recorded fs name h ≡ true → is_sheet fs ≡ true
recorded_sheet fs name h e = (and_parts (is_sheet fs) _ e).0

module _ (n capacity : ℕ) (b : Truth) (o : Outcome) (e : n ≡ 256) (l : 256 ≤ capacity) (t : b ≡ true) where
  pub examined_walked : Ok (verdict_of o) ≡ examined n capacity b o
  examined_walked = sym (rw (eq-eqb n 256 e, le-leb 256 capacity l, t) refl)

  pub store_walked : (s : Store ℕ) → s.capacity ≡ capacity → with_levels s (levels_of o) ≡ store_after n s b o
  store_walked s k = let m : 256 ≤ s.capacity = subst (λ c. 256 ≤ c) (sym k) l in sym (rw (eq-eqb n 256 e, le-leb 256 s.capacity m, t) refl)

pub column_walked : (c : List ℕ) (capacity : ℕ) (b : Truth) (o : Outcome) → length c ≡ 256 → 256 ≤ capacity → b ≡ true → column_of o ≡ column_after c capacity b o
column_walked c capacity b o e l t = sym (rw (eq-eqb (length c) 256 e, le-leb 256 capacity l, t) refl)

-- answer, column and levels of a walk on codes are those of the rules' walk
pub decides_walked : (hs : List Numbers) (fs : List Frame) (n capacity : ℕ) (b : Truth) (r : Result Verdict Refusal) (c : List ℕ) (ls : List Numbers) → is_sheet fs ≡ true
    → r ≡ Ok (verdict_of (outcome hs fs)) → c ≡ column_of (outcome hs fs) → ls ≡ levels_of (outcome hs fs) → Decides hs fs n capacity b r c ls
decides_walked hs fs n capacity b r c ls h e₁ e₂ e₃ S holds x y z =
    record {
      verdict = e₁ ∙ ap Ok (verdict_tied S hs holds fs h);
      column = e₂ ∙ column_tied S hs holds fs h;
      levels = e₃ ∙ levels_tied S hs holds fs h;
    }
