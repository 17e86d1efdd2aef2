-- The tests of the edits in their order, and what a call does that is refused or accepted.
use Rattle.std.proofs.Common.{◌≡◌, ℕ, ◌<◌, ◌≤◌, Bool, true, false, not, ◌&&◌, eqb, ◌⊎◌, List, is_some, Some, None, Ok, Err, Option, Result, sym, refl, ap, ◌∙◌, ap₂, subst₂, inl, inr}
use Rattle.std.proofs.lemmas.Bool.{eq-eqb, ne_eqb, and_left, and_right, lt-ltb, le-ltb}
use Rattle.syntax.specs.declared.frame.Frame.{Frame}
use Rattle.history.specs.Words.{filled}
use Rattle.history.specs.Language.{Fault, Signatures}
use Rattle.history.specs.Calls.{refusal, sized, Call, Call.put, Call.clear, Act, Act.wrote, Act.emptied, guard, unless_repeated, elsewhere, outcome, Answer, Answer.refused, Answer.done}
use Rattle.history.specs.Working.{State, working_signatures, working_after, working_stepped, working_told}
use Rattle.history.specs.Runs.{Does}
use Rattle.history.specs.Promise.{with_areas}
use Rattle.cpp.specs.Sheet.{Sheet}
use Rattle.cpp.specs.Heads.{name_of, repeated_in}
use Rattle.cpp.specs.Cpp.{cpp}
use Rattle.walk.specs.declared.signature.Signature.{Signature}
use Rattle.records.specs.Records.{signed}

-- a signature that is there, in the law's words too
pub signed_filled : (o : Option Signature) → filled (signed o) ≡ is_some o
signed_filled (Some x) = refl
signed_filled None = refl

-- ## lengths

-- one of the two areas has another length
abbrev pub OtherLength : ℕ → ℕ → Type 0
OtherLength fl cl = (fl ≡ 8192 → ⊥) ⊎ ((fl ≡ 8192) × (cl ≡ 8192 → ⊥))

pub other_sized : (fl cl : ℕ) → OtherLength fl cl → sized fl cl ≡ false
other_sized fl cl (inl n) = and_left (eqb fl 8192) (eqb cl 8192) (ne_eqb fl 8192 n)
other_sized fl cl (inr n) = and_right (eqb fl 8192) (eqb cl 8192) (ne_eqb cl 8192 n.1)

pub both_sized : (fl cl : ℕ) → fl ≡ 8192 → cl ≡ 8192 → sized fl cl ≡ true
both_sized fl cl p q = ap₂ ◌&&◌ (eq-eqb fl 8192 p) (eq-eqb cl 8192 q)

-- ## put

module _ (g : Signatures) (s : ℕ) (d : Sheet) (fl cl : ℕ) where
  -- what is left to ask after 31, and after 32
  abbrev past_31 : Bool → Result (Act cpp) Fault
  past_31 b = guard cpp (not b) (refusal 32 s) (guard cpp (elsewhere cpp g s (name_of d)) (refusal 33 s) (unless_repeated cpp (repeated_in d) s (wrote s d)))

  abbrev past_32 : Bool → Result (Act cpp) Fault
  past_32 b = guard cpp b (refusal 33 s) (unless_repeated cpp (repeated_in d) s (wrote s d))

  pub put_31 : 31 < s → outcome cpp g (put s d fl cl) ≡ Err (refusal 31 s)
  unfolding outcome
  put_31 l = ap (λ b. guard cpp b (refusal 31 s) (past_31 (sized fl cl))) (lt-ltb 31 s l)

  pub put_32 : s ≤ 31 → OtherLength fl cl → outcome cpp g (put s d fl cl) ≡ Err (refusal 32 s)
  unfolding outcome
  put_32 l o = ap₂ (λ a b. guard cpp a (refusal 31 s) (past_31 b)) (le-ltb 31 s l) (other_sized fl cl o)

  module _ (l : s ≤ 31) (p : fl ≡ 8192) (q : cl ≡ 8192) where
    put_from_33 : outcome cpp g (put s d fl cl) ≡ past_32 (elsewhere cpp g s (name_of d))
    unfolding outcome
    put_from_33 = ap₂ (λ a b. guard cpp a (refusal 31 s) (past_31 b)) (le-ltb 31 s l) (both_sized fl cl p q)

    pub put_33 : elsewhere cpp g s (name_of d) ≡ true → outcome cpp g (put s d fl cl) ≡ Err (refusal 33 s)
    put_33 e = put_from_33 ∙ ap past_32 e

    module _ (free : elsewhere cpp g s (name_of d) ≡ false) where
      pub put_34 : (n : ℕ) → repeated_in d ≡ Some n → outcome cpp g (put s d fl cl) ≡ Err (record { number = 34; layer = 3; sheet = s; place = n })
      put_34 n e = put_from_33 ∙ ap past_32 free ∙ ap (λ o. unless_repeated cpp o s (wrote s d)) e

      pub put_done : repeated_in d ≡ None → outcome cpp g (put s d fl cl) ≡ Ok (wrote s d)
      put_done e = put_from_33 ∙ ap past_32 free ∙ ap (λ o. unless_repeated cpp o s (wrote s d)) e

-- ## clear

module _ (g : Signatures) (s fl cl : ℕ) where
  -- what is left to ask after 31
  abbrev past_31_clear : Bool → Bool → Result (Act cpp) Fault
  past_31_clear b f = guard cpp (not b) (refusal 32 s) (guard cpp (not f) (refusal 35 s) (Ok (emptied s)))

  pub clear_31 : 31 < s → outcome cpp g (clear s fl cl) ≡ Err (refusal 31 s)
  unfolding outcome
  clear_31 l = ap (λ b. guard cpp b (refusal 31 s) (past_31_clear (sized fl cl) (filled (g s)))) (lt-ltb 31 s l)

  pub clear_32 : s ≤ 31 → OtherLength fl cl → outcome cpp g (clear s fl cl) ≡ Err (refusal 32 s)
  unfolding outcome
  clear_32 l o = ap₂ (λ a b. guard cpp a (refusal 31 s) (past_31_clear b (filled (g s)))) (le-ltb 31 s l) (other_sized fl cl o)

  module _ (l : s ≤ 31) (p : fl ≡ 8192) (q : cl ≡ 8192) where
    clear_from_35 : outcome cpp g (clear s fl cl) ≡ guard cpp (not (filled (g s))) (refusal 35 s) (Ok (emptied s))
    unfolding outcome
    clear_from_35 = ap₂ (λ a b. guard cpp a (refusal 31 s) (past_31_clear b (filled (g s)))) (le-ltb 31 s l) (both_sized fl cl p q)

    pub clear_35 : filled (g s) ≡ false → outcome cpp g (clear s fl cl) ≡ Err (refusal 35 s)
    clear_35 e = clear_from_35 ∙ ap (λ b. guard cpp (not b) (refusal 35 s) (Ok (emptied s))) e

    pub clear_done : filled (g s) ≡ true → outcome cpp g (clear s fl cl) ≡ Ok (emptied s)
    clear_done e = clear_from_35 ∙ ap (λ b. guard cpp (not b) (refusal 35 s) (Ok (emptied s))) e

-- ## what the call does

module _ (book : State Frame) (c : Call cpp) where
  -- refused it leaves all as it was
  pub refused_does : (f : Fault) → outcome cpp (working_signatures book) c ≡ Err f → Does cpp book c (refused f) book
  unfolding working_told working_stepped
  refused_does f e = record { answered = sym (ap (working_told cpp book) e); left = sym (ap (working_stepped cpp book) e) }

  -- a put that is accepted
  pub wrote_does : (book' : State Frame) (s : ℕ) (d : Sheet) → outcome cpp (working_signatures book) c ≡ Ok (wrote s d) → book' ≡ working_after cpp book (wrote s d) → Does cpp book c done book'
  unfolding working_told working_stepped
  wrote_does book' s d e i = record { answered = sym (ap (working_told cpp book) e); left = i ∙ sym (ap (working_stepped cpp book) e) }

  -- a clear that is accepted
  pub emptied_does : (book' : State Frame) (s : ℕ) → outcome cpp (working_signatures book) c ≡ Ok (emptied s) → book' ≡ working_after cpp book (emptied s) → Does cpp book c done book'
  unfolding working_told working_stepped
  emptied_does book' s e i = record { answered = sym (ap (working_told cpp book) e); left = i ∙ sym (ap (working_stepped cpp book) e) }

-- the same where the areas were lent on the way, and came back as they were
pub does_over : (book : State Frame) (fs : List Frame) (ks : List ℕ) → fs ≡ book.frames → ks ≡ book.column → (c : Call cpp) (r : Answer cpp) (book' : State Frame) → Does cpp (with_areas book fs ks) c r book' → Does cpp book c r book'
does_over book fs ks p q c r book' d = subst₂ (λ f k. Does cpp (with_areas book f k) c r book') p q d
