-- What fresh answers and leaves.
use Rattle.std.proofs.Common.{◌≡◌, ℕ, cond, List, length, replicate, Some, None, sym, ap, ◌∙◌, ap₂}
use Rattle.syntax.specs.declared.frame.Frame.{Frame}
use Rattle.syntax.specs.Writing.{blank}
use Rattle.history.specs.Calls.{refusal, fresh_refusal}
use Rattle.history.specs.Working.{State, new_book, fresh_state}
use Rattle.history.specs.Runs.{Freshens}
use Rattle.history.specs.Promise.{with_areas}
use Rattle.cpp.specs.Cpp.{cpp}
use Rattle.records.proofs.Refusing.{OtherLength, other_sized, both_sized}

-- an area of another length refuses it
pub unfreshened : (book : State Frame) (fs : List Frame) → OtherLength (length book.frames) (length book.column) → fs ≡ book.frames → Freshens cpp book (Some (refusal 32 255)) (with_areas book fs book.column)
unfolding fresh_refusal
unfreshened book fs o e =
    record { answered = sym (ap (λ b. cond b None (Some (refusal 32 255))) (other_sized (length book.frames) (length book.column) o)); left = ap (λ f. with_areas book f book.column) e }

-- else it leaves an empty book over blank areas
pub freshened : (book : State Frame) (left : List Frame → List ℕ → State Frame) (fs f : List Frame) (ks k : List ℕ) → ((f : List Frame) (k : List ℕ) → left f k ≡ new_book f k) →
    length book.frames ≡ 8192 → length book.column ≡ 8192 → fs ≡ book.frames → ks ≡ book.column → f ≡ replicate (length fs) blank → k ≡ replicate (length ks) 0 → Freshens cpp book None (left f k)
unfolding fresh_refusal fresh_state
freshened book left fs f ks k new p q v w i j =
    record {
      answered = sym (ap (λ b. cond b None (Some (refusal 32 255))) (both_sized (length book.frames) (length book.column) p q));
      left = new f k ∙ ap₂ new_book (i ∙ ap (λ x. replicate (length x) blank) v ∙ ap (λ n. replicate n blank) p) (j ∙ ap (λ (x : List ℕ). replicate (length x) 0) w ∙ ap (λ (n : ℕ). replicate n 0) q);
    }
