-- Which calls the plain book accepts, in words.
use Rattle.std.specs.Prelude.{◌≡◌, ℕ, ◌<◌, ◌≤◌, true, ◌↔◌, List, Some, None, Ok, ◌≢◌}
use Rattle.history.specs.Words.{filled}
use Rattle.history.specs.Language.{Language, Entries}
use Rattle.history.specs.Calls.{Call.post, Call.put, Call.clear, Call.check, History, Answer.done}
use Rattle.history.specs.Plain.{plain, answer}
use Rattle.history.specs.Due.{CheckAccepted}

module _ {Frame Def Text : Type 0} (L : Language Frame Def Text) where
  open L use {name, repeated, form, reads}

  -- no other sheet than s has the name n
  abbrev pub NameFree : Entries L → ℕ → ℕ → Type 0
  NameFree e s n = (t : ℕ) (d : Def) → (t ≢ s) → e t ≡ Some d → name d ≢ n

  -- the calls accepted after a history
  pub record Accepts (h : History L) : Type 0 where
    pub puts :
        (s : ℕ) (d : Def) (fl cl : ℕ) →
        (answer L h (put s d fl cl) ≡ done) ↔ ((s < 32) × (fl ≡ 8192) × (cl ≡ 8192) × NameFree (plain L h).entries s (name d) × (repeated d ≡ None))
    pub posts :
        (s : ℕ) (t : Text) (room fl cl : ℕ) →
        (answer L h (post s t room fl cl) ≡ done) ↔ ((fs : List Frame) × (d : Def) × (reads t room ≡ Ok fs) × (form fs ≡ Ok d) × (answer L h (put s d fl cl) ≡ done))
    pub clears :
        (s fl cl : ℕ) →
        (answer L h (clear s fl cl) ≡ done) ↔ ((s < 32) × (fl ≡ 8192) × (cl ≡ 8192) × (filled ((plain L h).entries s) ≡ true))
    pub checks :
        (fl cl a b : ℕ) →
        CheckAccepted L h (check fl cl a b) ↔ ((fl ≡ 8192) × (cl ≡ 8192) × (256 ≤ a) × (256 ≤ b))
