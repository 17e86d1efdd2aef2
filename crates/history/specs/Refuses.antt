-- Which fault each refused call tells, in words: the first test that fails decides, and each has its number, layer, sheet and place.
use Rattle.std.specs.Prelude.{◌≡◌, ℕ, ◌<◌, false, ◌⊎◌, List, Some, None, Ok, Err, ◌≢◌}
use Rattle.history.specs.Language.{Fault, Language, Entries}
use Rattle.history.specs.Calls.{refusal, sized, Call.post, Call.put, Call.clear, Call.check, History, Answer.refused}
use Rattle.history.specs.Plain.{plain, answer}
use Rattle.history.specs.Accepts.{NameFree}

module _ {Frame Def Text : Type 0} (L : Language Frame Def Text) where
  open L use {name, repeated, form, reads}

  -- the name is on another sheet than s
  abbrev pub NameTaken : Entries L → ℕ → ℕ → Type 0
  NameTaken e s n = (t : ℕ) × (d : Def) × (t < 32) × (t ≢ s) × (e t ≡ Some d) × (name d ≡ n)

  -- the refusals of the calls after a history
  pub record Refuses (h : History L) : Type 0 where
    -- put tells the sheet that it names
    pub put_31 : (s : ℕ) (d : Def) (fl cl : ℕ) → 31 < s → answer L h (put s d fl cl) ≡ refused (refusal 31 s)
    pub put_32 : (s : ℕ) (d : Def) (fl cl : ℕ) → s < 32 → sized fl cl ≡ false → answer L h (put s d fl cl) ≡ refused (refusal 32 s)
    pub put_33 : (s : ℕ) (d : Def) → s < 32 → NameTaken (plain L h).entries s (name d) → answer L h (put s d 8192 8192) ≡ refused (refusal 33 s)
    -- 34 tells the place of the first repeat
    pub put_34 :
        (s : ℕ) (d : Def) (p : ℕ) → s < 32 → NameFree L (plain L h).entries s (name d) → repeated d ≡ Some p →
        answer L h (put s d 8192 8192) ≡ refused (record { number = 34; layer = 3; sheet = s; place = p })
    -- post sets the sheet of a fault of reading or form, and nothing else of it; then it is its put
    pub post_read :
        (s : ℕ) (t : Text) (room fl cl : ℕ) (f : Fault) → reads t room ≡ Err f →
        answer L h (post s t room fl cl) ≡ refused (record { number = f.number; layer = f.layer; sheet = s; place = f.place })
    pub post_form :
        (s : ℕ) (t : Text) (room fl cl : ℕ) (fs : List Frame) (f : Fault) → reads t room ≡ Ok fs → form fs ≡ Err f →
        answer L h (post s t room fl cl) ≡ refused (record { number = f.number; layer = f.layer; sheet = s; place = f.place })
    pub post_put :
        (s : ℕ) (t : Text) (room fl cl : ℕ) (fs : List Frame) (d : Def) → reads t room ≡ Ok fs → form fs ≡ Ok d →
        answer L h (post s t room fl cl) ≡ answer L h (put s d fl cl)
    -- clear tells the sheet that it names
    pub clear_31 : (s fl cl : ℕ) → 31 < s → answer L h (clear s fl cl) ≡ refused (refusal 31 s)
    pub clear_32 : (s fl cl : ℕ) → s < 32 → sized fl cl ≡ false → answer L h (clear s fl cl) ≡ refused (refusal 32 s)
    pub clear_35 : (s : ℕ) → s < 32 → (plain L h).entries s ≡ None → answer L h (clear s 8192 8192) ≡ refused (refusal 35 s)
    -- check names no sheet
    pub check_32 : (fl cl a b : ℕ) → sized fl cl ≡ false → answer L h (check fl cl a b) ≡ refused (refusal 32 255)
    pub check_39 : (a b : ℕ) → (a < 256) ⊎ (b < 256) → answer L h (check 8192 8192 a b) ≡ refused (refusal 39 255)
