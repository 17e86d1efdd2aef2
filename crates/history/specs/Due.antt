-- Due and valid by their sentences: what must have happened in a history, told without the plain book's marks.
use Rattle.std.specs.Prelude.{◌≡◌, ℕ, true, ◌⊎◌, ◌∷◌, ◌++◌, Some, None, Ok, ◌≢◌}
use Rattle.history.specs.Words.{Among}
use Rattle.history.specs.Language.{Fault, Language, Entries, heads_in}
use Rattle.history.specs.Calls.{Call, History, Act, Act.wrote, Act.emptied, Act.walked, Answer.refused, Answer.checked}
use Rattle.history.specs.Plain.{due, plain, result, answer}

module _ {Frame Def Text : Type 0} (L : Language Frame Def Text) where
  open L use {writing, calls}

  -- the call after a history is a check without 32 and 39
  abbrev pub CheckAccepted : History L → Call L → Type 0
  CheckAccepted h c = result L h c ≡ Ok walked

  -- a put on the sheet
  abbrev pub PutOn : Act L → ℕ → Type 0
  PutOn (wrote s d) t = t ≡ s
  PutOn (emptied s) t = ⊥
  PutOn walked t = ⊥

  -- the sheet's frames call a name to which the second book gives another head than the first, or none, or its first
  abbrev pub CallsAltered : Entries L → Entries L → ℕ → Type 0
  CallsAltered e k t = (d : Def) × (n : ℕ) × (e t ≡ Some d) × Among n (calls (writing d)) × (heads_in L e n ≢ heads_in L k n)

  -- the call after a history is an accepted put on the sheet, or an accepted put or clear that altered the head of a name that the sheet then calls
  abbrev pub Touched : History L → Call L → ℕ → Type 0
  Touched h c t = (a : Act L) × (result L h c ≡ Ok a) × (PutOn a t ⊎ CallsAltered (plain L h).entries (plain L (c ∷ h)).entries t)

  -- the call after a history is an accepted check, and the sheet was due
  abbrev pub Walked : History L → Call L → ℕ → Type 0
  Walked h c t = CheckAccepted h c × (due L (plain L h) t ≡ true)

  -- no call of the history walked the sheet
  abbrev pub NeverWalked : History L → ℕ → Type 0
  NeverWalked h t = (late : History L) (c : Call L) (early : History L) → h ≡ late ++ (c ∷ early) → Walked early c t → ⊥

  -- the sheet's last walk: the call `walk` after the calls `old`, and none of the calls `new` since
  pub record LastWalk (h : History L) (t : ℕ) : Type 0 where
    pub new : History L
    pub walk : Call L
    pub old : History L
    pub all : h ≡ new ++ (walk ∷ old)
    pub happened : Walked old walk t
    pub last : (late : History L) (c : Call L) (early : History L) → new ≡ late ++ (c ∷ early) → Walked (early ++ (walk ∷ old)) c t → ⊥

  -- a call since then touched the sheet
  abbrev pub TouchedSince : (h : History L) (t : ℕ) → LastWalk h t → Type 0
  TouchedSince h t w =
      (late : History L) × (c : Call L) × (early : History L) × (w.new ≡ late ++ (c ∷ early)) × Touched (early ++ (w.walk ∷ w.old)) c t

  -- behind its edits: the sheet had no walk yet, or after its last walk came a call that touched it
  abbrev pub Behind : History L → ℕ → Type 0
  Behind h t = NeverWalked h t ⊎ ((w : LastWalk h t) × TouchedSince h t w)

  -- the last accepted call was a check that answered valid
  pub data CheckedValid : History L → Type 0 where
    -- the newest call is one
    just_now : {h : History L} {c : Call L} {n : ℕ} → answer L h c ≡ checked n None → CheckedValid (c ∷ h)
    -- it was one before the newest call, which was refused
    still : {h : History L} {c : Call L} {f : Fault} → answer L h c ≡ refused f → CheckedValid h → CheckedValid (c ∷ h)
