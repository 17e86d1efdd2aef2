-- The plain book: what a history of calls means, told from arguments, lengths and capacities alone.
use Rattle.std.specs.Prelude.{◌≡◌, ℕ, Bool, true, false, cond, not, ◌&&◌, ◌||◌, List, [], ◌∷◌, Some, None, Ok, Err, Option, Result, ◌==◌}
use Rattle.history.specs.Words.{updated, lowest, count_below, any_of, filled}
use Rattle.history.specs.Language.{Fault, Heads, differ, fault_from, Language, Entries, signatures, heads_in}
use Rattle.history.specs.Calls.{reader_refusal, Call, Call.put, History, Act, Act.wrote, Act.emptied, Act.walked, outcome, Answer, Answer.refused, Answer.done, Answer.checked}

module _ {Frame Def Text : Type 0} (L : Language Frame Def Text) where
  open L use {writing, calls, judge}

  -- a put fills its entry, a clear empties one, and nothing else alters them
  unfoldable pub entries_after : Entries L → Act L → Entries L
  entries_after e (wrote s d) = updated e s (Some d)
  entries_after e (emptied s) = updated e s None
  entries_after e walked = e

  -- the frames of a sheet call a name whose head differs between two tables
  abbrev pub calls_altered : Heads → Heads → Option Def → Bool
  calls_altered h k None = false
  calls_altered h k (Some d) = any_of (λ n. differ (h n) (k n)) (calls (writing d))

  -- an accepted call is a put on the sheet, or alters the head of a name that the sheet then calls
  unfoldable pub touches : Entries L → Act L → ℕ → Bool
  touches e (wrote s d) t = t == s || calls_altered (heads_in L e) (heads_in L (entries_after e (wrote s d))) (e t)
  touches e (emptied s) t = calls_altered (heads_in L e) (heads_in L (entries_after e (emptied s))) (e t)
  touches e walked t = false

  -- the judge's fault on one sheet
  abbrev pub fault_at : Heads → ℕ → Option Def → Option Fault
  fault_at h t None = None
  fault_at h t (Some d) = fault_from t (judge h d)

  -- the fault of the lowest faulty sheet, all with the heads of the whole book
  unfoldable pub fault_of : Entries L → Option Fault
  fault_of e = lowest 32 (λ t. fault_at (heads_in L e) t (e t))

  -- its entries; whether each sheet was touched since its last walk or had none; whether it is valid
  pub record Plain : Type 0 where
    pub entries : Entries L
    pub since : ℕ → Bool
    pub valid : Bool

  -- the sheet is due; an empty one never is
  abbrev pub due : Plain → ℕ → Bool
  due p t = filled (p.entries t) && p.since t

  -- an accepted check walks all due
  unfoldable pub walks : Plain → Act L → ℕ → Bool
  walks p (wrote s d) t = false
  walks p (emptied s) t = false
  walks p walked t = due p t

  -- the last accepted call was a check that answered valid
  unfoldable pub valid_after : Plain → Act L → Bool
  valid_after p (wrote s d) = false
  valid_after p (emptied s) = false
  valid_after p walked = not (filled (fault_of p.entries))

  -- the plain book after an accepted call
  unfoldable pub after : Plain → Act L → Plain
  after p a =
      record {
        entries = entries_after p.entries a;
        since = λ t. cond (walks p a t) false (touches p.entries a t || p.since t);
        valid = valid_after p a;
      }

  -- a refused call alters nothing
  unfoldable pub stepped : Plain → Result (Act L) Fault → Plain
  stepped p (Ok a) = after p a
  stepped p (Err f) = p

  -- the plain book that a history of calls leaves; after an accepted fresh it is empty
  unfoldable pub plain : History L → Plain
  plain [] = record { entries = λ t. None; since = λ t. true; valid = false }
  plain (c ∷ h) = stepped (plain h) (outcome L (signatures L (plain h).entries) c)

  -- what the call after a history does, or its refusal
  abbrev pub result : History L → Call L → Result (Act L) Fault
  result h c = outcome L (signatures L (plain h).entries) c

  -- what a call tells
  unfoldable pub told : Plain → Result (Act L) Fault → Answer L
  told p (Err f) = refused f
  told p (Ok (wrote s d)) = done
  told p (Ok (emptied s)) = done
  told p (Ok walked) = checked (count_below 32 (due p)) (fault_of p.entries)

  -- the answer of the call after a history
  abbrev pub answer : History L → Call L → Answer L
  answer h c = told (plain h) (result h c)

  -- each call of a history was accepted, and none is a check
  abbrev pub AllDone : History L → Type 0
  AllDone [] = Unit {0}
  AllDone (c ∷ h) = (answer h c ≡ done) × AllDone h

  -- a sheet with this mark is walked by a call with this result
  unfoldable pub walks_by : Result (Act L) Fault → Bool → Bool
  walks_by (Err f) b = false
  walks_by (Ok (wrote s d)) b = false
  walks_by (Ok (emptied s)) b = false
  walks_by (Ok walked) b = b

  -- the call after a history walks the sheet
  abbrev pub plain_walks : History L → Call L → ℕ → Bool
  plain_walks h c t = walks_by (result h c) (due (plain h) t)

  -- the refusal of a type reader after a history
  abbrev pub reading : Plain → ℕ → ℕ → Option Fault
  reading p fl cl = reader_refusal p.valid fl cl

  -- one put of the entry, if there is one, after a history
  abbrev pub put_of : ℕ → Option Def → History L → History L
  put_of s None h = h
  put_of s (Some d) h = put s d 8192 8192 ∷ h

  -- puts of the entries on the listed sheets, on a fresh book
  unfoldable pub puts_of : Entries L → List ℕ → History L
  puts_of e [] = []
  puts_of e (s ∷ ss) = put_of s (e s) (puts_of e ss)
