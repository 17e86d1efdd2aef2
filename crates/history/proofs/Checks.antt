-- A check without 32 and 39: what it answers and leaves, and that a fresh book with the same sheets does the same.
use Rattle.std.proofs.Common.{◌≡◌, ℕ, List, ◌∷◌, Ok, sym, ap, ◌∙◌, subst, ap₂}
use Rattle.history.specs.Words.{count_below}
use Rattle.history.specs.Language.{Language, heads_in}
use Rattle.history.specs.Calls.{Call, History, Act.walked, outcome, Answer, Answer.checked}
use Rattle.history.specs.Plain.{entries_after, fault_of, Plain, due, after, stepped, plain, told, puts_of}
use Rattle.history.specs.Due.{CheckAccepted}
use Rattle.history.specs.Areas.{Holds}
use Rattle.history.specs.Working.{State, working_signatures, working_after, working_stepped}
use Rattle.history.specs.Runs.{working_step, working_answer, Does}
use Rattle.history.specs.Stands.{image_at, column_at, Stands}
use Rattle.history.specs.Known.{Known}
use Rattle.history.specs.Law.{Lists, AsFresh, Checks}
use Rattle.history.proofs.Parts.{same_areas}
use Rattle.history.proofs.Sounds.{due_walked, sound}
use Rattle.history.proofs.Rows.{same_signatures}
use Rattle.history.proofs.Walked.{columns_held}
use Rattle.history.proofs.Keeps.{answers}
use Rattle.history.proofs.Decides.{decides}
use Rattle.history.proofs.Listed.{listed}
use Rattle.history.proofs.Afresh.{reached, puts_done, same_sheets, all_due}

-- areas with the same parts are the same
same_holds : {X : Type 0} (xs ys : List X) (f g : ℕ → List X) → f ≡ g → Holds xs f → Holds ys g → xs ≡ ys
same_holds xs ys f g e a b = same_areas xs ys a.wide b.wide (λ t l. a.parts t l ∙ ap (λ k. k t) e ∙ sym (b.parts t l))

module _ {Frame Def Text : Type 0} (L : Language Frame Def Text) (K : Known L) where
  -- what an accepted check answers and leaves
  module _ (h : History L) (book : State Frame) (l : Stands L (plain L h) book) (c : Call L) (acc : CheckAccepted L h c) where
    -- the working book accepts it too
    working_accepts : outcome L (working_signatures book) c ≡ Ok walked
    working_accepts = ap (λ g. outcome L g c) (same_signatures L K (plain L h) book l) ∙ acc

    -- the state that it leaves
    pub check_left : working_step L book c ≡ working_after L book walked
    unfolding working_stepped
    check_left = ap (working_stepped L book) working_accepts

    -- its answer, by the plain book
    pub check_told : working_answer L book c ≡ checked (count_below 32 (due L (plain L h))) (fault_of L (plain L h).entries)
    unfolding told
    check_told = answers L K h book l c ∙ ap (told L (plain L h)) acc

    -- its frames are the entries' own
    pub check_frames : Holds (working_step L book c).frames (λ t. image_at L ((plain L h).entries t))
    unfolding working_after
    check_frames = rw check_left l.frames

    -- its column has the types of the valid sheets
    pub check_column : Holds (working_step L book c).column (λ t. column_at L (heads_in L (plain L h).entries) ((plain L h).entries t))
    unfolding working_after
    check_column =
        rw check_left (columns_held L K (plain L h) book (sound L h) l)

  -- a book that stands as an accepted check says: its areas
  held : (p : Plain L) (book : State Frame) → Stands L (after L p walked) book → Holds book.frames (λ t. image_at L (p.entries t)) × Holds book.column (λ t. column_at L (heads_in L p.entries) (p.entries t))
  unfolding after entries_after
  held p book stands = (stands.frames, record { wide = stands.wide; parts = λ t m. stands.column t m (due_walked L p t) })

  -- the areas of a book that stands as a history with this check says
  held_areas : (g : History L) (c : Call L) → CheckAccepted L g c → (o : State Frame) → Stands L (plain L (c ∷ g)) o → Holds o.frames (λ t. image_at L ((plain L g).entries t)) × Holds o.column (λ t. column_at L (heads_in L (plain L g).entries) ((plain L g).entries t))
  unfolding plain stepped
  held_areas g c a o stands = held (plain L g) o (subst (λ r. Stands L (stepped L (plain L g) r) o) a stands)

  module _ (h : History L) (book : State Frame) (l : Stands L (plain L h) book) (c : Call L) (acc : CheckAccepted L h c) where
    -- a fresh book with the same sheets answers and leaves the same
    pub as_fresh : (book' : State Frame) → book' ≡ working_step L book c → (ss : List ℕ) → Lists L ss (plain L h).entries → AsFresh L (plain L h).entries (fault_of L (plain L h).entries) book' ss
    unfolding told
    as_fresh book' e ss all =
        let g : History L = puts_of L (plain L h).entries ss in
        let same : (plain L g).entries ≡ (plain L h).entries = same_sheets L (plain L h).entries (sound L h).orderly ss all in
        record {
          accepted = puts_done L (plain L h).entries (sound L h).orderly ss;
          same = same;
          reached = reached L g;
          told = λ q a. ap (told L (plain L g)) a ∙ ap₂ checked (all_due L (plain L h).entries (sound L h).orderly ss all) (ap (fault_of L) same);
          areas = λ q a o lo.
              let w = held_areas g q a o lo in (
                same_holds book'.frames o.frames (λ t. image_at L ((plain L h).entries t)) (λ t. image_at L ((plain L g).entries t)) (ap (λ f t. image_at L (f t)) (sym same))
                    (rw e (check_frames h book l c acc)) w.0,
                same_holds book'.column o.column (λ t. column_at L (heads_in L (plain L h).entries) ((plain L h).entries t)) (λ t. column_at L (heads_in L (plain L g).entries) ((plain L g).entries t)) (ap (λ f t. column_at L (heads_in L f) (f t)) (sym same))
                    (rw e (check_column h book l c acc)) w.1,
              );
        }

    -- all that the law says of a check
    pub checks : (r : Answer L) (book' : State Frame) → Does L book c r book' → Checks L h r book'
    checks r book' d =
        record {
          fault = fault_of L (plain L h).entries;
          told = d.answered ∙ check_told h book l c acc;
          decides = decides L K (plain L h) (sound L h);
          frames = rw d.left (check_frames h book l c acc);
          column = rw d.left (check_column h book l c acc);
          listed = listed L (plain L h).entries (sound L h).orderly;
          as_fresh = as_fresh book' d.left;
        }
