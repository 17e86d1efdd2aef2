-- The walk on codes tells what the walk of the rules answers.
use Rattle.std.proofs.Common.{◌≡◌, ℕ, ◌-◌, true, List, [], ◌∷◌, ◌++◌, map, reverse, length, replicate, Ok, Err, Result, sym, refl, ap, ◌∙◌, ap₂}
use Rattle.std.proofs.lemmas.List.{length-reverse}
use Rattle.syntax.specs.declared.frame.Frame.{Frame}
use Rattle.syntax.specs.declared.frame.«Type».{«Type» as Ty}
use Rattle.syntax.specs.Writing.{Token, frame_of, type_code, written, write_definition}
use Rattle.syntax.specs.Heads.{head as head_frame}
use Rattle.syntax.specs.Types.{type_of}
use Rattle.syntax.specs.Form.{is_sheet}
use Rattle.syntax.proofs.Heads.{head_type}
use Rattle.rules.specs.declared.violation.Violation.{Violation}
use Rattle.rules.specs.Heads.{Signature, Levels}
use Rattle.rules.specs.Faults.{Fault, fault, ◌>>=◌, placed}
use Rattle.rules.specs.Typed.{column_left}
use Rattle.rules.specs.Tokens.{token}
use Rattle.rules.specs.Walk.{State as Walking, move, walk, start as walk_start, returned, walk_frames, walk_sheet}
use Rattle.rules.proofs.Results.{type_back}
use Rattle.rules.proofs.Decoded.{tokens_written}
use Rattle.rules.proofs.Decided.{sheet_definition}
use Rattle.walk.specs.Judge.{Numbers}
use Rattle.walk.specs.Step.{stepped, Turn, Outcome, ended, broken, walked, start}
use Rattle.walk.specs.Outcomes.{outcome, verdict_of, column_of, levels_of}
use Rattle.walk.specs.Tied.{coded_levels, Holds, walk_verdict, walk_levels}
use Rattle.walk.proofs.Turns.{goes, breaks, over}
use Rattle.walk.proofs.Moving.{coded_state, Same, moves_same}

-- the answer of the rules' walk as an outcome on codes
abbrev pub told : Result Walking Fault → Outcome
told (Ok s) = ended s.column (coded_levels s.levels)
told (Err (fault v p Γ)) = broken v p (coded_levels Γ)

module _ (S : Signature) (hs : List Numbers) (holds : Holds S hs) (r : Ty) where
  abbrev Tells : List Token → Walking → Type 0
  Tells ms s = walked hs (type_code r) (map frame_of ms) s.column (coded_state s) ≡ told (walk S r ms s)

  tells_more : (m : Token) (ms : List Token) (s : Walking) (q : Result Turn Violation) (o : Result Walking Violation) → stepped hs (type_code r) (frame_of m) (coded_state s) ≡ q → Same s q o
      → ((s' : Walking) → Tells ms s')
      → walked hs (type_code r) (map frame_of (m ∷ ms)) s.column (coded_state s) ≡ told (placed (length s.column) s.levels o >>= λ s'. walk S r ms s')
  tells_more m ms s (Ok p) (Ok s') e w ih =
      goes hs (type_code r) (frame_of m) (map frame_of ms) s.column (coded_state s) p.next p.byte e
      ∙ ap₂ (λ c n. walked hs (type_code r) (map frame_of ms) c n) (sym w.0) w.1 ∙ ih s'
  tells_more m ms s (Ok p) (Err v) e w ih = absurd w
  tells_more m ms s (Err v) (Ok s') e w ih = absurd w
  tells_more m ms s (Err v) (Err x) e w ih =
      breaks hs (type_code r) (frame_of m) (map frame_of ms) s.column (coded_state s) v e
      ∙ ap (λ v. broken v (length s.column) (coded_levels s.levels)) w

  tells : (ms : List Token) (s : Walking) → Tells ms s
  tells [] s = over hs (type_code r) s.column (coded_state s)
  tells (m ∷ ms) s = tells_more m ms s (stepped hs (type_code r) (frame_of m) (coded_state s)) (move S r m s) refl (moves_same S hs holds r s m) (λ s'. tells ms s')

-- ===== a sheet =====
frames_tokens : (fs : List Frame) → is_sheet fs ≡ true → map frame_of (map token fs) ≡ fs
unfolding written
frames_tokens fs h =
    let w = sheet_definition fs h in
    let e : map token fs ≡ write_definition w.0 [] = ap (map token) (sym w.2) ∙ tokens_written w.0 in
    ap (map frame_of) e ∙ w.2

head_returned : (fs : List Frame) → is_sheet fs ≡ true → (head_frame fs).t ≡ type_code (returned fs)
head_returned fs h =
    let w = sheet_definition fs h in
    let e = head_type fs w.0 w.2 in
    e ∙ ap type_code (sym (ap type_of e ∙ type_back w.0.returns))

pub outcome_told : (S : Signature) (hs : List Numbers) → Holds S hs → (fs : List Frame) → is_sheet fs ≡ true → outcome hs fs ≡ told (walk_frames S (returned fs) fs)
outcome_told S hs holds fs h =
    ap₂ (λ ρ l. walked hs ρ l [] start) (head_returned fs h) (sym (frames_tokens fs h))
    ∙ tells S hs holds (returned fs) (map token fs) walk_start

-- ===== in the words of the contract =====
sheet_of : Result Walking Fault → Result (List ℕ × Levels) Fault
sheet_of q = q >>= λ s. Ok (reverse s.column, s.levels)

verdict_told : (q : Result Walking Fault) → verdict_of (told q) ≡ walk_verdict (sheet_of q)
unfolding sheet_of
verdict_told (Ok s) = refl
verdict_told (Err (fault v p Γ)) = refl

column_told : (q : Result Walking Fault) → column_of (told q) ≡ column_left (sheet_of q)
unfolding sheet_of column_left
column_told (Ok s) = ap (λ n. reverse s.column ++ replicate (256 - n) 0) (sym (length-reverse s.column))
column_told (Err (fault v p Γ)) = refl

levels_told : (q : Result Walking Fault) → levels_of (told q) ≡ walk_levels (sheet_of q)
unfolding sheet_of
levels_told (Ok s) = refl
levels_told (Err (fault v p Γ)) = refl

module _ (S : Signature) (hs : List Numbers) (holds : Holds S hs) (fs : List Frame) (h : is_sheet fs ≡ true) where
  pub verdict_tied : verdict_of (outcome hs fs) ≡ walk_verdict (walk_sheet S fs)
  unfolding sheet_of
  verdict_tied = ap verdict_of (outcome_told S hs holds fs h) ∙ verdict_told (walk_frames S (returned fs) fs)

  pub column_tied : column_of (outcome hs fs) ≡ column_left (walk_sheet S fs)
  unfolding sheet_of
  column_tied = ap column_of (outcome_told S hs holds fs h) ∙ column_told (walk_frames S (returned fs) fs)

  pub levels_tied : levels_of (outcome hs fs) ≡ walk_levels (walk_sheet S fs)
  unfolding sheet_of
  levels_tied = ap levels_of (outcome_told S hs holds fs h) ∙ levels_told (walk_frames S (returned fs) fs)
