-- The loop of the walk, turn by turn.
use Rattle.std.proofs.Common.{◌≡◌, ℕ, ◌+◌, ◌-◌, ◌<◌, ◌≤◌, List, [], ◌∷◌, ◌++◌, reverse, length, get_or, take, drop, set, replicate, Ok, Err, Result, sym, refl, ap, ◌∙◌, subst, ap₂, arith, Option}
use Rattle.std.proofs.lemmas.List.{drop_more, drop-drop, drop_all, length-set, length-reverse, length-take-le, drop-set-lt, drop-replicate, reverse-append, reverse-reverse, take_more_set, take-append-drop, get_or_default}
use Rattle.syntax.specs.declared.frame.Frame.{Frame}
use Rattle.syntax.specs.Writing.{blank}
use Rattle.levels.specs.Store.{Store, with_levels}
use Rattle.rules.specs.declared.violation.Violation.{Violation}
use Rattle.walk.specs.declared.machine.Machine.{Machine}
use Rattle.walk.specs.declared.machine.Declaration.{Declaration}
use Rattle.walk.specs.Judge.{Numbers}
use Rattle.walk.specs.Step.{State, stepped, start, Turn, turn, Outcome, ended, broken, walked}
use Rattle.walk.specs.Outcomes.{column_of}
use Rattle.walk.specs.Places.{At}
use Rattle.walk.specs.Machines.{Ready, Within, state_of}
use Rattle.walk.proofs.Agreeing.{Sound}
use Rattle.walk.proofs.Nexts.{Next, next, nothing_coming, some_coming}

-- what holds before each turn of the loop
pub record Held (hs : List Numbers) (ρ : ℕ) (fs : List Frame) (i : ℕ) (col : List ℕ) (s : State) (p : Option Declaration) (cap : ℕ) : Type 0 where
  pub went : walked hs ρ (drop i fs) (reverse (take i col)) s ≡ walked hs ρ fs [] start
  pub long : length col ≡ 256
  pub rest_blank : drop i col ≡ replicate (256 - i) 0
  pub room : 256 ≤ cap
  pub sound : Sound i (drop i fs) s
  pub within : Within i p

-- the column so far, the last number first, and with a number more
pushed : (col : List ℕ) (n t : ℕ) → n < length col → reverse (take (n + 1) (set col n t)) ≡ t ∷ reverse (take n col)
pushed col n t l = ap reverse (take_more_set col n t l) ∙ reverse-append (take n col) (t ∷ [])

long_so_far : (col : List ℕ) (n : ℕ) → n ≤ length col → length (reverse (take n col)) ≡ n
long_so_far col n l = length-reverse (take n col) ∙ length-take-le n col l

module _ (hs : List Numbers) (ρ : ℕ) where
  after : Frame → List Frame → List ℕ → State → Result Turn Violation → Outcome
  after f fs col s r = elim r [ Ok p ↦ walked hs ρ fs (p.byte ∷ col) p.next | Err e ↦ broken e (length col) s.levels ]

  pub goes : (f : Frame) (fs : List Frame) (col : List ℕ) (s s' : State) (b : ℕ) → stepped hs ρ f s ≡ Ok (turn b s') → walked hs ρ (f ∷ fs) col s ≡ walked hs ρ fs (b ∷ col) s'
  unfolding walked after
  goes f fs col s s' b e = ap (after f fs col s) e

  pub breaks : (f : Frame) (fs : List Frame) (col : List ℕ) (s : State) (e : Violation) → stepped hs ρ f s ≡ Err e → walked hs ρ (f ∷ fs) col s ≡ broken e (length col) s.levels
  unfolding walked after
  breaks f fs col s e h = ap (after f fs col s) h

  pub over : (col : List ℕ) (s : State) → walked hs ρ [] col s ≡ ended col s.levels
  unfolding walked
  over col s = refl

  module _ (fs : List Frame) (i : ℕ) (col : List ℕ) (s : State) (p : Option Declaration) (cap : ℕ) (f : Frame) (at : At fs i f) (h : Held hs ρ fs i col s p cap) where
    rest : drop i fs ≡ f ∷ drop (i + 1) fs
    rest = drop_more fs i f at.within ∙ ap (λ g. g ∷ drop (i + 1) fs) at.is

    pub sound_here : Sound i (f ∷ drop (i + 1) fs) s
    sound_here = subst (λ l. Sound i l s) rest h.sound

    pub goes_on : (s' : State) (p' : Option Declaration) (cap' t : ℕ) → length fs ≤ 256 → stepped hs ρ f s ≡ Ok (turn t s') → cap' ≡ cap → Sound (i + 1) (drop (i + 1) fs) s' → Within (i + 1) p'
        → Held hs ρ fs (i + 1) (set col i t) s' p' cap'
    goes_on s' p' cap' t few e c so w =
        let in_fs = at.within in
        let lc = h.long in
        let ls = length-set col i t in
        let d : drop (i + 1) col ≡ replicate (256 - (i + 1)) 0 =
        sym (drop-drop 1 i col) ∙ ap (drop 1) h.rest_blank ∙ drop-replicate 1 (256 - i) 0 ∙ ap (λ (k : ℕ). replicate k 0) (omega arith) in
        record {
          went =
              ap (λ c. walked hs ρ (drop (i + 1) fs) c s') (pushed col i t (omega arith))
              ∙ sym (goes f (drop (i + 1) fs) (reverse (take i col)) s s' t e)
              ∙ ap (λ l. walked hs ρ l (reverse (take i col)) s) (sym rest) ∙ h.went;
          long = ls ∙ lc;
          rest_blank = drop-set-lt (i + 1) col i t (omega arith) ∙ d;
          room = omega (arith, c, h.room);
          sound = so;
          within = w;
        }

    pub stops : (e : Violation) → length fs ≤ 256 → stepped hs ρ f s ≡ Err e → walked hs ρ fs [] start ≡ broken e i s.levels
    stops e few k =
        let lc = h.long in
        let in_fs = at.within in
        sym h.went ∙ ap (λ l. walked hs ρ l (reverse (take i col)) s) rest ∙ breaks f (drop (i + 1) fs) (reverse (take i col)) s e k
        ∙ ap (λ n. broken e n s.levels) (long_so_far col i (omega arith))

  module _ (fs : List Frame) (i : ℕ) (col : List ℕ) (s : State) (p : Option Declaration) (cap : ℕ) (h : Held hs ρ fs i col s p cap) where
    pub at_end : length fs ≤ i → walked hs ρ fs [] start ≡ ended (reverse (take i col)) s.levels
    at_end k = sym h.went ∙ ap (λ l. walked hs ρ l (reverse (take i col)) s) (drop_all i fs k) ∙ over (reverse (take i col)) s

    pub column_end : i ≤ 256 → column_of (ended (reverse (take i col)) s.levels) ≡ col
    column_end k =
        let lc = h.long in
        ap₂ (λ a n. a ++ replicate (256 - n) 0) (reverse-reverse (take i col)) (long_so_far col i (omega arith))
        ∙ ap (λ l. take i col ++ l) (sym h.rest_blank)
        ∙ take-append-drop i col

  pub begin : (fs : List Frame) (col : List ℕ) (s : State) (p : Option Declaration) (cap : ℕ) → s ≡ start → Within 0 p → 256 ≤ cap → col ≡ replicate 256 0 → Sound 0 fs start → Held hs ρ fs 0 col s p cap
  begin fs col s p cap e w c b so =
      record {
        went = ap (λ s. walked hs ρ fs [] s) e;
        long = ap length b;
        rest_blank = b;
        room = c;
        sound = subst (λ s. Sound 0 fs s) (sym e) so;
        within = w;
      }

-- the same with the code's state
module _ (hs : List Numbers) (ρ : ℕ) (fs : List Frame) (i : ℕ) (col : List ℕ) (m : Machine) (ls : List Numbers) (cap : ℕ) (f : Frame) (few : length fs ≤ 256) (at : At fs i f)
    (h : Held hs ρ fs i col (state_of m fs i ls) m.pending cap) where
  known : Next cap i (drop (i + 1) fs) f (state_of m fs i ls) m.pending
  known =
      let w = at.within in
      next cap i (drop (i + 1) fs) f (state_of m fs i ls) m.pending h.room (omega arith) (nothing_coming i m.things m.pending fs)
      (some_coming i m.things m.pending fs h.within) (sound_here hs ρ fs i col (state_of m fs i ls) m.pending cap f at h)

  pub ready : Ready cap i f m.operands ls m.things m.pending
  ready = known.ready

  pub again : (m' : Machine) (ls' : List Numbers) (cap' t : ℕ) → stepped hs ρ f (state_of m fs i ls) ≡ Ok (turn t (state_of m' fs (i + 1) ls')) → cap' ≡ cap → Within (i + 1) m'.pending
      → Held hs ρ fs (i + 1) (set col i t) (state_of m' fs (i + 1) ls') m'.pending cap'
  again m' ls' cap' t e c w =
      goes_on hs ρ fs i col (state_of m fs i ls) m.pending cap f at h (state_of m' fs (i + 1) ls') m'.pending cap' t few e c (known.leaves hs ρ t (state_of m' fs (i + 1) ls') e) w

pub same_store : (a b : Store ℕ) (ls : List Numbers) → a.capacity ≡ b.capacity → a.levels ≡ ls → a ≡ with_levels b ls
same_store a b ls c l = λ j. record { capacity = c j; levels = l j }

pub at_place : (fs : List Frame) (i : ℕ) → i < length fs → At fs i (get_or fs i blank)
at_place fs i h = record { within = h; is = get_or_default fs i _ _ h }
