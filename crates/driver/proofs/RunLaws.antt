-- The run, piece by piece: what each call on the book hands on to the next.
use Rattle.std.proofs.Common.{◌≡◌, ℕ, ◌+◌, ◌<◌, true, cond, List, [], ◌∷◌, Some, None, Option, sym, refl, ap, ◌∙◌, subst}
use Rattle.syntax.specs.declared.frame.Frame.{Frame}
use Rattle.history.specs.Words.{or_else}
use Rattle.history.specs.Language.{Fault}
use Rattle.history.specs.Calls.{fresh_refusal, Call, Call.post, Call.check, History, Answer, Answer.refused, Answer.done}
use Rattle.history.specs.Plain.{plain, answer}
use Rattle.history.specs.Working.{State}
use Rattle.history.specs.Stands.{Stands}
use Rattle.history.specs.Promise.{with_areas, fitted, Keeps, Promise}
use Rattle.history.proofs.Accepts.{accepts}
use Rattle.cpp.specs.Cpp.{cpp}
use Rattle.input.specs.Pieces.{pieces}
use Rattle.driver.specs.Workspaces.{Goes}
use Rattle.driver.specs.Histories.{fault_told, posted, checking, posts, post_fault, all_posts, posting_fault, first_fault}

-- ## one call

-- a call over areas that are the book's own keeps what the law says of it
pub own_call : (c : ℕ → ℕ → Call cpp) (book own book' own' : State Frame) (r : Answer cpp) (fl cl : ℕ) → book ≡ own → book' ≡ own' → fl ≡ 8192 → cl ≡ 8192 → fitted cpp (c 8192 8192) ≡ true → Promise cpp book (c fl cl) r book' → Goes own (c 8192 8192) r own'
own_call c book own book' own' r fl cl before after wide long fits p =
    let at = subst (λ x. Promise cpp x (c fl cl) r book') before p in
    let to = subst (λ x. Promise cpp own (c fl cl) r x) after at in
    let sized = subst (λ x. Promise cpp own (c x cl) r own') wide to in
    let q = subst (λ x. Promise cpp own (c 8192 x) r own') long sized in
    λ h s. subst (Keeps cpp h (c 8192 8192) r) (ap (λ b. with_areas own' (cond b own'.frames own.frames) (cond b own'.column own.column)) fits)
    (q h own.frames own.column s (λ _. (refl, refl)))

-- so does the post of a piece
pub own_post : (k : ℕ) (piece : List ℕ) (book own book' own' : State Frame) (r : Answer cpp) (fl cl : ℕ) → book ≡ own → book' ≡ own' → fl ≡ 8192 → cl ≡ 8192 → Promise cpp book (post k piece 257 fl cl) r book' → Goes own (posted k piece) r own'
unfolding posted
own_post k piece book own book' own' r fl cl at to wide long p = own_call (post k piece 257) book own book' own' r fl cl at to wide long refl p

-- and the check
pub own_check : (book own book' own' : State Frame) (r : Answer cpp) (fl cl a b : ℕ) → book ≡ own → book' ≡ own' → fl ≡ 8192 → cl ≡ 8192 → a ≡ 256 → b ≡ 256 → Promise cpp book (check fl cl a b) r book' → Goes own (checking 256 256) r own'
unfolding checking
own_check book own book' own' r fl cl a b at to wide long heads variables p =
    let one = subst (λ x. Promise cpp book (check fl cl x b) r book') heads p in
    let both = subst (λ x. Promise cpp book (check fl cl 256 x) r book') variables one in
    own_call (λ x y. check x y 256 256) book own book' own' r fl cl at to wide long refl both

-- an accepted post names one of the 32 sheets
post_sheet : (h : History cpp) (k : ℕ) (piece : List ℕ) → done ≡ answer cpp h (posted k piece) → k < 32
unfolding posted
post_sheet h k piece e =
    let a = accepts cpp h in
    let w = (a.posts k piece 257 8192 8192).0 (sym e) in
    ((a.puts k w.1 8192 8192).0 w.4).0

-- ## the posts

-- the pieces before `rest` were posted and accepted, k of them, and the book stands as those posts say
pub record Onward (input : List ℕ) (rest : List (List ℕ)) (k : ℕ) (book : State Frame) : Type 0 where
  pub past : History cpp
  pub stands : Stands cpp (plain cpp past) book
  pub all : posts k past rest ≡ all_posts input
  pub first : post_fault k past rest ≡ post_fault 0 [] (pieces input)

module _ (input : List ℕ) (rest : List (List ℕ)) (k : ℕ) (book : State Frame) (on : Onward input rest k book) where
  -- with no piece left all were accepted
  pub ends : rest ≡ [] → (post_fault 0 [] (pieces input) ≡ None) × Stands cpp (plain cpp (all_posts input)) book
  ends e = (
    sym on.first ∙ ap (λ x. post_fault k on.past x) e,
    subst (λ h. Stands cpp (plain cpp h) book) (sym (ap (λ x. posts k on.past x) e) ∙ on.all) on.stands,
  )

  module _ (piece : List ℕ) (more : List (List ℕ)) (next : rest ≡ piece ∷ more) (t : ℕ) (same : t ≡ k) (book' : State Frame) where
    kept : (r : Answer cpp) → Goes book (posted t piece) r book' → Keeps cpp on.past (posted k piece) r book'
    kept r goes = subst (λ n. Keeps cpp on.past (posted n piece) r book') same (goes on.past on.stands)

    -- a refused post tells the first fault
    pub stops : (f : Fault) → Goes book (posted t piece) (refused f) book' → post_fault 0 [] (pieces input) ≡ Some f
    stops f goes =
        sym on.first ∙ ap (post_fault k on.past) next
        ∙ ap (λ r. or_else (fault_told r) (post_fault (k + 1) (posted k piece ∷ on.past) more)) (sym (kept (refused f) goes).answered)

    -- an accepted one names one of the 32 sheets
    pub on_sheet : Goes book (posted t piece) done book' → k < 32
    on_sheet goes = post_sheet on.past k piece (kept done goes).answered

    -- and goes on
    pub goes_on : (k' : ℕ) → k' ≡ t + 1 → Goes book (posted t piece) done book' → Onward input more k' book'
    goes_on k' up goes =
        let one : Onward input more (k + 1) book' = record {
          past = posted k piece ∷ on.past;
          stands = (kept done goes).goes_on;
          all = ap (posts k on.past) (sym next) ∙ on.all;
          first = ap (λ r. or_else (fault_told r) (post_fault (k + 1) (posted k piece ∷ on.past) more)) (kept done goes).answered
              ∙ ap (post_fault k on.past) (sym next)
              ∙ on.first;
        } in
        subst (λ n. Onward input more n book') (ap (λ n. n + 1) (sym same) ∙ sym up) one

-- ## the first fault

-- fresh over areas of 8,192 places is accepted, so the first fault is that of the posts
pub posting_told : (input : List ℕ) (o : Option Fault) → post_fault 0 [] (pieces input) ≡ o → o ≡ posting_fault input 8192 8192
unfolding fresh_refusal
posting_told input o e = sym e

-- ## the check

-- the answer of the check after accepted posts, and the book that it leaves
pub record AfterCheck (input : List ℕ) (r : Answer cpp) (book' : State Frame) : Type 0 where
  pub first : first_fault input 8192 8192 256 256 ≡ fault_told r
  pub answered : answer cpp (all_posts input) (checking 256 256) ≡ r
  pub stands : Stands cpp (plain cpp (checking 256 256 ∷ all_posts input)) book'

pub after_check : (input : List ℕ) (book book' : State Frame) (r : Answer cpp) → None ≡ posting_fault input 8192 8192 → Stands cpp (plain cpp (all_posts input)) book → Goes book (checking 256 256) r book' → AfterCheck input r book'
after_check input book book' r none stands goes =
    let kept = goes (all_posts input) stands in
    record {
      first = ap (λ x. or_else x (fault_told (answer cpp (all_posts input) (checking 256 256)))) (sym none) ∙ ap fault_told (sym kept.answered);
      answered = sym kept.answered;
      stands = kept.goes_on;
    }
