-- Where a history begins: a new book, and a book made by an accepted fresh from any state.
use Rattle.std.proofs.Common.{◌≡◌, ℕ, ◌-◌, ◌*◌, ◌<◌, Bool, true, false, cond, eqb, ◌↔◌, List, [], length, take, replicate, Some, None, Option, sym, refl, ap, ◌∙◌, subst, arith}
use Rattle.std.proofs.lemmas.Bool.{eqb-true, and_parts}
use Rattle.std.proofs.lemmas.List.{length-replicate, take-replicate, drop-replicate}
use Rattle.history.specs.Words.{filled}
use Rattle.history.specs.Language.{Fault, zeros, Language, blanks}
use Rattle.history.specs.Calls.{refusal, sized, fresh_refusal, reader_refusal}
use Rattle.history.specs.Plain.{plain}
use Rattle.history.specs.Areas.{part}
use Rattle.history.specs.Working.{State, record_at, due_flag, new_book, fresh_state}
use Rattle.history.specs.Runs.{Freshens}
use Rattle.history.specs.Stands.{Stands}
use Rattle.history.specs.Law.{New, FreshMade}
use Rattle.history.proofs.Rows.{table_row}

-- a new book has no record
pub new_empty : {Frame : Type 0} (f : List Frame) (k : List ℕ) (t : ℕ) → record_at (new_book f k) t ≡ None
unfolding new_book
new_empty f k t = table_row (λ _. None) (λ _ _. refl) t

-- each part of an area of one thing
part_replicate : {X : Type 0} (x : X) (t : ℕ) → t < 32 → part t (replicate 8192 x) ≡ replicate 256 x
unfolding part
part_replicate x t l =
    ap (take 256) (drop-replicate (256 * t) 8192 x) ∙ take-replicate 256 (8192 - 256 * t) x (omega arith)

-- nothing refused, so the test held
none_passed : (b : Bool) (f : Fault) → cond b None (Some f) ≡ None → b ≡ true
none_passed true f e = refl
none_passed false f e = cc

-- the refusal is the one that the test names
some_refusal : (b : Bool) (f g : Fault) → cond b None (Some g) ≡ Some f → f ≡ g
some_refusal true f g e = cc
some_refusal false f g e = cc

-- fresh is accepted exactly with both lengths 8,192
pub fresh_accepted : (fl cl : ℕ) → (fresh_refusal fl cl ≡ None) ↔ ((fl ≡ 8192) × (cl ≡ 8192))
unfolding fresh_refusal
fresh_accepted fl cl = (
  (λ e.
      let p = and_parts (eqb fl 8192) (eqb cl 8192) (none_passed (sized fl cl) (refusal 32 255) e) in
      (eqb-true fl 8192 p.0, eqb-true cl 8192 p.1)),
  λ q. rw (q.0, q.1) refl,
)

-- fresh is refused by 32 alone
pub fresh_refused : (fl cl : ℕ) (f : Fault) → fresh_refusal fl cl ≡ Some f → f ≡ refusal 32 255
unfolding fresh_refusal
fresh_refused fl cl f e = some_refusal (sized fl cl) f (refusal 32 255) e

module _ {Frame Def Text : Type 0} (L : Language Frame Def Text) where
  open L use {blank}

  -- a new book is as the law says
  pub new : (f : List Frame) (k : List ℕ) → New L (new_book f k)
  unfolding new_book reader_refusal
  new f k = record { empty = new_empty f k; not_due = λ t. ap due_flag (new_empty f k t); not_valid = refl }

  -- the fresh state stands as no call says
  pub stands_fresh : Stands L (plain L []) (fresh_state L)
  unfolding plain fresh_state new_book zeros blanks
  stands_fresh =
      record {
        row = λ t. table_row (λ _. None) (λ _ _. refl) t;
        frames = record { wide = length-replicate {A = Frame} 8192 blank; parts = part_replicate blank };
        wide = length-replicate {A = ℕ} 8192 0;
        column = λ t m _. part_replicate 0 t m;
        flag = refl;
      }

  -- so does a book made by an accepted fresh from any state
  pub stands_made : {book book' : State Frame} → Freshens L book None book' → Stands L (plain L []) book'
  stands_made f = subst (Stands L (plain L [])) (sym f.left) stands_fresh

  -- fresh is as the law says
  pub fresh_made : (book : State Frame) (r : Option Fault) (book' : State Frame) → Freshens L book r book' → FreshMade L book r book'
  fresh_made book r book' d =
      let a = fresh_accepted (length book.frames) (length book.column) in
      record {
        accepted = ((λ e. a.0 (sym d.answered ∙ e)), λ q. d.answered ∙ a.1 q);
        stands = λ e. stands_made (subst (λ q. Freshens L book q book') e d);
        refused = λ f e.
            (fresh_refused (length book.frames) (length book.column) f (sym d.answered ∙ e), d.left ∙ ap (λ q. cond (filled q) book (fresh_state L)) e);
      }
