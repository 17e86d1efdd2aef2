-- The sheets of a book are a valid program exactly when each has a derivation under the heads of the whole book.
use Rattle.std.proofs.Common.{◌≡◌, ℕ, zero, suc, ◌<◌, true, ◌↔◌, Some, None, Option, sym, refl, ap, ◌∙◌, subst, inl, inr, arith}
use mathlib.Core.Path.{fun_ext}
use Rattle.std.proofs.lemmas.Bool.{cases_eq, cases_lt, eq-eqb, ne_eqb}
use Rattle.levels.specs.Store.{find}
use Rattle.rules.specs.Heads.{Signature}
use Rattle.rules.specs.Books.{Book, book_heads, AllSheets, NamesApart, ParamsApart, AllWalked}
use Rattle.rules.proofs.Books.{book_decides}
use Rattle.history.specs.Words.{or_else, lowest, map_some, filled}
use Rattle.history.specs.Language.{head_for, heads_of, Entries, signature, signatures, heads_in, BookDerives}
use Rattle.history.specs.Stands.{Orderly}
use Rattle.history.proofs.Words.{or_else_none, lowest_none}
use Rattle.history.proofs.Heads.{alone_of}
use Rattle.cpp.specs.Sheet.{Sheet}
use Rattle.cpp.specs.Heads.{head_from, signature_from, name_of}
use Rattle.cpp.specs.Judge.{Derivation}
use Rattle.cpp.specs.Books.{with_sheet, sheets_below, ValidSheets}
use Rattle.cpp.specs.Cpp.{cpp}
use Rattle.cpp.proofs.Sheets.{has_form}
use Rattle.cpp.proofs.Heads.{head_stands}
use Rattle.cpp.proofs.Repeats.{params_distinct}
use Rattle.cpp.proofs.Judged.{walk_tree, tree_walk}

-- every sheet has the form of one
all_next : (x : Option Sheet) (b : Book) → AllSheets b → AllSheets (with_sheet x b)
all_next None b a = a
all_next (Some s) b a = (has_form s, a)

-- so has each of a book
all_below : (e : Entries cpp) (k : ℕ) → AllSheets (sheets_below k e)
unfolding sheets_below
all_below e zero = tt
all_below e (suc k) = all_next (e k) (sheets_below k e) (all_below e k)

-- ## derivations and walks

module _ (S : Signature) (e : Entries cpp) where
  -- a derivation for each sheet below k
  abbrev Trees : ℕ → Type 0
  Trees k = (t : ℕ) (s : Sheet) → t < k → e t ≡ Some s → Derivation S s

  -- one sheet more, walked without a fault
  walked_next : (x : Option Sheet) (b : Book) → ((s : Sheet) → x ≡ Some s → Derivation S s) → AllWalked S b → AllWalked S (with_sheet x b)
  walked_next None b tree w = w
  walked_next (Some s) b tree w = ((_, _, walk_tree S s (tree s refl)), w)

  -- sheets with derivations are walked without a fault
  walked_below : (k : ℕ) → Trees k → AllWalked S (sheets_below k e)
  unfolding sheets_below
  walked_below zero trees = tt
  walked_below (suc k) trees =
      walked_next (e k) (sheets_below k e) (λ s i. trees k s (omega arith) i) (walked_below k (λ t s l i. trees t s (omega arith) i))

  -- one sheet more, with its derivation
  trees_next : (k : ℕ) (x : Option Sheet) → e k ≡ x → AllWalked S (with_sheet x (sheets_below k e)) → (AllWalked S (sheets_below k e) → Trees k) → Trees (suc k)
  trees_next k None i w ih t s l j =
      elim (cases_eq t k) [
        | inl y ↦ cc
        | inr y ↦ ih w t s (omega arith) j
      ]
  trees_next k (Some r) i w ih t s l j =
      elim (cases_eq t k) [
        | inl y ↦
            let m : r ≡ s = cc in
            subst (Derivation S) m (tree_walk S r w.0.0 w.0.1 w.0.2)
        | inr y ↦ ih w.1 t s (omega arith) j
      ]

  -- sheets walked without a fault have derivations
  trees_below : (k : ℕ) → AllWalked S (sheets_below k e) → Trees k
  unfolding sheets_below
  trees_below zero w = λ t s l j. absurd (omega arith)
  trees_below (suc k) w = trees_next k (e k) refl w (λ v. trees_below k v)

-- ## the heads of the program are the heads of the book

module _ (e : Entries cpp) (ok : Orderly cpp e) where
  -- the head that sheet t gives to the name n
  abbrev at : ℕ → ℕ → Option ℕ
  at n t = head_for n (signatures cpp e t)

  -- no lower sheet has the name
  name_free : (k : ℕ) (s : Sheet) (n : ℕ) → e k ≡ Some s → name_of s ≡ n → lowest k (at n) ≡ None
  name_free k s n i j =
      let own : filled (at n k) ≡ true = rw (i, eq-eqb (name_of s) n j) refl in
      lowest_none k (at n) (λ t l. alone_of (signatures cpp e) k n ok.apart own t (λ m. omega arith))

  -- one sheet more in the program and in the book
  found_next : (k n : ℕ) (x : Option Sheet) → e k ≡ x → find (book_heads (sheets_below k e)) n ≡ map_some head_from (lowest k (at n)) →
      find (book_heads (with_sheet x (sheets_below k e))) n ≡ map_some head_from (or_else (lowest k (at n)) (head_for n (map_some (signature cpp) x)))
  found_next k n None i ih = ih ∙ ap (map_some head_from) (sym (or_else_none (lowest k (at n))))
  found_next k n (Some s) i ih =
      elim (cases_eq (name_of s) n) [
        | inl y ↦ rw (eq-eqb (name_of s) n y, name_free k s n i y) (ap Some (sym (head_stands s)))
        | inr y ↦ rw (ne_eqb (name_of s) n y, or_else_none (lowest k (at n))) ih
      ]

  -- the program gives a name the head that the lowest sheet with that name has
  found : (k n : ℕ) → find (book_heads (sheets_below k e)) n ≡ map_some head_from (lowest k (at n))
  unfolding sheets_below lowest
  found zero n = refl
  found (suc k) n = found_next k n (e k) refl (found k n)

  -- so the signatures are the same
  pub same_heads : find (book_heads (sheets_below 32 e)) ≡ signature_from (heads_in cpp e)
  unfolding heads_of
  same_heads = fun_ext (λ n. found 32 n)

  -- one name more
  names_next : (k : ℕ) (x : Option Sheet) → e k ≡ x → NamesApart (book_heads (sheets_below k e)) → NamesApart (book_heads (with_sheet x (sheets_below k e)))
  names_next k None i a = a
  names_next k (Some s) i a = (found k (name_of s) ∙ ap (map_some head_from) (name_free k s (name_of s) i refl), a)

  -- no name has two heads
  names_apart : (k : ℕ) → NamesApart (book_heads (sheets_below k e))
  unfolding sheets_below
  names_apart zero = tt
  names_apart (suc k) = names_next k (e k) refl (names_apart k)

  -- the parameters of one sheet more
  params_next : (k : ℕ) (x : Option Sheet) → e k ≡ x → (b : Book) → ParamsApart b → ParamsApart (with_sheet x b)
  params_next k None i b a = a
  params_next k (Some s) i b a = (params_distinct s (ok.single k s i), a)

  -- no sheet has a parameter twice
  params_apart : (k : ℕ) → ParamsApart (sheets_below k e)
  unfolding sheets_below
  params_apart zero = tt
  params_apart (suc k) = params_next k (e k) refl (sheets_below k e) (params_apart k)

  -- no sheet stands past the last
  below_32 : (t : ℕ) (s : Sheet) → e t ≡ Some s → t < 32
  below_32 t s i =
      elim (cases_lt t 32) [
        | inl l ↦ l
        | inr l ↦ cc (ok.small t l)
      ]

  -- ## both ways

  -- of orderly sheets
  pub valid_derives : ValidSheets e ↔ BookDerives cpp e
  valid_derives =
      let b : Book = sheets_below 32 e in
      let S : Signature = signature_from (heads_in cpp e) in
      let decides = book_decides b (all_below e 32) in (
        (λ v t s i. trees_below S e 32 (rw same_heads at (decides.0 v).2) t s (below_32 t s i) i),
        (λ d. decides.1 (names_apart 32, params_apart 32, rw same_heads (walked_below S e 32 (λ t s l i. d t s i)))),
      )
