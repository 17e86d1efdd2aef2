-- What the law needs to know of a language and of its judge.
use Rattle.std.specs.Prelude.{◌≡◌, ℕ, ◌<◌, ◌≤◌, true, ◌↔◌, List, length, Some, Ok, slice_index_or}
use Rattle.history.specs.Language.{Verdict.good, Verdict.bad, Heads, Agree, column_of, type_at, Language, size, Entries, BookDerives}
use Rattle.history.specs.Stands.{Orderly}

-- laws of the language's words
pub record Known {Frame Def Text : Type 0} (L : Language Frame Def Text) : Type 0 where
  -- a sheet has room for every definition, and forming its frames again gives it back
  pub short : (d : Def) → size L d ≤ 256
  pub forms : (d : Def) → L.form (L.writing d) ≡ Ok d
  -- a verdict's part of the column is a sheet's whole part
  pub column_length : (h : Heads) (d : Def) → length (column_of (L.judge h d)) ≡ 256
  -- the judge finds valid exactly what has a derivation, and its column has the types that every derivation gives
  pub derived : (h : Heads) (d : Def) (c : List ℕ) → L.judge h d ≡ good c → L.Tree h d
  pub judged : (h : Heads) (d : Def) (n : L.Tree h d) → (c : List ℕ) × (L.judge h d ≡ good c) × ((p u : ℕ) → (type_at (size L d) c p ≡ Some u) ↔ L.Gives h d n p u)
  -- a place that a derivation gives a type holds an expression
  pub spoken : (h : Heads) (d : Def) (n : L.Tree h d) (p u : ℕ) → L.Gives h d n p u → L.expression (slice_index_or (L.writing d) p L.blank) ≡ true
  -- a fault of the judge is one of the rules, at a frame of the sheet
  pub ruled : (h : Heads) (d : Def) (l n p : ℕ) → L.judge h d ≡ bad l n p → (l ≡ 4) × (51 ≤ n) × (n ≤ 60) × (p < size L d)
  -- locality: only the heads of the names that a definition calls count
  pub nearby : (h k : Heads) (d : Def) → Agree h k (L.calls (L.writing d)) → L.judge h d ≡ L.judge k d
  -- a book is valid as a whole exactly when each definition has a derivation under the heads of the whole book
  pub whole : (e : Entries L) → Orderly L e → L.Valid e ↔ BookDerives L e
