-- The printed text, line by line.
use Rattle.std.proofs.Common.{◌≡◌, ℕ, ◌+◌, List, ◌++◌, Option, sym, ap, ◌∙◌, append_assoc, append-nil, add-one}
use Rattle.driver.specs.Texts.{type_line, sheet_lines, type_lines}

-- no place is written yet
pub sheet_none : (types : ℕ → ℕ → Option ℕ) (start : List ℕ) (s : ℕ) → start ≡ start ++ sheet_lines types s 0
unfolding sheet_lines
sheet_none types start s = sym (append-nil start)

-- no sheet is written yet
pub types_none : (types : ℕ → ℕ → Option ℕ) (start : List ℕ) → start ≡ start ++ type_lines types 0
unfolding type_lines
types_none types start = sym (append-nil start)

module _ (types : ℕ → ℕ → Option ℕ) (start bs : List ℕ) where
  -- one place more
  pub sheet_more : (s p : ℕ) (after : List ℕ) → bs ≡ start ++ sheet_lines types s p → after ≡ bs ++ type_line s p (types s p) → after ≡ start ++ sheet_lines types s (p + 1)
  unfolding sheet_lines
  sheet_more s p after e i =
      i ∙ ap (λ x. x ++ type_line s p (types s p)) e ∙ append_assoc start (sheet_lines types s p) (type_line s p (types s p))
      ∙ ap (λ q. start ++ sheet_lines types s q) (sym (add-one p))

  -- one sheet more
  pub types_more : (s : ℕ) (after : List ℕ) → bs ≡ start ++ type_lines types s → after ≡ bs ++ sheet_lines types s 256 → after ≡ start ++ type_lines types (s + 1)
  unfolding type_lines
  types_more s after e i =
      i ∙ ap (λ x. x ++ sheet_lines types s 256) e ∙ append_assoc start (type_lines types s) (sheet_lines types s 256)
      ∙ ap (λ q. start ++ type_lines types q) (sym (add-one s))
