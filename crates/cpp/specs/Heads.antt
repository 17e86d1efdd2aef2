-- The head of a sheet as a number, the head that a number stands for, and the first parameter that stands twice.
use Rattle.std.specs.Prelude.{ℕ, suc, cond, List, [], ◌∷◌, map, Some, None, Option, nat_eq}
use Rattle.syntax.specs.Writing.{type_code}
use Rattle.syntax.specs.Types.{type_of}
use Rattle.heads.specs.Heads.{packed, parameters_of, return_of}
use Rattle.rules.specs.Heads.{Head, head, Signature}
use Rattle.rules.specs.Programs.{param_names}
use Rattle.rules.specs.Books.{sheet_name, sheet_params, sheet_head}
use Rattle.history.specs.Words.{any_of, map_some}
use Rattle.history.specs.Language.{Heads}
use Rattle.cpp.specs.Sheet.{Sheet}

-- the number of a head: the codes of its types, packed
abbrev pub head_code : Head → ℕ
head_code (head ts r) = packed (map type_code ts) (type_code r)

-- the head that a number stands for
unfoldable pub head_from : ℕ → Head
head_from n = head (map type_of (parameters_of n)) (type_of (return_of n))

-- the signature that the numbers of a book's heads stand for
abbrev pub signature_from : Heads → Signature
signature_from h f = map_some head_from (h f)

-- the name that a sheet defines
abbrev pub name_of : Sheet → ℕ
name_of s = sheet_name s.frames

-- its head as a number
unfoldable pub head_number : Sheet → ℕ
head_number s = head_code (sheet_head s.frames)

-- the place of the first name that stands among those before it: the first of the list has place p, and `seen` stand before it
unfoldable pub first_repeat : ℕ → List ℕ → List ℕ → Option ℕ
first_repeat p seen [] = None
first_repeat p seen (x ∷ xs) = cond (any_of (λ y. nat_eq y x) seen) (Some p) (first_repeat (suc p) (x ∷ seen) xs)

-- the lowest place of a parameter whose name an earlier one has; the first parameter stands at place 1
unfoldable pub repeated_in : Sheet → Option ℕ
repeated_in s = first_repeat 1 [] (param_names (sheet_params s.frames))
