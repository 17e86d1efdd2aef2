-- Heads packed in a number, and unpacked again. Codes are below 8, and a head has at most 16 parameters.
use Rattle.std.specs.Prelude.{◌≡◌, ℕ, zero, suc, ◌+◌, ◌*◌, ◌/◌, ◌%◌, Bool, true, cond, ◌&&◌, List, [], ◌∷◌, ◌++◌, reverse, length, Some, None, Option, slice_get, nat_lt}

-- codes as digits of a number, the first one lowest
abbrev pub digits : List ℕ → ℕ
digits [] = 0
digits (c ∷ cs) = digits cs * 8 + c

-- whether all codes are below 8
abbrev pub low : List ℕ → Bool
low [] = true
low (c ∷ cs) = nat_lt c 8 && low cs

-- whether parameters and a return type can be packed
abbrev pub fits : List ℕ → ℕ → Bool
fits ps t = nat_lt (length ps) 17 && (low ps && nat_lt t 8)

-- the number: the return type lowest, then the count, then the parameters with the last one lowest
abbrev pub packed : List ℕ → ℕ → ℕ
packed ps t = (digits (reverse ps) * 32 + length ps) * 8 + t

-- the head of parameters and a return type, if they can be packed
abbrev pub head_of : List ℕ → ℕ → Option ℕ
head_of ps t = cond (fits ps t) (Some (packed ps t)) None

abbrev pub bare_head : ℕ → Option ℕ
bare_head t = cond (nat_lt t 8) (Some t) None

-- what a number says: the return type, the count, and the first so many digits, highest first
abbrev pub return_of : ℕ → ℕ
return_of h = h % 8

abbrev pub count_of : ℕ → ℕ
count_of h = h / 8 % 32

abbrev pub digits_of : ℕ → ℕ → List ℕ
digits_of zero d = []
digits_of (suc n) d = d % 8 ∷ digits_of n (d / 8)

abbrev pub parameters_of : ℕ → List ℕ
parameters_of h = reverse (digits_of (count_of h) (h / 256))

-- the i-th of a list
abbrev pub nth : List ℕ → ℕ → Option ℕ
nth cs i = slice_get cs i

-- one parameter more, as the last, if the number has room for it: fewer than 16 parameters, and so below 2 to the power of 53
abbrev pub extended : ℕ → ℕ → ℕ
extended h c = ((h / 256 * 8 + c) * 32 + count_of h + 1) * 8 + return_of h

abbrev pub pushed : ℕ → ℕ → Option ℕ
pushed h c =
    cond (nat_lt (count_of h) 16) (cond (nat_lt h 9007199254740992) (cond (nat_lt c 8) (Some (extended h c)) None) None) None

-- a parameter more makes the head of the parameters with it, if there is one
abbrev pub Pushes : ℕ → ℕ → Option ℕ → Type 0
Pushes h c r = (ps : List ℕ) (t : ℕ) → head_of ps t ≡ Some h → r ≡ head_of (ps ++ c ∷ []) t

-- unpacking undoes packing
abbrev pub Unpacks : List ℕ → ℕ → Option ℕ → Type 0
Unpacks ps t r = (h : ℕ) → r ≡ Some h → (parameters_of h ≡ ps) × (return_of h ≡ t)
