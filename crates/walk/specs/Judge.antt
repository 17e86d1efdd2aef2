-- The judgement of one expression's last frame, on the codes of types and on packed heads.
use Rattle.std.specs.Prelude.{ℕ, ◌-◌, Bool as Truth, true, false, cond, ◌&&◌, ◌||◌, List, [], ◌∷◌, reverse, length, take, Some, None, Ok, Err, Option, Result, ◌==◌, nat_le, slice_index_or}
use Rattle.syntax.specs.declared.frame.Frame.{Frame}
use Rattle.levels.specs.Store.{looked}
use Rattle.heads.specs.Heads.{parameters_of, return_of}
use Rattle.rules.specs.declared.violation.Violation.{Violation}
use Rattle.rules.specs.declared.violation.Violation.TheVariants.{Undeclared, NoFunction, OtherCount, OtherArgument, OtherOperands, OtherAssigned}
use Rattle.rules.specs.Faults.{need}

-- a level of names with numbers
abbrev pub Numbers : Type 0
Numbers = List (ℕ × ℕ)

-- two lists of codes are the same
abbrev pub equal_all : List ℕ → List ℕ → Truth
equal_all [] [] = true
equal_all [] (c ∷ cs) = false
equal_all (b ∷ bs) [] = false
equal_all (b ∷ bs) (c ∷ cs) = b == c && equal_all bs cs

-- the newest operands, in order, have the codes
abbrev pub fitting : List ℕ → List ℕ → Truth
fitting cs os = equal_all (reverse (take (length cs) os)) cs

-- int and double
abbrev pub numeric : ℕ → Truth
numeric t = t == 2 || t == 3

-- a code where a test holds
abbrev pub where_so : Truth → ℕ → Option ℕ
where_so b t = cond b (Some t) None

-- what an operator gives at two operands of one type
abbrev pub row : ℕ → ℕ → Option ℕ
row k t =
    cond (k == 0x30) (where_so (nat_le 2 t && nat_le t 4) t)
    (cond (nat_le k 0x33) (where_so (numeric t) t)
    (cond (nat_le 0x3A k) (where_so (t == 1) 1)
    (cond (k == 0x36 || k == 0x37) (where_so (nat_le 1 t && nat_le t 3) 1) (where_so (numeric t) 1))))

-- an operator at two operands
abbrev pub operated : ℕ → ℕ → ℕ → Result ℕ Violation
operated k a b = cond (a == b) (need OtherOperands (row k a)) (Err OtherOperands)

-- x++ and its like, at the type of x
abbrev pub updated : Option ℕ → Result ℕ Violation
updated None = Err Undeclared
updated (Some t) = cond (numeric t) (Ok t) (Err OtherOperands)

-- a call of a head with the newest n operands
abbrev pub called : Option ℕ → ℕ → List ℕ → Result ℕ Violation
called None n os = Err NoFunction
called (Some h) n os =
    cond (length (take n os) == length (parameters_of h))
    (cond (equal_all (reverse (take n os)) (parameters_of h)) (Ok (return_of h)) (Err OtherArgument))
    (Err OtherCount)

-- x = e, at the types of x and of e
abbrev pub assigned : Option ℕ → ℕ → Result ℕ Violation
assigned None t = Err Undeclared
assigned (Some u) t = cond (u == t) (Ok u) (Err OtherAssigned)

-- how many operands a frame takes
abbrev pub arity : Frame → ℕ
arity f = cond (f.kind == 0x26) f.load (cond (nat_le f.kind 0x2F) 0 (cond (nat_le f.kind 0x3B) 2 1))

-- the type of the expression that ends at a frame, under the heads hs and the levels ls, with the operands os
abbrev pub judge : List Numbers → List Numbers → Frame → List ℕ → Result ℕ Violation
judge hs ls f os =
    cond (nat_le f.kind 0x21) (Ok 1)
    (cond (nat_le f.kind 0x24) (Ok (f.kind - 0x20))
    (cond (f.kind == 0x25) (need Undeclared (looked ls f.name))
    (cond (f.kind == 0x26) (called (looked hs f.name) f.load os)
    (cond (nat_le f.kind 0x2F) (updated (looked ls f.name))
    (cond (nat_le f.kind 0x3B) (operated f.kind (slice_index_or os 1 5) (slice_index_or os 0 5)) (assigned (looked ls f.name) (slice_index_or os 0 5)))))))
