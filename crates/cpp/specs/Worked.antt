-- The worked examples: ten scripts, each on a fresh book, and what they are told, as one computed comparison.
use Rattle.std.specs.Prelude.{◌≡◌, List, [], ◌∷◌, map}
use Rattle.cpp.specs.Script.{Line, look, Said, types, plain_says, checks, puts, clears, well, valid, faulty}
use Rattle.cpp.specs.Samples.{adds_one, returns_own_call, declares_parameter_again, declares_in_block, declares_after_loop, declares_again_in_loop, compares_strings, adds_int_to_double, takes_double, takes_int, calls_with_double}

-- an empty book; eight sheets, each alone; a callee that takes a double, takes an int instead, and is cleared, beside its caller
abbrev pub examples : List (List Line)
examples =
    (checks ∷ [])
    ∷ (puts 0 adds_one ∷ checks ∷ look 0 ∷ [])
    ∷ (puts 0 returns_own_call ∷ checks ∷ look 0 ∷ [])
    ∷ (puts 0 declares_parameter_again ∷ checks ∷ [])
    ∷ (puts 0 declares_in_block ∷ checks ∷ [])
    ∷ (puts 0 declares_after_loop ∷ checks ∷ [])
    ∷ (puts 0 declares_again_in_loop ∷ checks ∷ [])
    ∷ (puts 0 compares_strings ∷ checks ∷ [])
    ∷ (puts 0 adds_int_to_double ∷ checks ∷ [])
    ∷ (puts 0 takes_double ∷ puts 1 calls_with_double ∷ checks ∷ puts 0 takes_int ∷ checks ∷ clears 0 ∷ checks ∷ [])
    ∷ []

-- the counts of sheets walked, the faults with sheet and place, and the types
abbrev pub expected : List (List Said)
expected =
    (valid 0 ∷ [])
    ∷ (well ∷ valid 1 ∷ types (0 ∷ 0 ∷ 2 ∷ 2 ∷ 2 ∷ 0 ∷ 0 ∷ []) ∷ [])
    ∷ (well ∷ valid 1 ∷ types (0 ∷ 5 ∷ 0 ∷ 0 ∷ []) ∷ [])
    ∷ (well ∷ faulty 1 58 0 3 ∷ [])
    ∷ (well ∷ valid 1 ∷ [])
    ∷ (well ∷ valid 1 ∷ [])
    ∷ (well ∷ faulty 1 58 0 6 ∷ [])
    ∷ (well ∷ faulty 1 55 0 3 ∷ [])
    ∷ (well ∷ faulty 1 55 0 3 ∷ [])
    ∷ (well ∷ well ∷ valid 2 ∷ well ∷ faulty 2 54 1 2 ∷ well ∷ faulty 1 52 1 2 ∷ [])
    ∷ []

-- all ten are told so
abbrev pub WorkedExamples : Type 0
WorkedExamples = map (plain_says []) examples ≡ expected
