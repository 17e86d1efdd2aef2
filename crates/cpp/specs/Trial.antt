-- A trial run: edits, checks, refusals and types read, as the plain book and the working book have them.
use Rattle.std.specs.Prelude.{◌≡◌, List, [], ◌∷◌, map, take, replicate, Some, None, Ok, Err}
use Rattle.syntax.specs.declared.frame.Frame.{Frame}
use Rattle.syntax.specs.Writing.{frame}
use Rattle.history.specs.Calls.{refusal, Call.put, Call.clear, Call.check}
use Rattle.history.specs.Areas.{part}
use Rattle.history.specs.Working.{State, working_reading, fresh_state, asked}
use Rattle.history.specs.Runs.{working_step}
use Rattle.cpp.specs.Cpp.{cpp}
use Rattle.cpp.specs.Script.{Line, look, Said, types, plain_says, working_says, checks, puts, clears, posts, well, valid, faulty, refuses}
use Rattle.cpp.specs.Samples.{adds_one, returns_own_call, own_call_text, takes_double, takes_int, calls_with_double, repeats_parameters}
use Rattle.cpp.specs.Worked.{examples, expected}

-- an empty book; a callee that changes its parameter's type, and is cleared; refusals; texts;
-- a variable that has the number of a function's name makes no caller, and a put with the same head touches its own sheet alone
abbrev pub run : List Line
run =
    checks
    ∷ puts 0 takes_double ∷ puts 1 calls_with_double ∷ checks ∷ checks ∷ look 1
    ∷ puts 0 takes_int ∷ checks ∷ look 1
    ∷ clears 0 ∷ checks
    ∷ puts 31 calls_with_double ∷ puts 32 adds_one ∷ puts 3 repeats_parameters ∷ clears 0
    ∷ posts 7 own_call_text 4 ∷ checks ∷ look 7
    ∷ posts 8 own_call_text 3 ∷ posts 8 "zz" 0 ∷ posts 40 "zz" 9
    ∷ posts 8 "0105000100000000\n26000001 0000000\n" 9 ∷ posts 8 "0105000100000000" 9
    ∷ posts 8 "0105000200000000\n" 9 ∷ posts 8 "" 0 ∷ posts 8 "0105000a00000000\n" 9
    ∷ puts 2 adds_one ∷ checks ∷ clears 7 ∷ checks ∷ puts 7 returns_own_call ∷ checks ∷ puts 7 returns_own_call ∷ checks
    ∷ []

-- and what is said
abbrev pub said : List Said
said =
    valid 0
    ∷ well ∷ well ∷ valid 2 ∷ valid 0 ∷ types (0 ∷ 3 ∷ 5 ∷ 0 ∷ 0 ∷ [])
    ∷ well ∷ faulty 2 54 1 2 ∷ types (0 ∷ 0 ∷ 0 ∷ 0 ∷ 0 ∷ [])
    ∷ well ∷ faulty 1 52 1 2
    ∷ refuses 33 3 31 0 ∷ refuses 31 3 32 0 ∷ refuses 34 3 3 3 ∷ refuses 35 3 0 0
    ∷ well ∷ faulty 2 53 1 2 ∷ types (0 ∷ 5 ∷ 0 ∷ 0 ∷ [])
    ∷ refuses 12 1 8 3 ∷ refuses 12 1 8 0 ∷ refuses 11 1 40 0
    ∷ refuses 11 1 8 1 ∷ refuses 11 1 8 0
    ∷ refuses 25 2 8 1 ∷ refuses 25 2 8 0 ∷ refuses 11 1 8 0
    ∷ well ∷ faulty 1 53 1 2 ∷ well ∷ faulty 1 52 1 2 ∷ well ∷ faulty 2 53 1 2 ∷ well ∷ faulty 1 53 1 2
    ∷ []

-- a caller and its callee, checked
abbrev pub two_sheets : State Frame
two_sheets =
    working_step cpp (working_step cpp (working_step cpp (fresh_state cpp) (put 0 takes_double 8192 8192)) (put 1 calls_with_double 8192 8192))
    (check 8192 8192 256 256)

-- then the callee cleared
abbrev pub callee_cleared : State Frame
callee_cleared = working_step cpp two_sheets (clear 0 8192 8192)

-- both books say so, and the types are read from the checked book
pub record Trial : Type 0 where
  pub plain_run : plain_says [] run ≡ said
  pub working_run : working_says (fresh_state cpp) run ≡ said
  -- the worked examples by the working book
  pub working_examples : map (working_says (fresh_state cpp)) examples ≡ expected
  -- the reader opens over areas of 8,192 places alone
  pub opened : working_reading two_sheets 8192 8192 ≡ None
  pub short_area : working_reading two_sheets 8191 8192 ≡ Some (refusal 32 255)
  -- the literal is a double, the call void; no other frame has a type, no place past the end, and sheet 32 is none
  pub literal_typed : asked cpp two_sheets 1 1 ≡ Ok (Some 3)
  pub call_typed : asked cpp two_sheets 1 2 ≡ Ok (Some 5)
  pub statement_none : asked cpp two_sheets 1 3 ≡ Ok None
  pub past_none : asked cpp two_sheets 1 300 ≡ Ok None
  pub empty_none : asked cpp two_sheets 2 1 ≡ Ok None
  pub no_sheet : asked cpp two_sheets 32 0 ≡ Err (refusal 31 32)
  -- a cleared sheet leaves frames of zeros, its caller's frames stay, and the reader is closed
  pub cleared_frames : part 0 callee_cleared.frames ≡ replicate 256 (frame 0 0 0 0)
  pub caller_frames : take 5 (part 1 callee_cleared.frames) ≡ calls_with_double.frames
  pub closed : working_reading callee_cleared 8192 8192 ≡ Some (refusal 36 255)
