-- Sheets to try, named by what they show.
use Rattle.std.specs.Prelude.{[], ◌∷◌}
use Prim.Native.String.{String}
use Rattle.syntax.specs.Writing.{frame}
use Rattle.syntax.specs.Form.{step}
use Rattle.cpp.specs.Sheet.{Sheet}

-- int f(int x) { return x + 1; }
abbrev pub adds_one : Sheet
unfolding step
adds_one =
    record {
      frames = frame 0x01 2 0 1 ∷ frame 0x02 2 1 0 ∷ frame 0x25 0 1 0 ∷ frame 0x22 0 0 1 ∷ frame 0x30 0 0 0 ∷ frame 0x15 0 0 0 ∷ frame 0x03 0 0 0 ∷ [];
      formed = tt;
    }

-- void g() { return g(); }
abbrev pub returns_own_call : Sheet
unfolding step
returns_own_call = record { frames = frame 0x01 5 1 0 ∷ frame 0x26 0 1 0 ∷ frame 0x15 0 0 0 ∷ frame 0x03 0 0 0 ∷ []; formed = tt }

-- the same as a text
abbrev pub own_call_text : String
own_call_text = "0105000100000000\n2600000100000000\n1500000000000000\n0300000000000000\n"

-- int f(int x) { int x; }
abbrev pub declares_parameter_again : Sheet
unfolding step
declares_parameter_again =
    record { frames = frame 0x01 2 0 1 ∷ frame 0x02 2 1 0 ∷ frame 0x11 2 0 1 ∷ frame 0x12 0 1 0 ∷ frame 0x03 0 0 0 ∷ []; formed = tt }

-- int f(int x) { { int x; } }
abbrev pub declares_in_block : Sheet
unfolding step
declares_in_block =
    record {
      frames = frame 0x01 2 0 1 ∷ frame 0x02 2 1 0 ∷ frame 0x16 0 0 0 ∷ frame 0x11 2 0 1 ∷ frame 0x12 0 1 0 ∷ frame 0x17 0 0 0 ∷ frame 0x03 0 0 0 ∷ [];
      formed = tt;
    }

-- void f() { while (true) int x; int x; }
abbrev pub declares_after_loop : Sheet
unfolding step
declares_after_loop =
    record {
      frames =
          frame 0x01 5 0 0 ∷ frame 0x20 0 0 0 ∷ frame 0x18 0 0 0 ∷ frame 0x11 2 0 1 ∷ frame 0x12 0 1 0 ∷ frame 0x11 2 0 1 ∷ frame 0x12 0 1 0
          ∷ frame 0x03 0 0 0 ∷ [];
      formed = tt;
    }

-- void f() { int x; while (true) int x; }
abbrev pub declares_again_in_loop : Sheet
unfolding step
declares_again_in_loop =
    record {
      frames =
          frame 0x01 5 0 0 ∷ frame 0x11 2 0 1 ∷ frame 0x12 0 1 0 ∷ frame 0x20 0 0 0 ∷ frame 0x18 0 0 0 ∷ frame 0x11 2 0 1 ∷ frame 0x12 0 1 0
          ∷ frame 0x03 0 0 0 ∷ [];
      formed = tt;
    }

-- bool f() { return "a" == "b"; }
abbrev pub compares_strings : Sheet
unfolding step
compares_strings =
    record {
      frames = frame 0x01 1 0 0 ∷ frame 0x24 0 0 1 ∷ frame 0x24 0 0 2 ∷ frame 0x36 0 0 0 ∷ frame 0x15 0 0 0 ∷ frame 0x03 0 0 0 ∷ [];
      formed = tt;
    }

-- void f() { 1 + 1.0; }
abbrev pub adds_int_to_double : Sheet
unfolding step
adds_int_to_double =
    record {
      frames = frame 0x01 5 0 0 ∷ frame 0x22 0 0 1 ∷ frame 0x23 0 0 1 ∷ frame 0x30 0 0 0 ∷ frame 0x10 0 0 0 ∷ frame 0x03 0 0 0 ∷ [];
      formed = tt;
    }

-- void h(double d) {}
abbrev pub takes_double : Sheet
unfolding step
takes_double = record { frames = frame 0x01 5 1 1 ∷ frame 0x02 3 3 0 ∷ frame 0x03 0 0 0 ∷ []; formed = tt }

-- void h(int d) {}
abbrev pub takes_int : Sheet
unfolding step
takes_int = record { frames = frame 0x01 5 1 1 ∷ frame 0x02 2 3 0 ∷ frame 0x03 0 0 0 ∷ []; formed = tt }

-- void f() { h(1.0); }
abbrev pub calls_with_double : Sheet
unfolding step
calls_with_double =
    record { frames = frame 0x01 5 2 0 ∷ frame 0x23 0 0 1 ∷ frame 0x26 0 1 1 ∷ frame 0x10 0 0 0 ∷ frame 0x03 0 0 0 ∷ []; formed = tt }

-- void k(int a, int b, int b, int a) {}
abbrev pub repeats_parameters : Sheet
unfolding step
repeats_parameters =
    record {
      frames = frame 0x01 5 9 4 ∷ frame 0x02 2 3 0 ∷ frame 0x02 2 4 0 ∷ frame 0x02 2 4 0 ∷ frame 0x02 2 3 0 ∷ frame 0x03 0 0 0 ∷ [];
      formed = tt;
    }
