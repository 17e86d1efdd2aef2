-- Sheets to try, as the form judges them.
use Rattle.std.specs.Prelude.{◌≡◌, ℕ, Bool, true, false, ◌&&◌, List, [], ◌∷◌, ◌++◌, replicate, ◌==◌}
use Rattle.syntax.specs.declared.frame.Frame.{Frame}
use Rattle.syntax.specs.Writing.{frame}
use Rattle.syntax.specs.Form.{fine, refused, Verdict, accepted, forms}

-- a frame of a kind without fields
abbrev pub bare : ℕ → Frame
bare k = frame k 0 0 0

-- void f() with these frames and END
abbrev pub sheet : List Frame → List Frame
sheet fs = frame 0x01 5 1 0 ∷ (fs ++ (bare 0x03 ∷ []))

-- int f(int x), and after HEAD and PARAM these frames and END
abbrev pub sheet_x : List Frame → List Frame
sheet_x fs = frame 0x01 2 1 1 ∷ frame 0x02 2 2 0 ∷ (fs ++ (bare 0x03 ∷ []))

-- int x;
abbrev pub int_x : List Frame
int_x = frame 0x11 2 0 1 ∷ frame 0x12 0 2 0 ∷ []

-- n blocks, one in the other
abbrev pub nested : ℕ → List Frame → List Frame
nested n fs = replicate n (bare 0x16) ++ (fs ++ replicate n (bare 0x17))

-- the verdicts are equal
abbrev pub same : Verdict → Verdict → Bool
same (fine u) (fine v) = true
same (fine u) (refused n p) = false
same (refused n p) (fine u) = false
same (refused n p) (refused m q) = n == m && p == q

-- each list is judged as said beside it
abbrev pub all_same : List (List Frame × Verdict) → Bool
all_same [] = true
all_same (x ∷ xs) = same (forms x.0) x.1 && all_same xs

-- lists of frames, and what is to be said of each
abbrev pub examples : List (List Frame × Verdict)
examples =
    -- int f(int x){return x+1;}
    (sheet_x (frame 0x25 0 2 0 ∷ frame 0x22 0 0 1 ∷ bare 0x30 ∷ bare 0x15 ∷ []), accepted)
    -- void g(){return g();}
    ∷ (sheet (frame 0x26 0 1 0 ∷ bare 0x15 ∷ []), accepted)
    -- int f(int x){int x;}  int f(int x){{int x;}}
    ∷ (sheet_x int_x, accepted)
    ∷ (sheet_x (nested 1 int_x), accepted)
    -- void f(){while(true) int x; int x;}  void f(){int x; while(true) int x;}
    ∷ (sheet (bare 0x20 ∷ bare 0x18 ∷ (int_x ++ int_x)), accepted)
    ∷ (sheet (int_x ++ (bare 0x20 ∷ bare 0x18 ∷ int_x)), accepted)
    -- bool f(){return "a"=="b";}  void f(){1+1.0;}
    ∷ (frame 0x01 1 1 0 ∷ frame 0x24 0 0 97 ∷ frame 0x24 0 0 98 ∷ bare 0x36 ∷ bare 0x15 ∷ bare 0x03 ∷ [], accepted)
    ∷ (sheet (frame 0x22 0 0 1 ∷ frame 0x23 0 0 1 ∷ bare 0x30 ∷ bare 0x10 ∷ []), accepted)
    -- void h(double d){}  void f(){h(1.0);}
    ∷ (frame 0x01 5 3 1 ∷ frame 0x02 3 4 0 ∷ bare 0x03 ∷ [], accepted)
    ∷ (sheet (frame 0x23 0 0 1 ∷ frame 0x26 0 3 1 ∷ bare 0x10 ∷ []), accepted)
    -- if(true) while(true) if(true) return; else return; else return;
    ∷ (sheet (bare 0x20 ∷ bare 0x19 ∷ bare 0x20 ∷ bare 0x18 ∷ bare 0x20 ∷ bare 0x19 ∷ bare 0x14 ∷ bare 0x14 ∷ bare 0x14 ∷ []), accepted)
    -- 32 nested blocks; a 33rd unfinished thing
    ∷ (sheet (nested 32 []), accepted)
    ∷ (sheet (nested 33 []), refused 24 33)
    ∷ (sheet (nested 32 (bare 0x20 ∷ bare 0x18 ∷ bare 0x14 ∷ [])), refused 24 34)
    ∷ (sheet (nested 31 (bare 0x20 ∷ bare 0x19 ∷ bare 0x14 ∷ bare 0x14 ∷ [])), accepted)
    -- 256 frames, 257 frames
    ∷ (sheet (replicate 254 (bare 0x14)), accepted)
    ∷ (sheet (replicate 255 (bare 0x14)), refused 20 256)
    -- END missing
    ∷ ([], refused 25 0)
    ∷ (frame 0x01 5 0 0 ∷ [], refused 25 1)
    ∷ (frame 0x01 5 0 1 ∷ frame 0x02 2 0 0 ∷ [], refused 25 2)
    -- after END, also a kind that is unknown
    ∷ (sheet [] ++ (bare 0x03 ∷ []), refused 26 2)
    ∷ (sheet [] ++ (bare 0x04 ∷ []), refused 26 2)
    -- an unknown kind, also with fields
    ∷ (frame 0x04 9 9 9 ∷ [], refused 21 0)
    ∷ (sheet (bare 0x3D ∷ []), refused 21 1)
    -- a field out of range, also where the frame may not stand
    ∷ (frame 0x01 0 0 0 ∷ [], refused 22 0)
    ∷ (frame 0x01 5 0 17 ∷ [], refused 22 0)
    ∷ (sheet_x (frame 0x02 5 0 0 ∷ []), refused 22 2)
    ∷ (sheet (frame 0x11 2 0 0 ∷ []), refused 22 1)
    ∷ (sheet (frame 0x14 0 1 0 ∷ []), refused 22 1)
    -- not allowed here
    ∷ (bare 0x03 ∷ [], refused 23 0)
    ∷ (frame 0x01 5 0 1 ∷ bare 0x03 ∷ [], refused 23 1)
    ∷ (sheet (frame 0x02 2 0 0 ∷ []), refused 23 1)
    ∷ (sheet (frame 0x12 0 0 0 ∷ []), refused 23 1)
    ∷ (sheet (bare 0x30 ∷ []), refused 23 1)
    ∷ (sheet (bare 0x20 ∷ bare 0x20 ∷ bare 0x10 ∷ []), refused 23 3)
    ∷ (sheet (bare 0x20 ∷ bare 0x18 ∷ []), refused 23 3)
    ∷ (sheet (bare 0x20 ∷ bare 0x19 ∷ bare 0x14 ∷ []), refused 23 4)
    ∷ (sheet (bare 0x17 ∷ []), refused 23 1)
    ∷ (sheet (bare 0x16 ∷ []), refused 23 2)
    ∷ (sheet (bare 0x16 ∷ bare 0x20 ∷ bare 0x18 ∷ bare 0x17 ∷ []), refused 23 4)
    ∷ (sheet (bare 0x20 ∷ []), refused 23 2)
    ∷ []

-- the form judges each as said
abbrev pub Tried : Type 0
Tried = all_same examples ≡ true
