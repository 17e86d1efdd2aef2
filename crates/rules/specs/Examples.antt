-- Sheets to try, and a book of two sheets that changes: what their walks answer, as one computed comparison.
use Rattle.std.specs.Prelude.{◌≡◌, ℕ, Bool as Truth, true, ◌&&◌, List, [], ◌∷◌, map, Ok, Err, Result}
use Rattle.syntax.specs.declared.frame.Frame.{Frame}
use Rattle.syntax.specs.declared.frame.«Type».TheVariants.{Bool, Int, Double}
use Rattle.syntax.specs.Writing.{frame}
use Rattle.syntax.specs.Form.{is_sheet}
use Rattle.levels.specs.Store.{find}
use Rattle.rules.specs.Heads.{Levels}
use Rattle.rules.specs.Faults.{number, Fault, fault}
use Rattle.rules.specs.Walk.{walk_sheet}
use Rattle.rules.specs.Books.{Book, book_heads}

-- the types of the frames, or the number and place of a fault; and the levels left
pub data Said : Type 0 where
  types : List ℕ → Levels → Said
  wrong : ℕ → ℕ → Levels → Said

abbrev pub said : Result (List ℕ × Levels) Fault → Said
said (Ok a) = types a.0 a.1
said (Err (fault v p Γ)) = wrong (number v) p Γ

-- what the walk of each sheet says, with the heads of the whole book
abbrev pub says : Book → List Said
says b = map (λ fs. said (walk_sheet (find (book_heads b)) fs)) b

-- frames: of a head, of a parameter or an initialisation, with a name, with a load, with nothing
abbrev pub head : ℕ → ℕ → ℕ → Frame
head t f n = frame 0x01 t f n

abbrev pub param : ℕ → ℕ → Frame
param t x = frame 0x02 t x 0

abbrev pub decl : ℕ → ℕ → Frame
decl t n = frame 0x11 t 0 n

abbrev pub name : ℕ → Frame
name x = frame 0x12 0 x 0

abbrev pub init : ℕ → ℕ → Frame
init t x = frame 0x13 t x 0

abbrev pub literal : ℕ → Frame
literal k = frame k 0 0 1

abbrev pub variable : ℕ → Frame
variable x = frame 0x25 0 x 0

abbrev pub call : ℕ → ℕ → Frame
call f n = frame 0x26 0 f n

abbrev pub bare : ℕ → Frame
bare k = frame k 0 0 0

abbrev pub true_frame : Frame
true_frame = bare 0x20

abbrev pub end : List Frame
end = bare 0x03 ∷ []

-- int f(int x){return x+1;}
abbrev pub returns_sum : List Frame
returns_sum = head 2 0 1 ∷ param 2 1 ∷ variable 1 ∷ literal 0x22 ∷ bare 0x30 ∷ bare 0x15 ∷ end

-- void g(){return g();}
abbrev pub returns_void_call : List Frame
returns_void_call = head 5 1 0 ∷ call 1 0 ∷ bare 0x15 ∷ end

-- int f(int x){int x;}
abbrev pub redeclares_parameter : List Frame
redeclares_parameter = head 2 0 1 ∷ param 2 1 ∷ decl 2 1 ∷ name 1 ∷ end

-- int f(int x){{int x;}}
abbrev pub redeclares_in_block : List Frame
redeclares_in_block = head 2 0 1 ∷ param 2 1 ∷ bare 0x16 ∷ decl 2 1 ∷ name 1 ∷ bare 0x17 ∷ end

-- void f(){while(true) int x; int x;}
abbrev pub declares_after_loop : List Frame
declares_after_loop = head 5 0 0 ∷ true_frame ∷ bare 0x18 ∷ decl 2 1 ∷ name 1 ∷ decl 2 1 ∷ name 1 ∷ end

-- void f(){int x; while(true) int x;}
abbrev pub redeclares_under_loop : List Frame
redeclares_under_loop = head 5 0 0 ∷ decl 2 1 ∷ name 1 ∷ true_frame ∷ bare 0x18 ∷ decl 2 1 ∷ name 1 ∷ end

-- bool f(){return "a"=="b";}
abbrev pub compares_strings : List Frame
compares_strings = head 1 0 0 ∷ literal 0x24 ∷ literal 0x24 ∷ bare 0x36 ∷ bare 0x15 ∷ end

-- void f(){1+1.0;}
abbrev pub adds_two_types : List Frame
adds_two_types = head 5 0 0 ∷ literal 0x22 ∷ literal 0x23 ∷ bare 0x30 ∷ bare 0x10 ∷ end

-- void h(double d){}, void h(int d){} and void f(){h(1.0);}
abbrev pub takes_double : List Frame
takes_double = head 5 1 1 ∷ param 3 3 ∷ end

abbrev pub takes_int : List Frame
takes_int = head 5 1 1 ∷ param 2 3 ∷ end

abbrev pub calls_with_double : List Frame
calls_with_double = head 5 2 0 ∷ literal 0x23 ∷ call 1 1 ∷ bare 0x10 ∷ end

-- more of the order of faults, and of what is left. void f(){int x, y, x;}: the first two names stay
abbrev pub names_twice : List Frame
names_twice = head 5 0 0 ∷ decl 2 3 ∷ name 1 ∷ name 2 ∷ name 1 ∷ end

-- void f(){while(true) int x, y, x;}: nothing was added
abbrev pub names_twice_under_loop : List Frame
names_twice_under_loop = head 5 0 0 ∷ true_frame ∷ bare 0x18 ∷ decl 2 3 ∷ name 1 ∷ name 2 ∷ name 1 ∷ end

-- void f(int x){bool x = 1;}, void f(int x){int x = 1;}, void f(){int x = x;}
abbrev pub starts_with_other_type : List Frame
starts_with_other_type = head 5 0 1 ∷ param 2 1 ∷ literal 0x22 ∷ init 1 1 ∷ end

abbrev pub starts_again : List Frame
starts_again = head 5 0 1 ∷ param 2 1 ∷ literal 0x22 ∷ init 2 1 ∷ end

abbrev pub starts_with_itself : List Frame
starts_with_itself = head 5 0 0 ∷ variable 1 ∷ init 2 1 ∷ end

-- void f(bool x){x++;} and void f(){x++;}
abbrev pub increments_bool : List Frame
increments_bool = head 5 0 1 ∷ param 1 1 ∷ frame 0x27 0 1 0 ∷ bare 0x10 ∷ end

abbrev pub increments_nothing : List Frame
increments_nothing = head 5 0 0 ∷ frame 0x2A 0 1 0 ∷ bare 0x10 ∷ end

-- void f(int x){x = true;} and void f(){x = true;}
abbrev pub assigns_other_type : List Frame
assigns_other_type = head 5 0 1 ∷ param 2 1 ∷ true_frame ∷ frame 0x3C 0 1 0 ∷ bare 0x10 ∷ end

abbrev pub assigns_nothing : List Frame
assigns_nothing = head 5 0 0 ∷ true_frame ∷ frame 0x3C 0 1 0 ∷ bare 0x10 ∷ end

-- void f(){f(1); } and int f(){return;}, void f(){return 1;}
abbrev pub calls_with_too_many : List Frame
calls_with_too_many = head 5 0 0 ∷ literal 0x22 ∷ call 0 1 ∷ bare 0x10 ∷ end

abbrev pub returns_nothing : List Frame
returns_nothing = head 2 0 0 ∷ bare 0x14 ∷ end

abbrev pub returns_int_for_void : List Frame
returns_int_for_void = head 5 0 0 ∷ literal 0x22 ∷ bare 0x15 ∷ end

-- void f(){{int x; while(1) return; }}: the block is still open
abbrev pub loops_on_int : List Frame
loops_on_int = head 5 0 0 ∷ bare 0x16 ∷ decl 2 1 ∷ name 1 ∷ literal 0x22 ∷ bare 0x18 ∷ bare 0x14 ∷ bare 0x17 ∷ end

-- int f(){}: nothing asks for a return
abbrev pub lacks_return : List Frame
lacks_return = head 2 0 0 ∷ end

-- every sheet alone, and the book whose first sheet is replaced and then taken away; its later sheet stands first
abbrev pub books : List Book
books =
    (returns_sum ∷ []) ∷ (returns_void_call ∷ []) ∷ (redeclares_parameter ∷ []) ∷ (redeclares_in_block ∷ []) ∷ (declares_after_loop ∷ []) ∷ (redeclares_under_loop ∷ []) ∷ (compares_strings ∷ []) ∷ (adds_two_types ∷ [])
    ∷ (calls_with_double ∷ takes_double ∷ []) ∷ (calls_with_double ∷ takes_int ∷ []) ∷ (calls_with_double ∷ [])
    ∷ (names_twice ∷ []) ∷ (names_twice_under_loop ∷ []) ∷ (starts_with_other_type ∷ []) ∷ (starts_again ∷ []) ∷ (starts_with_itself ∷ []) ∷ (increments_bool ∷ []) ∷ (increments_nothing ∷ [])
    ∷ (assigns_other_type ∷ []) ∷ (assigns_nothing ∷ []) ∷ (calls_with_too_many ∷ []) ∷ (returns_nothing ∷ []) ∷ (returns_int_for_void ∷ []) ∷ (loops_on_int ∷ []) ∷ (lacks_return ∷ []) ∷ []

-- one level with the int 1 on it, and one with nothing
abbrev pub int_1 : Levels
int_1 = ((1, Int) ∷ []) ∷ []

abbrev pub no_name : Levels
no_name = [] ∷ []

abbrev pub expected : List (List Said)
expected =
    (types (0 ∷ 0 ∷ 2 ∷ 2 ∷ 2 ∷ 0 ∷ 0 ∷ []) int_1 ∷ []) ∷ (types (0 ∷ 5 ∷ 0 ∷ 0 ∷ []) no_name ∷ []) ∷ (wrong 58 3 int_1 ∷ []) ∷ (types (0 ∷ 0 ∷ 0 ∷ 0 ∷ 0 ∷ 0 ∷ 0 ∷ []) int_1 ∷ [])
    ∷ (types (0 ∷ 1 ∷ 0 ∷ 0 ∷ 0 ∷ 0 ∷ 0 ∷ 0 ∷ []) int_1 ∷ []) ∷ (wrong 58 6 int_1 ∷ []) ∷ (wrong 55 3 no_name ∷ []) ∷ (wrong 55 3 no_name ∷ [])
    ∷ (types (0 ∷ 3 ∷ 5 ∷ 0 ∷ 0 ∷ []) no_name ∷ types (0 ∷ 0 ∷ 0 ∷ []) (((3, Double) ∷ []) ∷ []) ∷ []) ∷ (wrong 54 2 no_name ∷ types (0 ∷ 0 ∷ 0 ∷ []) (((3, Int) ∷ []) ∷ []) ∷ []) ∷ (wrong 52 2 no_name ∷ [])
    ∷ (wrong 58 4 (((2, Int) ∷ (1, Int) ∷ []) ∷ []) ∷ []) ∷ (wrong 58 6 no_name ∷ []) ∷ (wrong 57 3 int_1 ∷ []) ∷ (wrong 58 3 int_1 ∷ []) ∷ (wrong 51 1 no_name ∷ []) ∷ (wrong 55 2 (((1, Bool) ∷ []) ∷ []) ∷ []) ∷ (wrong 51 1 no_name ∷ [])
    ∷ (wrong 56 3 int_1 ∷ []) ∷ (wrong 51 2 no_name ∷ []) ∷ (wrong 53 2 no_name ∷ []) ∷ (wrong 59 1 no_name ∷ []) ∷ (wrong 59 2 no_name ∷ []) ∷ (wrong 60 5 (((1, Int) ∷ []) ∷ [] ∷ []) ∷ []) ∷ (types (0 ∷ 0 ∷ []) no_name ∷ []) ∷ []

-- each of the sheets has the form of a sheet
abbrev pub all_formed : Book → Truth
all_formed [] = true
all_formed (fs ∷ b) = is_sheet fs && all_formed b

abbrev pub all_books_formed : List Book → Truth
all_books_formed [] = true
all_books_formed (b ∷ bs) = all_formed b && all_books_formed bs

-- and the walks say what is expected
abbrev pub Examples : Type 0
Examples = (all_books_formed books ≡ true) × (map says books ≡ expected)
