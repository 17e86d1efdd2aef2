-- What each fault of the book stands for: its number, layer, sheet and place.
use Rattle.std.specs.Prelude.{ℕ, unwrap_or}
use Rattle.syntax.specs.declared.fault.Diagnostic.{Diagnostic}
use Rattle.syntax.specs.Faults as lower
use Rattle.rules.specs.Faults as rule
use Rattle.history.specs.Language.{Fault as Numbered}
use Rattle.records.specs.declared.fault.Fault.{Fault}
use Rattle.records.specs.declared.fault.Fault.TheVariants.{Posted, NoSheet, OtherLength, NameTaken, RepeatedParameter, EmptySheet, NotValid, Altered, SmallStore, Broken}

-- the number of a fault
abbrev pub number : Fault → ℕ
number (Posted e s) = lower.number e
number (NoSheet s) = 31
number (OtherLength s) = 32
number (NameTaken s) = 33
number (RepeatedParameter s p) = 34
number (EmptySheet s) = 35
number NotValid = 36
number (Altered s) = 38
number SmallStore = 39
number (Broken v s p) = rule.number v

-- the layer that found it: 1 text, 2 form, 3 book, 4 rule
abbrev pub layer : Fault → ℕ
layer (Posted e s) = lower.layer e
layer (NoSheet s) = 3
layer (OtherLength s) = 3
layer (NameTaken s) = 3
layer (RepeatedParameter s p) = 3
layer (EmptySheet s) = 3
layer NotValid = 3
layer (Altered s) = 3
layer SmallStore = 3
layer (Broken v s p) = 4

-- the sheet that the call names or that is faulty, 255 where there is none
abbrev pub sheet : Fault → ℕ
sheet (Posted e s) = s
sheet (NoSheet s) = s
sheet (OtherLength s) = unwrap_or s 255
sheet (NameTaken s) = s
sheet (RepeatedParameter s p) = s
sheet (EmptySheet s) = s
sheet NotValid = 255
sheet (Altered s) = s
sheet SmallStore = 255
sheet (Broken v s p) = s

-- the line or frame where it was found, 0 where none is given
abbrev pub place : Fault → ℕ
place (Posted e s) = lower.place e
place (NoSheet s) = 0
place (OtherLength s) = 0
place (NameTaken s) = 0
place (RepeatedParameter s p) = p
place (EmptySheet s) = 0
place NotValid = 0
place (Altered s) = 0
place SmallStore = 0
place (Broken v s p) = p

-- the four together, as a host reports them
abbrev pub diagnosed : Fault → Diagnostic
diagnosed e = record { number = number e; layer = layer e; sheet = sheet e; place = place e }

-- and as the law over histories has them
abbrev pub told : Fault → Numbered
told e = record { number = number e; layer = layer e; sheet = sheet e; place = place e }
