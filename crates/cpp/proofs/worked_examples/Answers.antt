use Rattle.std.proofs.Common.{refl}
use Rattle.syntax.specs.Form.{step}
use Rattle.rules.specs.Typed.{column_left}
use Rattle.history.specs.Words.{updated, lowest, count_below, any_of}
use Rattle.history.specs.Language.{heads_of, zeros}
use Rattle.history.specs.Calls.{outcome}
use Rattle.history.specs.Plain.{entries_after, touches, fault_of, walks, valid_after, after, stepped, plain, told}
use Rattle.cpp.specs.Heads.{head_from, head_number, first_repeat, repeated_in}
use Rattle.cpp.specs.Judge.{judge}
use Rattle.cpp.proofs.worked_examples.Goals as goal

pub returns : goal.returns
unfolding step column_left updated lowest count_below any_of heads_of zeros outcome entries_after touches fault_of walks valid_after after stepped plain told head_from head_number first_repeat repeated_in judge
returns _ = record { law = refl }
