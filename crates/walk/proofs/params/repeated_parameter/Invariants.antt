use Rattle.std.proofs.Common.{◌≡◌}
use Rattle.frames.specs.Sheets.{frames_of}
use Rattle.walk.specs.Params.{param_frames, repeated_param}
use Rattle.walk.proofs.RepeatPlaces.{repeat_from}
use Rattle.walk.proofs.params.repeated_parameter.Given as goal

abbrev pub invariant-loop-i : goal.invariant-loop-i
invariant-loop-i l = repeat_from (param_frames (frames_of l.sheet)) l.i ≡ repeated_param (frames_of l.sheet)
