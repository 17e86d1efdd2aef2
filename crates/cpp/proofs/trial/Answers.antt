use Rattle.std.proofs.Common.{refl}
use Rattle.syntax.specs.Form.{step}
use Rattle.codec.specs.Text.{hexes, line_of}
use Rattle.rules.specs.Typed.{column_left}
use Rattle.history.specs.Words.{updated, lowest, count_below, any_of}
use Rattle.history.specs.Language.{heads_of, zeros, image, blanks}
use Rattle.history.specs.Calls.{reader_refusal, outcome}
use Rattle.history.specs.Plain.{entries_after, touches, fault_of, walks, valid_after, after, stepped, plain, told}
use Rattle.history.specs.Areas.{part, with_part, rewritten, table}
use Rattle.history.specs.Working.{new_book, fresh_state, checked_record, checked_column, working_after, working_stepped, working_told, asked}
use Rattle.cpp.specs.Sheet.{form, expression}
use Rattle.cpp.specs.Heads.{head_from, head_number, first_repeat, repeated_in}
use Rattle.cpp.specs.Text.{frame_on, begins_line, lines_read, reads}
use Rattle.cpp.specs.Judge.{judge}
use Rattle.cpp.proofs.trial.Goals as goal

pub returns : goal.returns
unfolding step hexes line_of column_left updated lowest count_below any_of heads_of zeros image blanks reader_refusal outcome entries_after touches fault_of walks valid_after after stepped plain told part with_part rewritten table new_book fresh_state checked_record checked_column working_after working_stepped working_told asked form expression head_from head_number first_repeat repeated_in frame_on begins_line lines_read reads judge
returns _ =
    record {
      law =
          record {
            plain_run = refl;
            working_run = refl;
            working_examples = refl;
            opened = refl;
            short_area = refl;
            literal_typed = refl;
            call_typed = refl;
            statement_none = refl;
            past_none = refl;
            empty_none = refl;
            no_sheet = refl;
            cleared_frames = refl;
            caller_frames = refl;
            closed = refl;
          };
    }
