use Rattle.std.proofs.Common.{refl}
use Rattle.history.specs.Words.{updated, lowest, count_below, any_of}
use Rattle.history.specs.Language.{heads_of, zeros, image, blanks}
use Rattle.history.specs.Calls.{reader_refusal, outcome}
use Rattle.history.specs.Plain.{entries_after, touches, fault_of, walks, valid_after, after, stepped, plain, told}
use Rattle.history.specs.Areas.{part, with_part, rewritten, table}
use Rattle.history.specs.Working.{new_book, fresh_state, checked_record, checked_column, working_after, working_stepped, working_told, asked}
use Rattle.history.specs.Example.{call_column}
use Rattle.history.proofs.trial.Goals as goal

pub returns : goal.returns
unfolding updated lowest count_below any_of heads_of zeros image blanks reader_refusal outcome entries_after touches fault_of walks valid_after after stepped plain told part with_part rewritten table new_book fresh_state checked_record checked_column working_after working_stepped working_told asked call_column
returns _ =
    record {
      law =
          record {
            plain_edits = refl;
            working_edits = refl;
            plain_refusals = refl;
            working_refusals = refl;
            broken = refl;
            opened = refl;
            typed = refl;
            title_none = refl;
            past_none = refl;
            empty_none = refl;
            no_sheet = refl;
          };
    }
