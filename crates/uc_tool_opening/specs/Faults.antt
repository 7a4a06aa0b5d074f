-- The fault of an opening that failed.
use Rattle.std.specs.Prelude.{nat_lt, ◌||◌, Option, Some, None, if◌then◌else◌}
use Rattle.uc_version_state.specs.declared.options.Options.{Options}
use Rattle.uc_version_state.specs.declared.options.TheConstants.{GREATEST_FIRST_ID}
use Rattle.uc_version_open.specs.declared.open_error.OpenError.{OpenError}
use Rattle.uc_version_open.specs.declared.open_error.OpenError.TheVariants as opening
use Rattle.uc_tool_opening.specs.declared.opening_fault.OpeningFault.{OpeningFault}
use Rattle.uc_tool_opening.specs.declared.opening_fault.OpeningFault.TheVariants.{Memtable, Trigger, Least, Widths, FirstId, Ahead, TooManyRuns}

-- the first option that is out of its range
abbrev pub option_fault : Options → Option OpeningFault
option_fault o =
    if nat_lt o.memtable 1 then Some Memtable
    else if nat_lt o.trigger 1 then Some Trigger
    else if nat_lt o.least 2 then Some (Least o.least)
    else if nat_lt o.greatest o.least then Some (Widths o.least o.greatest)
    else if nat_lt o.first_id 1 || nat_lt GREATEST_FIRST_ID o.first_id then Some (FirstId o.first_id)
    else None

-- the option or number that makes an opening fail with this error
abbrev pub fault_of_opening : OpenError → Options → Option OpeningFault
fault_of_opening opening.BadOption options = option_fault options
fault_of_opening (opening.SnapshotAhead keep) options = Some (Ahead keep)
fault_of_opening opening.TooManyRuns options = Some (TooManyRuns options.memtable)
fault_of_opening opening.BadCount options = None
fault_of_opening opening.Memory options = None
