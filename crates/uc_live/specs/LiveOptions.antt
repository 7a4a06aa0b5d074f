-- Which options a live store opens with.
use Rattle.std.specs.Prelude.{◌-◌, ◌^◌, ◌&&◌, Bool, nat_le}
use Rattle.uc_version_state.specs.declared.options.Options.{Options}
use Rattle.uc_version_state.specs.Options as store
use Rattle.uc_live.specs.declared.live_options.LiveOptions.{LiveOptions}
use Rattle.uc_live.specs.declared.live_options.TheConstants.{GREATEST_STOP}

-- those of its runs are valid, writes stop at a number of runs that is between the trigger and one below the slots, and it may have
-- a memtable
abbrev pub are_good : LiveOptions → Bool
are_good o =
    store.are_good o.store
    && (nat_le o.store.trigger o.stop_trigger && (nat_le o.stop_trigger GREATEST_STOP && nat_le 1 o.max_write_buffer_number))

-- its version never cuts what it is fed: the live store says when a memtable is full
abbrev pub version_options : LiveOptions → Options
version_options o = record o.store { memtable = 2 ^ 64 - 1 }
