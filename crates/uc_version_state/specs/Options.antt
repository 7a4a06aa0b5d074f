-- Which options a store opens with.
use Rattle.std.specs.Prelude.{nat_le, ◌&&◌, Bool}
use Rattle.uc_version_state.specs.declared.options.Options.{Options}
use Rattle.uc_version_state.specs.declared.options.TheConstants.{GREATEST_FIRST_ID}

abbrev pub are_good : Options → Bool
are_good o =
    nat_le 1 o.memtable && nat_le 1 o.trigger && nat_le 2 o.least && nat_le o.least o.greatest && nat_le 1 o.first_id && nat_le o.first_id GREATEST_FIRST_ID
