use Rattle.std.proofs.Common.{[]}
use Rattle.uc_version_state.proofs.Memtables.{joined_from}
use Rattle.uc_version_state.proofs.Filling.{each_some, each_full, each_short}
use Rattle.uc_version_state.proofs.laws.memtables_are_filled_in_turn.Goals as goal

pub returns : goal.returns
returns c = record {
  joined = λ limit writes. joined_from limit [] writes;
  some = λ limit writes part has. each_some limit writes part has;
  full = λ limit writes front part next behind e. each_full limit writes front part next behind e;
  not_before = λ limit writes part front w one has e. each_short limit writes part one has front w e;
}
