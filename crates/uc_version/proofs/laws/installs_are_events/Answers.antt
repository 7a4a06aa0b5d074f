use Rattle.std.proofs.Common.{sym}
use Rattle.uc_version.specs.Installing.{stretch_of}
use Rattle.uc_version.proofs.Taking.{held_stands}
use Rattle.uc_version.proofs.Legal.{is_legal, is_replaced}
use Rattle.uc_version.proofs.laws.installs_are_events.Goals as goal

pub returns : goal.returns
returns g c =
    let m = g.O.Operator.meaning in
    record {
      may = λ o claim made is_owner held stand may.
          let there = held_stands o is_owner claim held in
          is_legal m o.version is_owner.version (stretch_of o claim) there.0 there.1 made stand may;
      after = λ o claim made is_owner held stand may.
          let there = held_stands o is_owner claim held in
          sym (is_replaced m o.version is_owner.version (stretch_of o claim) there.0 there.1 made stand may);
    }
