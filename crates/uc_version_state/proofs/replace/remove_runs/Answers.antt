use Rattle.std.proofs.Common.{arith, rules}
use Rattle.uc_version_state.proofs.InPlace.{none_out, one_out, ended}
use Rattle.uc_version_state.proofs.replace.remove_runs.Goals as goal

pub loop-init : goal.loop-init
loop-init c = record { left = none_out c.args.runs.now.items c.args.first; fewer = omega arith }

pub loop-preserved : goal.loop-preserved
loop-preserved c =
    let room = c.requires in
    let more = c.loop-test.true in
    record {
      left = one_out c.args.runs.now.items c.loop.runs.items _ c.args.first c.loop.counter (omega (arith, room, more)) c.loop.invariant.left c.remove.ensures.by_index.2;
      fewer = search rules;
    }

pub returns : goal.returns
returns c = ended c.loop.runs.items c.args.runs.now.items c.args.first c.loop.counter c.args.count (search rules) c.loop.invariant.left
