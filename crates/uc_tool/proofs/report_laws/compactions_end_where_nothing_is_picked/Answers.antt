use Rattle.std.proofs.Common.{length, arith}
use Rattle.uc_tool.proofs.NoMorePicks.{done_from}
use Rattle.uc_tool.proofs.report_laws.compactions_end_where_nothing_is_picked.Goals as goal

pub returns : goal.returns
returns g c = λ o is_owner.
    done_from g.O.Operator.meaning (record {
      there = c.picks_are_unclaimed_runs.ensures.there;
      two = c.picks_are_unclaimed_runs.ensures.two;
      can_be_claimed = c.picks_can_be_claimed.ensures;
      may = c.claimable_stretches_can_be_compacted.ensures.may;
      stays = c.claimable_stretches_can_be_compacted.ensures.stays;
    }) (length o.version.runs) o is_owner (omega arith)
