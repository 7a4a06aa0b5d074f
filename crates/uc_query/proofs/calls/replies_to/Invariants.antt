use Rattle.std.proofs.Common.{take}
use Rattle.uc_query.specs.Names.{AreHeld}
use Rattle.uc_query.specs.Stepping.{RunsTo}
use Rattle.uc_query.proofs.calls.replies_to.Given as goal

abbrev pub invariant-loop-call : goal.invariant-loop-call
invariant-loop-call g l = record {
  held : AreHeld l.owned l.claims;
  so_far : RunsTo g.O.Operator.meaning (record { owner = l.fn.owned; names = l.fn.claims }) (take l.call-index l.calls) l.replies.items (record { owner = l.owned; names = l.claims });
}
