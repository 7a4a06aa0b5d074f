use Rattle.std.proofs.Common.{◌*◌, take}
use Rattle.std.specs.List.{AllZip}
use Rattle.uc_query_workers.specs.Drawing.{AreLeft, StandsIn}
use Rattle.uc_query_workers.proofs.gathered.joined.Given as goal

abbrev pub invariant-loop-number : goal.invariant-loop-number
invariant-loop-number l = record {
  left : AreLeft (StandsIn l.fn.batch l.initial.draws.items) l.fn.batch l.number l.fn.pieces l.draws.items;
  answered : AllZip (StandsIn l.fn.batch l.initial.draws.items) (take (l.number * l.fn.batch.piece) l.fn.batch.queries) l.all.items;
}
