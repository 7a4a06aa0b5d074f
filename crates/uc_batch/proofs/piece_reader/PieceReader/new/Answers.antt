use Rattle.std.proofs.Common.{rules}
use Rattle.uc_batch.proofs.Judged.{empty_judged}
use Rattle.uc_batch.proofs.piece_reader.PieceReader.new.Goals as goal

pub invariant_of-result : goal.invariant_of-result
invariant_of-result c = (empty_judged, (search rules, search rules))
