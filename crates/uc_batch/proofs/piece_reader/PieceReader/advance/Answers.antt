use Rattle.std.proofs.Common.{rules}
use Rattle.std.proofs.lemmas.Result.{err_from_is_err_and}
use Rattle.uc_batch.specs.Batch.{writes_in}
use Rattle.uc_batch.proofs.Judged.{empty_judged, stays, advances}
use Rattle.uc_batch.specs.PiecePosition.{payload_in}
use Rattle.uc_batch.proofs.piece_reader.PieceReader.advance.Goals as goal

pub invariant_of-self : goal.invariant_of-self
invariant_of-self c = (empty_judged, (search rules, search rules))

pub invariant_of-self-in_err-payload : goal.invariant_of-self-in_err-payload
invariant_of-self-in_err-payload c = (empty_judged, (search rules, search rules))

pub invariant_of-self-in-Ended : goal.invariant_of-self-in-Ended
invariant_of-self-in-Ended c = (empty_judged, (search rules, search rules))

pub returns-in_err-payload-clause-err : goal.returns-in_err-payload-clause-err
returns-in_err-payload-clause-err c =
    let i = c.self.inside in
    let p = err_from_is_err_and c.from_residual.result c.from_residual.ensures.1 in
    rw p.1 (stays i.last (writes_in i.header.sequence (payload_in i.payload i.log.piece i.joined.items)) i.ended i.log.log c.find_batch.new.log.log c.args.self.now c.self.view_is c.in_err-payload.ensures.err)

pub returns-in-Batch-clause-ok : goal.returns-in-Batch-clause-ok
returns-in-Batch-clause-ok c =
    let i = c.self.inside in
    let b = c.in-Batch in
    let found = rw b.is at c.in_ok-payload.ensures.ok in
    advances i.last c.last_used-self-inside.result (writes_in i.header.sequence (payload_in i.payload i.log.piece i.joined.items)) (payload_in b.payload c.find_batch.new.log.piece c.find_batch.new.joined.items) b.header i.ended i.log.log c.find_batch.new.log.log c.args.self.now c.self.view_is c.in_default.is found.2 found.0 found.1 c.last_used-self-inside.ensures
