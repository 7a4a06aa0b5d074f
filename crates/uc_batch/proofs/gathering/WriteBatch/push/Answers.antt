use Rattle.std.proofs.Common.{◌+◌, ◌++◌, ◌∷◌, [], List, ◌∙◌, ap, arith, rules}
use Rattle.uc_bytes.specs.declared.op.Op.{Op}
use Rattle.uc_batch.specs.Gathering.{gathered_ops}
use Rattle.uc_batch.proofs.Gathered.{gathered, known, one_more}
use Rattle.uc_batch.proofs.gathering.WriteBatch.push.Goals as goal

pub invariant_of-self-2 : goal.invariant_of-self-2
invariant_of-self-2 c =
    let old = c.self.inside.bytes.items in
    let new = c.set_count.new.bytes.items in
    known (c.self.inside.count + 1) new (gathered_ops old ++ c.args.op.now ∷ [])
    (one_more c.self.inside.count c.args.op.now (gathered_ops old) old c.push_op.new.out.items new c.self.invariant (search rules) (omega (arith, c.if-self.false, c.self.invariant.fit.few, c.self.invariant.counted)) c.in_default.ensures.ok c.set_count.ensures)

pub returns-clause-ok : goal.returns-clause-ok
returns-clause-ok c =
    let old = c.self.inside.bytes.items in
    let new = c.set_count.new.bytes.items in
    gathered (c.self.inside.count + 1) new (gathered_ops old ++ c.args.op.now ∷ [])
    (one_more c.self.inside.count c.args.op.now (gathered_ops old) old c.push_op.new.out.items new c.self.invariant (search rules) (omega (arith, c.if-self.false, c.self.invariant.fit.few, c.self.invariant.counted)) c.in_default.ensures.ok c.set_count.ensures)
    ∙ ap (λ (ops : List Op). ops ++ c.args.op.now ∷ []) c.self.view_is
