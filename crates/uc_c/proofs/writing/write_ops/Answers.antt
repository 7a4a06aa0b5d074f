use Rattle.std.proofs.Common.{rules, inl, inr, refl}
use Rattle.std.proofs.lemmas.Int.{to_z-of_z}
use mir.Syntax.{w32}
use mir.Val.{SFits}
use Rattle.uc_c.specs.Batches.{ops_held}
use Rattle.std.specs.Prelude.{option_map}
use Rattle.uc_c.proofs.Taking.{taken, declined}
use Rattle.uc_c.proofs.writing.write_ops.Goals as goal

pub returns-in-Ok : goal.returns-in-Ok
returns-in-Ok c =
    let law = c.gathered_batch_is_read.ensures in
    let ops = ops_held (option_map (λ b. b.value) c.args.held.now) in
    inl (refl, taken c.bytes_of.result.now ops c.args.engine.now c.write_batch.new.self c.bytes_of.ensures.text (λ at writes. law.only at ops writes c.bytes_of.ensures.fit) c.in-Ok.ensures.kind c.in-Ok.ensures.ok)

pub returns-in-Err : goal.returns-in-Err
returns-in-Err c =
    let law = c.gathered_batch_is_read.ensures in
    let ops = ops_held (option_map (λ b. b.value) c.args.held.now) in
    let fits : SFits w32 c.gathered_status.result = search rules in
    rw (to_z-of_z w32 c.gathered_status.result fits)
    (inr (declined c.bytes_of.result.now ops c.args.engine.now c.write_batch.new.self c.in-Err.error c.gathered_status.result c.bytes_of.ensures.text (λ at. law.read at ops c.bytes_of.ensures.fit) (c.in-Err.ensures.err.0, (c.in-Err.ensures.kind, c.in-Err.ensures.err.1)) c.gathered_status.ensures))
