use Rattle.std.proofs.Common.{rules, inl, inr}
use Rattle.std.proofs.lemmas.Int.{to_z-of_z}
use mir.Syntax.{w32}
use mir.Val.{SFits}
use Rattle.uc_c.specs.Batches.{ops_held}
use Rattle.std.specs.Prelude.{option_map}
use Rattle.uc_c.proofs.Taking.{told, declined}
use Rattle.uc_c.proofs.writing.prepare_ops.Goals as goal

pub returns-in-Ok-clause-tells : goal.returns-in-Ok-clause-tells
returns-in-Ok-clause-tells c =
    let law = c.gathered_batch_is_read.ensures in
    let ops = ops_held (option_map (λ b. b.value) c.args.held.now) in
    let fits : SFits w32 c.in-Ok.status = search rules in
    rw (to_z-of_z w32 c.in-Ok.status fits)
    (record { tells = inl (told c.bytes_of.result.now ops c.args.engine.now c.prepare.new.engine c.in-Ok.status c.args.log_length c.args.room.now c.prepare.new.room c.prepare.new.size c.bytes_of.ensures.text (λ at writes. law.only at ops writes c.bytes_of.ensures.fit) c.in-Ok.ensures.ok) })

pub returns-in-Err-clause-tells : goal.returns-in-Err-clause-tells
returns-in-Err-clause-tells c =
    let law = c.gathered_batch_is_read.ensures in
    let ops = ops_held (option_map (λ b. b.value) c.args.held.now) in
    let fits : SFits w32 c.gathered_status.result = search rules in
    rw (to_z-of_z w32 c.gathered_status.result fits)
    (record { tells = inr (declined c.bytes_of.result.now ops c.args.engine.now c.prepare.new.engine c.in-Err.error c.gathered_status.result c.bytes_of.ensures.text (λ at. law.read at ops c.bytes_of.ensures.fit) c.in-Err.ensures.err.0 c.gathered_status.ensures) })
