use Rattle.std.proofs.Common.{◌≡◌, ◌+◌, ◌-◌, ◌^◌, ◌∙◌, ℕ, min, take, ap, sym}
use Rattle.uc_bytes.specs.declared.op.Op.{Op}
use Rattle.uc_bytes.specs.declared.write.Write.{Write}
use Rattle.uc_run.specs.Size.{op_size, write_size, memtable_size}
use Rattle.uc_run.proofs.Inserted.{size_grown}
use Rattle.uc_run.proofs.WriteParts.{next_taken}
use Rattle.uc_run.proofs.slot_totals.size_of_slots.Goals as goal

pub loop-place-preserved : goal.loop-place-preserved
loop-place-preserved c =
    let w : Write = c.at.result in
    let before = take c.loop-place.place c.args.slots.now in
    let op : c.op.result.now ≡ c.at.result.op = c.op.ensures ∙ ap (λ (v : Write). v.op) c.write.ensures in
    let counted : c.saturating_add-size.result ≡ min (memtable_size before + min (write_size c.at.result) (2 ^ 64 - 1)) (2 ^ 64 - 1) =
    c.saturating_add-size.ensures
    ∙ ap (λ (n : ℕ). min (n + c.op_size.result) (2 ^ 64 - 1)) c.loop-place.invariant
    ∙ ap (λ (n : ℕ). min (memtable_size before + n) (2 ^ 64 - 1)) (c.op_size.ensures ∙ ap (λ (o : Op). min (op_size o) (2 ^ 64 - 1)) op) in
    counted ∙ size_grown before c.at.result ∙ ap memtable_size (sym (next_taken c.args.slots.now c.loop-place.place c.at.result c.at.ensures))
