use Rattle.std.proofs.Common.{List, length, ap, sym, ◌∙◌}
use Rattle.uc_bytes.specs.declared.write.Write.{Write}
use Rattle.uc_run.proofs.PackedWrites.{length-writes}
use Rattle.uc_run.proofs.slot_slice.SlotSlice.len.Goals as goal

pub returns-clause-count : goal.returns-clause-count
returns-clause-count c = sym (length-writes c.self.inside.text.now c.self.inside.slots.now) ∙ ap (λ (ws : List Write). length ws) c.self.view_is
