use Rattle.std.proofs.Common.{◌<◌, List, length, ap, sym, ◌∙◌, subst}
use Rattle.uc_bytes.specs.declared.write.Write.{Write}
use Rattle.uc_run.proofs.PackedWrites.{length-writes}
use Rattle.uc_run.proofs.slot_slice.SlotSlice.at.Goals as goal

pub write_at-requires-clause-there : goal.write_at-requires-clause-there
write_at-requires-clause-there c =
    subst (λ n. c.args.place < n) (ap (λ (ws : List Write). length ws) (sym c.self.view_is) ∙ length-writes c.self.inside.text.now c.self.inside.slots.now) c.requires
