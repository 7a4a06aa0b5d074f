use Rattle.std.proofs.Common.{rules, ◌≡◌, List, length, ap, sym, ◌∙◌}
use Rattle.uc_bytes.specs.declared.write.Write.{Write}
use Rattle.uc_run.proofs.PackedWrites.{length-writes}
use Rattle.uc_run.proofs.slots.Slots.len.Goals as goal

pub returns-clause-count : goal.returns-clause-count
returns-clause-count c =
    let long : c.len.result ≡ length c.self.inside.slots.items = search rules in
    long ∙ sym (length-writes c.self.inside.text.items c.self.inside.slots.items) ∙ ap (λ (ws : List Write). length ws) c.self.view_is
