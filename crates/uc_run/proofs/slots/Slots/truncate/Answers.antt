use Rattle.std.proofs.Common.{rules, ◌≡◌, ℕ, List, length, take, drop, ap, ◌∙◌}
use Rattle.uc_bytes.specs.declared.write.Write.{Write}
use Rattle.uc_run.specs.declared.slot.Slot.{Slot}
use Rattle.uc_run.specs.Slots.{end_before}
use Rattle.uc_run.proofs.PackedWrites.{cut_order, cut_writes}
use Rattle.uc_run.proofs.slots.Slots.truncate.Goals as goal

-- where the bytes of the first slots end
ends : (c : goal.After-truncate-2) → c.end_of_first-end.result ≡ end_before (length c.self.inside.text.items) (drop c.args.count c.self.inside.slots.items)
ends c =
    let long : c.len.result ≡ length c.self.inside.text.items = search rules in
    c.end_of_first-end.ensures
    ∙ ap (λ (n : ℕ). end_before n (drop c.args.count c.deref.result.now)) long
    ∙ ap (λ (xs : List Slot). end_before (length c.self.inside.text.items) (drop c.args.count xs)) c.deref.ensures.value

pub invariant_of-self : goal.invariant_of-self
invariant_of-self c =
    let text_is : c.truncate.new.self.items ≡ take c.end_of_first-end.result c.self.inside.text.items = search rules in
    let slots_are : c.truncate-2.new.self.items ≡ take c.args.count c.self.inside.slots.items = search rules in
    cut_order c.self.inside.text.items _ c.self.inside.slots.items _ c.args.count c.end_of_first-end.result text_is slots_are (ends c) c.self.invariant

pub returns : goal.returns
returns c =
    let text_is : c.truncate.new.self.items ≡ take c.end_of_first-end.result c.self.inside.text.items = search rules in
    let slots_are : c.truncate-2.new.self.items ≡ take c.args.count c.self.inside.slots.items = search rules in
    cut_writes c.self.inside.text.items _ c.self.inside.slots.items _ c.args.count c.end_of_first-end.result text_is slots_are (ends c) c.self.invariant
    ∙ ap (λ (ws : List Write). take c.args.count ws) c.self.view_is
