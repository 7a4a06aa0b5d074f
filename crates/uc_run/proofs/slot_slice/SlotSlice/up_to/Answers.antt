use Rattle.std.proofs.Common.{rules, refl, ◌≡◌, ◌≤◌, List, length, take, drop, ap, sym, ◌∙◌, arith}
use Rattle.uc_bytes.specs.declared.write.Write.{Write}
use Rattle.uc_run.specs.Slots.{end_before}
use Rattle.uc_run.proofs.PackedWrites.{length-writes, end_within, cut_order, cut_writes}
use Rattle.uc_run.proofs.slot_slice.SlotSlice.up_to.Goals as goal

pub slice_bounds-result-end : goal.slice_bounds-result-end
slice_bounds-result-end c =
    let within : end_before (length c.self.inside.text.now) (drop c.args.place c.self.inside.slots.now) ≤ length c.self.inside.text.now = end_within (length c.self.inside.text.now) c.self.inside.slots.now c.args.place c.self.invariant in
    let fits : c.end_of_first-end.result ≤ length c.self.inside.text.now = omega (arith, c.end_of_first-end.ensures) in
    search rules

pub slice_bounds-result-end-2 : goal.slice_bounds-result-end-2
slice_bounds-result-end-2 c =
    let long : length c.args.self.now ≡ length c.self.inside.slots.now = ap (λ (ws : List Write). length ws) (sym c.self.view_is) ∙ length-writes c.self.inside.text.now c.self.inside.slots.now in
    let fits : c.args.place ≤ length c.self.inside.slots.now = omega (arith, long) in
    search rules

pub invariant_of-result : goal.invariant_of-result
invariant_of-result c =
    cut_order c.self.inside.text.now _ c.self.inside.slots.now _ c.args.place c.end_of_first-end.result refl refl c.end_of_first-end.ensures c.self.invariant

pub returns : goal.returns
returns c =
    cut_writes c.self.inside.text.now _ c.self.inside.slots.now _ c.args.place c.end_of_first-end.result refl refl c.end_of_first-end.ensures c.self.invariant
    ∙ ap (λ (ws : List Write). take c.args.place ws) c.self.view_is
