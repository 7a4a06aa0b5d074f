use Rattle.std.proofs.Common.{◌≡◌, ◌++◌, ◌∷◌, [], List, ℕ, Some, take, ap, ◌∙◌, sym}
use Rattle.std.proofs.lemmas.List.{take_min}
use Rattle.uc_mixed.specs.Walks.{finished}
use Rattle.uc_mixed.specs.Parts.{part_bytes, backward, cut}
use Rattle.uc_mixed.proofs.Walking.{part_finished, none_finished}
use Rattle.uc_mixed.proofs.applying.finish.Goals as goal

pub loop-end-preserved-in-Some-cut : goal.loop-end-preserved-in-Some-cut
loop-end-preserved-in-Some-cut c =
    let part = c.in-Some-cut.part in
    let operand = c.args.operand.now in
    let end = c.in-Some.end in
    let popped : c.loop-end.ends.items ≡ c.pop.new.self.items ++ end ∷ [] = c.in-Some.ensures.items in
    let same : take end operand ≡ part.rest.now ++ part_bytes part.kind part.payload.now = sym (ap (λ (n : ℕ). take n operand) c.min.ensures ∙ take_min end operand) ∙ c.in-Some-cut.ensures in
    ap (λ (l : List ℕ). finished operand (backward c.pop.new.self.items) (Some l)) c.in_ok-apply_part.ensures
    ∙ part_finished operand part.rest.now part.payload.now c.pop.new.self.items c.loop-end.ends.items part.kind end c.loop-end.value same popped
    ∙ c.loop-end.invariant

pub loop-end-preserved : goal.loop-end-preserved
loop-end-preserved c =
    let operand = c.args.operand.now in
    let end = c.in-Some.end in
    let popped : c.loop-end.ends.items ≡ c.pop.new.self.items ++ end ∷ [] = c.in-Some.ensures.items in
    none_finished operand c.pop.new.self.items c.loop-end.ends.items end c.loop-end.value (ap cut (sym (ap (λ (n : ℕ). take n operand) c.min.ensures ∙ take_min end operand)) ∙ c.in_default-cut.ensures) popped ∙ c.loop-end.invariant
