use Rattle.std.proofs.Common.{◌≡◌, ◌++◌, ◌∷◌, [], List, ℕ, length, take, ap, ◌∙◌, arith, rules}
use Rattle.uc_mixed.specs.Mixing.{after}
use Rattle.uc_mixed.specs.Walks.{finished}
use Rattle.uc_mixed.specs.Parts.{backward}
use Rattle.uc_mixed.proofs.Placed.{rest_below}
use Rattle.uc_mixed.proofs.Walking.{ends_walked}
use Rattle.uc_mixed.proofs.applying.find_ends.Goals as goal

pub loop-part-smaller : goal.loop-part-smaller
loop-part-smaller c =
    let part = c.in-Some.part in
    rest_below c.args.operand.now part.rest.now part.payload.now part.kind c.loop-part.end c.loop-part.invariant.within c.in-Some.ensures

pub loop-part-preserved : goal.loop-part-preserved
loop-part-preserved c =
    let part = c.in-Some.part in
    let operand = c.args.operand.now in
    let end = c.loop-part.end in
    let below = rest_below operand part.rest.now part.payload.now part.kind end c.loop-part.invariant.within c.in-Some.ensures in
    let pushed : c.push.new.self.items ≡ c.loop-part.ends.items ++ end ∷ [] = search rules in
    record {
      within = let w = c.loop-part.invariant.within in omega (arith, below, w);
      parts = λ v. ap (λ (l : List ℕ). finished operand (backward l) (after v (take (length part.rest.now) operand))) pushed
          ∙ ends_walked operand part.rest.now part.payload.now c.loop-part.ends.items part.kind end c.loop-part.invariant.within c.in-Some.ensures v
          ∙ c.loop-part.invariant.parts v;
    }
