use Rattle.std.proofs.Common.{◌∷◌, ◌++◌, [], List, ap, ◌∙◌}
use Rattle.uc_bytes.specs.declared.write.Write.{Write}
use Rattle.uc_run.proofs.PackedWrites.{grown, grown_order}
use Rattle.uc_run.proofs.slots.Slots.push.Goals as goal

pub invariant_of-self-2 : goal.invariant_of-self-2
invariant_of-self-2 c = grown_order _ _ _ _ c.args.write.now c.in_ok-push_write.ensures.ok c.self.invariant

pub returns-clause-pushed : goal.returns-clause-pushed
returns-clause-pushed c =
    grown _ _ _ _ c.args.write.now c.in_ok-push_write.ensures.ok c.self.invariant ∙ ap (λ (ws : List Write). ws ++ c.args.write.now ∷ []) c.self.view_is
