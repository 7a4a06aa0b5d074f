use Rattle.std.proofs.Common.{◌≡◌, ◌<◌, ◌^◌, ◌-◌, ◌+◌, ◌++◌, ◌∷◌, [], ℕ, List, min, ap, sym, ◌∙◌, subst}
use Rattle.uc_bytes.specs.declared.op.Op.{Op}
use Rattle.uc_bytes.specs.declared.write.Write.{Write}
use Rattle.uc_batch.specs.Rising.{IsRising, last_of}
use Rattle.uc_run.specs.Size.{op_size, memtable_size, write_size}
use Rattle.uc_run.proofs.Inserted.{rising_grown, last_grown, size_grown}
use Rattle.uc_run.proofs.memtable.Memtable.insert_ref.Goals as goal

pub invariant_of-self-2 : goal.invariant_of-self-2
invariant_of-self-2 c =
    let before = c.self.inside.slots in
    let write = c.args.write.now in
    let pushed : c.push.new.self ≡ before ++ write ∷ [] = c.in_ok-push.ensures.pushed in
    let above : last_of 0 before < write.seq = subst (λ (ws : List Write). last_of 0 ws < write.seq) (sym c.self.view_is) c.requires.above in
    let counted : c.saturating_add-self-inside.result ≡ min (memtable_size before + min (write_size write) (2 ^ 64 - 1)) (2 ^ 64 - 1) =
    c.saturating_add-self-inside.ensures
    ∙ ap (λ (n : ℕ). min (n + c.op_size.result) (2 ^ 64 - 1)) c.self.invariant.size_counted
    ∙ ap (λ (n : ℕ). min (memtable_size before + n) (2 ^ 64 - 1)) (c.op_size.ensures ∙ ap (λ (o : Op). min (op_size o) (2 ^ 64 - 1)) c.op.ensures) in
    record {
      rising = subst (IsRising 0) (sym pushed) (rising_grown 0 before write c.self.invariant.rising above c.requires.below);
      size_counted = counted ∙ size_grown before write ∙ ap memtable_size (sym pushed);
      last_counted = c.seq-self-inside.ensures ∙ sym (last_grown 0 before write) ∙ ap (last_of 0) (sym pushed);
    }
