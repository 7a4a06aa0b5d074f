use Rattle.std.proofs.Common.{List, take, ap, sym, ◌∙◌, subst}
use Rattle.uc_bytes.specs.declared.write.Write.{Write}
use Rattle.uc_batch.specs.Rising.{IsRising}
use Rattle.uc_run.proofs.FirstWrites.{rising_first}
use Rattle.uc_run.proofs.memtable.Memtable.run_of_first.Goals as goal

pub run_of_slots-requires-clause-rising : goal.run_of_slots-requires-clause-rising
run_of_slots-requires-clause-rising c =
    let first = c.up_to.ensures ∙ ap (λ (ws : List Write). take c.args.count ws) c.as_slice.ensures in
    subst (IsRising 0) (sym first) (rising_first 0 c.self.inside.slots c.args.count c.self.invariant.rising)
