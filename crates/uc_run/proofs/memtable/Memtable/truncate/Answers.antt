use Rattle.std.proofs.Common.{ap, sym, ◌∙◌, subst}
use Rattle.uc_batch.specs.Rising.{IsRising, last_of}
use Rattle.uc_run.specs.Size.{memtable_size}
use Rattle.uc_run.proofs.FirstWrites.{rising_first}
use Rattle.uc_run.proofs.memtable.Memtable.truncate.Goals as goal

pub invariant_of-self : goal.invariant_of-self
invariant_of-self c = record {
  rising = subst (IsRising 0) (sym c.truncate.ensures) (rising_first 0 c.self.inside.slots c.args.count c.self.invariant.rising);
  size_counted = c.size_of_slots-self-inside.ensures ∙ ap memtable_size c.as_slice-kept.ensures;
  last_counted = c.last_seq-self-inside.ensures ∙ ap (last_of 0) c.as_slice-kept.ensures;
}
