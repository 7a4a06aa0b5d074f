use Rattle.std.proofs.Common.{ap, ◌∙◌}
use Rattle.std.specs.Arc.{arc_value}
use Rattle.uc_run_entry.specs.Run.{Contents}
use Rattle.uc_compact.proofs.Together.{low_of_last}
use Rattle.uc_compact.proofs.inputs.low_seq.Goals as goal

pub returns-in-Some : goal.returns-in-Some
returns-in-Some c = c.low_seq.ensures ∙ ap (λ (r : Contents). r.low) c.deref.ensures ∙ low_of_last arc_value c.args.inputs.now c.in-Some.oldest.now c.in-Some.ensures.item.3.0 c.in-Some.ensures.item.3.1
