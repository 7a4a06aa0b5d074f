use Rattle.std.proofs.Common.{List, [], refl, sym, subst}
use Rattle.uc_run_entry.specs.declared.entry.Entry.{Entry}
use Rattle.uc_run_points.specs.Starts.{AreStarts}
use Rattle.uc_run_points.proofs.EntriesAgain.{are_spelled}
use Rattle.uc_run_points.proofs.Walked.{none_ahead}
use Rattle.uc_run_points.proofs.Grown.{starts_none}
use Rattle.uc_run_points.proofs.points.Points.new.Goals as goal

pub invariant_of-result : goal.invariant_of-result
invariant_of-result c = record {
  spelled = are_spelled [] tt 0 refl c.new.result.items c.new.ensures.items;
  starts = subst (λ (es : List Entry). AreStarts es c.new-2.result.items) (sym (none_ahead c.new.result.items)) (subst (AreStarts []) (sym c.new-2.ensures.items) starts_none);
}

pub returns : goal.returns
returns c = none_ahead c.new.result.items
