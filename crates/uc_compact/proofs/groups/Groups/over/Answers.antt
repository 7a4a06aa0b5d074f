use Rattle.std.proofs.Common.{map, List, sym, subst, ap, ◌∙◌}
use Rattle.std.specs.List.{AllByRecursion}
use Rattle.std.proofs.lemmas.List.{map-id}
use Rattle.uc_compact.specs.Groups.{groups_of}
use Rattle.uc_run_entry.specs.declared.entry.Entry.{Entry}
use Rattle.uc_compact.specs.Heads.{first_key}
use Rattle.uc_compact.specs.Lasting.{lasting_group}
use Rattle.uc_compact.proofs.Taking.{Sorted}
use Rattle.uc_compact.proofs.Merging.{joined-map}
use Rattle.uc_compact.proofs.NextKeys.{same_firsts}
use Rattle.uc_compact.proofs.groups.Groups.over.Goals as goal

pub invariant_of-result : goal.invariant_of-result
invariant_of-result c = record {
  rise = c.requires.rise;
  sorted = subst (AllByRecursion Sorted) (sym c.in_ok-cursors.ensures) c.requires.sorted;
  heads = c.in_ok-heads.ensures ∙ same_firsts (λ points. points) c.args.runs.now ∙ ap (map first_key) (map-id c.args.runs.now ∙ sym c.in_ok-cursors.ensures);
}

pub returns : goal.returns
returns c = ap (λ (points : List Entry). map (lasting_group c.args.keeps.now) (groups_of points)) (joined-map (λ points. points) c.args.runs.now c.in_ok-cursors.cursors.items (c.in_ok-cursors.ensures ∙ sym (map-id c.args.runs.now)))
