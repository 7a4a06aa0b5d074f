use Rattle.std.proofs.Common.{rules, ◌≡◌, false, length, map, sym, ap, ◌∙◌, subst, refl, List}
use Rattle.std.specs.List.{AllByRecursion}
use Rattle.uc_run.specs.Cursors.{Standing, has_ranges}
use Rattle.uc_run.specs.Heads.{next_key}
use Rattle.uc_query_read.specs.Walks.{newer_of, sought, IsOfRun}
use Rattle.uc_query_read.proofs.Standing.{come_back}
use Rattle.uc_query_read.proofs.Alone.{plain_moved}
use Rattle.uc_query_read.proofs.Beside.{moved_of_runs}
use Rattle.uc_query_read.proofs.walkers.Walkers.seek.Goals as goal

pub invariant_of-self : goal.invariant_of-self
invariant_of-self c =
    let w = c.self.inside in
    let moves = sought c.args.low.now in
    let long : length w.cursors.items ≡ w.cursors.len = search rules in
    let back = come_back moves w.cursors.items c.deref_mut.result.now c.seek_all.new.cursors w.cursors.len long c.deref_mut.ensures.value c.seek_all.ensures.cursors in
    let moved = c.seek_all.ensures.cursors ∙ ap (map moves) c.deref_mut.ensures.value ∙ sym back in
    record {
      of_runs = subst (AllByRecursion IsOfRun) (sym back) (moved_of_runs moves (λ c is. is) w.cursors.items c.self.invariant.of_runs);
      heads = c.seek_all.ensures.heads ∙ ap (λ (cs : List Standing). map next_key (newer_of cs)) moved;
      least = c.least-self-inside.ensures.least;
      number = c.least-self-inside.ensures.number;
      plain = λ plain. subst (AllByRecursion (λ s. has_ranges s ≡ false)) (sym back) (plain_moved moves (λ s. refl) w.cursors.items (c.self.invariant.plain plain));
    }
