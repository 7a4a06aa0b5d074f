use Rattle.std.proofs.Common.{rules, ◌≡◌, false, List, length, map, refl, sym, ap, ◌∙◌, subst}
use Rattle.std.specs.List.{AllByRecursion}
use Rattle.uc_run.specs.Cursors.{Standing, has_ranges}
use Rattle.uc_run.specs.Heads.{next_key}
use Rattle.uc_query_read.specs.Walks.{newer_of, passed, IsOfRun}
use Rattle.uc_query_read.proofs.Standing.{come_back}
use Rattle.uc_query_read.proofs.Alone.{plain_moved}
use Rattle.uc_query_read.proofs.Beside.{moved_of_runs}
use Rattle.uc_query_read.proofs.walkers.Walkers.next_newest.Goals as goal

pub invariant_of-self-2 : goal.invariant_of-self-2
invariant_of-self-2 g c =
    let w = c.self.inside in
    let moves = passed c.args.least.key.now in
    let long : length w.cursors.items ≡ w.cursors.len = search rules in
    let back = come_back moves w.cursors.items c.deref_mut.result.now c.take_all.new.cursors w.cursors.len long c.deref_mut.ensures.value c.in-Some-take_all.ensures.cursors in
    let moved = c.in-Some-take_all.ensures.cursors ∙ ap (map moves) c.deref_mut.ensures.value ∙ sym back in
    record {
      of_runs = subst (AllByRecursion IsOfRun) (sym back) (moved_of_runs moves (λ c is. is) w.cursors.items c.self.invariant.of_runs);
      heads = c.in-Some-take_all.ensures.heads ∙ ap (λ (cs : List Standing). map next_key (newer_of cs)) moved;
      least = c.least-self-inside.ensures.least;
      number = c.least-self-inside.ensures.number;
      plain = λ plain. subst (AllByRecursion (λ s. has_ranges s ≡ false)) (sym back) (plain_moved moves (λ s. refl) w.cursors.items (c.self.invariant.plain plain));
    }
