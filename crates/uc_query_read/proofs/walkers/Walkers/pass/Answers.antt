use Rattle.std.proofs.Common.{rules, ◌≡◌, false, ◌≢◌, length, map, sym, ap, ◌∙◌, subst, refl, List, Option, Some, ℕ}
use Rattle.std.specs.List.{AllByRecursion}
use Rattle.uc_run.specs.Cursors.{Standing, has_ranges}
use Rattle.uc_run.specs.Heads.{next_key}
use Rattle.uc_query_read.specs.Walks.{Numbered, newer_of, passed, IsOfRun, IsFound}
use Rattle.uc_query_read.proofs.Standing.{come_back}
use Rattle.uc_query_read.proofs.Alone.{plain_moved}
use Rattle.uc_query_read.proofs.Beside.{moved_of_runs}
use Rattle.uc_query_read.proofs.Oldest.{all_next}
use Rattle.uc_query_read.proofs.walkers.Walkers.pass.Goals as goal

pub pass_oldest-requires-clause-alone : goal.pass_oldest-requires-clause-alone
pass_oldest-requires-clause-alone c =
    let key = c.args.least.key.now in
    let same : c.args.self.now.cursors ≡ c.deref_mut.result.now = sym (c.deref_mut.ensures.value ∙ ap (λ (n : Numbered). n.cursors) c.self.view_is) in
    subst (λ (cs : List Standing). AllByRecursion (λ s. next_key s ≢ Some key) (newer_of cs)) same
    (all_next (λ k. k ≢ Some key) (newer_of c.args.self.now.cursors) (subst (λ (n : Option ℕ). IsFound c.args.self.now key n) c.in-None.is c.requires.found))

pub invariant_of-self : goal.invariant_of-self
invariant_of-self c =
    let w = c.self.inside in
    let moves = passed c.args.least.key.now in
    let long : length w.cursors.items ≡ w.cursors.len = search rules in
    let back = come_back moves w.cursors.items c.deref_mut.result.now c.pass_oldest.new.cursors w.cursors.len long c.deref_mut.ensures.value c.pass_oldest.ensures.cursors in
    let moved = c.pass_oldest.ensures.cursors ∙ ap (map moves) c.deref_mut.ensures.value ∙ sym back in
    record {
      of_runs = subst (AllByRecursion IsOfRun) (sym back) (moved_of_runs moves (λ c is. is) w.cursors.items c.self.invariant.of_runs);
      heads = c.self.invariant.heads ∙ ap (map next_key) (ap newer_of (sym c.deref_mut.ensures.value) ∙ sym c.pass_oldest.ensures.newer ∙ ap newer_of moved);
      least = c.self.invariant.least;
      number = c.self.invariant.number;
      plain = λ plain. subst (AllByRecursion (λ s. has_ranges s ≡ false)) (sym back) (plain_moved moves (λ s. refl) w.cursors.items (c.self.invariant.plain plain));
    }

pub invariant_of-self-in-Some : goal.invariant_of-self-in-Some
invariant_of-self-in-Some c =
    let w = c.self.inside in
    let moves = passed c.args.least.key.now in
    let long : length w.cursors.items ≡ w.cursors.len = search rules in
    let back = come_back moves w.cursors.items c.deref_mut-in-Some.result.now c.pass_all.new.cursors w.cursors.len long c.deref_mut-in-Some.ensures.value c.pass_all.ensures.cursors in
    let moved = c.pass_all.ensures.cursors ∙ ap (map moves) c.deref_mut-in-Some.ensures.value ∙ sym back in
    record {
      of_runs = subst (AllByRecursion IsOfRun) (sym back) (moved_of_runs moves (λ c is. is) w.cursors.items c.self.invariant.of_runs);
      heads = c.pass_all.ensures.heads ∙ ap (λ (cs : List Standing). map next_key (newer_of cs)) moved;
      least = c.least-self-inside.ensures.least;
      number = c.least-self-inside.ensures.number;
      plain = λ plain. subst (AllByRecursion (λ s. has_ranges s ≡ false)) (sym back) (plain_moved moves (λ s. refl) w.cursors.items (c.self.invariant.plain plain));
    }
