use Rattle.std.proofs.Common.{rules, ◌≡◌, false, ℕ, Bool, List, Some, length, map, take, drop, ◌++◌, sym, ap, ◌∙◌, subst}
use Rattle.std.specs.Prelude.{IfSome}
use Rattle.std.specs.List.{AllByRecursion}
use Rattle.std.proofs.lemmas.List.{length-map, take_at}
use Rattle.uc_compact.specs.Inputs.{points_of}
use Rattle.uc_run_entry.specs.Run.{Contents}
use Rattle.uc_run.specs.Cursors.{Standing, has_ranges}
use Rattle.uc_run.specs.Heads.{next_key}
use Rattle.uc_run.specs.NextKey.{IsNextKey}
use Rattle.uc_query_read.specs.Walks.{Numbered, runs_of, newer_of, StandsAt, IsOfRun}
use Rattle.uc_query_read.proofs.Alone.{plain_alike, same_of_runs}
use Rattle.uc_query_read.proofs.walkers.Walkers.next_alone.Goals as goal

pub invariant_of-self : goal.invariant_of-self
invariant_of-self g c =
    let w = c.self.inside in
    let items = w.cursors.items in
    let new = c.next_alone.new.cursors in
    let long : length items ≡ w.cursors.len = search rules in
    let runs : runs_of new ≡ runs_of items = c.next_alone.ensures.runs ∙ ap runs_of c.deref_mut.ensures.value in
    let as_many : length new ≡ w.cursors.len =
    sym (length-map new (λ (s : Standing). s.run)) ∙ ap (λ (rs : List Contents). length rs) runs ∙ length-map items (λ (s : Standing). s.run) ∙ long in
    let back : take w.cursors.len (new ++ drop (length new) items) ≡ new = take_at new (drop (length new) items) w.cursors.len as_many in
    record {
      of_runs = subst (AllByRecursion IsOfRun) (sym back) (same_of_runs items new runs c.self.invariant.of_runs);
      heads = c.self.invariant.heads ∙ ap (map next_key) (ap newer_of (sym c.deref_mut.ensures.value) ∙ sym c.next_alone.ensures.newer ∙ ap newer_of (sym back));
      least = c.self.invariant.least;
      number = c.self.invariant.number;
      plain = λ plain. subst (AllByRecursion (λ s. has_ranges s ≡ false)) (sym back) (plain_alike items new runs (c.self.invariant.plain plain));
    }

pub returns-clause-next : goal.returns-clause-next
returns-clause-next g c =
    let same : c.deref_mut.result.now ≡ c.args.self.now.cursors = c.deref_mut.ensures.value ∙ ap (λ (n : Numbered). n.cursors) c.self.view_is in
    subst (λ (cs : List Standing). IfSome c.next_alone.result (λ row. (low : List ℕ) (strict : Bool) → AllByRecursion (StandsAt low strict) cs → IsNextKey (points_of (runs_of cs)) low strict (Some row.0.now))) same
    c.next_alone.ensures.next
