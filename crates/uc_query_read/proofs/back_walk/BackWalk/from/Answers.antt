use Rattle.std.proofs.Common.{◌≡◌, false, List, Option, option_map, ℕ, sym, ap, ◌∙◌, subst}
use Rattle.std.specs.List.{AllByRecursion}
use Rattle.std.specs.Prelude.{All}
use Rattle.std.proofs.lemmas.List.Elements.{recursion_from_All}
use Rattle.uc_run.specs.Cursors.{has_ranges}
use Rattle.uc_version_state.specs.Versions.{contents_of}
use Rattle.uc_query_read.specs.Back.{back_walk_at, StandsBelow}
use Rattle.uc_query_read.specs.Walks.{runs_of}
use Rattle.uc_query_read.proofs.BackStanding.{all_start, not_included, runs_start}
use Rattle.uc_query_read.proofs.back_walk.BackWalk.from.Goals as goal

pub invariant_of-result : goal.invariant_of-result
invariant_of-result c =
    let high = c.args.high.now in
    record {
      stand = subst (λ (h : Option (List ℕ)). AllByRecursion (StandsBelow h) c.in_ok-cursors.cursors.items) (sym (not_included (option_map (λ h. h.now) c.bound_of.result) ∙ c.bound_of.ensures))
          (subst (AllByRecursion (StandsBelow high)) (sym c.in_ok-cursors.ensures.cursors) (all_start high (contents_of c.args.runs.now)));
      of_runs = c.in_ok-cursors.ensures.of_runs;
      plain = λ plain. recursion_from_All (λ s. has_ranges s ≡ false) c.in_ok-cursors.cursors.items (subst (All (λ s. has_ranges s ≡ false)) c.deref.ensures.value (c.are_plain-is_plain.ensures plain));
    }

pub returns : goal.returns
returns c =
    let high = c.args.high.now in
    ap (λ (h : Option (List ℕ)). back_walk_at c.args.low.now h (runs_of c.in_ok-cursors.cursors.items)) (not_included (option_map (λ h. h.now) c.bound_of.result) ∙ c.bound_of.ensures)
    ∙ ap (back_walk_at c.args.low.now high) (ap runs_of c.in_ok-cursors.ensures.cursors ∙ runs_start high (contents_of c.args.runs.now))
