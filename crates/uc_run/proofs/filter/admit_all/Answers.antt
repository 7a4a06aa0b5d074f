use Rattle.std.proofs.Common.{rules, ◌≡◌, ◌+◌, List, Some, take, sym, ◌∙◌, subst}
use Rattle.std.specs.List.{slice_get}
use Rattle.uc_run_entry.specs.declared.entry.Entry.{Entry}
use Rattle.uc_run.specs.Filters.{Admits, AdmitsAll}
use Rattle.uc_run.proofs.Admitting.{admitted_more}
use Rattle.uc_run.proofs.Walking.{passed, IsAhead, place, place_within, is_at, one_more, still_ahead, all_passed, none_ahead}
use Rattle.uc_run.proofs.filter.admit_all.Goals as goal

pub loop-point-preserved : goal.loop-point-preserved
loop-point-preserved c =
    let points = c.args.points.now in
    let ahead = c.loop-point.ahead in
    let is = c.loop-point.invariant.ahead in
    let p : Entry = c.in-Some.point in
    let next : slice_get ahead 0 ≡ Some p = sym c.next.ensures.next ∙ c.in-Some.is in
    let n = place points ahead is in
    let more : AdmitsAll c.admit.new.words (take (n + 1) points) =
    admitted_more c.loop-point.words c.admit.new.words points n p (place_within points ahead is p next) (is_at points ahead is p next) c.admit.ensures.kept
    (subst (Admits c.admit.new.words) c.key.ensures c.admit.ensures.admitted) c.loop-point.invariant.admitted in
    record {
      long = search rules;
      ahead = subst (IsAhead points) (sym c.next.ensures.rest) (still_ahead points ahead is p next);
      admitted = subst (λ (es : List Entry). AdmitsAll c.admit.new.words (passed points es)) (sym c.next.ensures.rest) (subst (λ k. AdmitsAll c.admit.new.words (take k points)) (sym (one_more points ahead is p next)) more);
    }

pub returns : goal.returns
returns c =
    let points = c.args.points.now in
    let ahead = c.loop-point.ahead in
    let none = none_ahead ahead (sym c.next.ensures.next ∙ c.in_default.is) in
    subst (AdmitsAll c.loop-point.words) (all_passed points ahead c.loop-point.invariant.ahead none) c.loop-point.invariant.admitted
