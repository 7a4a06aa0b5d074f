use Rattle.std.proofs.Common.{rules, ◌≡◌, ◌+◌, ◌-◌, ◌^◌, min, List, Some, sym, ap, ◌∙◌, subst}
use Rattle.std.specs.List.{slice_get, sum_by}
use Rattle.uc_run_entry.specs.declared.entry.Entry.{Entry}
use Rattle.uc_run_entry.specs.Size as size
use Rattle.uc_run.proofs.Walking.{passed, IsAhead, still_ahead, passed_more, all_passed, none_ahead, sum_more}
use Rattle.uc_run.proofs.run_size.points_size.Goals as goal

pub loop-point-preserved : goal.loop-point-preserved
loop-point-preserved c =
    let points = c.args.points.now in
    let ahead = c.loop-point.ahead in
    let is = c.loop-point.invariant.ahead in
    let p : Entry = c.in-Some.point in
    let next : slice_get ahead 0 ≡ Some p = sym c.next.ensures.next ∙ c.in-Some.is in
    let added : c.saturating_add-sum.result ≡ min (c.loop-point.sum + c.entry_size.result) (2 ^ 64 - 1) = search rules in
    record {
      ahead = subst (IsAhead points) (sym c.next.ensures.rest) (still_ahead points ahead is p next);
      counted =
          sum_more (size.entry_size) (passed points ahead) p c.loop-point.sum c.entry_size.result c.saturating_add-sum.result c.loop-point.invariant.counted c.entry_size.ensures added
          ∙ ap (λ (es : List Entry). min (sum_by size.entry_size es) (2 ^ 64 - 1)) (sym (ap (passed points) c.next.ensures.rest ∙ passed_more points ahead is p next));
    }

pub returns : goal.returns
returns c =
    let points = c.args.points.now in
    let ahead = c.loop-point.ahead in
    let none = none_ahead ahead (sym c.next.ensures.next ∙ c.in_default.is) in
    c.loop-point.invariant.counted ∙ ap (λ (es : List Entry). min (sum_by size.entry_size es) (2 ^ 64 - 1)) (all_passed points ahead c.loop-point.invariant.ahead none)
