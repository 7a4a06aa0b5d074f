use Rattle.std.proofs.Common.{rules, ◌≡◌, ◌++◌, ◌∷◌, List, [], Some, sym, ap, ◌∙◌, subst}
use Rattle.std.specs.List.{slice_get}
use Rattle.uc_run_entry.specs.declared.entry.Entry.{Entry}
use Rattle.uc_run.proofs.Walking.{passed, IsAhead, still_ahead, passed_more}
use Rattle.uc_run.proofs.lookup.gathered.Goals as goal

pub loop-point-preserved : goal.loop-point-preserved
loop-point-preserved c =
    let points = c.args.points.now in
    let ahead = c.loop-point.ahead in
    let is = c.loop-point.invariant.ahead in
    let p : Entry = c.in-Some.point in
    let next : slice_get ahead 0 ≡ Some p = sym c.next.ensures.next ∙ c.in-Some.is in
    let pushed : c.push.new.self.items ≡ c.loop-point.refs.items ++ p ∷ [] = search rules in
    record {
      ahead = subst (IsAhead points) (sym c.next.ensures.rest) (still_ahead points ahead is p next);
      kept =
          pushed ∙ ap (λ (es : List Entry). es ++ p ∷ []) c.loop-point.invariant.kept
          ∙ sym (ap (passed points) c.next.ensures.rest ∙ passed_more points ahead is p next);
    }
