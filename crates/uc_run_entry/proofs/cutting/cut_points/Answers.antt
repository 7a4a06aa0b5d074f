use Rattle.std.proofs.Common.{rules, map, ap, sym, ◌∙◌}
use Rattle.uc_run_entry.proofs.Cuts.{cut_both, cut_none}
use Rattle.uc_run_entry.proofs.cutting.cut_points.Goals.{then-has_keys+in_ok-insert+in_ok-insert-2, else-has_keys}
use Rattle.uc_run_entry.proofs.cutting.cut_points.Goals as goal

pub loop-range-preserved : goal.loop-range-preserved
loop-range-preserved c =
    let l = c.loop-range in
    let r = c.range-item.result in
    elim c.if-has_keys.branch [
      | then-has_keys+in_ok-insert+in_ok-insert-2 w ↦ cut_both c.args.ranges.now l.range-index r (search rules) c.range-item.is l.cuts.keys l.invariant
          w.insert.new.self.keys c.if-has_keys.cuts.keys w.begin.result w.end.result w.in_ok-insert.ensures.keys (ap (λ cuts. cuts.keys) w.cuts-is ∙ w.in_ok-insert-2.ensures.keys) w.begin.ensures w.end.ensures (sym c.has_keys.ensures ∙ w.if-has_keys.true)
      | else-has_keys w ↦ ap (λ cuts. map (λ cut. cut.now) cuts.keys) w.cuts-is ∙ cut_none c.args.ranges.now l.range-index r (search rules) c.range-item.is l.cuts.keys l.invariant (sym c.has_keys.ensures ∙ w.if-has_keys.false)
    ]
