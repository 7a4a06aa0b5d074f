use Rattle.std.proofs.Common.{rules, map, ap, sym, ◌∙◌}
use Rattle.uc_run_entry.proofs.Covered.{span_pushed, span_left}
use Rattle.uc_run_entry.proofs.spanning.spans_of.Goals.{then-has_pieces+in_ok-push, else-has_pieces}
use Rattle.uc_run_entry.proofs.spanning.spans_of.Goals as goal

pub loop-range-preserved : goal.loop-range-preserved
loop-range-preserved c =
    let l = c.loop-range in
    let cuts = map (λ cut. cut.now) c.args.cuts.now in
    let r = c.range-item.result in
    elim c.if-has_pieces.branch [
      | then-has_pieces+in_ok-push w ↦ span_pushed cuts c.args.ranges.now l.range-index r (search rules) c.range-item.is l.spans.items l.invariant c.span_of-span.result c.span_of-span.ensures
          c.if-has_pieces.spans.items (ap (λ spans. spans.items) w.spans-is ∙ w.in_ok-push.ensures.items) (sym c.has_pieces.ensures ∙ w.if-has_pieces.true)
      | else-has_pieces w ↦ ap (λ spans. spans.items) w.spans-is
          ∙ span_left cuts c.args.ranges.now l.range-index r (search rules) c.range-item.is l.spans.items l.invariant c.span_of-span.result c.span_of-span.ensures (sym c.has_pieces.ensures ∙ w.if-has_pieces.false)
    ]
