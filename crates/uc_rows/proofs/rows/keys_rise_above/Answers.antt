use Rattle.std.proofs.Common.{◌≡◌, List, refl, sym, ap, ◌∙◌, subst}
use Rattle.std.specs.Prelude.{◌↔◌}
use Rattle.std.specs.Ordering.{is_lt}
use Rattle.std.proofs.lemmas.Bool.{false≢true}
use Rattle.uc_rows.specs.RowBytes.{Row}
use Rattle.uc_rows.proofs.RowOrder.{RiseAbove, one_rises, next_rises, next_falls}
use Rattle.uc_rows.proofs.rows.keys_rise_above.Goals as goal

pub loop-key-init : goal.loop-key-init
loop-key-init c =
    let same : c.into_iter-key-iterator.result ≡ c.args.rows = c.into_iter-key-iterator.ensures.into_iter_gives in
    subst (λ (rows : List Row). RiseAbove c.args.first.now rows ↔ RiseAbove c.args.first.now c.args.rows) (sym same) (λ r. r, λ r. r)

pub returns-then-not-is_lt : goal.returns-then-not-is_lt
returns-then-not-is_lt c =
    let l = c.loop-key in
    let row : Row = (c.in-Some.key.now, c.in-Some.field-0-1.now) in
    let falls = next_falls l.last.now row c.next.new.self (ap is_lt (sym c.cmp.ensures) ∙ sym c.is_lt.ensures ∙ c.if-not-is_lt.true) in (
      λ t. absurd (false≢true t),
      λ rise. absurd (falls (subst (RiseAbove l.last.now) c.in-Some.ensures.steps (l.invariant.1 rise))),
    )

pub loop-key-preserved : goal.loop-key-preserved
loop-key-preserved c =
    let l = c.loop-key in
    let row : Row = (c.in-Some.key.now, c.in-Some.field-0-1.now) in
    let rises = next_rises l.last.now row c.next.new.self (ap is_lt (sym c.cmp.ensures) ∙ sym c.is_lt.ensures ∙ c.if-not-is_lt.false) in (
      λ rise. l.invariant.0 (subst (RiseAbove l.last.now) (sym c.in-Some.ensures.steps) (rises.0 rise)),
      λ rise. rises.1 (subst (RiseAbove l.last.now) c.in-Some.ensures.steps (l.invariant.1 rise)),
    )

pub returns : goal.returns
returns c =
    let l = c.loop-key in
    (λ t. l.invariant.0 (subst (RiseAbove l.last.now) (sym c.in-None.ensures.steps.0) (one_rises l.last.now)), λ rise. refl)
