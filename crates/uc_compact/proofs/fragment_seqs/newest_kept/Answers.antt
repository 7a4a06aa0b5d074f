use Rattle.std.proofs.Common.{sym, ◌∙◌}
use Rattle.uc_compact.proofs.Newest.{bottom_keeps_none, first_is_kept, newest_is_kept}
use Rattle.uc_compact.proofs.fragment_seqs.newest_kept.Goals as goal

pub returns-then-is_bottom : goal.returns-then-is_bottom
returns-then-is_bottom c = λ rest fall some first is same. bottom_keeps_none c.args.keeping.now c.args.stripe.now c.args.newest c.args.seqs.now rest fall some first (sym c.is_bottom.ensures ∙ c.if-is_bottom.true)

pub returns-then-has : goal.returns-then-has
returns-then-has c = λ rest fall some first is same. first_is_kept c.args.keeping.now c.args.stripe.now c.args.newest c.args.seqs.now rest fall some first (sym c.is_bottom.ensures ∙ c.if-is_bottom.false) (sym c.has.ensures ∙ c.if-has.true)

pub returns-else-has : goal.returns-else-has
returns-else-has c = λ rest fall some first is same. newest_is_kept c.args.keeping.now c.args.stripe.now c.args.newest c.args.seqs.now rest fall some first c.newest_of.result (sym c.is_bottom.ensures ∙ c.if-is_bottom.false) (sym c.has.ensures ∙ c.if-has.false) is same c.newest_of.ensures
