use Rattle.std.proofs.Common.{[], ap, sym, cond, arith}
use Rattle.std.proofs.lemmas.Bool.{lt-leb}
use Rattle.uc_version_state.specs.Picks.{collected}
use Rattle.uc_version_state.proofs.Collected.{no_more}
use Rattle.uc_version_state.proofs.picking.collected_enough.Goals as goal

pub returns-then-candidates-least : goal.returns-then-candidates-least
returns-then-candidates-least c =
    let o = c.args.options.now in
    let runs = c.args.candidates.now in
    let few = no_more o [] runs in
    sym (ap (λ b. cond b (collected o runs) 0) (lt-leb o.least (collected o runs) (omega (arith, few, c.if-candidates-least.true))))
