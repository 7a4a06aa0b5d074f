use Rattle.std.proofs.Common.{sym, subst}
use Rattle.uc_version.specs.Owners.{Owner}
use Rattle.uc_query.specs.Names.{AreHeld}
use Rattle.uc_query.proofs.NamesHeld.{held_compacted}
use Rattle.uc_query.proofs.install_turns.compact_at_once.Goals as goal

pub returns-in-Ok-clause-held : goal.returns-in-Ok-clause-held
returns-in-Ok-clause-held g c = λ names are.
    subst (λ (p : Owner). AreHeld p names) (sym c.in-Ok.ensures.ok.3) (held_compacted g.O.Operator.meaning c.args.owned.now c.args.stretch names are)
