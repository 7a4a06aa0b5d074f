use Rattle.std.proofs.Common.{sym, subst}
use Rattle.std.specs.Prelude.{◌↔◌, IsTrue, Contains}
use Rattle.uc_version_state.proofs.Searched.{is_found}
use Rattle.uc_version_state.proofs.snapshots.is_among.Goals as goal

pub returns : goal.returns
returns c =
    subst (λ b. IsTrue b ↔ Contains c.args.keeps.now c.args.seq) (sym c.is_ok.ensures.value)
    (is_found c.args.keeps.now c.args.seq c.requires c.binary_search.result c.binary_search.ensures.position)
