use Rattle.std.proofs.Common.{rules, sym}
use Rattle.std.proofs.lemmas.Int.{to_z-of_z}
use mir.Syntax.{w32}
use mir.Val.{SFits}
use Rattle.uc_c.proofs.writing.ucstore_prepare.Goals as goal

pub returns-clause-prepares : goal.returns-clause-prepares
returns-clause-prepares c =
    let fits : SFits w32 c.prepare_ops-status.result = search rules in
    rw (to_z-of_z w32 c.prepare_ops-status.result fits, sym c.in-Some.ensures.result, c.put.ensures, sym c.take-held.ensures.result, sym c.deref_mut.ensures.value) c.prepare_ops-status.ensures.tells
