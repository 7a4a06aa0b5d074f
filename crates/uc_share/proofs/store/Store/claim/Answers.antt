use Rattle.std.proofs.Common.{fold, sym, subst}
use Rattle.uc_version_state.specs.Histories.{after}
use Rattle.uc_version_compact.specs.declared.claim_error.ClaimError.{ClaimError}
use Rattle.uc_share.specs.Claims.{Claim, IsClaimRefused, claim_error}
use Rattle.uc_share.proofs.InRange.{look_refused}
use Rattle.uc_share.proofs.store.Store.claim.Goals as goal

pub returns-in-Err-clause-refused : goal.returns-in-Err-clause-refused
returns-in-Err-clause-refused g c = c.in-Err.ensures.refused (fold after g.N.Name.base c.args.reader.now)

pub returns-in-Err-look-clause-refused : goal.returns-in-Err-look-clause-refused
returns-in-Err-look-clause-refused g c =
    let v = fold after g.N.Name.base c.look.new.reader in
    let error = c.in-Err-look.error in
    let P : Claim → Type 0 = λ k. IsClaimRefused c.args.seat k.pin k.stretch v (claim_error error) in
    let Q : ClaimError → Type 0 = λ e. IsClaimRefused c.args.seat c.args.pin c.args.stretch v e in
    subst Q (sym c.claim_error.ensures) (subst P c.in-Ok.ensures.ok (look_refused c.args.seat c.in-Ok.taken c.args.reader.now c.look.new.reader v error c.recall-2.ensures c.in-Err-look.ensures.refused))
