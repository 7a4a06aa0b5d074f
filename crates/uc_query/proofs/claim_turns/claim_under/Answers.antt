use Rattle.std.proofs.Common.{◌<◌, set, sym, subst, arith}
use Rattle.std.specs.Prelude.{Some}
use Rattle.uc_version.specs.declared.held_stretch.TheConstants.{MOST_CLAIMS}
use Rattle.uc_version.specs.Owners.{Owner}
use Rattle.uc_version.specs.Claiming.{Claim, with_claim}
use Rattle.uc_query.specs.Names.{AreHeld}
use Rattle.uc_query.proofs.EmptyNames.{none_at}
use Rattle.uc_query.proofs.NamesHeld.{below, named_more}
use Rattle.uc_query.proofs.claim_turns.claim_under.Goals as goal

pub returns-in-Ok-clause-held : goal.returns-in-Ok-clause-held
returns-in-Ok-clause-held g c =
    let o = c.args.owned.now in
    let names = c.args.claims.now in
    let s = c.args.stretch in
    let place = c.from-place.result in
    let are = c.requires.held in
    let room : place < MOST_CLAIMS = let e = c.from-place.ensures in let lt = c.requires.name in omega (arith, e, lt) in
    let empty = none_at names place c.index-claims-place.result (below o names are place room) c.if-is_some.ensures in
    let fine = c.in-Ok.ensures.ok.0 in
    let more = named_more o names are place room s empty (c.claims_are_held.ensures o s c.recall.ensures fine) in
    subst (λ (p : Owner). AreHeld p (set names place (Some c.in-Ok.claim))) (sym c.in-Ok.ensures.ok.2)
    (subst (λ (d : Claim). AreHeld (with_claim o d s) (set names place (Some d))) (sym c.in-Ok.ensures.ok.1) more)
