use Rattle.std.proofs.Common.{◌≡◌, ◌<◌, get_or, set, sym, ◌∙◌, subst, arith}
use Rattle.std.specs.Prelude.{Option, Some, None}
use Rattle.uc_version.specs.declared.held_stretch.TheConstants.{MOST_CLAIMS}
use Rattle.uc_version.specs.Owners.{Owner}
use Rattle.uc_version.specs.Claiming.{Claim, without_claim}
use Rattle.uc_query.specs.Names.{AreHeld}
use Rattle.uc_query.proofs.EmptyNames.{found_at}
use Rattle.uc_query.proofs.NamesHeld.{below, named_back}
use Rattle.uc_query.proofs.claim_turns.abandon_under.Goals as goal

pub returns-in-Some-clause-held : goal.returns-in-Some-clause-held
returns-in-Some-clause-held g c =
    let o = c.args.owned.now in
    let names = c.args.claims.now in
    let place = c.from.result in
    let are = c.requires.held in
    let room : place < MOST_CLAIMS = let e = c.from.ensures in let lt = c.requires.name in omega (arith, e, lt) in
    let here : get_or names place None ≡ Some c.in-Some.claim = found_at names place c.index-claims-from.result None c.take.result (below o names are place room) c.take.ensures.value ∙ c.in-Some.is in
    subst (λ (p : Owner). AreHeld p (set names place c.take.new.self)) (sym c.abandon.ensures)
    (subst (λ (d : Option Claim). AreHeld (without_claim o c.in-Some.claim) (set names place d)) (sym c.take.ensures.after)
    (named_back o names are place room c.in-Some.claim here))
