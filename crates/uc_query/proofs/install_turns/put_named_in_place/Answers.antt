use Rattle.std.proofs.Common.{◌≡◌, ◌<◌, get_or, set, sym, ap, ◌∙◌, subst, arith}
use Rattle.std.specs.Prelude.{Option, Some, None}
use Rattle.uc_version.specs.declared.held_stretch.TheConstants.{MOST_CLAIMS}
use Rattle.uc_version_compact.specs.declared.install_error.InstallError.TheVariants.{IdsSpent}
use Rattle.uc_version.specs.Owners.{Owner}
use Rattle.uc_version.specs.Claiming.{Claim}
use Rattle.uc_query.specs.declared.reply.Reply.TheVariants.{NotInstalled}
use Rattle.uc_query.specs.Names.{AreHeld}
use Rattle.uc_query.specs.Turns.{compacted}
use Rattle.uc_query.proofs.EmptyNames.{found_at}
use Rattle.uc_query.proofs.NamesHeld.{below, named_installed}
use Rattle.uc_query.proofs.Undone.{put_back, same_turn, not_installed}
use Rattle.uc_query.proofs.install_turns.put_named_in_place.Goals as goal

pub returns-in-Ok-clause-held : goal.returns-in-Ok-clause-held
returns-in-Ok-clause-held g c =
    let o = c.args.owned.now in
    let names = c.args.claims.now in
    let place = c.from-place.result in
    let are = c.requires.held in
    let m = g.O.Operator.meaning in
    let claim = c.in-Some.claim in
    let room : place < MOST_CLAIMS = let e = c.from-place.ensures in let lt = c.requires.name in omega (arith, e, lt) in
    let here : get_or names place None ≡ Some claim = found_at names place c.index-claims-place.result None c.take.result (below o names are place room) c.take.ensures.value ∙ c.in-Some.is in
    subst (λ (p : Owner). AreHeld p (set names place c.take.new.self)) (sym c.in-Ok.ensures.ok.2)
    (subst (λ (d : Option Claim). AreHeld (compacted m o claim) (set names place d)) (sym c.take.ensures.after)
    (named_installed o names are place room claim here m))

pub returns-in-Err-clause-held : goal.returns-in-Err-clause-held
returns-in-Err-clause-held g c =
    let o = c.args.owned.now in
    let names = c.args.claims.now in
    let place = c.from-place.result in
    let are = c.requires.held in
    let claim = c.in-Some.claim in
    let room : place < MOST_CLAIMS = let e = c.from-place.ensures in let lt = c.requires.name in omega (arith, e, lt) in
    let here : get_or names place None ≡ Some claim = found_at names place c.index-claims-place.result None c.take.result (below o names are place room) c.take.ensures.value ∙ c.in-Some.is in
    let same = put_back names place c.take.new.self (Some c.in-Err.back) (here ∙ ap Some (sym c.in-Err.ensures.err.1)) in
    subst (λ (p : Owner). AreHeld p (set (set names place c.take.new.self) place (Some c.in-Err.back))) (sym c.in-Err.ensures.err.2) (subst (AreHeld o) (sym same) are)

pub returns-in-Err-clause-turn : goal.returns-in-Err-clause-turn
returns-in-Err-clause-turn g c =
    let o = c.args.owned.now in
    let names = c.args.claims.now in
    let place = c.from-place.result in
    let are = c.requires.held in
    let claim = c.in-Some.claim in
    let room : place < MOST_CLAIMS = let e = c.from-place.ensures in let lt = c.requires.name in omega (arith, e, lt) in
    let here : get_or names place None ≡ Some claim = found_at names place c.index-claims-place.result None c.take.result (below o names are place room) c.take.ensures.value ∙ c.in-Some.is in
    let same = put_back names place c.take.new.self (Some c.in-Err.back) (here ∙ ap Some (sym c.in-Err.ensures.err.1)) in
    let named : get_or names c.args.name None ≡ Some claim = ap (λ i. get_or names i None) (sym c.from-place.ensures) ∙ here in
    not_installed g.O.Operator.meaning (record { owner = o; names = names }) c.args.name (get_or names c.args.name None) claim named c.in-Err.ensures.err.0
    ∙ same_turn (NotInstalled IdsSpent) o c.put_in_place.new.owned names (set (set names place c.take.new.self) place (Some c.in-Err.back)) c.in-Err.ensures.err.2 same
