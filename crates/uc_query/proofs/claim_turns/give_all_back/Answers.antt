use Rattle.std.proofs.Common.{List, sym, ap, ◌∙◌, subst}
use Rattle.std.specs.Prelude.{Option, fold}
use Rattle.std.specs.List.{AllByRecursion}
use Rattle.std.specs.Array.Iter.{array_into_iter_items}
use Rattle.uc_claims.specs.Holding.{AreDistinct}
use Rattle.uc_version.specs.Owners.{Owner}
use Rattle.uc_version.specs.Claiming.{Claim}
use Rattle.uc_query.specs.Names.{IsNamedHeld, numbers_of, given_back}
use Rattle.uc_query.proofs.NamesHeld.{rest_held}
use Rattle.uc_query.proofs.claim_turns.give_all_back.Goals as goal

pub loop-claim-preserved : goal.loop-claim-preserved
loop-claim-preserved g c =
    let o = c.loop-claim.owned in
    let inv = c.loop-claim.invariant in
    let behind = array_into_iter_items c.next.new.self in
    let e = c.in-Some.ensures.steps in
    let rest = rest_held o c.in-Some.claim behind (subst (AllByRecursion (IsNamedHeld o)) e inv.2) (subst (λ (names : List (Option Claim)). AreDistinct (numbers_of names)) e inv.3) in (
      tt,
      tt,
      subst (λ (p : Owner). AllByRecursion (IsNamedHeld p) behind) (sym c.give_back.ensures) rest.0,
      rest.1,
      ap (λ (p : Owner). fold given_back p behind) c.give_back.ensures ∙ sym (ap (fold given_back o) e) ∙ inv.4,
    )
