use Rattle.std.proofs.Common.{◌≡◌}
use Rattle.std.specs.Prelude.{fold}
use Rattle.std.specs.List.{AllByRecursion}
use Rattle.std.specs.Array.Iter.{array_into_iter_items}
use Rattle.uc_claims.specs.Holding.{AreDistinct}
use Rattle.uc_query.specs.Names.{IsNamedHeld, numbers_of, given_back}
use Rattle.uc_query.proofs.claim_turns.give_all_back.Given as goal

abbrev pub invariant-loop-claim : goal.invariant-loop-claim
invariant-loop-claim g l =
    (goal.iterator-loop-claim g).can_next l.claim-iterator ×
    (goal.iterator-loop-claim g).is_finite l.claim-iterator ×
    AllByRecursion (IsNamedHeld l.owned) (array_into_iter_items l.claim-iterator) ×
    AreDistinct (numbers_of (array_into_iter_items l.claim-iterator)) ×
    (fold given_back l.owned (array_into_iter_items l.claim-iterator) ≡ fold given_back l.fn.owned l.fn.claims)
