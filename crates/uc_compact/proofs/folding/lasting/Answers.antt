use Rattle.std.proofs.Common.{rules, ◌≡◌, true, false, subst}
use Rattle.std.proofs.lemmas.Iterator.{YieldsList-from_slice, IsFirst-from_position}
use Rattle.std.specs.Option.{MatchOption}
use Rattle.std.specs.List.{AllWithin, HoldsAt}
use Rattle.std.specs.Prelude.{ℕ, Option, length, ◌<◌}
use Rattle.uc_run_entry.specs.Overwriting.{overwrites}
use Rattle.uc_compact.proofs.InTurn.{lasting_first}
use Rattle.uc_compact.proofs.folding.lasting.Goals as goal

pub returns-in-Some : goal.returns-in-Some
returns-in-Some c m before =
    let points = c.args.points.now in
    let first = IsFirst-from_position _ _ c.position.result (λ p. overwrites p ≡ true) (λ p. overwrites p ≡ false) c.position.ensures.ran (YieldsList-from_slice _ c.iter.ensures.rest) (λ x q k. search rules) (λ x q k. search rules) in
    let here = subst (λ (r : Option ℕ). MatchOption r (AllWithin (λ p. overwrites p ≡ false) points 0 (length points)) (λ i. (i < length points) × HoldsAt (λ p. overwrites p ≡ true) points i × AllWithin (λ p. overwrites p ≡ false) points 0 i)) c.in-Some.is first in
    lasting_first m before points c.in-Some.place here.0 here.1
