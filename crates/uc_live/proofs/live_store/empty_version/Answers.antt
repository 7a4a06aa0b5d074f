use Rattle.std.proofs.Common.{◌≡◌, ℕ, ◌+◌, List, [], sym, subst, arith}
use Rattle.uc_version_state.specs.Versions.{IsVersion, PlacedRun}
use Rattle.uc_version_state.specs.Openings.{MayOpen, opened}
use Rattle.uc_live.specs.Lives.{empty_opening, created}
use Rattle.uc_live.proofs.Taken.{version_options_good}
use Rattle.uc_live.proofs.live_store.empty_version.Goals as goal

pub new-requires-3 : goal.new-requires-3
new-requires-3 c =
    let options = c.args.options.now in
    let may : MayOpen (empty_opening options) = record { rising = tt; options_good = version_options_good options c.requires; keeps_below = tt; few = omega arith } in
    let empty : IsVersion (created options).version = c.feeds_and_keeps_give_versions.ensures.released (opened (empty_opening options)) 0 (c.opening_gives_a_version.ensures (empty_opening options) may) in
    let next : options.store.first_id + 0 ≡ options.store.first_id = omega arith in
    let begins : IsVersion (record { runs = []; keeps = []; last = 0; next_id = options.store.first_id; limit = 18446744073709551615 }) =
    subst (λ n. IsVersion (record { runs = []; keeps = []; last = 0; next_id = n; limit = 18446744073709551615 })) next empty in
    let Holds : List PlacedRun → List ℕ → Type 0 = λ runs keeps. IsVersion (record { runs = runs; keeps = keeps; last = 0; next_id = options.store.first_id; limit = 18446744073709551615 }) in
    subst (λ (runs : List PlacedRun). Holds runs c.new-2.result.items) (sym c.new.ensures.items) (subst (Holds []) (sym c.new-2.ensures.items) begins)
