use Rattle.std.proofs.Common.{ℕ, ◌+◌, ◌-◌, ◌/◌, ◌++◌, Option, Some, subst}
use Rattle.std.proofs.lemmas.Result.{IfOk-weaker}
use Rattle.uc_logrec.specs.Format as format
use Rattle.uc_log_crash.specs.Places.{places_from, in_blocks, block_count, all_places, IsFirst}
use Rattle.uc_log_crash.proofs.Searched.{first_of_all, later_of_all}
use Rattle.uc_log_crash.proofs.search.first_told.Goals as goal

pub returns-in-Some : goal.returns-in-Some
returns-in-Some c =
    let log = c.args.log.now in
    let here = format.header_place c.args.end in
    let first = subst (λ (found : Option ℕ). IsFirst log c.args.end c.args.last (places_from log c.header_place-place.result) found) c.in-Some.is c.in_ok-found.ensures in
    let there = subst (λ (place : ℕ). IsFirst log c.args.end c.args.last (places_from log place) (Some c.in-Some.found)) c.header_place-place.ensures.value first in
    first_of_all log c.args.end c.args.last (places_from log here) (in_blocks (block_count log - (here / 32768 + 1)) log (here / 32768 + 1)) c.in-Some.found there

pub returns : goal.returns
returns c =
    let log = c.args.log.now in
    let place = c.header_place-place.result in
    let none = subst (λ (found : Option ℕ). IsFirst log c.args.end c.args.last (places_from log place) found) c.in_default.is c.in_ok-found.ensures in
    IfOk-weaker c.first_in_blocks.result
    (λ found. IsFirst log c.args.end c.args.last (in_blocks (block_count log - (place / 32768 + 1)) log (place / 32768 + 1)) found)
    (λ found. IsFirst log c.args.end c.args.last (all_places log c.args.end) found)
    (λ found first.
    subst (λ (p : ℕ). IsFirst log c.args.end c.args.last (places_from log p ++ in_blocks (block_count log - (p / 32768 + 1)) log (p / 32768 + 1)) found) c.header_place-place.ensures.value
    (later_of_all log c.args.end c.args.last (places_from log place) (in_blocks (block_count log - (place / 32768 + 1)) log (place / 32768 + 1)) found none first))
    c.first_in_blocks.ensures
