use Rattle.std.proofs.Common.{◌≡◌, ◌≤◌, sym, ap, ◌∙◌, subst, arith}
use Rattle.uc_folder.specs.Device.{first_number}
use Rattle.uc_folder.specs.Listing as listing
use Rattle.uc_folder.proofs.Names.{log_least, greatest_least}
use Rattle.uc_folder.proofs.listing.found_in.Goals as goal

pub returns-then-not-is_there : goal.returns-then-not-is_there
returns-then-not-is_there c =
    let bases = c.args.bases.now in
    let logs = c.args.logs.now in
    let same : c.log_in-log.result ≡ listing.log_in (listing.base_in bases) logs = c.log_in-log.ensures ∙ ap (λ b. listing.log_in b logs) c.base_in-base.ensures in
    (subst (λ n. listing.base_in bases ≤ n) (sym same) (log_least (listing.base_in bases) logs), omega (arith, same), (let lt = c.if-log-gt-FIRST.true in omega (arith, same, lt)), sym c.is_listed-is_there.ensures ∙ c.if-not-is_there.true)

pub returns-in-Some : goal.returns-in-Some
returns-in-Some c =
    let bases = c.args.bases.now in
    let logs = c.args.logs.now in
    let base : c.base_in-base.result ≡ listing.base_in bases = c.base_in-base.ensures in
    let same : c.log_in-log.result ≡ listing.log_in (listing.base_in bases) logs = c.log_in-log.ensures ∙ ap (λ b. listing.log_in b logs) base in
    let is = c.in-Some.ensures in
    let from = is.0 in
    let to = is.1 in
    let first : first_number ≤ listing.base_in bases = greatest_least first_number bases in
    (omega (arith, base, from), omega (arith, same, to), omega (arith, same, to, from, base, first), is.2)
