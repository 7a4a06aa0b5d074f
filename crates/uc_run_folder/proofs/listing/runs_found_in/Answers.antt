use Rattle.std.proofs.Common.{sym, ◌∙◌, arith}
use Rattle.uc_run_folder.proofs.Finding.{missing_some, missing_none}
use Rattle.uc_run_folder.proofs.listing.runs_found_in.Goals as goal

pub returns-in-Some : goal.returns-in-Some
returns-in-Some c = missing_some c.args.named.now c.args.listed.now c.in-Some.run' (sym c.missing_in.ensures ∙ c.in-Some.is)

pub returns : goal.returns
returns c =
    let last = c.greatest_in-last.ensures in
    let few = c.if-last-gt-LAST.false in
    (missing_none c.args.named.now c.args.listed.now (sym c.missing_in.ensures ∙ c.in_default.is), omega (arith, last), omega (arith, last, few))
