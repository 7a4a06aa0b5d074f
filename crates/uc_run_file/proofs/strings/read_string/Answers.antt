use Rattle.std.proofs.Common.{length}
use Rattle.uc_run_file.proofs.StringText.{in_parts, too_long, string_there}
use Rattle.std.proofs.Common.{◌∙◌, ◌++◌}
use Rattle.uc_run_file.proofs.strings.read_string.Goals as goal

pub returns-in_err-len-clause-none : goal.returns-in_err-len-clause-none
returns-in_err-len-clause-none c = rw c.from_residual.ensures (λ s rest fits e. c.in_err-len.ensures.none (length s) (s ++ rest) fits (e ∙ in_parts s rest))

pub returns-then-rest-len-clause-none : goal.returns-then-rest-len-clause-none
returns-then-rest-len-clause-none c = λ s rest fits e.
    too_long c.args.bytes.now c.in_ok-len.rest.now s rest c.in_ok-len.len c.in_ok-len.ensures.bound fits c.in_ok-len.ensures.some e c.if-rest-len.true

pub returns-clause-some : goal.returns-clause-some
returns-clause-some c =
    string_there c.args.bytes.now c.in_ok-len.rest.now c.split_at.result.0.now c.split_at.result.1.now c.in_ok-len.len c.in_ok-len.ensures.some c.if-rest-len.false c.split_at.ensures.front c.split_at.ensures.back
