use Rattle.std.proofs.Common.{◌++◌}
use Rattle.uc_run_points.specs.Numbers.{number_text}
use Rattle.uc_run_file.specs.Spelling.{string_text}
use Rattle.uc_run_file.proofs.StringText.{two_strings}
use Rattle.uc_run_file.proofs.fragment_reader.read_head.Goals as goal

pub returns-in_err-begin-clause-none : goal.returns-in_err-begin-clause-none
returns-in_err-begin-clause-none c = rw c.from_residual.ensures (λ begin end count rest h.
    c.in_err-begin.ensures.none begin (string_text end ++ (number_text count ++ rest)) h.begin_fits h.spelled)

pub returns-in_err-end-clause-none : goal.returns-in_err-end-clause-none
returns-in_err-end-clause-none c = rw c.from_residual-in_err-end.ensures (λ begin end count rest h.
    let one = two_strings c.args.bytes.now c.in_ok-begin.begin.now begin c.in_ok-begin.rest.now (string_text end ++ (number_text count ++ rest)) c.in_ok-begin.ensures.bound h.begin_fits c.in_ok-begin.ensures.some h.spelled in
    c.in_err-end.ensures.none end (number_text count ++ rest) h.end_fits one.1)

pub returns-in_err-count-clause-none : goal.returns-in_err-count-clause-none
returns-in_err-count-clause-none c = rw c.from_residual-in_err-count.ensures (λ begin end count rest h.
    let one = two_strings c.args.bytes.now c.in_ok-begin.begin.now begin c.in_ok-begin.rest.now (string_text end ++ (number_text count ++ rest)) c.in_ok-begin.ensures.bound h.begin_fits c.in_ok-begin.ensures.some h.spelled in
    let two = two_strings c.in_ok-begin.rest.now c.in_ok-end.end.now end c.in_ok-end.rest.now (number_text count ++ rest) c.in_ok-end.ensures.bound h.end_fits c.in_ok-end.ensures.some one.1 in
    c.in_err-count.ensures.none count rest h.count_fits two.1)
