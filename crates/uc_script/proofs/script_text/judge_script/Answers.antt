use Rattle.std.proofs.Common.{◌-◌, length, refl}
use Rattle.std.proofs.lemmas.Result.{err_from_is_err_and}
use Rattle.uc_script.specs.Reading.{seen}
use Rattle.uc_script.proofs.CallsAhead.{script_of-judged, script_of-judged_at}
use Rattle.uc_script.proofs.Rests.{rest_is}
use Rattle.uc_script.proofs.Whole.{script_of-at_setup}
use Rattle.uc_script.proofs.script_text.judge_script.Goals as goal

pub returns-in_err-opened-clause-read : goal.returns-in_err-opened-clause-read
returns-in_err-opened-clause-read c =
    let p = err_from_is_err_and c.from_residual.result c.from_residual.ensures.1 in
    rw (p.1, p.2) (script_of-at_setup c.args.text.now c.in_err-opened.field-0.0 c.in_err-opened.ensures.read)

pub returns-in_err-judge_calls-clause-read : goal.returns-in_err-judge_calls-clause-read
returns-in_err-judge_calls-clause-read c =
    let p = err_from_is_err_and c.from_residual-in_err-judge_calls.result c.from_residual-in_err-judge_calls.ensures.1 in
    rw (p.1, p.2) (script_of-judged_at c.args.text.now (seen c.in_ok-opened.opened) c.in_err-judge_calls.field-0.0 c.in_ok-opened.ensures.read c.in_err-judge_calls.ensures)

pub returns-clause-read : goal.returns-clause-read
returns-clause-read c =
    let text = c.args.text.now in
    let rest = c.in_ok-opened.opened.rest.now in
    rw (c.from.ensures, c.from-2.ensures)
    (script_of-judged text rest (length text - length rest) (seen c.in_ok-opened.opened) c.in_ok-judge_calls.field-0 c.in_ok-opened.ensures.read refl c.in_ok-judge_calls.ensures (rest_is text rest c.in_ok-opened.ensures.rest))
