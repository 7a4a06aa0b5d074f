use Rattle.std.proofs.lemmas.Result.{err_from_is_err_and}
use Rattle.uc_script.specs.Reading.{seen}
use Rattle.uc_script.proofs.Whole.{script_of-read, script_of-at_setup, script_of-at_calls}
use Rattle.uc_script.proofs.script_text.read_script.Goals as goal

pub returns-in_err-opened : goal.returns-in_err-opened
returns-in_err-opened c =
    let p = err_from_is_err_and c.from_residual.result c.from_residual.ensures.1 in
    rw (p.1, p.2) (script_of-at_setup c.args.text.now c.in_err-opened.field-0.0 c.in_err-opened.ensures.read)

pub returns-in_err-calls : goal.returns-in_err-calls
returns-in_err-calls c =
    let p = err_from_is_err_and c.from_residual-in_err-calls.result c.from_residual-in_err-calls.ensures.1 in
    rw (p.1, p.2) (script_of-at_calls c.args.text.now (seen c.in_ok-opened.opened) c.in_err-calls.field-0.0 c.in_ok-opened.ensures.read c.in_err-calls.ensures)

pub returns : goal.returns
returns c =
    rw (c.from.ensures, c.from-2.ensures, c.from-3.ensures)
    (script_of-read c.args.text.now (seen c.in_ok-opened.opened) c.in_ok-calls.calls.items c.in_ok-opened.ensures.read c.in_ok-calls.ensures)
