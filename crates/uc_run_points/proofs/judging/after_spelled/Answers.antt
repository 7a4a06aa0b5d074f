use Rattle.std.proofs.Common.{◌+◌, length, sym, ◌∙◌, subst}
use Rattle.std.proofs.lemmas.Bool.{false≢true}
use Rattle.std.proofs.lemmas.List.{take_rest}
use Rattle.uc_run_points.specs.Spelling.{text_of, trailer_of}
use Rattle.uc_run_points.specs.Faults.{Begins}
use Rattle.uc_run_points.proofs.EntriesAgain.{trailer_fits}
use Rattle.uc_run_points.proofs.Judged.{in_parts, same_head, whole_head, head_begins}
use Rattle.uc_run_points.proofs.judging.after_spelled.Goals as goal

pub returns-in_err-head-clause-none : goal.returns-in_err-head-clause-none
returns-in_err-head-clause-none c = rw c.from_residual.ensures (λ rest b.
    let e = b.entry in
    c.in_err-head.ensures.none (length e.key) (length (text_of e.what)) (trailer_of e) _ b.fits.key b.fits.text (trailer_fits e b.fits.seq) (in_parts e c.args.bytes.now rest b.spelled))

pub returns-then-not-is_whole-clause-none : goal.returns-then-not-is_whole-clause-none
returns-then-not-is_whole-clause-none c = λ after b.
    let h = c.in_ok-head.head in
    let bound = c.in_ok-head.ensures.bound in
    let is = same_head c.args.bytes.now h.rest.now h.key_len h.text_len h.trailer bound.0 bound.1 bound.2 c.in_ok-head.ensures.some after b in
    false≢true (sym c.if-not-is_whole.true ∙ c.is_whole.ensures.1 (whole_head h.key_len h.text_len h.trailer h.rest.now b.entry after is))

pub returns-clause-some : goal.returns-clause-some
returns-clause-some c =
    let h = c.in_ok-head.head in
    let bound = c.in_ok-head.ensures.bound in
    subst (Begins c.args.bytes.now) (sym (take_rest h.rest.now (h.key_len + h.text_len)))
    (head_begins c.args.bytes.now h.rest.now h.key_len h.text_len h.trailer bound.0 bound.1 bound.2 c.in_ok-head.ensures.some (c.is_whole.ensures.0 c.if-not-is_whole.false))
