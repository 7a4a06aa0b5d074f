use Rattle.std.proofs.Common.{◌++◌}
use Rattle.uc_run_points.specs.Numbers.{number_text}
use Rattle.uc_run_points.proofs.Judged.{two_numbers}
use Rattle.uc_run_points.proofs.judging.spelled_head.Goals as goal

pub returns-in_err-text_len-clause-none : goal.returns-in_err-text_len-clause-none
returns-in_err-text_len-clause-none c = rw c.from_residual-in_err-text_len.ensures (λ k t s rest fk ft fs eq.
    let one = two_numbers c.args.bytes.now c.in_ok-key_len.rest.now (number_text t ++ (number_text s ++ rest)) c.in_ok-key_len.key_len k c.in_ok-key_len.ensures.bound fk c.in_ok-key_len.ensures.some eq in
    c.in_err-text_len.ensures.none t (number_text s ++ rest) ft one.1)

pub returns-in_err-trailer-clause-none : goal.returns-in_err-trailer-clause-none
returns-in_err-trailer-clause-none c = rw c.from_residual-in_err-trailer.ensures (λ k t s rest fk ft fs eq.
    let one = two_numbers c.args.bytes.now c.in_ok-key_len.rest.now (number_text t ++ (number_text s ++ rest)) c.in_ok-key_len.key_len k c.in_ok-key_len.ensures.bound fk c.in_ok-key_len.ensures.some eq in
    let two = two_numbers c.in_ok-key_len.rest.now c.in_ok-text_len.rest.now (number_text s ++ rest) c.in_ok-text_len.text_len t c.in_ok-text_len.ensures.bound ft c.in_ok-text_len.ensures.some one.1 in
    c.in_err-trailer.ensures.none s rest fs two.1)
