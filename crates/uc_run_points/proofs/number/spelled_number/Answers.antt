use Rattle.std.proofs.Common.{rules, ◌≡◌, ◌-◌, ◌≤◌, get_or, length, take, drop, ap, sym, ◌∙◌, arith}
use Rattle.std.proofs.lemmas.Bool.{false≢true}
use Rattle.uc_run_points.specs.Numbers.{width_of}
use Rattle.std.specs.Int.{w64, from_le_bytes}
use Rattle.uc_run_points.proofs.Judged.{short_there, long_there, no_number, long_spelled}
use Rattle.uc_run_points.proofs.number.spelled_number.Goals as goal

pub returns-in_default-clause-none : goal.returns-in_default-clause-none
returns-in_default-clause-none c = λ n rest fits eq. no_number n c.args.bytes.now rest (omega (arith, c.in_default.len_below)) eq

pub returns-then-first-le-LONG-clause-some : goal.returns-then-first-le-LONG-clause-some
returns-then-first-le-LONG-clause-some c =
    short_there c.args.bytes.now c.from.result c.in-len1-up.len_at_least (search rules) (omega (arith, c.from.ensures, c.if-first-le-LONG.true))

pub returns-then-width-rest-clause-none : goal.returns-then-width-rest-clause-none
returns-then-width-rest-clause-none c = λ n rest fits eq.
    let is = long_there c.args.bytes.now n rest c.in-len1-up.len_at_least c.if-first-le-LONG.false fits eq in
    absurd (omega (arith, is.there, c.if-width-rest.true, c.from-width.ensures))

pub returns-then-not-needs-clause-none : goal.returns-then-not-needs-clause-none
returns-then-not-needs-clause-none c = λ n rest fits eq.
    let bytes = c.args.bytes.now in
    let is = long_there bytes n rest c.in-len1-up.len_at_least c.if-first-le-LONG.false fits eq in
    let low : c.split_at.result.0.now ≡ take (get_or bytes 0 0 - 247) (take (length bytes - 1) (drop 1 bytes)) = c.split_at.ensures.front ∙ ap (λ k. take k (take (length bytes - 1) (drop 1 bytes))) c.from-width.ensures in
    let read : c.low_number-number.result ≡ n = c.low_number-number.ensures ∙ (ap (from_le_bytes w64) low ∙ is.number) in
    let large : 248 ≤ c.low_number-number.result = omega (arith, read, is.large) in
    let width : width_of c.low_number-number.result ≡ c.from-width.result = ap width_of read ∙ (is.width ∙ sym c.from-width.ensures) in
    false≢true (sym c.if-not-needs.true ∙ c.needs.ensures.1 (large, width))

pub returns-clause-some : goal.returns-clause-some
returns-clause-some c =
    let is = c.needs.ensures.0 c.if-not-needs.false in
    long_spelled c.args.bytes.now c.split_at.result.0.now c.split_at.result.1.now c.low_number-number.result c.from-width.result (λ i. omega (arith, c.type_inv.bytes i))
    c.in-len1-up.len_at_least c.if-first-le-LONG.false c.from-width.ensures c.if-width-rest.false c.split_at.ensures.front c.split_at.ensures.back
    c.low_number-number.ensures is.0 is.1
