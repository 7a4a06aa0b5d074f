use Rattle.std.proofs.Common.{◌<◌, length, inl, inr, arith, refl}
use Rattle.uc_logrec.proofs.Walking.{nothing_past}
use Rattle.uc_logrec.proofs.log_reader.next_payload.Goals as goal

pub returns-in_default : goal.returns-in_default
returns-in_default c =
    let past : length c.args.log.now < c.args.offset = elim (c.in_default.ensures.lookup.0) [ inl lt ↦ lt | inr lt ↦ absurd (omega (arith, lt)) ] in
    (nothing_past c.args.log.now c.args.offset (omega (arith, past)), refl)
