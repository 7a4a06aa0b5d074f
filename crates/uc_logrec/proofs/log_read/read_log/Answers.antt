use Rattle.std.proofs.Common.{◌≡◌, ◌∙◌, ap, sym, arith}
use Rattle.uc_logrec.specs.Log.{Reading, reading_of}
use Rattle.uc_logrec.proofs.Reading.{with_front, stopped, stopped_front}
use Rattle.uc_logrec.proofs.OneMeaning.{reads_as}
use Rattle.uc_logrec.proofs.log_read.read_log.Goals as goal
use Rattle.uc_logrec.proofs.log_read.read_log.Goals.{After-drop-joined-in-Ended}

-- what is read is what was given, and this ending
whole : (c : After-drop-joined-in-Ended) → reading_of c.args.bytes.now ≡ stopped c.loop-joined.payloads.items c.in-Ended.ending
whole c =
    let l = c.loop-joined in
    l.invariant ∙ (ap (with_front l.payloads.items) (rw c.in-Ended.is at c.in_ok-payload.ensures.ok).0 ∙ stopped_front l.payloads.items c.in-Ended.ending)

pub returns-in-Ended-clause-payloads : goal.returns-in-Ended-clause-payloads
returns-in-Ended-clause-payloads c = c.from.ensures ∙ ap (λ (r : Reading). r.payloads) (sym (whole c))

pub returns-in-Ended-clause-ending : goal.returns-in-Ended-clause-ending
returns-in-Ended-clause-ending c = ap (λ (r : Reading). r.ending) (sym (whole c))

pub returns-in-Ended-clause-meaning : goal.returns-in-Ended-clause-meaning
returns-in-Ended-clause-meaning c = reads_as c.args.bytes.now _ _ (λ i. omega (arith, c.type_inv.bytes i)) (returns-in-Ended-clause-payloads c) (returns-in-Ended-clause-ending c)
