use Rattle.std.proofs.Common.{◌-◌, ◌∙◌, ℕ, ap, sym}
use Rattle.uc_run.proofs.FirstWrites.{last_there, none_last}
use Rattle.uc_run.proofs.slot_totals.last_seq.Goals as goal

pub returns-in-None : goal.returns-in-None
returns-in-None c =
    sym (none_last c.args.slots.now c.saturating_sub.result (c.saturating_sub.ensures ∙ ap (λ (n : ℕ). n - 1) c.len.ensures.count) (sym c.in-None.ensures))

pub returns-in-Some : goal.returns-in-Some
returns-in-Some c =
    c.seq.ensures
    ∙ sym (last_there c.args.slots.now c.saturating_sub.result c.in-Some.slot (c.saturating_sub.ensures ∙ ap (λ (n : ℕ). n - 1) c.len.ensures.count) (sym c.in-Some.ensures))
