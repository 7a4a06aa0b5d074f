use Rattle.std.proofs.Common.{sym, ◌∙◌, ◌≡◌, ◌≤◌, ◌<◌, ◌-◌, List, ℕ, Option, Bor, ap, subst, map, length}
use Rattle.std.specs.Prelude.{MatchOption}
use Rattle.std.specs.Ordering.{is_lt}
use Rattle.std.specs.List.{HoldsAt}
use Rattle.std.specs.List.Sorted.{IsStrictlySortedBy}
use Rattle.uc_bytes.specs.Bytes.{bytes_cmp}
use Rattle.uc_compact.proofs.Keys.{lt_of}
use Rattle.uc_compact.proofs.Rising.{rises_first, rises_above}
use Rattle.uc_compact.proofs.cuts.push_above.Goals as goal
use Rattle.uc_compact.proofs.cuts.push_above.Goals.{in-None, in-Some}

pub returns-in_ok-push-clause-rise : goal.returns-in_ok-push-clause-rise
returns-in_ok-push-clause-rise c =
    let keys = c.args.cuts.now.items in
    let seen = c.deref.result.now in
    subst (λ cuts. IsStrictlySortedBy bytes_cmp (map (λ cut. cut.now) cuts)) (sym c.in_ok-push.ensures.items)
    (elim c.match-last.branch [
      | in-None w ↦
          rises_first (λ cut. cut.now) c.args.key seen keys c.deref.ensures.value
          (subst (λ (r : Option (Bor (Bor (List ℕ)))). MatchOption r (length seen ≤ 0) (λ x. (0 < length seen) × HoldsAt (λ y. x.now ≡ y) seen (length seen - 1))) w.in-None.is c.last.ensures.item.3)
          c.requires
      | in-Some w ↦
          rises_above (λ cut. cut.now) c.args.key seen keys w.in-Some.last.now c.deref.ensures.value
          (subst (λ (r : Option (Bor (Bor (List ℕ)))). MatchOption r (length seen ≤ 0) (λ x. (0 < length seen) × HoldsAt (λ y. x.now ≡ y) seen (length seen - 1))) w.in-Some.is c.last.ensures.item.3)
          (lt_of w.in-Some.last.now.now c.args.key.now (ap is_lt (sym w.cmp-in-Some.ensures) ∙ sym w.is_lt-above-in-Some.ensures ∙ sym w.above-is ∙ c.if-above.true))
          c.requires
    ])
