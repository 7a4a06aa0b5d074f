use Rattle.std.proofs.Common.{ℕ, List, Some, min, option_map, take, sym, ap, subst, ◌∙◌}
use Rattle.uc_checkpoint.specs.HeldCheckpoints.{Splits}
use Rattle.uc_rows.proofs.Passed.{row_of}
use Rattle.uc_checkpoint.proofs.Batched.{Row, splits_before, splits_none}
use Rattle.uc_checkpoint.proofs.checkpoint.split.Goals as goal
use Rattle.uc_checkpoint.proofs.checkpoint.split.Goals.{in-Some+in_ok-from_slice-in-Some, in-None}

pub returns-clause-splits : goal.returns-clause-splits
returns-clause-splits c =
    let rows = c.args.rows in
    let most = c.args.most in
    let count = c.min-count.result in
    let few = c.min-count.ensures ∙ ap (λ (n : ℕ). min n most) c.len.ensures.count in
    elim c.match-get.branch [
      | in-Some+in_ok-from_slice-in-Some w ↦
          let row : Row = (w.in-Some.key.now, w.in-Some.field-0-1.now) in
          let there = sym c.get.ensures ∙ ap (option_map row_of) w.in-Some.is in
          subst (Splits most rows (take count rows)) (sym (w.next-is ∙ ap (λ (key : List ℕ). Some key) w.in_ok-from_slice-in-Some.ensures)) (splits_before rows most count row few c.requires there)
      | in-None w ↦
          let none = sym c.get.ensures ∙ ap (option_map row_of) w.in-None.is in
          subst (Splits most rows (take count rows)) (sym w.next-is) (splits_none rows most count few none)
    ]
