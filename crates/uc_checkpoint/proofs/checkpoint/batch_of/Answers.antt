use Rattle.std.proofs.Common.{◌≡◌, ◌+◌, ◌<◌, ℕ, List, ◌∷◌, ◌++◌, [], length, take, drop, sym, ap, subst, ◌∙◌, arith}
use Rattle.std.proofs.lemmas.List.{length_push}
use Rattle.std.proofs.lemmas.Result.{err_from_is_err_and}
use Rattle.uc_bytes.specs.declared.op.Op.{Op}
use Rattle.uc_rows.proofs.Fitted.{behind_row}
use Rattle.uc_checkpoint.specs.Checkpoints.{put_of, puts_of}
use Rattle.uc_checkpoint.specs.HeldCheckpoints.{RefusesRows}
use Rattle.uc_checkpoint.proofs.Batched.{put_more, put_all, refused_there}
use Rattle.uc_checkpoint.proofs.checkpoint.batch_of.Goals as goal
use Rattle.uc_checkpoint.proofs.checkpoint.batch_of.Goals.{in-None, in-Some+then-len-count}

pub loop-key-preserved : goal.loop-key-preserved
loop-key-preserved c =
    let l = c.loop-key in
    let rows = c.args.rows.now in
    let row : List ℕ × List ℕ = (c.in-Some.key.now, c.in-Some.value.now) in
    let n = length l.batch in
    let next = l.invariant.ahead ∙ c.in-Some.ensures.steps in
    let pushed : c.push_row.new.batch ≡ l.batch ++ put_of row ∷ [] = c.in_ok-push_row.ensures.ok in
    let more : length c.push_row.new.batch ≡ n + 1 = ap (λ (ops : List Op). length ops) pushed ∙ length_push l.batch (put_of row) in
    record {
      few = omega (arith, more, c.if-len-count.false, c.len.ensures);
      puts = subst (λ (k : ℕ). c.push_row.new.batch ≡ puts_of (take k rows)) (sym more) (pushed ∙ put_more rows c.next.new.self row n l.batch next l.invariant.puts);
      ahead = subst (λ (k : ℕ). drop k rows ≡ c.next.new.self) (sym more) (sym (behind_row rows c.next.new.self row n next));
    }

pub returns-in_err-push_row-clause-err : goal.returns-in_err-push_row-clause-err
returns-in_err-push_row-clause-err c =
    let l = c.loop-key in
    let row : List ℕ × List ℕ = (c.in-Some.key.now, c.in-Some.value.now) in
    let next = l.invariant.ahead ∙ c.in-Some.ensures.steps in
    let below : length l.batch < c.args.count = omega (arith, c.if-len-count.false, c.len.ensures) in
    let p = err_from_is_err_and c.from_residual-in_err-push_row.result c.from_residual-in_err-push_row.ensures.1 in
    let refused = refused_there c.args.rows.now c.next.new.self row (length l.batch) c.args.count c.in_err-push_row.field-0.0 next below c.in_err-push_row.ensures.err in
    rw p.1 (subst (RefusesRows (take c.args.count c.args.rows.now)) (sym p.2) refused)

pub returns-clause-ok : goal.returns-clause-ok
returns-clause-ok c =
    let l = c.loop-key in
    let rows = c.args.rows.now in
    elim c.match-next.branch [
      | in-None w ↦ put_all rows (length l.batch) c.args.count l.batch (l.invariant.ahead ∙ w.in-None.ensures.steps.0) l.invariant.few l.invariant.puts
      | in-Some+then-len-count w ↦
          let full : length l.batch ≡ c.args.count = omega (arith, l.invariant.few, w.len.ensures, w.if-len-count.true) in
          subst (λ (k : ℕ). l.batch ≡ puts_of (take k rows)) full l.invariant.puts
    ]
