use Rattle.std.proofs.Common.{◌≡◌, ◌++◌, false, length, take, sym, ap, ◌∙◌, subst, option_map, arith}
use Rattle.std.proofs.lemmas.List.{take_at}
use Rattle.uc_compact.specs.Inputs.{writes_of, points_of}
use Rattle.uc_version_state.specs.Versions.{contents_of}
use Rattle.uc_query_read.specs.Ahead.{keys_ahead}
use Rattle.uc_query_read.specs.Answers.{rows_of}
use Rattle.uc_query_read.specs.Walks.{Walk}
use Rattle.uc_query_read.proofs.FirstRows.{all_rows}
use Rattle.uc_query_read.proofs.scan.first_rows.Goals as goal
use Rattle.uc_query_read.proofs.scan.first_rows.Goals.{else-loop-alloc-test, then-loop-alloc-test+in_default+in_ok-key+in_default-2}

pub returns : goal.returns
returns g c =
    elim c.loop-alloc-test.branch [
      | else-loop-alloc-test w ↦
          let long : length c.loop-alloc.rows ≡ c.args.limit = omega (arith, c.loop-alloc.invariant.few, w.loop-alloc-test.false, c.len.ensures) in
          sym (take_at c.loop-alloc.rows _ c.args.limit long) ∙ c.loop-alloc.invariant.whole
      | then-loop-alloc-test+in_default+in_ok-key+in_default-2 w ↦
          let m = g.O.Operator.meaning in
          let ws = writes_of (contents_of c.args.runs.now) in
          let whole =
          subst (λ (k : Walk). take c.args.limit (c.loop-alloc.rows ++ rows_of m ws c.args.at k.keys) ≡ take c.args.limit (rows_of m ws c.args.at (keys_ahead (points_of (contents_of c.args.runs.now)) c.args.low.now false c.args.high.now)))
          (sym w.in_default.ensures.stays) c.loop-alloc.invariant.whole in
          all_rows m ws c.args.at c.args.limit c.loop-alloc.rows _ w.next_alone.new.self.keys w.next.new.self.keys _ c.loop-alloc.invariant.few w.in_ok-key.ensures.comes
          (ap (option_map (λ r. r.0.now)) w.in_default-2.is) whole
    ]
