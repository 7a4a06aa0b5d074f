use Rattle.std.proofs.Common.{◌≡◌, ◌+◌, ◌-◌, ◌≤◌, inl, inr, length, sym, ◌∙◌, arith}
use Rattle.uc_rows.specs.RowBytes.{Row}
use Rattle.uc_rows.proofs.Fitted.{size_more, behind_row, place_below, all_there}
use Rattle.uc_rows.proofs.row_buffer.count_fitting.Goals as goal

pub loop-key-preserved : goal.loop-key-preserved
loop-key-preserved c =
    let l = c.loop-key in
    let all = c.args.rows in
    let row : Row = (c.in-Some.key.now, c.in-Some.value.now) in
    let next = l.invariant.ahead ∙ c.in-Some.ensures.steps in
    let more = size_more all c.next.new.self row l.count next in
    let one : c.saturating_add-row.result ≤ c.args.room - l.size → c.saturating_add-row.result ≡ 16 + length row.0 + length row.1 = λ fits. omega (arith, c.saturating_add.ensures, c.saturating_add-row.ensures, fits, c.requires.room) in
    let below = place_below all c.next.new.self row l.count next in
    record {
      ahead = sym (behind_row all c.next.new.self row l.count next);
      there = omega (arith, below);
      size = omega (arith, more, l.invariant.size, one c.if-row-room.false);
      fit = omega (arith, l.invariant.fit, c.if-row-room.false);
    }

pub returns-in-None-clause-fitting : goal.returns-in-None-clause-fitting
returns-in-None-clause-fitting c =
    let l = c.loop-key in
    record {
      there = l.invariant.there;
      fit = omega (arith, l.invariant.size, l.invariant.fit);
      most = inl (all_there c.args.rows l.count l.invariant.there (l.invariant.ahead ∙ c.in-None.ensures.steps.0));
    }

pub returns-then-row-room-clause-fitting : goal.returns-then-row-room-clause-fitting
returns-then-row-room-clause-fitting c =
    let l = c.loop-key in
    let row : Row = (c.in-Some.key.now, c.in-Some.value.now) in
    let next = l.invariant.ahead ∙ c.in-Some.ensures.steps in
    let more = size_more c.args.rows c.next.new.self row l.count next in
    record {
      there = l.invariant.there;
      fit = omega (arith, l.invariant.size, l.invariant.fit);
      most = inr (omega (arith, more, l.invariant.size, l.invariant.fit, c.if-row-room.true, c.saturating_add.ensures, c.saturating_add-row.ensures));
    }
