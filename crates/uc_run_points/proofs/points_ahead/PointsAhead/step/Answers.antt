use Rattle.std.proofs.Common.{List, ℕ, ◌-◌, drop, refl, sym, ap, ◌∙◌, arith}
use Rattle.uc_run_entry.specs.declared.entry.Entry.{Entry}
use Rattle.uc_run_points.specs.Spelling.{entry_from, entries_ahead}
use Rattle.uc_run_points.proofs.Walked.{at_end, none_behind, one_on}
use Rattle.uc_run_points.proofs.points_ahead.PointsAhead.step.Goals as goal

pub returns-then-self-le1 : goal.returns-then-self-le1
returns-then-self-le1 c =
    let s = c.self.inside in
    at_end s.first s.behind.now 0 refl ∙ sym (none_behind s.count s.first s.behind.now c.if-self-le1.true) ∙ ap (λ (es : List Entry). drop 1 es) c.self.view_is

pub returns : goal.returns
returns c =
    let s = c.self.inside in
    let read = c.read_entry-first in
    ap (λ (first : Entry). entries_ahead (s.count - 1) first read.result.1.now) read.ensures.entry
    ∙ ap (λ (behind : List ℕ). entries_ahead (s.count - 1) (entry_from s.behind.now).0 behind) read.ensures.rest
    ∙ one_on s.count s.first s.behind.now (omega (arith, c.if-self-le1.false))
    ∙ ap (λ (es : List Entry). drop 1 es) c.self.view_is
