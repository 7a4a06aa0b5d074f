use Rattle.std.proofs.Common.{◌≡◌, ℕ, Some, false, min, refl, ap, ◌∙◌, subst}
use Rattle.uc_run_entry.specs.declared.entry.Entry.{Entry}
use Rattle.uc_run_entry.specs.Seek.{seek_place}
use Rattle.uc_run.specs.BackCursors.{point_before}
use Rattle.uc_run.specs.Cursors.{Standing}
use Rattle.uc_run.specs.HeldBackCursors.{standing}
use Rattle.uc_run.proofs.LastKey.{stays_back}
use Rattle.uc_run.proofs.Passing.{seek_point}
use Rattle.uc_run.proofs.back_cursor.BackCursor.pass.Goals as goal

pub returns-else-is_at_or_above : goal.returns-else-is_at_or_above
returns-else-is_at_or_above c =
    let s = standing c.self.inside in
    let key = c.args.key.now in
    let points = s.run.points in
    let below = λ (p : Entry) (e : point_before points s.place ≡ Some p).
    c.is_at_or_above.ensures c.if-is_at_or_above.false p (c.as_ref.ensures.value ∙ c.self.invariant.last ∙ e) in
    let same = stays_back points key s.place (seek_place points key false) c.self.invariant.within (seek_point points key false c.recall.ensures.points_sorted (seek_place points key false) refl) below in
    subst (λ (t : Standing). t ≡ record { run = t.run; place = min t.place (seek_place t.run.points key false) }) c.self.view_is
    (ap {B = Standing} (λ (n : ℕ). record { run = s.run; place = n }) same)
