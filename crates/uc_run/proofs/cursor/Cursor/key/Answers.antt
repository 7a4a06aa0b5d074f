use Rattle.std.proofs.Common.{◌≡◌, List, Some, None, sym, ap, ◌∙◌, subst}
use Rattle.std.specs.Prelude.{option_map}
use Rattle.std.specs.List.{slice_get}
use Rattle.std.specs.List.Sorted.{IsStrictlySortedBy}
use Rattle.uc_run_entry.specs.declared.entry.Entry.{Entry}
use Rattle.uc_run_entry.specs.Order.{entry_cmp}
use Rattle.uc_run.specs.Cursors.{Standing, standing}
use Rattle.uc_run.proofs.LeastKey.{found_is_next}
use Rattle.uc_run.proofs.Rests.{head_there}
use Rattle.uc_run.proofs.cursor.Cursor.key.Goals as goal

pub returns-in_err-point-clause-next : goal.returns-in_err-point-clause-next
returns-in_err-point-clause-next c low strict at =
    let s = standing c.self.inside in
    let none : slice_get s.run.points s.place ≡ None =
    sym (ap (λ (es : List Entry). slice_get es 0) c.self.invariant ∙ head_there s.run.points s.place) ∙ sym c.first.ensures ∙ c.in_err-point.was in
    let sorted = subst (λ (s : Standing). IsStrictlySortedBy entry_cmp s.run.points) c.self.view_is c.recall.ensures.points_sorted in
    let there =
    ap (option_map (λ key. key.now)) c.from_residual.ensures
    ∙ sym (ap (option_map (λ (p : Entry). p.key)) none)
    ∙ ap (λ (s : Standing). option_map (λ p. p.key) (slice_get s.run.points s.place)) c.self.view_is in
    found_is_next low strict c.args.self.now.run.points c.args.self.now.place _ sorted at there

pub returns-clause-there : goal.returns-clause-there
returns-clause-there c =
    let s = standing c.self.inside in
    let some : slice_get s.run.points s.place ≡ Some c.in_ok-point.point =
    sym (ap (λ (es : List Entry). slice_get es 0) c.self.invariant ∙ head_there s.run.points s.place) ∙ sym c.first.ensures ∙ c.in_ok-point.was in
    ap (λ key. Some key) c.key.ensures
    ∙ sym (ap (option_map (λ (p : Entry). p.key)) some)
    ∙ ap (λ (s : Standing). option_map (λ p. p.key) (slice_get s.run.points s.place)) c.self.view_is

pub returns-clause-next : goal.returns-clause-next
returns-clause-next c low strict at =
    let sorted = subst (λ (s : Standing). IsStrictlySortedBy entry_cmp s.run.points) c.self.view_is c.recall.ensures.points_sorted in
    found_is_next low strict c.args.self.now.run.points c.args.self.now.place (Some c.key.result.now) sorted at (returns-clause-there c)
