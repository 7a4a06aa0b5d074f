use Rattle.std.proofs.Common.{option_map, Some, None, sym, ap, ◌∙◌, subst}
use Rattle.std.specs.List.Sorted.{IsStrictlySortedBy}
use Rattle.uc_run_entry.specs.declared.entry.Entry.{Entry}
use Rattle.uc_run_entry.specs.Order.{entry_cmp}
use Rattle.uc_run.specs.BackCursors.{last_key}
use Rattle.uc_run.specs.Cursors.{Standing}
use Rattle.uc_run.proofs.LastKey.{found_is_previous}
use Rattle.uc_run.proofs.back_cursor.BackCursor.key.Goals as goal

pub returns-in-Some-clause-last : goal.returns-in-Some-clause-last
returns-in-Some-clause-last c high at =
    let s = c.args.self.now in
    let sorted = subst (λ (s : Standing). IsStrictlySortedBy entry_cmp s.run.points) c.self.view_is c.recall.ensures.points_sorted in
    let there = ap (λ key. Some key) c.key.ensures ∙ ap (option_map (λ (p : Entry). p.key)) (sym c.in-Some.is ∙ c.self.invariant.last) ∙ ap last_key c.self.view_is in
    found_is_previous high s.run.points s.place (Some c.key.result.now) sorted at there

pub returns-in-None-clause-last : goal.returns-in-None-clause-last
returns-in-None-clause-last c high at =
    let s = c.args.self.now in
    let sorted = subst (λ (s : Standing). IsStrictlySortedBy entry_cmp s.run.points) c.self.view_is c.recall.ensures.points_sorted in
    let there = ap (option_map (λ (p : Entry). p.key)) (sym c.in-None.is ∙ c.self.invariant.last) ∙ ap last_key c.self.view_is in
    found_is_previous high s.run.points s.place None sorted at there
