use Rattle.std.proofs.Common.{◌≡◌, false, List, drop, filter, refl, sym, ap, ◌∙◌, subst}
use Rattle.std.specs.Prelude.{IfOk}
use Rattle.std.specs.List.{AllByRecursion}
use Rattle.std.specs.List.Sorted.{IsStrictlySortedBy}
use Rattle.uc_oper.specs.declared.effect.Effect.{Effect}
use Rattle.uc_model.specs.Meaning.{effect_on}
use Rattle.uc_run_entry.specs.declared.entry.Entry.{Entry}
use Rattle.uc_run_entry.specs.Fragment.{Fragment}
use Rattle.uc_run_entry.specs.Lookup.{is_visible}
use Rattle.uc_run_entry.specs.Order.{IsFalling, entry_cmp}
use Rattle.uc_run_entry.specs.PlainList.{plain_list}
use Rattle.uc_run_entry.specs.Seek.{seek_place}
use Rattle.uc_run.specs.Cursors.{Standing}
use Rattle.uc_run.specs.HeldBackCursors.{standing}
use Rattle.uc_run.proofs.FoundThere.{all_falling, does}
use Rattle.uc_run.proofs.OnKey.{none_before}
use Rattle.uc_run.proofs.Rests.{sorted-drop}
use Rattle.uc_run.proofs.back_cursor.BackCursor.effect_ref.Goals as goal

pub effect_found-requires-clause-sorted : goal.effect_found-requires-clause-sorted
effect_found-requires-clause-sorted g c =
    let s = standing c.self.inside in
    let ahead = c.slice_from-points.ensures ∙ ap (λ (es : List Entry). drop s.place es) c.entries.ensures in
    subst (IsStrictlySortedBy entry_cmp) (sym ahead) (sorted-drop entry_cmp s.place s.run.points c.recall.ensures.points_sorted)

pub effect_found-requires-clause-falling : goal.effect_found-requires-clause-falling
effect_found-requires-clause-falling g c =
    let run = c.self.inside.run.now in
    subst (AllByRecursion (λ (f : Fragment). IsFalling f.seqs)) (sym c.fragments.ensures) (all_falling run.low run.high run.fragments c.recall.ensures.whole)

pub returns : goal.returns
returns g c =
    let m = g.O.Operator.meaning in
    let key = c.args.key.now in
    let at = c.args.at in
    let s = standing c.self.inside in
    let points = s.run.points in
    let place : s.place ≡ seek_place points key false =
    ap (λ (s : Standing). s.place) c.self.view_is ∙ c.requires ∙ ap (λ (s : Standing). seek_place s.run.points key false) (sym c.self.view_is) in
    let ahead = c.slice_from-points.ensures ∙ ap (λ (es : List Entry). drop s.place es) c.entries.ensures in
    let visible =
    ap (λ (es : List Entry). filter (is_visible key at) es) (ahead ∙ ap (λ n. drop n points) place) ∙ sym (none_before key at points c.recall.ensures.points_sorted) in
    let same =
    does m c.plain_list_does_what_is_found.ensures key at s.run points (filter (is_visible key at) c.slice_from-points.result) c.fragments.result.now c.fragments.result.now c.recall.ensures refl visible c.fragments.ensures refl in
    let all = same ∙ ap (λ (s : Standing). effect_on m (plain_list s.run) key at) c.self.view_is in
    subst (λ (e : Effect). IfOk c.effect_found.result (λ effect. effect ≡ e)) all c.effect_found.ensures
