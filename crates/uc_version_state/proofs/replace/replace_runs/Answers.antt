use Rattle.std.proofs.Common.{◌+◌, ◌++◌, ◌∷◌, take, drop, sym, ap, ◌∙◌, arith}
use Rattle.std.specs.Arc.{arc_value}
use Rattle.uc_version_state.specs.Versions.{PlacedRun}
use Rattle.uc_version_state.proofs.InPlace.{put_in_place, slot_at}
use Rattle.uc_version_state.proofs.replace.replace_runs.Goals as goal

pub returns : goal.returns
returns c =
    let a = c.args in
    let some = c.requires.some in
    let within = c.requires.within in
    let new : PlacedRun = record { id = a.id; slot = c.behind-runs.inside.slot; run = arc_value a.run } in
    let slot = ap (λ (p : PlacedRun). p.slot) (c.behind-runs.view_is ∙ c.index.ensures) ∙ sym (slot_at a.runs.now.items a.first a.count c.index.result.now some (omega (arith, some, within))) in
    c.remove_runs.ensures ∙ put_in_place a.runs.now.items a.first a.count new some within
    ∙ ap (λ n. take a.first a.runs.now.items ++ record { id = a.id; slot = n; run = arc_value a.run } ∷ drop (a.first + a.count) a.runs.now.items) slot
