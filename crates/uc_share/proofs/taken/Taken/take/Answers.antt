use Rattle.std.proofs.Common.{◌≤◌, ◌<◌, ◌∙◌, List, length, ap, sym, subst}
use Rattle.std.specs.List.{AllByRecursion}
use Rattle.uc_claims.specs.Holding.{AreDistinct}
use Rattle.uc_claims.specs.declared.table.TheConstants.{MOST_SLOTS}
use Rattle.uc_version_state.specs.Versions.{PlacedRun, Stored, IsVersion, slots_of}
use Rattle.uc_version_state.specs.Installs.{part_of}
use Rattle.uc_version_compact.proofs.Few.{few_part}
use Rattle.uc_version_compact.proofs.PartSlots.{part_below, part_distinct}
use Rattle.uc_share.proofs.taken.Taken.take.Goals as goal

pub take-requires-clause-few : goal.take-requires-clause-few
take-requires-clause-few g c =
    let s = c.args.stretch in
    let v = c.args.pin.version in
    let is : IsVersion v = subst IsVersion c.version.ensures c.recall.ensures in
    let runs = c.in-Ok.ensures.ok.1 ∙ ap (part_of s.first s.count) (c.runs.ensures ∙ ap (λ (w : Stored). w.runs) c.version-2.ensures) in
    subst (λ (ps : List PlacedRun). length ps ≤ MOST_SLOTS) (sym runs) (few_part v is s.first s.count)

pub take-requires-clause-below : goal.take-requires-clause-below
take-requires-clause-below g c =
    let s = c.args.stretch in
    let v = c.args.pin.version in
    let is : IsVersion v = subst IsVersion c.version.ensures c.recall.ensures in
    let runs = c.in-Ok.ensures.ok.1 ∙ ap (part_of s.first s.count) (c.runs.ensures ∙ ap (λ (w : Stored). w.runs) c.version-2.ensures) in
    subst (λ (ps : List PlacedRun). AllByRecursion (λ slot. slot < MOST_SLOTS) (slots_of ps)) (sym runs) (part_below v is s.first s.count)

pub take-requires-clause-distinct : goal.take-requires-clause-distinct
take-requires-clause-distinct g c =
    let s = c.args.stretch in
    let v = c.args.pin.version in
    let is : IsVersion v = subst IsVersion c.version.ensures c.recall.ensures in
    let runs = c.in-Ok.ensures.ok.1 ∙ ap (part_of s.first s.count) (c.runs.ensures ∙ ap (λ (w : Stored). w.runs) c.version-2.ensures) in
    subst (λ (ps : List PlacedRun). AreDistinct (slots_of ps)) (sym runs) (part_distinct v is s.first s.count)
