use Rattle.std.proofs.Common.{◌≡◌, ap, sym, ◌∙◌, subst, rules}
use Rattle.std.specs.Arc.{arc_value}
use Rattle.uc_version_state.specs.Versions.{PlacedRun, IsVersion}
use Rattle.uc_version_state.proofs.InPlace.{replaced_is}
use Rattle.uc_version_state.proofs.version.Version.with_replaced.Goals as goal

pub new-requires : goal.new-requires
new-requires c =
    let v = c.args.self.now in
    let first = c.args.first in
    let count = c.args.count in
    let some = c.requires.some in
    let within = c.requires.within in
    let run : arc_value c.in_ok-clone.field-0 ≡ arc_value c.args.run.now = search rules in
    let keeps : c.in_ok-keeps.keeps.items ≡ v.keeps = search rules in
    let slot = c.slot.ensures ∙ ap (λ (p : PlacedRun). p.slot) c.index-runs-first.is in
    let is = replaced_is v first count some within c.runs-runs.result.now c.index-runs-first.result _ _ _ _ _ _ _ _ c.runs-runs.ensures c.index-runs-first.is c.slot.ensures c.next_id-id.ensures run c.in_ok-runs.ensures keeps c.last.ensures c.limit.ensures in
    subst IsVersion (sym is) c.requires.version

pub returns : goal.returns
returns c =
    let v = c.args.self.now in
    let first = c.args.first in
    let count = c.args.count in
    let some = c.requires.some in
    let within = c.requires.within in
    let run : arc_value c.in_ok-clone.field-0 ≡ arc_value c.args.run.now = search rules in
    let keeps : c.in_ok-keeps.keeps.items ≡ v.keeps = search rules in
    c.new.ensures ∙ replaced_is v first count some within c.runs-runs.result.now c.index-runs-first.result _ _ _ _ _ _ _ _ c.runs-runs.ensures c.index-runs-first.is c.slot.ensures c.next_id-id.ensures run c.in_ok-runs.ensures keeps c.last.ensures c.limit.ensures
