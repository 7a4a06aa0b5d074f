use Rattle.std.proofs.Common.{◌≡◌, List, ℕ, filter, sym, ap, ◌∙◌, subst}
use Rattle.std.specs.Prelude.{IfOk, nat_le}
use Rattle.std.specs.List.{flat_map}
use Rattle.std.specs.List.Sorted.{IsPartitionedBy}
use Rattle.uc_oper.specs.declared.effect.Effect.{Effect}
use Rattle.uc_run_entry.specs.declared.entry.Entry.{Entry}
use Rattle.uc_run_entry.specs.Fragment.{Fragment}
use Rattle.uc_run_entry.specs.Lookup.{points_effect}
use Rattle.uc_run_entry.specs.Run.{covers}
use Rattle.uc_run.specs.Found.{before_points}
use Rattle.uc_run.specs.Places.{is_on}
use Rattle.uc_run.proofs.OnKey.{first_place, found_first, newer_point, found_above, on_first}
use Rattle.uc_run.proofs.lookup.effect_searched.Goals as goal

pub effect_above-requires : goal.effect_above-requires
effect_above-requires g c =
    let points = c.args.points.now in
    let key = c.args.key.now in
    let at = c.args.at in
    let place = first_place key at points in
    subst (IsPartitionedBy (is_on key c.newest_over-newest.result)) (sym c.without_newer-on.ensures)
    (on_first key at points place (found_first key at points) (newer_point key at points c.requires.sorted) c.requires.sorted c.newest_over-newest.result)

pub returns : goal.returns
returns g c =
    let points = c.args.points.now in
    let key = c.args.key.now in
    let at = c.args.at in
    let m = g.O.Operator.meaning in
    let newest = c.newest_over-newest.result in
    let place = first_place key at points in
    let seqs = filter (λ (seq : ℕ). nat_le seq at) (flat_map (λ (f : Fragment). f.seqs) (filter (λ f. covers f key) c.args.fragments.now)) in
    let all =
    ap (λ (effect : Effect). points_effect m effect (filter (is_on key newest) c.without_newer-on.result)) c.effect_before.ensures
    ∙ ap (λ (es : List Entry). points_effect m (before_points newest) (filter (is_on key newest) es)) c.without_newer-on.ensures
    ∙ found_above key at points place (found_first key at points) (newer_point key at points c.requires.sorted) m seqs newest c.newest_over-newest.ensures in
    subst (λ (e : Effect). IfOk c.effect_above.result (λ effect. effect ≡ e)) all c.effect_above.ensures
