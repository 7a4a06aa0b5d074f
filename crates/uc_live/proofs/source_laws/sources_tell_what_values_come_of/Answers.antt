use Rattle.std.proofs.Common.{ℕ, List, Option, None, sym, ap, ◌∙◌}
use Rattle.uc_oper.specs.Composition.{applied}
use Rattle.uc_model.specs.Meaning.{is_seen, value_of, effect_on}
use Rattle.uc_version_state.specs.Versions.{contents_of, writes_in}
use Rattle.uc_live.specs.Sources.{is_decided_by, is_seen_among}
use Rattle.uc_live.specs.Views as views
use Rattle.uc_live.proofs.SeenEffects.{changes_if_seen, sets_if_decided, set_gives, keeps_value}
use Rattle.uc_live.proofs.Sourced.{memtable_decides, filters_see_none, runs_see_one, some_pass, unseen_runs}
use Rattle.uc_live.proofs.source_laws.sources_tell_what_values_come_of.Goals as goal

pub returns-clause-memtable : goal.returns-clause-memtable
returns-clause-memtable g c s key before from =
    let m = g.O.Operator.meaning in
    let at = views.last s in
    let decided = memtable_decides (is_decided_by s.gathered key at) (is_seen_among (writes_in s.version) key at) from in
    c.effect_continues_value.ensures.none before s.gathered key at
    ∙ set_gives m (effect_on m s.gathered key at) (value_of m before key at) None (sets_if_decided m s.gathered key at ∙ decided)
    ∙ c.effect_gives_value.ensures.none s.gathered key at

pub returns-clause-filters : goal.returns-clause-filters
returns-clause-filters g c s key from =
    let m = g.O.Operator.meaning in
    let at = views.last s in
    let older = writes_in s.version in
    let unseen = filters_see_none (is_decided_by s.gathered key at) (is_seen_among older key at) from in
    let keeps = keeps_value m (effect_on m older key at) None (changes_if_seen m older key at ∙ unseen) in
    c.effect_continues_value.ensures.none older s.gathered key at
    ∙ ap (λ (value : Option (List ℕ)). applied m (effect_on m s.gathered key at) value) (sym (c.effect_gives_value.ensures.none older key at) ∙ keeps)
    ∙ c.effect_gives_value.ensures.none s.gathered key at

pub returns-clause-no_point : goal.returns-clause-no_point
returns-clause-no_point g c s key from =
    let at = views.last s in
    let touched = c.keys_are_touched_by_name_or_range.ensures in
    unseen_runs key at (touched.put key) (touched.delete key) (touched.merge key) c.plain_list_is_in_order.ensures.same (contents_of s.version.runs)
    (filters_see_none (is_decided_by s.gathered key at) (is_seen_among (writes_in s.version) key at) from)

pub returns-clause-runs : goal.returns-clause-runs
returns-clause-runs g c s key from =
    let at = views.last s in
    some_pass (is_seen key at) (writes_in s.version) (runs_see_one (is_decided_by s.gathered key at) (is_seen_among (writes_in s.version) key at) from)
