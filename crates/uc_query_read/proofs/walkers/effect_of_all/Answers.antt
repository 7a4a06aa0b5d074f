use Rattle.std.proofs.Common.{◌≡◌, ◌<◌, ◌-◌, ◌+◌, ◌∙◌, List, Some, length, take, sym, ap, subst, refl, arith}
use Rattle.std.specs.List.{slice_get}
use Rattle.std.proofs.lemmas.List.{take_all}
use Rattle.std.proofs.lemmas.Option.{get_or_from_slice_get, slice_get_within}
use Rattle.std.proofs.lemmas.Result.{IfOk-weaker}
use Rattle.uc_model.specs.Meaning.{effect_on}
use Rattle.uc_compact.specs.Inputs.{writes_of}
use Rattle.uc_run.specs.Cursors.{Standing}
use Rattle.uc_query_read.specs.Walks.{runs_of, newer_of}
use Rattle.uc_query_read.proofs.Effects.{one_older, set_stays}
use Rattle.uc_query_read.proofs.walkers.effect_of_all.Goals as goal

pub returns-then-is_set : goal.returns-then-is_set
returns-then-is_set g c =
    let m = g.O.Operator.meaning in
    let cursors = c.args.cursors.now in
    let key = c.args.least.key.now in
    let newer : c.in_ok-newer.newer ≡ effect_on m (writes_of (runs_of (newer_of cursors))) key c.args.at =
    subst (λ (cs : List Standing). c.in_ok-newer.newer ≡ effect_on m (writes_of (runs_of cs)) key c.args.at) c.newer_of.ensures c.in_ok-newer.ensures in
    sym (set_stays (λ s. s.run) m c.effects_of_parts_compose.ensures key c.args.at cursors (length cursors - 1) c.in_ok-newer.newer (c.is_set.ensures.0 c.if-is_set.true) (sym newer))

pub returns : goal.returns
returns g c =
    let m = g.O.Operator.meaning in
    let cursors = c.args.cursors.now in
    let key = c.args.least.key.now in
    let last = length cursors - 1 in
    let oldest = c.in-Some.oldest.now in
    let there : slice_get cursors last ≡ Some oldest = sym c.in-Some.ensures.value in
    let lt : last < length cursors = slice_get_within cursors last oldest there in
    let newer : c.in_ok-newer.newer ≡ effect_on m (writes_of (runs_of (newer_of cursors))) key c.args.at =
    subst (λ (cs : List Standing). c.in_ok-newer.newer ≡ effect_on m (writes_of (runs_of cs)) key c.args.at) c.newer_of.ensures c.in_ok-newer.ensures in
    let all : take (last + 1) cursors ≡ cursors = take_all (last + 1) cursors (omega arith) in
    IfOk-weaker c.compose-2.result _ _
    (λ effect made.
    one_older (λ s. s.run) m c.effects_of_parts_compose.ensures key c.args.at cursors last oldest oldest.run c.in_ok-older.older c.in_ok-into_effect.field-0 effect lt
    (sym (get_or_from_slice_get cursors last oldest oldest there)) refl c.in_ok-older.ensures (c.in_ok-into_effect.ensures ∙ newer) made
    ∙ ap (λ (cs : List Standing). effect_on m (writes_of (runs_of cs)) key c.args.at) all)
    c.compose-2.ensures
