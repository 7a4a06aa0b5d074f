use Rattle.std.proofs.Common.{◌≡◌, ◌+◌, ◌∙◌, false, refl, sym, ap, get_or}
use Rattle.std.proofs.lemmas.List.{get_or_default}
use Rattle.uc_oper.specs.declared.effect.Effect.TheVariants.{Keep}
use Rattle.uc_run.specs.Cursors.{has_ranges}
use Rattle.uc_query_read.proofs.Effects.{one_older, set_stays}
use Rattle.uc_query_read.proofs.Beside.{nowhere, is_other, silent, then_kept}
use Rattle.uc_query_read.proofs.walkers.effect_of_newer.Goals as goal
use Rattle.uc_query_read.proofs.walkers.effect_of_newer.Goals.{then-is_there+in_ok-older+in_ok-both+else-is_set+in_ok-newer, else-is_there+else-has_ranges}

pub returns-then-is_set : goal.returns-then-is_set
returns-then-is_set g c =
    let m = g.O.Operator.meaning in
    let parts = c.effects_of_parts_compose.ensures in
    let made = one_older (λ s. s.run) m parts c.args.least.key.now c.args.at c.args.cursors.now c.loop-place.place c.index-cursors-place-then-is_there.result c.index-cursors-place-then-is_there.result.run c.in_ok-older.older c.loop-place.newer c.in_ok-both.both c.loop-place-test.true c.index-cursors-place-then-is_there.is refl c.in_ok-older.ensures c.loop-place.invariant c.in_ok-both.ensures in
    sym (set_stays (λ s. s.run) m parts c.args.least.key.now c.args.at c.args.cursors.now (c.loop-place.place + 1) c.in_ok-both.both (c.is_set.ensures.0 c.if-is_set.true) (sym made))

pub loop-place-preserved : goal.loop-place-preserved
loop-place-preserved g c =
    let m = g.O.Operator.meaning in
    let cursors = c.args.cursors.now in
    let place = c.loop-place.place in
    let older = one_older (λ s. s.run) m c.effects_of_parts_compose.ensures c.args.least.key.now c.args.at cursors place in
    elim c.if-is_there.branch [
      | then-is_there+in_ok-older+in_ok-both+else-is_set+in_ok-newer w ↦
          w.newer-is ∙ w.in_ok-newer.ensures ∙ older w.index-cursors-place-then-is_there.result w.index-cursors-place-then-is_there.result.run w.in_ok-older.older c.loop-place.newer w.in_ok-both.both c.loop-place-test.true w.index-cursors-place-then-is_there.is refl w.in_ok-older.ensures c.loop-place.invariant w.in_ok-both.ensures
      | else-is_there+else-has_ranges w ↦
          let at = get_or cursors place nowhere in
          let other = is_other c.args.heads.now.keys cursors c.requires.heads place nowhere c.loop-place-test.true c.args.least.key.now c.is_there.result c.is_there.ensures.1 w.if-is_there.false in
          let none : has_ranges at ≡ false = ap has_ranges (get_or_default cursors place nowhere w.index-cursors-place.result c.loop-place-test.true ∙ sym w.index-cursors-place.is) ∙ sym w.has_ranges.ensures ∙ w.if-has_ranges.false in
          let kept = silent m c.other_keys_are_kept.ensures c.keys_at_places_are_next.ensures cursors c.args.least.key.now c.args.at place c.loop-place-test.true c.requires.stand c.requires.of_runs other none in
          w.newer-is ∙ older at at.run Keep c.loop-place.newer c.loop-place.newer c.loop-place-test.true (get_or_default cursors place nowhere at c.loop-place-test.true) refl kept c.loop-place.invariant (then_kept m c.loop-place.newer)
    ]
