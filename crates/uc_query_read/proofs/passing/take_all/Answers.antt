use Rattle.std.proofs.Common.{◌≡◌, ◌+◌, ◌++◌, false, List, Some, None, length, drop, refl, sym, ap, ◌∙◌, arith}
use Rattle.uc_oper.specs.Composition.{applied}
use Rattle.uc_oper.specs.declared.effect.Effect.{Effect}
use Rattle.uc_oper.specs.declared.effect.Effect.TheVariants.{Set}
use Rattle.uc_model.specs.Meaning.{effect_on}
use Rattle.uc_compact.specs.Inputs.{writes_of}
use Rattle.uc_run.specs.Cursors.{Standing, has_ranges}
use Rattle.uc_query_read.specs.Walks.{runs_of, passed}
use Rattle.uc_query_read.proofs.Effects.{set_stays}
use Rattle.uc_query_read.proofs.Hiding.{all_taken}
use Rattle.uc_query_read.proofs.Oldest.{last_moved}
use Rattle.uc_query_read.proofs.passing.take_all.Goals as goal

pub take_there-requires-clause-plain : goal.take_there-requires-clause-plain
take_there-requires-clause-plain g c =
    all_taken (λ s. has_ranges s ≡ false) c.in_ok-last.last c.args.cursors.now c.requires.plain

pub returns-clause-value : goal.returns-clause-value
returns-clause-value g c =
    let m = g.O.Operator.meaning in
    let key = c.args.head.key.now in
    let cursors = c.args.cursors.now in
    let value = c.in_ok-value.value.now in
    let effect : effect_on m (writes_of (runs_of cursors)) key c.args.at ≡ Set (Some value) =
    set_stays (λ s. s.run) m c.effects_of_parts_compose.ensures key c.args.at cursors c.in_ok-last.last (Set (Some value)) refl c.in_ok-value.ensures.puts in
    sym (c.effect_gives_value.ensures.none (writes_of (runs_of cursors)) key c.args.at) ∙ ap (λ (e : Effect). applied m e None) effect

pub returns-clause-cursors : goal.returns-clause-cursors
returns-clause-cursors g c =
    let last = c.in_ok-last.last in
    let whole : last + 1 ≡ length c.args.cursors.now = omega (arith, c.in_ok-last.ensures) in
    last_moved (passed c.args.head.key.now) c.args.cursors.now _ last _ c.pass.new.self whole
    (ap (λ (cs : List Standing). cs ++ drop last c.args.cursors.now) c.in_ok-value.ensures.cursors) c.pass.ensures
