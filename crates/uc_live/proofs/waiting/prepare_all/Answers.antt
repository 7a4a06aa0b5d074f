use Rattle.std.proofs.Common.{◌≡◌, ◌<◌, ◌-◌, ◌^◌, List, [], ◌++◌, sym, ap, ◌∙◌, subst}
use Rattle.uc_bytes.specs.declared.write.Write.{Write}
use Rattle.uc_run.specs.Size.{memtable_size}
use Rattle.uc_memtable.specs.Gathering.{Gathered}
use Rattle.uc_live.proofs.Held.{size-first}
use Rattle.uc_live.proofs.Prepared.{HasPrepared, none_prepared, comes_next, one_more, all_prepared}
use Rattle.uc_live.proofs.waiting.prepare_all.Goals as goal

pub loop-write-init : goal.loop-write-init
loop-write-init c =
    let start = c.args.active.now in
    let rest = c.into_iter-write-iterator.result in
    let same : rest ≡ c.args.writes = c.into_iter-write-iterator.ensures.into_iter_gives in
    subst (λ (ws : List Write). HasPrepared start start c.args.writes [] ws) (sym same) (none_prepared start c.args.writes c.requires.rising c.requires.small)

pub prepare_one-requires-clause-above : goal.prepare_one-requires-clause-above
prepare_one-requires-clause-above c =
    (comes_next c.args.active.now c.loop-write.active c.args.writes c.loop-write.yielded c.loop-write.write-iterator c.loop-write.invariant c.in-Some.write c.next.new.self c.in-Some.ensures.steps).0

pub prepare_one-requires-clause-below : goal.prepare_one-requires-clause-below
prepare_one-requires-clause-below c =
    (comes_next c.args.active.now c.loop-write.active c.args.writes c.loop-write.yielded c.loop-write.write-iterator c.loop-write.invariant c.in-Some.write c.next.new.self c.in-Some.ensures.steps).1

given_up : (c : goal.After-give_up) → c.give_up.new.self ≡ record c.loop-write.active { waiting = [] }
given_up c = c.give_up.ensures ∙ ap (λ (g : Gathered). record g { waiting = [] }) c.in-Err.ensures.err

pub returns-in-Err-clause-small : goal.returns-in-Err-clause-small
returns-in-Err-clause-small c =
    let held = c.loop-write.active in
    subst (λ (g : Gathered). memtable_size (g.shown ++ g.waiting) < 2 ^ 64 - 1) (sym (given_up c)) (size-first (2 ^ 64 - 1) held.shown held.waiting c.loop-write.invariant.3)

pub returns-in-Err-clause-err : goal.returns-in-Err-clause-err
returns-in-Err-clause-err c = given_up c ∙ ap (λ (g : Gathered). record g { waiting = [] }) c.loop-write.invariant.0

pub loop-write-preserved : goal.loop-write-preserved
loop-write-preserved c =
    one_more c.args.active.now c.loop-write.active c.args.writes c.loop-write.yielded c.loop-write.write-iterator c.loop-write.invariant c.in-Some.write c.next.new.self c.in-Some.ensures.steps
    c.prepare_one.new.active c.in_default.ensures.ok c.in_default.ensures.small

pub returns-clause-ok : goal.returns-clause-ok
returns-clause-ok c = all_prepared c.args.active.now c.loop-write.active c.args.writes c.loop-write.yielded c.loop-write.write-iterator c.loop-write.invariant c.in-None.ensures.steps.0

pub returns-clause-small : goal.returns-clause-small
returns-clause-small c = c.loop-write.invariant.3
