use Rattle.std.proofs.Common.{[], ◌∙◌}
use Rattle.uc_live.specs.HeldLives.{live}
use Rattle.uc_live.specs.Going.{GoesOn}
use Rattle.uc_live.proofs.Going.{goes_on}
use Rattle.uc_live.proofs.Held.{unprepared_is, unprepared_goes}
use Rattle.uc_live.proofs.live_store.LiveStore.flush.Goals as goal

pub invariant_of-self-2 : goal.invariant_of-self-2
invariant_of-self-2 g c = unprepared_is c.self.inside c.self.invariant c.give_up.new.self c.give_up.ensures

pub returns-then-self-clause-prepares : goal.returns-then-self-clause-prepares
returns-then-self-clause-prepares g c =
    let m = g.O.Operator.meaning in
    let now = c.args.self.now in
    let given_up = live (record c.self.inside { active = c.give_up.new.self }) in
    let made = c.make_slot.new.self in
    let flushed = c.flush_active.new.self in
    let first : GoesOn m now given_up [] = unprepared_goes m c.self.inside now c.self.view_is c.give_up.new.self c.give_up.ensures in
    let second : GoesOn m now made [] = goes_on m now given_up made [] [] first c.make_slot.ensures.goes_on in
    let third : GoesOn m now flushed [] = goes_on m now made flushed [] [] second c.in_ok-flush_active.ensures.goes_on in (
      goes_on m now flushed c.compact_while_picked.new.self [] [] third c.compact_while_picked.ensures.goes_on,
      c.compact_while_picked.ensures.prepared ∙ c.in_ok-flush_active.ensures.none,
    )

pub returns-else-self-clause-prepares : goal.returns-else-self-clause-prepares
returns-else-self-clause-prepares g c =
    let m = g.O.Operator.meaning in
    let now = c.args.self.now in
    let given_up = live (record c.self.inside { active = c.give_up.new.self }) in
    let made = c.make_slot.new.self in
    let first : GoesOn m now given_up [] = unprepared_goes m c.self.inside now c.self.view_is c.give_up.new.self c.give_up.ensures in
    let second : GoesOn m now made [] = goes_on m now given_up made [] [] first c.make_slot.ensures.goes_on in
    (goes_on m now made c.flush_active.new.self [] [] second c.in_ok-flush_active.ensures.goes_on, c.in_ok-flush_active.ensures.none)
