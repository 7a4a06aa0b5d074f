use Rattle.std.proofs.Common.{[], Bool, Result, IfOk, subst, sym}
use Rattle.uc_live.specs.Compacting.{next_stretch, IsCompacted}
use Rattle.uc_live.specs.declared.room_error.RoomError.{RoomError}
use Rattle.uc_live.specs.Going.{GoesOn}
use Rattle.uc_live.specs.HeldLives.{live}
use Rattle.uc_live.proofs.Held.{compacted_is, same_is}
use Rattle.uc_live.proofs.Compact.{nothing, compacted, goes}
use Rattle.uc_live.proofs.live_store.LiveStore.compact_once.Goals.{in-Ok, in-Err-IdsSpent, in-Err-Memory}
use Rattle.uc_live.proofs.live_store.LiveStore.compact_once.Goals as goal

pub returns-in_default-clause-ok : goal.returns-in_default-clause-ok
returns-in_default-clause-ok g c = nothing g.O.Operator.meaning c.self.inside c.self.invariant c.args.self.now c.self.view_is c.pick.result c.pick.ensures c.in_default.is

pub invariant_of-self : goal.invariant_of-self
invariant_of-self g c = elim c.match-compact_now_by.branch [
  | in-Ok w ↦ compacted_is c.self.inside c.self.invariant g.O.Operator.meaning c.in-Some.stretch c.compact_now_by.new.self w.in-Ok.ensures.ok.3
  | in-Err-IdsSpent w ↦ same_is c.self.inside c.self.invariant c.compact_now_by.new.self w.in-Err-IdsSpent.ensures.err.1
  | in-Err-Memory w ↦ same_is c.self.inside c.self.invariant c.compact_now_by.new.self w.in-Err-Memory.ensures.err.1
]

pub returns-clause-ok : goal.returns-clause-ok
returns-clause-ok g c =
    let m = g.O.Operator.meaning in
    let now = c.args.self.now in
    let new = live (record c.self.inside { owned = c.compact_now_by.new.self }) in
    let Told : Result Bool RoomError → Type 0 = λ r. IfOk r (λ b. IsCompacted m (next_stretch now) b now new) in
    elim c.match-compact_now_by.branch [
      | in-Ok w ↦ subst Told (sym w.result-is) (compacted m c.self.inside c.self.invariant now c.self.view_is c.pick.result c.pick.ensures c.in-Some.stretch c.in-Some.is c.compact_now_by.new.self w.in-Ok.ensures.ok.1 w.in-Ok.ensures.ok.3)
      | in-Err-IdsSpent w ↦ subst Told (sym w.result-is) tt
      | in-Err-Memory w ↦ subst Told (sym w.result-is) tt
    ]

pub returns-clause-goes_on : goal.returns-clause-goes_on
returns-clause-goes_on g c =
    let m = g.O.Operator.meaning in
    let now = c.args.self.now in
    let new = live (record c.self.inside { owned = c.compact_now_by.new.self }) in
    let Told : Result Bool RoomError → Type 0 = λ r. IfOk r (λ b. GoesOn m now new []) in
    elim c.match-compact_now_by.branch [
      | in-Ok w ↦ subst Told (sym w.result-is)
          (goes m c.self.inside c.self.invariant now c.self.view_is c.pick.result c.pick.ensures c.in-Some.stretch c.in-Some.is c.compact_now_by.new.self w.in-Ok.ensures.ok.1 w.in-Ok.ensures.ok.3
          (λ claim held. c.claimable_stretches_can_be_compacted.ensures.kept c.self.inside.owned c.in-Some.stretch claim c.recall.ensures w.in-Ok.ensures.ok.0 w.in-Ok.ensures.ok.1.may.id_left held))
      | in-Err-IdsSpent w ↦ subst Told (sym w.result-is) tt
      | in-Err-Memory w ↦ subst Told (sym w.result-is) tt
    ]
