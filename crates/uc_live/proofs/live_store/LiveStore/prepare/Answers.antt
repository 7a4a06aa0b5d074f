use Rattle.std.proofs.Common.{◌≡◌, ◌+◌, [], ◌∷◌, ap, arith}
use Rattle.uc_bytes.specs.declared.write.Write.{Write}
use Rattle.uc_batch.specs.Rising.{IsRising}
use Rattle.uc_live.specs.HeldLives.{live}
use Rattle.uc_live.specs.Lives.{last}
use Rattle.uc_live.proofs.Held.{unprepared_is}
use Rattle.uc_live.proofs.Last.{rises_behind, waits_behind}
use Rattle.uc_live.proofs.live_store.LiveStore.prepare.Goals as goal

pub invariant_of-self : goal.invariant_of-self
invariant_of-self g c = unprepared_is c.self.inside c.self.invariant c.give_up.new.self c.give_up.ensures

-- the write comes next
rising : (g : _) (c : goal.After-prepare_one-arg-2-1 g) → IsRising (last (live (record c.self.inside { active = c.give_up.new.self }))) (c.new.result ∷ [])
rising g c =
    let n = last (live (record c.self.inside { active = c.give_up.new.self })) in
    let e : c.new.result.seq ≡ c.last-last.result + 1 = ap (λ (w : Write). w.seq) c.new.ensures in
    let is : c.last-last.result ≡ n = c.last-last.ensures in
    let below = c.if-last-ge-MAX_SEQUENCE.false in
    (omega (arith, e, is), omega (arith, e, below), tt)

pub prepare_one-requires-clause-above : goal.prepare_one-requires-clause-above
prepare_one-requires-clause-above g c =
    (rises_behind g.O.Operator.meaning c.self-2.inside (live (record c.self.inside { active = c.give_up.new.self })) c.make_room.new.self c.self-2.view_is c.in_ok-make_room.ensures.prepares
    (c.new.result ∷ []) (rising g c)).0

pub invariant_of-self-2 : goal.invariant_of-self-2
invariant_of-self-2 g c =
    let n = last (live (record c.self.inside { active = c.give_up.new.self })) in
    let e : c.new.result.seq ≡ c.last-last.result + 1 = ap (λ (w : Write). w.seq) c.new.ensures in
    let is : c.last-last.result ≡ n = c.last-last.ensures in
    let below = c.if-last-ge-MAX_SEQUENCE.false in
    let rises : IsRising n (c.new.result ∷ []) = (omega (arith, e, is), omega (arith, e, below), tt) in
    waits_behind g.O.Operator.meaning c.self-2.inside (live (record c.self.inside { active = c.give_up.new.self })) c.make_room.new.self c.self-2.view_is c.in_ok-make_room.ensures.prepares c.self-2.invariant
    (c.new.result ∷ []) rises c.prepare_one.new.active c.in_ok-prepare_one.ensures.ok c.in_ok-prepare_one.ensures.small
