use Rattle.std.proofs.Common.{◌≡◌, sym, subst}
use mathlib.Core.List.{IsPrefix}
use Rattle.uc_claims.specs.Holding.{Holding}
use Rattle.uc_share.specs.Fronts.{Moment}
use Rattle.uc_share.specs.Claims.{claim_of}
use Rattle.uc_share.specs.Turns.{IsPicked, Turning, turning}
use Rattle.uc_share.proofs.Prefixes.{prefix_behind}
use Rattle.uc_share.proofs.TurnsEnd.{finished, is_picked, unfinished}
use Rattle.uc_share.proofs.store.Store.compact_once_through.Goals as goal

pub returns-in-Ok-claim-clause-came : goal.returns-in-Ok-claim-clause-came
returns-in-Ok-claim-clause-came g c =
    let t : Turning = turning c.args.self.now.options g.N.Name.base c.args.seat c.args.reader.now c.compact_held.new.reader in
    let pin = c.in-Ok.pin in
    let s = c.in-Some.stretch in
    let held = c.in-Ok-claim.held in
    let back : IsPrefix c.pin.new.reader c.compact_held.new.reader =
    prefix_behind c.pin.new.reader c.claim.new.reader c.compact_held.new.reader c.claim.ensures.seen c.compact_held.ensures.seen in
    let picked : IsPicked t pin s =
    is_picked t g.N.Name.book c.pin.new.reader pin s c.pick.result c.pin.ensures.seen back c.in-Ok.ensures.pinned c.pick.ensures.picked c.in-Some.is in
    let claim : held ≡ claim_of c.args.seat pin s = subst (λ (seat : Holding). held ≡ claim_of seat pin s) c.pick.ensures.seat c.in-Ok-claim.ensures.ok in
    let front : IsPrefix pin.events c.claim.new.reader =
    subst (λ (p : Moment). IsPrefix p.events c.claim.new.reader) (sym c.in-Ok.ensures.pinned) c.claim.ensures.seen in
    finished g.O.Operator.meaning t pin s held c.claim.new.reader c.compact_held.result.1 picked claim front c.compact_held.ensures.ok c.compact_held.ensures.installed

pub returns-in-Ok-claim-clause-failed : goal.returns-in-Ok-claim-clause-failed
returns-in-Ok-claim-clause-failed g c =
    let t : Turning = turning c.args.self.now.options g.N.Name.base c.args.seat c.args.reader.now c.compact_held.new.reader in
    let pin = c.in-Ok.pin in
    let s = c.in-Some.stretch in
    let held = c.in-Ok-claim.held in
    let back : IsPrefix c.pin.new.reader c.compact_held.new.reader =
    prefix_behind c.pin.new.reader c.claim.new.reader c.compact_held.new.reader c.claim.ensures.seen c.compact_held.ensures.seen in
    let picked : IsPicked t pin s =
    is_picked t g.N.Name.book c.pin.new.reader pin s c.pick.result c.pin.ensures.seen back c.in-Ok.ensures.pinned c.pick.ensures.picked c.in-Some.is in
    let claim : held ≡ claim_of c.args.seat pin s = subst (λ (seat : Holding). held ≡ claim_of seat pin s) c.pick.ensures.seat c.in-Ok-claim.ensures.ok in
    unfinished t pin s held c.compact_held.result.1 picked claim c.compact_held.ensures.own c.compact_held.ensures.refused
