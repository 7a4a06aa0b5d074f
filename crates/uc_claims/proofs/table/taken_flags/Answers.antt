use Rattle.std.proofs.Common.{◌≡◌, false, not, eqb, refl, ◌∙◌, arith, length-set, get_or-set_other}
use Rattle.std.specs.Slots.{slots_items}
use Rattle.uc_claims.specs.declared.table.TheConstants.{MOST_SLOTS}
use Rattle.uc_claims.proofs.Records.{no_flag, flag_read}
use Rattle.uc_claims.proofs.table.taken_flags.Goals as goal

pub loop-slot-init : goal.loop-slot-init
loop-slot-init c = record { long = refl; read = λ k l. absurd (omega arith); rest = λ k l. no_flag MOST_SLOTS k }

pub loop-slot-preserved : goal.loop-slot-preserved
loop-slot-preserved c =
    let i = c.loop-slot.invariant in
    let slot = c.loop-slot.slot in
    let flag = not (eqb c.word.result 0) in
    let below = c.requires.counts.1 in
    let test = c.loop-slot-test.true in
    record {
      long = length-set c.loop-slot.flags slot flag ∙ i.long;
      read = flag_read (slots_items c.args.closed.now.words) c.loop-slot.flags slot c.word.result (omega (arith, i.long)) c.word.ensures i.read;
      rest = λ k l. (let ne : k ≡ slot → ⊥ = λ e. omega arith in get_or-set_other c.loop-slot.flags slot k flag false ne ∙ i.rest k (omega arith));
    }
