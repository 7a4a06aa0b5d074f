use Rattle.std.proofs.Common.{◌≡◌, ◌∙◌, ◌&&◌, Bool, true, None, Some, ap, sym}
use Rattle.std.specs.Ordering.{is_lt}
use Rattle.uc_bytes.specs.Bytes.{bytes_cmp}
use Rattle.uc_mixed.specs.Sets.{ascends, ascends-more}
use Rattle.uc_mixed.proofs.set.is_set_of_members.Goals as goal

pub loop-before-init : goal.loop-before-init
loop-before-init c =
    let m = c.in-Some.first in
    ascends-more None c.args.set.now (record { member = m.bytes.now; others = m.others.now }) c.in-Some.ensures.0

pub loop-before-preserved : goal.loop-before-preserved
loop-before-preserved c =
    let m = c.in-Some-first_member.member in
    let before = c.loop-before.before.now in
    let above : is_lt (bytes_cmp before m.bytes.now) ≡ true = ap is_lt (sym c.cmp.ensures) ∙ sym c.is_lt.ensures ∙ c.if-not-is_lt.false in
    c.loop-before.invariant
    ∙ ascends-more (Some before) c.loop-before.rest.now (record { member = m.bytes.now; others = m.others.now }) c.in-Some-first_member.ensures.0
    ∙ ap (λ (b : Bool). b && ascends (Some m.bytes.now) m.others.now) above
