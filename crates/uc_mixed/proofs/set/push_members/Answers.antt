use Rattle.std.proofs.Common.{◌∙◌}
use Rattle.uc_mixed.proofs.Uniting.{member_copied}
use Rattle.uc_mixed.proofs.set.push_members.Goals as goal

pub loop-member-preserved : goal.loop-member-preserved
loop-member-preserved c =
    let m = c.in-Some.member in
    member_copied c.loop-member.bytes.items c.extend_from_slice.new.self.items c.loop-member.rest.now m.bytes.now m.others.now m.spelled.now c.in-Some.ensures.0 c.in-Some.ensures.1 c.in_ok-extend_from_slice.ensures.items
    ∙ c.loop-member.invariant
