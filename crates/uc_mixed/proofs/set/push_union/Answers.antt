use Rattle.std.proofs.Common.{◌≡◌, ◌∙◌, ◌++◌, List, ℕ, IfOk, ap, sym, subst}
use Rattle.uc_mixed.specs.Sets.{union_of, set_bytes, members}
use Rattle.uc_mixed.proofs.Uniting.{right_ended, left_first, both_first, right_first}
use Rattle.uc_mixed.proofs.set.push_union.Goals as goal

pub returns-in_default-first_member : goal.returns-in_default-first_member
returns-in_default-first_member c =
    let left = c.loop-x.left.now in
    let right = c.loop-x.right.now in
    let bytes = c.loop-x.bytes.items in
    let whole : bytes ++ set_bytes (members left) ≡ c.args.bytes.items ++ union_of c.args.older.now c.args.newer.now =
    ap (λ (l : List ℕ). bytes ++ l) (sym (right_ended left right c.in_default-first_member.ensures)) ∙ c.loop-x.invariant in
    subst (λ (l : List ℕ). IfOk c.push_members-in_default-first_member.result (λ after. after.items ≡ l)) whole c.push_members-in_default-first_member.ensures

pub loop-x-preserved-in-Less : goal.loop-x-preserved-in-Less
loop-x-preserved-in-Less c =
    let x = c.in-Some.x in
    let y = c.in-Some-first_member.y in
    left_first c.loop-x.left.now x.bytes.now x.others.now c.loop-x.right.now y.bytes.now y.others.now c.in-Some.ensures.0 c.in-Some-first_member.ensures.0
    c.loop-x.bytes.items c.extend_from_slice.new.self.items x.spelled.now c.in_ok-extend_from_slice-in-Less.ensures.items (sym c.cmp.ensures ∙ c.in-Less.is) c.in-Some.ensures.1
    ∙ c.loop-x.invariant

pub loop-x-preserved-in-Equal : goal.loop-x-preserved-in-Equal
loop-x-preserved-in-Equal c =
    let x = c.in-Some.x in
    let y = c.in-Some-first_member.y in
    both_first c.loop-x.left.now x.bytes.now x.others.now c.loop-x.right.now y.bytes.now y.others.now c.in-Some.ensures.0 c.in-Some-first_member.ensures.0
    c.loop-x.bytes.items c.extend_from_slice-in-Equal.new.self.items x.spelled.now c.in_ok-extend_from_slice-in-Equal.ensures.items (sym c.cmp.ensures ∙ c.in-Equal.is) c.in-Some.ensures.1
    ∙ c.loop-x.invariant

pub loop-x-preserved : goal.loop-x-preserved
loop-x-preserved c =
    let x = c.in-Some.x in
    let y = c.in-Some-first_member.y in
    right_first c.loop-x.left.now x.bytes.now x.others.now c.loop-x.right.now y.bytes.now y.others.now c.in-Some.ensures.0 c.in-Some-first_member.ensures.0
    c.loop-x.bytes.items c.extend_from_slice-in-Greater.new.self.items y.spelled.now c.in_ok-extend_from_slice-in-Greater.ensures.items (sym c.cmp.ensures ∙ c.in-Greater.is) c.in-Some-first_member.ensures.1
    ∙ c.loop-x.invariant
