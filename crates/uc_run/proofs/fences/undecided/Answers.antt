use Rattle.std.proofs.Common.{rules, ◌≡◌, length, sym, arith}
use Rattle.uc_run.proofs.Fenced.{prefixes_each, prefixes_in_order, passed_by_prefix, ahead_by_prefix, all_passed, all_ahead}
use Rattle.uc_run.proofs.fences.undecided.Goals as goal

pub equal_range-requires : goal.equal_range-requires
equal_range-requires c =
    prefixes_in_order c.args.points.now c.args.fences.now c.requires.sorted c.requires.fenced c.deref.result.now (search rules)

pub returns-in-Some-clause-bound : goal.returns-in-Some-clause-bound
returns-in-Some-clause-bound c =
    let each = prefixes_each c.args.points.now c.args.fences.now c.requires.sorted c.requires.fenced in
    let same : length c.deref.result.now ≡ length c.args.fences.now.prefixes.items = search rules in
    omega (arith, each, same, c.equal_range.ensures.bound)

pub returns-in-Some-clause-before : goal.returns-in-Some-clause-before
returns-in-Some-clause-before c =
    passed_by_prefix c.args.points.now c.args.fences.now c.requires.sorted c.requires.fenced c.deref.result.now (search rules) c.args.low.now c.in-Some.rest.now (search rules) (search rules) c.prefix_of.ensures.bytes c.args.strict
    c.equal_range.result.0 (rw (sym c.prefix_of.ensures.prefix) c.equal_range.ensures.below) (omega (arith, c.equal_range.ensures.order, c.equal_range.ensures.bound))

pub returns-in-Some-clause-after : goal.returns-in-Some-clause-after
returns-in-Some-clause-after c =
    ahead_by_prefix c.args.points.now c.args.fences.now c.requires.sorted c.requires.fenced c.deref.result.now (search rules) c.args.low.now c.in-Some.rest.now (search rules) (search rules) c.prefix_of.ensures.bytes c.args.strict
    c.equal_range.result.1 (rw (sym c.prefix_of.ensures.prefix) c.equal_range.ensures.up_to)

pub returns-then-is_passed-clause-before : goal.returns-then-is_passed-clause-before
returns-then-is_passed-clause-before c =
    all_passed c.args.points.now c.args.fences.now c.requires.sorted c.requires.fenced c.args.low.now (search rules) c.args.strict c.in-Some-get.first (search rules) (search rules) c.len.result c.len.ensures

pub returns-else-is_passed-clause-after : goal.returns-else-is_passed-clause-after
returns-else-is_passed-clause-after c =
    all_ahead c.args.points.now c.args.fences.now c.requires.sorted c.requires.fenced c.args.low.now (search rules) c.args.strict c.in-Some-get.first (search rules) (search rules)
