use Rattle.std.proofs.Common.{◌≡◌, ◌+◌, length, ap, arith, drop, List, ◌++◌}
use Rattle.uc_query_read.specs.Walks.{passed}
use Rattle.uc_query_read.proofs.Oldest.{last_moved}
use Rattle.uc_query_read.proofs.passing.pass_all.Goals as goal

pub returns-in-Some-clause-cursors : goal.returns-in-Some-clause-cursors
returns-in-Some-clause-cursors c =
    let last = c.in-Some.last in
    let whole : last + 1 ≡ length c.args.cursors.now = omega (arith, c.in-Some.ensures) in
    last_moved (passed c.args.head.key.now) c.args.cursors.now _ last _ c.pass.new.self whole
    (ap (λ (cs : List _). cs ++ drop last c.args.cursors.now) c.pass_there.ensures.cursors) c.pass.ensures
