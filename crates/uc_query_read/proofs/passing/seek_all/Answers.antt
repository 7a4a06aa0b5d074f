use Rattle.std.proofs.Common.{◌≡◌, ◌+◌, length, ap, arith, drop, List, ◌++◌}
use Rattle.uc_query_read.specs.Walks.{sought}
use Rattle.uc_query_read.proofs.Oldest.{last_moved}
use Rattle.uc_query_read.proofs.passing.seek_all.Goals as goal

pub returns-in-Some-clause-cursors : goal.returns-in-Some-clause-cursors
returns-in-Some-clause-cursors c =
    let last = c.in-Some.last in
    let whole : last + 1 ≡ length c.args.cursors.now = omega (arith, c.in-Some.ensures) in
    last_moved (sought c.args.low.now) c.args.cursors.now _ last _ c.seek.new.self whole
    (ap (λ (cs : List _). cs ++ drop last c.args.cursors.now) c.seek_each.ensures.cursors) c.seek.ensures
