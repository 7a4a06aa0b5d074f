use Rattle.std.proofs.Common.{rules, ◌≡◌, ◌∙◌, Some, sym}
use Rattle.uc_script.specs.Head.{query_in}
use Rattle.uc_script.proofs.QueriesAhead.{queries-some}
use Rattle.uc_script.proofs.query_reader.read_queries.Goals as goal

pub loop-queries-preserved-in_ok-push : goal.loop-queries-preserved-in_ok-push
loop-queries-preserved-in_ok-push c =
    let l = c.loop-queries in
    let line = c.next_line.result.0.now in
    let named : Some c.in-Some.query ≡ query_in line = sym c.in-Some.is ∙ c.in_ok-query.ensures in
    let items = c.in_ok-push.ensures.items in
    record {
      same = rw items (queries-some l.queries.items l.rest.now line c.next_line.result.1.now c.in-Some.query c.next_line.ensures.cut named ∙ l.invariant.same);
      few = search rules;
    }
