use Rattle.std.proofs.Common.{rules, ◌≡◌, ◌≢◌, ◌+◌, ◌-◌, ◌<◌, length, get_or, sym, ◌∙◌, arith}
use Rattle.uc_memtable.proofs.Links.{walked_on, walk_ended}
use Rattle.uc_memtable.proofs.linking.newest_labelled.Goals as goal

pub loop-end-preserved : goal.loop-end-preserved
loop-end-preserved c =
    let labels = c.args.labels.now in
    let end = c.loop-end.end in
    let some : 0 < end = search rules in
    let l : end - 1 < length labels = omega (arith, some, c.loop-end.invariant.within) in
    let e : end ≡ end - 1 + 1 = omega (arith, some) in
    let other : get_or labels (end - 1) 0 ≢ c.args.label = search rules in
    record {
      within = omega (arith, c.requires.falling (end - 1) l, l);
      found = λ buckets chained ends.
          let old = c.loop-end.invariant.found buckets chained ends in
          walked_on buckets labels c.args.before.now c.args.label (length labels) end (end - 1) c.args.from e l chained other old.0 old.1;
    }

pub returns-else-labels-end : goal.returns-else-labels-end
returns-else-labels-end c buckets chained ends =
    let labels = c.args.labels.now in
    let end = c.loop-end.end in
    let some : 0 < end = search rules in
    let e : end ≡ end - 1 + 1 = omega (arith, some) in
    let same : get_or labels (end - 1) 0 ≡ c.args.label = search rules in
    let old = c.loop-end.invariant.found buckets chained ends in
    sym (old.1 ∙ walk_ended labels c.args.label end (end - 1) e same)
