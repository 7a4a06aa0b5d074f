use Rattle.uc_run_file.proofs.FragmentText.{one_read, rest_after}
use Rattle.uc_run_file.proofs.fragment_reader.gather.Goals as goal

pub loop-rest-smaller : goal.loop-rest-smaller
loop-rest-smaller c =
    let p = rw c.in-Some.is at c.in_ok-push_read.ensures.read in
    rest_after c.args.bytes.now c.loop-rest.rest.now c.in-Some.after.now c.loop-rest.ends c.push_read.new.ends c.loop-rest.lists c.push_read.new.lists p

pub loop-rest-preserved : goal.loop-rest-preserved
loop-rest-preserved c =
    let p = rw c.in-Some.is at c.in_ok-push_read.ensures.read in
    one_read c.args.bytes.now c.loop-rest.rest.now c.in-Some.after.now c.loop-rest.ends c.push_read.new.ends c.loop-rest.lists c.push_read.new.lists c.loop-rest.invariant p
