use Rattle.std.proofs.Common.{arith, sym, ◌∙◌, length-append}
use Rattle.std.proofs.lemmas.Grind.{common_steps}
use Rattle.uc_c.specs.LogWrites.{write_bytes}
use Rattle.uc_c.proofs.Laying.{write_takes, last_more}
use Rattle.uc_c.proofs.log_step.laid_writes.Goals as goal

pub loop-write-preserved : goal.loop-write-preserved
loop-write-preserved c =
    let before = c.loop-write.invariant in
    let pushed = c.in_ok-push_write.ensures in
    record {
      so_far = grind (arith, common_steps);
      counted = simp length-append (omega arith);
      few = rw pushed (omega (arith, before.few, write_takes c.in-Some.write, length-append c.loop-write.bytes.items (write_bytes c.in-Some.write)));
      used = c.seq-last.ensures ∙ sym (last_more c.args.before c.loop-write.yielded c.in-Some.write);
    }
