use Rattle.std.proofs.Common.{◌<◌, ◌^◌, arith}
use Rattle.uc_run_entry.specs.declared.entry.Entry.{Entry}
use Rattle.uc_run_entry.specs.Run.{IsWithin}
use Rattle.uc_run_entry.proofs.BySeq.{all_map}
use Rattle.uc_run.proofs.run.Run.build.Goals as goal

pub points_of-requires : goal.points_of-requires
points_of-requires c =
    let run = c.requires in
    rw c.deref.ensures.value (all_map (λ (p : Entry). IsWithin c.args.low c.args.high p.seq) (λ (p : Entry). p.seq < 2 ^ 56) (λ p within. omega (arith, run.below, within.1)) c.args.points.items run.points_within)
