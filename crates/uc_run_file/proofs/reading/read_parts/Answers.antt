use Rattle.std.proofs.Common.{◌<◌, ◌^◌, length, refl, rules}
use Rattle.uc_run_file.proofs.FilesRead.{no_fault}
use Rattle.uc_run_file.proofs.reading.read_parts.Goals as goal

pub returns-in-Err-Fault-clause-fault : goal.returns-in-Err-Fault-clause-fault
returns-in-Err-Fault-clause-fault c =
    let small : length c.args.file.now < 2 ^ 64 = search rules in
    let s = c.in_ok-split.split in
    let at = rw c.in-Err-Fault.field-0-is at c.in-Err-Fault.ensures.fault in (
      (λ r is e. no_fault c.args.file.now small r is e s.points.now s.fragments.now s.table.now s.footer c.in_ok-split.ensures.split c.in-Err-Fault.offset at),
      record { points = s.points.now; fragments = s.fragments.now; table = s.table.now; footer = s.footer; split = c.in_ok-split.ensures.split; place = c.in-Err-Fault.offset; fault = at; at = refl },
    )
