use Rattle.std.proofs.Common.{◌<◌, ◌+◌, ◌^◌, length, take, rules}
use Rattle.uc_run_file.proofs.FilesRead.{undamaged, split_body}
use Rattle.uc_run_file.proofs.reading.sound_split.Goals as goal

pub returns-in-Some-clause-fault : goal.returns-in-Some-clause-fault
returns-in-Some-clause-fault c =
    let small : length c.args.file.now < 2 ^ 64 = search rules in
    let s = c.in_ok-split.split in
    let split = c.in_ok-split.ensures.split in (
      (λ r is e. undamaged c.args.file.now small r is e s.points.now s.fragments.now s.table.now s.footer split (take (length s.points.now + length s.fragments.now) c.args.file.now) c.in-Some.offset
          (split_body c.args.file.now s.points.now s.fragments.now s.table.now s.footer split) c.in-Some.ensures),
      record { points = s.points.now; fragments = s.fragments.now; table = s.table.now; footer = s.footer; split = split; damaged = c.in-Some.ensures },
    )
