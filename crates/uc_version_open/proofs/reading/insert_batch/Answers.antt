use Rattle.std.proofs.Common.{rules, ◌++◌, [], ◌∷◌, ap, ◌∙◌, sym, append_assoc}
use Rattle.uc_run.proofs.Inserted.{last_grown}
use Rattle.uc_version_open.specs.Progress.{progress_of}
use Rattle.uc_version_open.proofs.Inserting.{rest_rises}
use Rattle.uc_version_open.proofs.reading.insert_batch.Goals as goal

pub loop-write-preserved : goal.loop-write-preserved
loop-write-preserved g c =
    let l = c.loop-write in
    let inserted = c.in_ok-insert.ensures in
    record {
      rising = rest_rises l.opener.last c.insert.new.self.last c.in-Some.write l.write-iterator c.next.new.self l.invariant.rising (search rules) inserted.last;
      progress = λ options before is. inserted.ok options (before ++ l.yielded) (l.invariant.progress options before is)
          ∙ ap (progress_of options) (append_assoc before l.yielded (c.in-Some.write ∷ []));
      last = inserted.last ∙ sym (last_grown c.args.opener.now.last l.yielded c.in-Some.write);
      stay = λ place part stands. inserted.stay place part (l.invariant.stay place part stands);
    }
