use Rattle.std.proofs.Common.{List, ℕ, ap, ◌∙◌}
use Rattle.uc_run_entry.specs.declared.entry.Entry.{Entry}
use Rattle.uc_run_points.specs.Spelling.{entry_from, entries_ahead}
use Rattle.uc_run_points.proofs.Walked.{first_read}
use Rattle.uc_run_points.proofs.points_ahead.PointsAhead.new.Goals as goal

pub returns : goal.returns
returns c =
    let read = c.read_entry-first in
    ap (λ (first : Entry). entries_ahead c.args.count first read.result.1.now) read.ensures.entry
    ∙ ap (λ (behind : List ℕ). entries_ahead c.args.count (entry_from c.args.bytes.now).0 behind) read.ensures.rest
    ∙ first_read c.args.count c.args.bytes.now
