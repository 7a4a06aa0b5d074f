use Rattle.std.proofs.Common.{◌≡◌, ◌≢◌, true, [], ◌∙◌}
use Rattle.uc_version_state.proofs.Memtables.{last_of_some}
use Rattle.uc_live.proofs.last_reads.last_sequence.Goals as goal

pub returns : goal.returns
returns c =
    let shown = c.args.gathered.now.shown in
    let some : shown ≢ [] = λ e. let empty : c.is_empty.result ≡ true = c.is_empty.ensures.1 e in absurd cc in
    c.last-2.ensures ∙ last_of_some c.args.version.now.last shown some
