use Rattle.std.proofs.Common.{leb, ◌∙◌}
use Rattle.uc_run_entry.proofs.Lookup.{found_is}
use Rattle.uc_run_entry.proofs.Pieces.{in_order, some_seqs, seqs_fall}
use Rattle.uc_run_entry.proofs.SeqsOver.{seqs_over_key}
use Rattle.uc_run.specs.Flush.{ranges_in, flushed}
use Rattle.uc_run.proofs.Flushed.{is_run}
use Rattle.uc_run.proofs.Effects.{flushed_effect}
use Rattle.uc_run.proofs.laws.flush_keeps_every_effect.Goals as goal

pub returns : goal.returns
returns g c writes key at rising some =
    let m = g.O.Operator.meaning in
    let run = is_run (λ ranges. in_order ranges) (λ ranges. some_seqs ranges) (λ ranges. seqs_fall ranges) writes rising some in
    found_is m (flushed writes) run key (λ seq. leb seq at) ∙ flushed_effect key at m writes rising run (seqs_over_key key (ranges_in writes))
