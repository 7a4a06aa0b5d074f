use Rattle.uc_run_entry.proofs.SeqsOver.{seqs_over_key}
use Rattle.uc_run_entry.proofs.fragment_laws.fragments_cover_what_ranges_cover.Goals as goal

pub returns : goal.returns
returns c ranges key = seqs_over_key key ranges
