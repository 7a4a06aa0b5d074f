use Rattle.std.proofs.Common.{◌≡◌, ℕ, List, []}
use Rattle.uc_run_entry.specs.Ahead.{ahead}
use Rattle.uc_run_entry.proofs.Listed.{all_at}
use Rattle.uc_run_entry.proofs.ahead.SeqsAhead.new.Goals as goal

pub returns : goal.returns
returns c = all_at (λ (seqs : List ℕ). ahead c.greatest-at.result seqs ≡ seqs) c.args.spans.now c.args.fragment [] c.greatest-at.ensures c.requires
