use Rattle.std.proofs.Common.{ℕ, List, sym, subst}
use Rattle.std.specs.List.{AllByRecursion}
use Rattle.uc_run_entry.specs.Fragment.{Fragment}
use Rattle.uc_run_entry.specs.Order.{IsFalling}
use Rattle.uc_run_entry.specs.Run.{covers}
use Rattle.uc_run_entry.proofs.Points.{all-filtered}
use Rattle.uc_run.proofs.lookup.newest_among.Goals as goal

pub newest_at_or_below-requires : goal.newest_at_or_below-requires
newest_at_or_below-requires c =
    let all = all-filtered (λ f. IsFalling f.seqs) (λ g. covers g c.args.key.now) c.fragments_near-near.result.now c.fragments_near-near.ensures.falling in
    let one = subst (AllByRecursion (λ (f : Fragment). IsFalling f.seqs)) c.in_ok-fragment.ensures.some all in
    subst (λ (seqs : List ℕ). IsFalling seqs) (sym c.seqs.ensures) one.0
