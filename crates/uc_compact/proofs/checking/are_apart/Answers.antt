use Rattle.std.proofs.Common.{rules, ◌≢◌}
use Rattle.std.specs.List.{AllByRecursion}
use Rattle.std.proofs.lemmas.Iterator.{YieldsList-from_slice, cases_from_all}
use Rattle.uc_compact.proofs.Judged.{all_by}
use Rattle.uc_compact.proofs.checking.are_apart.Goals as goal

pub returns : goal.returns
returns c =
    let seqs = c.args.seqs.now in
    all_by (λ p. AllByRecursion (λ n. n ≢ p.seq) seqs) c.args.points.now c.all.result
    (cases_from_all _ _ c.all.result (λ p. AllByRecursion (λ n. n ≢ p.seq) seqs) (λ p. AllByRecursion (λ n. n ≢ p.seq) seqs → ⊥) c.all.ensures.ran (YieldsList-from_slice _ c.iter.ensures.rest) (λ x q k. search rules) (λ x q k. search rules))
