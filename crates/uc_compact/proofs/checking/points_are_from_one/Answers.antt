use Rattle.std.proofs.Common.{rules, ◌<◌}
use Rattle.std.proofs.lemmas.Iterator.{YieldsList-from_slice, cases_from_all}
use Rattle.uc_compact.proofs.Judged.{all_by}
use Rattle.uc_compact.proofs.checking.points_are_from_one.Goals as goal

pub returns : goal.returns
returns c =
    all_by (λ p. 0 < p.seq) c.args.points.now c.all.result
    (cases_from_all _ _ c.all.result (λ p. 0 < p.seq) (λ p. 0 < p.seq → ⊥) c.all.ensures.ran (YieldsList-from_slice _ c.iter.ensures.rest) (λ x q k. search rules) (λ x q k. search rules))
