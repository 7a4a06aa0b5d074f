use Rattle.std.proofs.Common.{rules, ltb}
use Rattle.std.proofs.lemmas.Fn.{always_returns_same}
use Rattle.uc_compact.proofs.Judged.{rising_by}
use Rattle.uc_compact.proofs.checking.keeps_rise.Goals as goal

pub returns : goal.returns
returns c =
    rising_by c.args.keeps.now c.is_sorted_by.result
    (c.is_sorted_by.ensures.cases (λ x y. ltb x y) (always_returns_same _ _ _ (λ a r f called. search rules)))
