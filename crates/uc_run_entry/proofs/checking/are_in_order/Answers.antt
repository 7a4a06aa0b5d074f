use Rattle.std.proofs.Common.{rules, true, refl}
use Rattle.std.proofs.lemmas.Fn.{always_returns_same}
use Rattle.uc_run_entry.proofs.Sorted.{is_followed_by, in_order_by}
use Rattle.uc_run_entry.proofs.checking.are_in_order.Goals as goal

pub returns-then-first_has_keys : goal.returns-then-first_has_keys
returns-then-first_has_keys c =
    in_order_by c.args.fragments.now true c.is_sorted_by.result ((λ _. c.first_has_keys.ensures.0 c.if-first_has_keys.true), (λ _. refl))
    (c.is_sorted_by.ensures.cases is_followed_by (always_returns_same _ _ _ (λ a r f called. search rules)))
