use Rattle.std.proofs.Common.{rules, tests, map, sym, ◌∙◌}
use Rattle.std.proofs.lemmas.Iterator.{YieldsList-from_slice, YieldsList-from_zip, same_from_all}
use Rattle.std.proofs.lemmas.List.{length-map}
use Rattle.uc_run_entry.specs.Shared.{ends_of}
use Rattle.uc_run_entry.proofs.Covered.{shown_as}
use Rattle.uc_run_entry.proofs.fragments.same_ends.Goals as goal

pub returns-then-fragments-others : goal.returns-then-fragments-others
returns-then-fragments-others c =
    let fs = c.args.fragments.now in
    let gs = c.args.others.now in
    same_from_all c.all.new.self _ _ (map ends_of fs) (map ends_of gs) c.all.ensures.ran
    (YieldsList-from_zip (shown_as ends_of (YieldsList-from_slice fs (search rules))) (shown_as ends_of (YieldsList-from_slice gs (search rules))))
    (length-map fs ends_of ∙ c.if-fragments-others.true ∙ sym (length-map gs ends_of))
    (λ x q k. search (rules, tests)) (λ x q k. search (rules, tests))
