use Rattle.std.proofs.Common.{◌≡◌, fold, ap, ◌∙◌, rules, Ok}
use Rattle.rayon.proofs.ListFacts.{IfOk-then, AllZip-weaken}
use Rattle.rayon.specs.Lists.{vec_items}
use Rattle.uc_fold.proofs.Refusals.{reduced, granted-all}
use Rattle.uc_fold.proofs.folding.fold_all.Goals as goal

pub returns : goal.returns
returns g c =
    let met = g.met.J.Joins g.world.𝓛 g.world.𝓜 g.world.𝓡 ((λ s x. x), (λ x. x), (λ x. x), λ x. x) in
    let laws = met.lawful in
    let done = c.reduce.ensures in
    let chain = done.1 in
    let given = AllZip-weaken _ (λ p r. r ≡ Ok p) (λ p r h. search rules) chain.0 done.0 chain.2 in
    let list = granted-all chain.0 done.0 given ∙ chain.1 ∙ ap vec_items c.map.ensures.base ∙ c.into_par_iter.ensures in
    let folded = reduced laws _ _ (λ r i. search rules) (λ a b r o. search rules) done.0 c.reduce.result done.2 in
    IfOk-then c.reduce.result _ _ folded (λ whole e. e ∙ ap (fold g.J.Joins.join g.J.Joins.unit) list)
