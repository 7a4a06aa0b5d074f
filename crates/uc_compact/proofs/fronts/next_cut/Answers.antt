use Rattle.std.proofs.Common.{rules, ◌≡◌, ◌+◌, List, [], ◌∷◌, ◌++◌, get_or, set, take, sym, ap, ◌∙◌}
use Rattle.std.specs.Option.{option_copied}
use Rattle.std.proofs.lemmas.List.{take_more, set-get_or}
use Rattle.uc_run_entry.specs.Run.{Contents}
use Rattle.uc_compact.specs.NextCut.{ends_of, ends_in, least_above}
use Rattle.uc_compact.proofs.NextCuts.{least_more}
use Rattle.uc_compact.proofs.fronts.next_cut.Goals as goal

pub loop-front-preserved : goal.loop-front-preserved
loop-front-preserved c =
    let key = c.args.key.now in
    let runs = c.args.fronts.now in
    let i = c.loop-front.front-index in
    let r : Contents = c.front-item.result in
    let here : r ≡ get_or runs i r = c.front-item.is ∙ ap (λ (rs : List Contents). get_or rs i r) c.loop-front.invariant.same in
    let more : take (i + 1) runs ≡ take i runs ++ r ∷ [] = take_more runs i r (search rules) ∙ ap (λ (s : Contents). take i runs ++ s ∷ []) (sym here) in
    record {
      same = ap (set c.loop-front.fronts i) c.next_cut.ensures.same ∙ set-get_or c.loop-front.fronts i r ∙ c.loop-front.invariant.same;
      least =
          c.lesser-least.ensures
          ∙ least_more key (take i runs) r (option_copied c.loop-front.least) (option_copied c.next_cut.result) c.loop-front.invariant.least
          (c.next_cut.ensures.least ∙ ap (λ (s : Contents). least_above key (ends_of s.fragments)) (sym c.front-item.is))
          ∙ ap (λ (rs : List Contents). least_above key (ends_in rs)) (sym more);
    }
