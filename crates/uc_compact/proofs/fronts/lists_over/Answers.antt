use Rattle.std.proofs.Common.{rules, ◌≡◌, ℕ, ◌+◌, List, [], ◌∷◌, ◌++◌, get_or, set, map, take, filter, sym, ap, ◌∙◌, subst}
use Rattle.std.specs.List.{AllByRecursion}
use Rattle.std.proofs.lemmas.List.{take_more, set-get_or}
use Rattle.uc_run_entry.specs.Run.{Contents, IsRun, covers}
use Rattle.uc_compact.specs.Pieces.{AreOver}
use Rattle.uc_compact.proofs.Cutting.{IsFilled, run_filled}
use Rattle.uc_compact.proofs.Gathered.{one_over, none_more, map_push}
use Rattle.uc_compact.proofs.fronts.lists_over.Goals.{in-Some+in_ok-push, in_default}
use Rattle.uc_compact.proofs.fronts.lists_over.Goals as goal

pub loop-front-preserved : goal.loop-front-preserved
loop-front-preserved c =
    let key = c.args.key.now in
    let runs = c.args.fronts.now in
    let i = c.loop-front.front-index in
    let r : Contents = c.front-item.result in
    let here : r ≡ get_or runs i r = c.front-item.is ∙ ap (λ (rs : List Contents). get_or rs i r) c.loop-front.invariant.same in
    let more : take (i + 1) runs ≡ take i runs ++ r ∷ [] = take_more runs i r (search rules) ∙ ap (λ (s : Contents). take i runs ++ s ∷ []) (sym here) in
    let same_over = ap (λ (s : Contents). filter (λ g. covers g key) s.fragments) c.front-item.is in
    let filled : AllByRecursion IsFilled r.fragments = run_filled r (subst (λ (s : Contents). IsRun s.low s.high s.points s.fragments) (sym c.front-item.is) c.covering.ensures.recall) in
    record {
      same = ap (set c.loop-front.fronts i) c.covering.ensures.same ∙ set-get_or c.loop-front.fronts i r ∙ c.loop-front.invariant.same;
      over = subst (λ (rs : List Contents). AreOver key rs (map (λ seqs. seqs.now) c.match-covering.lists.items)) (sym more) (elim c.match-covering.branch [
        | in-Some+in_ok-push w ↦
            subst (λ (ls : List (List ℕ)). AreOver key (take i runs ++ r ∷ []) ls)
            (sym (ap (λ v. map (λ seqs. seqs.now) v.items) w.lists-is ∙ ap (map (λ seqs. seqs.now)) w.in_ok-push.ensures.items ∙ map_push (λ seqs. seqs.now) c.loop-front.lists.items _ ∙ ap (λ (ns : List ℕ). map (λ seqs. seqs.now) c.loop-front.lists.items ++ ns ∷ []) w.seqs.ensures))
            (one_over key (take i runs) r (map (λ seqs. seqs.now) c.loop-front.lists.items) c.loop-front.invariant.over w.in-Some.fragment.now (same_over ∙ w.in-Some.ensures.some) filled)
        | in_default w ↦
            subst (λ (ls : List (List ℕ)). AreOver key (take i runs ++ r ∷ []) ls)
            (sym (ap (λ v. map (λ seqs. seqs.now) v.items) w.lists-is))
            (none_more key (take i runs) r (map (λ seqs. seqs.now) c.loop-front.lists.items) c.loop-front.invariant.over (same_over ∙ w.in_default.ensures.none))
      ]);
    }
