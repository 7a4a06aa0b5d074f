use Rattle.std.proofs.Common.{◌≡◌, ℕ, ◌-◌, ◌<◌, ◌≤◌, List, [], ◌∷◌, ◌++◌, Result, Ok, Err, arith, ap, ◌∙◌}
use Rattle.std.specs.Prelude.{OnOk}
use Rattle.uc_run_entry.specs.declared.span.Span.{Span}
use Rattle.uc_run_entry.specs.Tree.{held, nodes}
use Rattle.uc_run_entry.proofs.Trees.{all_pushed_at}
use Rattle.uc_run_entry.proofs.tree.+push_nodes.Goals as goal

ok_all : {V E : Type 0} (r : Result V E) (M N P Q : ℕ → Type 0) → ((depth : ℕ) → M depth → OnOk r (P depth)) → (((depth : ℕ) → M depth → P depth) → (depth : ℕ) → N depth → Q depth) → (depth : ℕ) → N depth → OnOk r (Q depth)
ok_all (Ok v) M N P Q h f depth n = f h depth n
ok_all (Err e) M N P Q h f depth n = tt

pub returns : goal.returns
returns t c =
    let low : ℕ = c.args.low in
    let high : ℕ = c.args.high in
    let mid : ℕ = c.middle-middle.result in
    let spans : List Span = c.args.spans.items in
    let fork : 1 < c.args.high - c.args.low = omega arith in
    let put : c.push.new.self ≡ c.args.lists.now ++ held low high spans ∷ [] =
    c.in_ok-push.ensures.pushed
    ∙ ap (λ (seqs : List ℕ). c.args.lists.now ++ seqs ∷ []) (c.deref-2.ensures.value ∙ c.in_ok-held.ensures ∙ ap (λ (ss : List Span). held low high ss) c.deref.ensures.value) in
    ok_all c.push_nodes-2.result
    (λ depth. high - mid ≤ depth) (λ depth. high - low ≤ depth)
    (λ depth. c.push_nodes-2.new.lists ≡ c.push_nodes.new.lists ++ nodes depth mid high c.in_ok-first.second.items)
    (λ depth. c.push_nodes-2.new.lists ≡ c.args.lists.now ++ nodes depth low high spans)
    c.push_nodes-2.ensures
    (all_pushed_at low high mid spans c.in_ok-first.first.items c.in_ok-first.second.items c.args.lists.now c.push.new.self c.push_nodes.new.lists c.push_nodes-2.new.lists c.middle-middle.ensures fork
    c.in_ok-first.ensures.first c.in_ok-first.ensures.second put c.in_ok-push_nodes.ensures)
