use Rattle.std.proofs.Common.{rules, ◌≡◌, ◌<◌, ◌+◌, ◌-◌, ◌^◌, ℕ, List, length, min, true, false, arith, ap, ◌∙◌}
use Rattle.uc_run_entry.specs.Tree.{is_leaf}
use Rattle.uc_run_entry.proofs.Trees.{count_starts, count_goes_on, count_ends}
use Rattle.uc_run_entry.proofs.walks.count_over.Goals as goal

pub loop-node-init : goal.loop-node-init
loop-node-init c =
    let small : length c.list.result.now < 2 ^ 64 = first_of (omega arith, search rules) in
    count_starts c.args.fragment c.args.fragments c.args.nodes.now c.root-node.result (length c.list.result.now) c.requires.within c.root-node.ensures small
    (ap (λ (seqs : List ℕ). length seqs) c.list.ensures.list)

pub loop-node-preserved : goal.loop-node-preserved
loop-node-preserved c =
    let inner : is_leaf c.loop-node.node.low c.loop-node.node.high ≡ false = first_of (search rules, cc) in
    count_goes_on c.args.fragment c.args.fragments c.args.nodes.now c.loop-node.node c.half-node.result c.loop-node.count c.saturating_add-count.result c.loop-node.invariant inner c.half-node.ensures
    (c.saturating_add-count.ensures ∙ ap (λ (seqs : List ℕ). min (c.loop-node.count + length seqs) (2 ^ 64 - 1)) c.list-in-loop-node.ensures.list)

pub returns : goal.returns
returns c =
    let leaf : is_leaf c.loop-node.node.low c.loop-node.node.high ≡ true = first_of (search rules, cc) in
    count_ends c.args.fragment c.args.fragments c.args.nodes.now c.loop-node.node c.loop-node.count c.loop-node.invariant leaf
