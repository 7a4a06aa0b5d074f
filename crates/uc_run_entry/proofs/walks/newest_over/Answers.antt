use Rattle.std.proofs.Common.{rules, ◌≡◌, ℕ, List, true, false, ap, ◌∙◌}
use Rattle.uc_run_entry.specs.Newest.{newest_at_or_below, newer}
use Rattle.uc_run_entry.specs.Tree.{is_leaf}
use Rattle.uc_run_entry.proofs.Trees.{newest_starts, newest_goes_on, newest_ends}
use Rattle.uc_run_entry.proofs.walks.newest_over.Goals as goal

pub loop-node-init : goal.loop-node-init
loop-node-init c =
    newest_starts c.args.fragment c.args.at c.args.fragments c.args.nodes.now c.root-node.result c.newest_at_or_below-best.result c.requires.within c.root-node.ensures
    (c.newest_at_or_below-best.ensures ∙ ap (λ (seqs : List ℕ). newest_at_or_below c.args.at seqs) c.list.ensures.list)

pub loop-node-preserved : goal.loop-node-preserved
loop-node-preserved c =
    let inner : is_leaf c.loop-node.node.low c.loop-node.node.high ≡ false = first_of (search rules, cc) in
    newest_goes_on c.args.fragment c.args.at c.args.fragments c.args.nodes.now c.loop-node.node c.half-node.result c.loop-node.best c.newer-best.result c.loop-node.invariant inner c.half-node.ensures
    (c.newer-best.ensures ∙ ap (newer c.loop-node.best) (c.newest_at_or_below.ensures ∙ ap (λ (seqs : List ℕ). newest_at_or_below c.args.at seqs) c.list-in-loop-node.ensures.list))

pub returns : goal.returns
returns c =
    let leaf : is_leaf c.loop-node.node.low c.loop-node.node.high ≡ true = first_of (search rules, cc) in
    newest_ends c.args.fragment c.args.at c.args.fragments c.args.nodes.now c.loop-node.node c.loop-node.best c.loop-node.invariant leaf
