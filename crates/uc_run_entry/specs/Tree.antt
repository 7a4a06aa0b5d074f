-- A binary tree over fragments. A span is held by the fewest nodes that lie within it, side by side.
use Rattle.std.specs.Prelude.{ℕ, zero, suc, ◌+◌, ◌-◌, ◌*◌, ◌/◌, Bool, ◌&&◌, not, List, [], ◌∷◌, ◌++◌, map, filter, if◌then◌else◌, nat_lt, nat_le}
use Rattle.std.specs.List.{slice_index_or}
use Rattle.uc_run_entry.specs.declared.span.Span.{Span}
use Rattle.uc_run_entry.specs.declared.node.Node.{Node}

-- where a node's fragments are halved
abbrev pub middle : ℕ → ℕ → ℕ
middle low high = low + (high - low) / 2

-- whether a node has no halves
abbrev pub is_leaf : ℕ → ℕ → Bool
is_leaf low high = nat_le (high - low) 1

-- whether a span covers each fragment from `low` to below `high`
abbrev pub spans_all : ℕ → ℕ → Span → Bool
spans_all low high s = nat_le s.first low && nat_le high s.end

-- whether a span covers any fragment from `low` to below `high`
abbrev pub meets : ℕ → ℕ → Span → Bool
meets low high s = nat_lt s.first high && nat_lt low s.end

-- the sequences that a node holds, of the spans that meet its fragments
abbrev pub held : ℕ → ℕ → List Span → List ℕ
held low high spans = map (λ s. s.seq) (filter (spans_all low high) spans)

-- the spans that it doesn't hold
abbrev pub left_over : ℕ → ℕ → List Span → List Span
left_over low high spans = filter (λ s. not (spans_all low high s)) spans

-- The sequences of each node of the tree over the fragments from `low` to below `high`: first its own, then those of
-- the first half's tree, then those of the second half's. `depth` is at least the number of fragments.
abbrev pub nodes : ℕ → ℕ → ℕ → List Span → List (List ℕ)
nodes zero low high spans = []
nodes (suc depth) low high spans =
    held low high spans
    ∷ (if is_leaf low high then []
    else nodes depth low (middle low high) (filter (meets low (middle low high)) (left_over low high spans))
    ++ nodes depth (middle low high) high (filter (meets (middle low high) high) (left_over low high spans)))

-- the node of all fragments, `fragments` of them
abbrev pub root : ℕ → Node
root fragments = record { number = 0; low = 0; high = fragments }

-- the half of a node with a fragment
abbrev pub half : ℕ → Node → Node
half fragment n =
    if nat_lt fragment (middle n.low n.high) then record { number = n.number + 1; low = n.low; high = middle n.low n.high }
    else record { number = n.number + 2 * (middle n.low n.high - n.low); low = middle n.low n.high; high = n.high }

-- the numbers of the nodes over a fragment, from a node down; `depth` is at least the number of its fragments
abbrev pub nodes_over : ℕ → ℕ → Node → List ℕ
nodes_over zero fragment n = []
nodes_over (suc depth) fragment n = n.number ∷ (if is_leaf n.low n.high then [] else nodes_over depth fragment (half fragment n))

-- what the nodes over a fragment hold
abbrev pub held_over : ℕ → ℕ → List (List ℕ) → List (List ℕ)
held_over fragments fragment lists = map (λ number. slice_index_or lists number []) (nodes_over fragments fragment (root fragments))
