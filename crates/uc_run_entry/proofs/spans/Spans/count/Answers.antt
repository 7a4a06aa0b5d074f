use Rattle.std.proofs.Common.{ℕ, ◌<◌, ◌-◌, ◌^◌, min, List, [], length, get_or, arith, ap, sym, ◌∙◌}
use Rattle.uc_run_entry.specs.declared.span.Span.{Span}
use Rattle.uc_run_entry.specs.Tree.{held_over}
use Rattle.uc_run_entry.proofs.Joins.{joined_stay}
use Rattle.uc_run_entry.proofs.Listed.{length-listed, listed_at}
use Rattle.uc_run_entry.proofs.Trees.{many_in, count_held, fragment_below, all_nodes}
use Rattle.uc_run_entry.proofs.spans.Spans.count.Goals as goal

pub count_over-requires-clause-within : goal.count_over-requires-clause-within
count_over-requires-clause-within c =
    fragment_below c.self.inside.fragments c.args.fragment c.args.self.now c.requires
    (sym (ap (λ (xss : List (List ℕ)). length xss) c.self.view_is) ∙ length-listed c.self.inside.fragments c.self.inside.spans.items)

pub count_over-requires-clause-all : goal.count_over-requires-clause-all
count_over-requires-clause-all c =
    let l : c.args.fragment < c.self.inside.fragments =
    fragment_below c.self.inside.fragments c.args.fragment c.args.self.now c.requires
    (sym (ap (λ (xss : List (List ℕ)). length xss) c.self.view_is) ∙ length-listed c.self.inside.fragments c.self.inside.spans.items) in
    all_nodes c.self.inside.fragments c.self.inside.spans.items c.self.inside.nodes (omega (arith, l)) c.self.invariant.indexed

pub returns : goal.returns
returns c =
    let count : ℕ = c.self.inside.fragments in
    let spans : List Span = c.self.inside.spans.items in
    let f : ℕ = c.args.fragment in
    let l : c.args.fragment < c.self.inside.fragments =
    fragment_below count f c.args.self.now c.requires
    (sym (ap (λ (xss : List (List ℕ)). length xss) c.self.view_is) ∙ length-listed count spans) in
    c.count_over.ensures
    ∙ ap (λ (xss : List (List ℕ)). min (many_in (held_over count f xss)) (2 ^ 64 - 1)) c.self.invariant.indexed
    ∙ ap (λ n. min n (2 ^ 64 - 1)) (count_held f count spans l
    ∙ ap (λ (seqs : List ℕ). length seqs)
    (sym (joined_stay f spans c.self.invariant.joined) ∙ sym (listed_at count spans f l) ∙ ap (λ (xss : List (List ℕ)). get_or xss f []) c.self.view_is))
