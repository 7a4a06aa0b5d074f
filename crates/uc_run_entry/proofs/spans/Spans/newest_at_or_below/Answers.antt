use Rattle.std.proofs.Common.{ℕ, ◌<◌, List, [], length, get_or, arith, ap, sym, ◌∙◌, subst}
use Rattle.std.specs.List.{AllByRecursion}
use Rattle.uc_run_entry.specs.declared.span.Span.{Span}
use Rattle.uc_run_entry.specs.Newest.{Descends, newest_at_or_below, newest_of_all}
use Rattle.uc_run_entry.specs.Tree.{held_over}
use Rattle.uc_run_entry.proofs.Joins.{joined_descend, joined_stay}
use Rattle.uc_run_entry.proofs.Listed.{length-listed, listed_at}
use Rattle.uc_run_entry.proofs.Trees.{nodes_descend, newest_held, fragment_below, all_nodes}
use Rattle.uc_run_entry.proofs.spans.Spans.newest_at_or_below.Goals as goal

pub newest_over-requires-clause-within : goal.newest_over-requires-clause-within
newest_over-requires-clause-within c =
    fragment_below c.self.inside.fragments c.args.fragment c.args.self.now c.requires
    (sym (ap (λ (xss : List (List ℕ)). length xss) c.self.view_is) ∙ length-listed c.self.inside.fragments c.self.inside.spans.items)

pub newest_over-requires-clause-all : goal.newest_over-requires-clause-all
newest_over-requires-clause-all c =
    let l : c.args.fragment < c.self.inside.fragments =
    fragment_below c.self.inside.fragments c.args.fragment c.args.self.now c.requires
    (sym (ap (λ (xss : List (List ℕ)). length xss) c.self.view_is) ∙ length-listed c.self.inside.fragments c.self.inside.spans.items) in
    all_nodes c.self.inside.fragments c.self.inside.spans.items c.self.inside.nodes (omega (arith, l)) c.self.invariant.indexed

pub newest_over-requires-clause-falling : goal.newest_over-requires-clause-falling
newest_over-requires-clause-falling c =
    subst (λ (xss : List (List ℕ)). AllByRecursion Descends xss) (sym c.self.invariant.indexed)
    (nodes_descend c.self.inside.fragments 0 c.self.inside.fragments c.self.inside.spans.items (joined_descend c.self.inside.spans.items c.self.invariant.joined))

pub returns : goal.returns
returns c =
    let count : ℕ = c.self.inside.fragments in
    let spans : List Span = c.self.inside.spans.items in
    let f : ℕ = c.args.fragment in
    let l : c.args.fragment < c.self.inside.fragments =
    fragment_below count f c.args.self.now c.requires
    (sym (ap (λ (xss : List (List ℕ)). length xss) c.self.view_is) ∙ length-listed count spans) in
    c.newest_over.ensures
    ∙ ap (λ (xss : List (List ℕ)). newest_of_all c.args.at (held_over count f xss)) c.self.invariant.indexed
    ∙ newest_held f c.args.at count spans l (joined_descend spans c.self.invariant.joined)
    ∙ ap (λ (seqs : List ℕ). newest_at_or_below c.args.at seqs)
    (sym (joined_stay f spans c.self.invariant.joined) ∙ sym (listed_at count spans f l) ∙ ap (λ (xss : List (List ℕ)). get_or xss f []) c.self.view_is)
