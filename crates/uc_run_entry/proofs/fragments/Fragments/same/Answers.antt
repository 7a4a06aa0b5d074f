use Rattle.std.proofs.Common.{rules, ◌≡◌, map, sym, ap, ◌∙◌}
use Rattle.std.specs.Arc.{arc_value}
use Rattle.uc_run_entry.specs.Shared.{ends_of}
use Rattle.uc_run_entry.proofs.Covered.{same_seqs, same_fragments}
use Rattle.uc_run_entry.proofs.fragments.Fragments.same.Goals as goal

pub returns-then-have_same : goal.returns-then-have_same
returns-then-have_same c =
    let one = c.self.inside in
    let other = c.other.inside in
    let seqs = same_seqs arc_value one.list.items other.list.items one.spans other.spans c.self.invariant c.other.invariant (c.have_same.ensures c.if-have_same.true) in
    let here : c.deref.result.now ≡ c.args.self.now = c.deref.ensures.value ∙ search rules in
    let there : c.deref-then-have_same.result.now ≡ c.args.other.now = c.deref-then-have_same.ensures.value ∙ search rules in (
      (λ t. sym here ∙ same_fragments c.deref.result.now c.deref-then-have_same.result.now (c.same_ends.ensures.0 t) (ap (map (λ f. f.seqs)) c.deref.ensures.value ∙ seqs ∙ sym (ap (map (λ f. f.seqs)) c.deref-then-have_same.ensures.value)) ∙ there),
      (λ e. c.same_ends.ensures.1 (ap (map ends_of) (here ∙ e ∙ sym there))),
    )
