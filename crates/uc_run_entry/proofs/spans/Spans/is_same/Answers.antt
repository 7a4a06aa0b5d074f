use Rattle.std.proofs.Common.{rules, ◌≡◌, ◌≢◌, ℕ, List, IsTrue, eqb, arith, ap, sym, ◌∙◌}
use Rattle.std.proofs.lemmas.Bool.Decides.{nat_tests}
use Rattle.uc_run_entry.specs.declared.span.Span.{Span}
use Rattle.uc_run_entry.specs.Spans.{listed}
use Rattle.uc_run_entry.proofs.Equal.{listed_alike}
use Rattle.uc_run_entry.proofs.spans.Spans.is_same.Goals as goal

number_from : (m n : ℕ) → IsTrue (eqb m n) → m ≡ n
number_from m n e = grind (arith, nat_tests)

pub returns-then-self-other : goal.returns-then-self-other
returns-then-self-other c =
    let m : ℕ = c.self.inside.fragments in
    let n : ℕ = c.other.inside.fragments in
    let a : List Span = c.self.inside.spans.items in
    let b : List Span = c.other.inside.spans.items in
    let count : c.self.inside.fragments ≡ c.other.inside.fragments = first_of (omega arith, search rules) in (
      (λ t.
          sym c.self.view_is
          ∙ ap (λ (ss : List Span). listed m ss) (sym c.deref.ensures.value ∙ c.are_same.ensures.0 t ∙ c.deref-then-self-other.ensures.value)
          ∙ ap (λ (k : ℕ). listed k b) count
          ∙ c.other.view_is),
      (λ e.
          c.are_same.ensures.1
          (c.deref.ensures.value
          ∙ (listed_alike m n a b c.self.invariant.joined c.other.invariant.joined c.self.invariant.within c.other.invariant.within (c.self.view_is ∙ e ∙ sym c.other.view_is)).1
          ∙ sym c.deref-then-self-other.ensures.value)),
    )

pub returns-else-self-other : goal.returns-else-self-other
returns-else-self-other c =
    let m : ℕ = c.self.inside.fragments in
    let n : ℕ = c.other.inside.fragments in
    let a : List Span = c.self.inside.spans.items in
    let b : List Span = c.other.inside.spans.items in
    let other : c.self.inside.fragments ≢ c.other.inside.fragments = λ e. absurd (omega arith) in (
      (λ t. absurd (other (number_from m n t))),
      (λ e. absurd (other (listed_alike m n a b c.self.invariant.joined c.other.invariant.joined c.self.invariant.within c.other.invariant.within (c.self.view_is ∙ e ∙ sym c.other.view_is)).0)),
    )
