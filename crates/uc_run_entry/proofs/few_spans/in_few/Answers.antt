use Rattle.std.proofs.Common.{◌≡◌, List, subst, sym, Ok, Err, Result}
use Rattle.std.specs.Prelude.{IfOk}
use Rattle.uc_run_entry.specs.declared.span.Span.{Span}
use Rattle.uc_run_entry.specs.Joined.{SayWhat, joined}
use Rattle.uc_run_entry.proofs.Joins.{say_what}
use Rattle.uc_run_entry.proofs.few_spans.in_few.Goals as goal

ok_is : {V E : Type 0} (made : Result V E) (items : V → List Span) (ss : List Span) (P : List Span → Type 0) → IfOk made (λ v. items v ≡ ss) → P ss → IfOk made (λ v. P (items v))
ok_is (Ok v) items ss P h p = subst P (sym h) p
ok_is (Err e) items ss P h p = tt

pub returns : goal.returns
returns c =
    ok_is c.joined-made.result (λ made. made.items) (joined c.deref.result.now) (SayWhat c.args.fragments c.args.spans.items) c.joined-made.ensures
    (subst (λ (ss : List Span). SayWhat c.args.fragments c.args.spans.items (joined ss)) (sym c.deref.ensures.value)
    (say_what c.args.fragments c.args.spans.items c.sorted-ordered.result.items c.sorted-ordered.ensures.permutation c.sorted-ordered.ensures.sorted c.requires))
