use Rattle.std.proofs.Common.{◌∙◌, List, ℕ, ap, arith}
use Rattle.uc_mixed.specs.Parts.{kind_back, backward}
use Rattle.uc_mixed.proofs.Cutting.{backward-last, unknown_number}
use Rattle.uc_mixed.proofs.part.kind_at_end.Goals as goal

pub returns-in_default : goal.returns-in_default
returns-in_default c =
    let n = c.in-Some.number.now in
    let rest = c.in-Some.rest.now in
    ap (λ (l : List ℕ). kind_back (backward l)) c.in-Some.ensures.cases.0
    ∙ ap kind_back (backward-last rest n)
    ∙ unknown_number n (backward rest) (omega arith) (omega arith) (omega arith) (omega arith) (omega arith) (omega arith) (omega arith) (omega arith) (omega arith) (omega arith) (omega arith) (omega arith) (omega arith) (omega arith)
