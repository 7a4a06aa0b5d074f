use Rattle.std.proofs.Common.{◌≡◌, ◌-◌, ◌++◌, List, ℕ, length, take, drop, ap, ◌∙◌, subst, arith, IfOk, length-drop}
use Rattle.uc_mixed.specs.Parts.{part_bytes, length_bytes, kind_bytes}
use Rattle.uc_mixed.proofs.Placed.{part_ended}
use Rattle.uc_mixed.proofs.spelling.end_part.Goals as goal

pub returns : goal.returns
returns c =
    let bytes = c.args.bytes.items in
    let start = c.args.start in
    let kind = c.args.kind in
    let n = c.len.result - start in
    let size : n ≡ length (drop start bytes) = let e = length-drop start bytes in let l = c.args.bytes.ok.0 in let f = c.len.ensures in omega (arith, e, l, f) in
    let e : c.in_ok-push_length.field-0.items ++ kind_bytes kind ≡ take start bytes ++ part_bytes kind (drop start bytes) =
    ap (λ (l : List ℕ). l ++ kind_bytes kind) c.in_ok-push_length.ensures
    ∙ part_ended bytes start n kind
    ∙ ap (λ (m : ℕ). take start bytes ++ (drop start bytes ++ (length_bytes m ++ kind_bytes kind))) size in
    subst (λ (l : List ℕ). IfOk c.push_kind.result (λ after. after.items ≡ l)) e c.push_kind.ensures
