use Rattle.std.proofs.Common.{rules, ◌≡◌, ◌≤◌, ◌∙◌, ◌-◌, List, ℕ, length, take, drop, sym, ap, arith}
use Rattle.std.specs.Prelude.{min}
use Rattle.uc_bytes.specs.Bytes.{same_bytes}
use Rattle.uc_run.specs.Prefixes.{prefix_of}
use Rattle.uc_run.proofs.TextOrder.{cut_off}
use Rattle.uc_run.proofs.SameText.{same_behind}
use Rattle.uc_run.proofs.texts.same_text.Goals as goal

pub loop-rest-preserved : goal.loop-rest-preserved
loop-rest-preserved c =
    let xs = c.loop-rest.rest.now in
    let ys = c.loop-rest.other_rest.now in
    let n = c.prefix_of.ensures in
    let m = c.prefix_of-in-loop-rest.ensures in
    let same : prefix_of xs ≡ prefix_of ys = sym n.prefix ∙ c.if-prefix_of.false ∙ m.prefix in
    let long : 8 ≤ min (length xs) (length ys) = search rules in
    ap (λ (zs : List ℕ). same_bytes zs (take (length ys - 8) (drop 8 ys))) (cut_off 8 xs)
    ∙ ap (λ (zs : List ℕ). same_bytes (drop 8 xs) zs) (cut_off 8 ys)
    ∙ same_behind xs ys n.bytes m.bytes same (omega (arith, long)) (omega (arith, long))
    ∙ c.loop-rest.invariant
