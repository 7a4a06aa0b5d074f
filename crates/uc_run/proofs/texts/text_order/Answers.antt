use Rattle.std.proofs.Common.{rules, ◌≡◌, ◌<◌, ◌≤◌, ◌∙◌, ◌-◌, List, ℕ, length, min, take, drop, sym, ap, arith}
use Rattle.std.specs.Ordering.{nat_cmp}
use Rattle.uc_bytes.specs.Bytes.{bytes_cmp}
use Rattle.uc_run.specs.Prefixes.{prefix_of}
use Rattle.uc_run.proofs.PrefixOrder.{equal_prefix}
use Rattle.uc_run.proofs.TextOrder.{other_prefix, behind_prefix, cut_off}
use Rattle.uc_run.proofs.texts.text_order.Goals as goal

pub returns-then-number-other_number : goal.returns-then-number-other_number
returns-then-number-other_number c =
    let n = c.prefix_of-number.ensures in
    let m = c.prefix_of-other_number.ensures in
    let xs = c.loop-rest.rest.now in
    let ys = c.loop-rest.other_rest.now in
    sym (other_prefix xs ys c.cmp.result n.bytes m.bytes
    (ap (λ a. nat_cmp a (prefix_of ys)) (sym n.prefix) ∙ ap (nat_cmp c.prefix_of-number.result) (sym m.prefix) ∙ sym c.cmp.ensures)
    (λ same. c.if-number-other_number.true (n.prefix ∙ same ∙ sym m.prefix)))
    ∙ c.loop-rest.invariant

pub returns-then-min-le-PREFIX_BYTES : goal.returns-then-min-le-PREFIX_BYTES
returns-then-min-le-PREFIX_BYTES c =
    let n = c.prefix_of-number.ensures in
    let m = c.prefix_of-other_number.ensures in
    let xs = c.loop-rest.rest.now in
    let ys = c.loop-rest.other_rest.now in
    let same : prefix_of xs ≡ prefix_of ys = sym n.prefix ∙ c.if-number-other_number.false ∙ m.prefix in
    let few : min (length xs) (length ys) ≤ 8 = search rules in
    c.cmp-then-min-le-PREFIX_BYTES.ensures ∙ sym (equal_prefix xs ys n.bytes m.bytes same few) ∙ c.loop-rest.invariant

pub loop-rest-preserved : goal.loop-rest-preserved
loop-rest-preserved c =
    let n = c.prefix_of-number.ensures in
    let m = c.prefix_of-other_number.ensures in
    let xs = c.loop-rest.rest.now in
    let ys = c.loop-rest.other_rest.now in
    let same : prefix_of xs ≡ prefix_of ys = sym n.prefix ∙ c.if-number-other_number.false ∙ m.prefix in
    let long : 8 < min (length xs) (length ys) = search rules in
    ap (λ (zs : List ℕ). bytes_cmp zs (take (length ys - 8) (drop 8 ys))) (cut_off 8 xs)
    ∙ ap (λ (zs : List ℕ). bytes_cmp (drop 8 xs) zs) (cut_off 8 ys)
    ∙ sym (behind_prefix xs ys n.bytes m.bytes same (omega (arith, long)) (omega (arith, long)))
    ∙ c.loop-rest.invariant
