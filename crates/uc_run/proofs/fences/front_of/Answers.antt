use Rattle.std.proofs.Common.{rules, ◌≡◌, ◌-◌, ◌*◌, ◌<◌, ℕ, List, [], length, get_or, take, nat_eq, sym, ap, ◌∙◌, arith}
use Rattle.std.specs.List.{common_prefix_len}
use Rattle.std.proofs.lemmas.List.{length-take-le}
use Rattle.uc_run.proofs.Fenced.{any, no_front}
use Rattle.uc_run.proofs.fences.front_of.Goals as goal

pub slice_bounds-result-end-2 : goal.slice_bounds-result-end-2
slice_bounds-result-end-2 c = sym (length-take-le c.common_prefix_len-shared.result c.fence_at-first.result.now c.common_prefix_len-shared.ensures.within)

pub returns-then-blocks-eq0 : goal.returns-then-blocks-eq0
returns-then-blocks-eq0 c fences are =
    let none : c.blocks-blocks.result ≡ 0 = search rules in
    let each = are.each in
    no_front fences (omega (arith, each, none, c.blocks-blocks.ensures))

pub returns : goal.returns
returns c fences are =
    let points = c.args.points.now in
    let shared = c.common_prefix_len-shared.result in
    let each = are.each in
    let some : 0 < length fences = let other = c.if-blocks-eq0.false in omega (arith, each, c.blocks-blocks.ensures, other) in
    let last : length fences - 1 ≡ c.blocks-blocks.result - 1 = omega (arith, each, c.blocks-blocks.ensures) in
    let first_is : c.fence_at-first.result.now ≡ get_or fences 0 [] = c.fence_at-first.ensures any ∙ sym (are.keys 0 [] any some) in
    let last_is : c.fence_at.result.now ≡ get_or fences (length fences - 1) [] =
    c.fence_at.ensures any
    ∙ ap (λ n. (get_or points (4 * n) any).key) (sym last)
    ∙ sym (are.keys (length fences - 1) [] any (omega (arith, some))) in
    let long = length-take-le shared c.fence_at-first.result.now c.common_prefix_len-shared.ensures.within in
    let shared_is =
    c.common_prefix_len-shared.ensures.shared
    ∙ ap (λ (key : List ℕ). common_prefix_len nat_eq key c.fence_at.result.now) first_is
    ∙ ap (λ (key : List ℕ). common_prefix_len nat_eq (get_or fences 0 []) key) last_is in
    record {
      bytes = ap (λ (key : List ℕ). take shared key) first_is ∙ ap (λ n. take n (get_or fences 0 [])) (sym long);
      long = long ∙ shared_is;
    }
