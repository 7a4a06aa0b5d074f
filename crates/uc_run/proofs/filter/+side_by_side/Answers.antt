use Rattle.std.proofs.Common.{rules, ◌≡◌, ◌+◌, ◌-◌, ◌/◌, ◌≤◌, List, ℕ, length, take, drop, sym, subst, arith}
use Rattle.std.proofs.lemmas.List.{take_at}
use Rattle.uc_run.specs.Filters.{HasBits, AdmitsAll}
use Rattle.uc_run.proofs.Admitting.{both_admitted}
use Rattle.uc_run.proofs.Walking.{halves}
use Rattle.uc_run.proofs.filter.+side_by_side.Goals as goal

pub returns-clause-admitted : goal.returns-clause-admitted
returns-clause-admitted g t c =
    let words = c.in_ok-words.words in
    let more = c.in_ok-back.field-0 in
    let new = c.add_bits.new.words in
    let begin = c.args.begin in
    let end = c.args.end in
    let middle = begin + (end - begin) / 2 in
    let points = c.args.points.now in
    let low : begin ≤ middle = omega arith in
    let high : middle ≤ end = omega (arith, c.requires.order) in
    let count : length new ≡ length words.items = search rules in
    let as_long : length new ≡ length more.items = search rules in
    let long : length new ≡ words.len = search rules in
    let front : AdmitsAll words.items (take (middle - begin) (drop begin points)) = search rules in
    let back : AdmitsAll more.items (take (end - middle) (drop middle points)) = search rules in
    subst (λ (ws : List ℕ). AdmitsAll ws (take (end - begin) (drop begin points))) (sym (take_at new (drop (length new) words.items) words.len long))
    (subst (AdmitsAll new) (halves points begin middle end low high)
    (both_admitted words.items more.items new (take (middle - begin) (drop begin points)) (take (end - middle) (drop middle points)) count as_long
    (subst (λ (ws : List ℕ). (place bits : ℕ) → HasBits ws place bits → HasBits new place bits) c.deref_mut.ensures.value c.add_bits.ensures.kept)
    (subst (λ (ws : List ℕ). (place bits : ℕ) → HasBits ws place bits → HasBits new place bits) c.deref.ensures.value c.add_bits.ensures.added)
    front back))
