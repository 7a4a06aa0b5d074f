use Rattle.std.proofs.Common.{◌≡◌, ◌<◌, ◌+◌, ◌*◌, ◌∙◌, ℕ, List, [], get_or, length, ap, arith, rules}
use Rattle.std.specs.Arc.{arc_value}
use Rattle.uc_run_file.proofs.FragmentText.{one_made, many_ends}
use Rattle.uc_run_file.proofs.fragment_reader.fragments_of.Goals as goal

pub loop-number-preserved : goal.loop-number-preserved
loop-number-preserved c = λ fs e g.
    let ends = arc_value c.args.ends.now in
    let lists = arc_value c.args.lists.now in
    let k = c.loop-number.number in
    let many : length ends ≡ 2 * length fs = ap (λ (xs : List (List ℕ)). length xs) e ∙ many_ends fs in
    let len : c.len-number-end.result ≡ length ends = search rules in
    let lt : k < length fs = omega (arith, many, len, c.loop-number-test.true) in
    let none : List ℕ = [] in
    let same : c.new.result ≡ record { begin = get_or ends (2 * k) none; end = get_or ends (2 * k + 1) none; seqs = get_or lists k none } = search rules in
    search (rules, one_made fs c.loop-number.list.items ends lists k c.new.result lt e g (c.loop-number.invariant fs e g) same)
