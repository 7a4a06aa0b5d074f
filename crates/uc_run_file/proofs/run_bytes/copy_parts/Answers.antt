use Rattle.std.proofs.Common.{◌≡◌, ◌-◌, ◌∙◌, ◌++◌, ℕ, List, length, take, drop, sym, ap}
use Rattle.uc_run_file.proofs.PieceSums.{back_joined}
use Rattle.uc_run_file.proofs.Copied.{rest_kept, both_copied}
use Rattle.uc_run_file.proofs.run_bytes.copy_parts.Goals as goal

pub returns-clause-copied : goal.returns-clause-copied
returns-clause-copied c =
    let points = c.args.points.now in
    let tail = c.args.tail.now in
    let offset = c.args.offset in
    let first = c.split_front.result.1.now in
    let second = c.split_front-2.result.1.now in
    let second_is : second ≡ drop (offset - length (take offset points)) tail =
    c.split_front-2.ensures.rest ∙ ap (λ (xs : List ℕ). drop (offset - length xs) tail) c.split_front.ensures.front in
    let rest : first ++ second ≡ drop offset (points ++ tail) =
    ap (λ (xs : List ℕ). xs ++ second) c.split_front.ensures.rest ∙ ap (λ (xs : List ℕ). drop offset points ++ xs) second_is ∙ sym (back_joined offset points tail) in
    both_copied c.args.buffer.now first second c.copy_at-count.new.buffer c.copy_at.new.buffer c.copy_at-count.result c.copy_at.result
    c.copy_at-count.ensures.count c.copy_at-count.ensures.copied c.copy_at.ensures.count c.copy_at.ensures.copied
    ∙ ap (take (length c.args.buffer.now)) rest

pub returns-clause-rest : goal.returns-clause-rest
returns-clause-rest c =
    rest_kept c.args.buffer.now c.split_front.result.1.now c.split_front-2.result.1.now c.copy_at-count.new.buffer c.copy_at.new.buffer c.copy_at-count.result c.copy_at.result
    c.copy_at-count.ensures.count c.copy_at-count.ensures.copied c.copy_at.ensures.count c.copy_at.ensures.copied
