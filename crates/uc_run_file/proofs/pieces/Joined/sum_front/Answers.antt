use Rattle.std.proofs.Common.{◌≡◌, ◌-◌, ◌∙◌, ◌++◌, ℕ, List, length, take, drop, sym, ap}
use Rattle.uc_logrec.specs.Crc.{crc_of}
use Rattle.uc_run_file.proofs.PieceSums.{front_joined, back_joined}
use Rattle.uc_run_file.proofs.pieces.Joined.sum_front.Goals as goal

pub returns-clause-sum : goal.returns-clause-sum
returns-clause-sum c =
    let first = c.args.self.first.now in
    let second = c.args.self.second.now in
    let more : c.split_front-2.result.0.now ≡ take (c.args.count - length (take c.args.count first)) second = c.split_front-2.ensures.front ∙ ap (λ (xs : List ℕ). take (c.args.count - length xs) second) c.split_front.ensures.front in
    c.extend.ensures.continues c.split_front.result.0.now c.crc32c.ensures
    ∙ ap (λ (xs : List ℕ). crc_of (xs ++ c.split_front-2.result.0.now)) c.split_front.ensures.front
    ∙ ap (λ (xs : List ℕ). crc_of (take c.args.count first ++ xs)) more
    ∙ ap crc_of (sym (front_joined c.args.count first second))

pub returns-clause-rest : goal.returns-clause-rest
returns-clause-rest c =
    let first = c.args.self.first.now in
    let second = c.args.self.second.now in
    let more : c.split_front-2.result.1.now ≡ drop (c.args.count - length (take c.args.count first)) second = c.split_front-2.ensures.rest ∙ ap (λ (xs : List ℕ). drop (c.args.count - length xs) second) c.split_front.ensures.front in
    ap (λ (xs : List ℕ). xs ++ c.split_front-2.result.1.now) c.split_front.ensures.rest
    ∙ ap (λ (xs : List ℕ). drop c.args.count first ++ xs) more
    ∙ sym (back_joined c.args.count first second)
