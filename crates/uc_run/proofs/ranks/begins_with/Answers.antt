use Rattle.std.proofs.Common.{◌≡◌, ◌≤◌, ◌∙◌, ℕ, length, min, take, sym, ap, subst, arith}
use Rattle.std.specs.Cmp.Lexicographic.{same_text}
use Rattle.std.proofs.lemmas.List.{take_all}
use Rattle.uc_run.specs.Ranks.{HasFront}
use Rattle.uc_run.proofs.RankOrder.{common_front, common_bound}
use Rattle.uc_run.proofs.ranks.begins_with.Goals as goal

pub returns-then-same_text-clause-front : goal.returns-then-same_text-clause-front
returns-then-same_text-clause-front c =
    let front = c.args.front.now in
    let key = c.args.key.now in
    let all : c.split_at.result.0.now ≡ front = same_text c.split_at.result.0.now front (sym (sym c.same_text.ensures ∙ c.if-same_text.true)) in
    let long : length front ≡ c.min.result = sym (ap length all) ∙ c.split_at.ensures.front_len in
    let least : c.min.result ≡ min (length front) (length key) = c.min.ensures in
    let begin : front ≡ take (length front) key = sym all ∙ c.split_at.ensures.front ∙ ap (λ (n : ℕ). take n key) (sym long) in
    record {
      long = omega (arith, long, least);
      same = sym begin ∙ sym (take_all (length front) front (omega arith));
    }

pub returns-clause-bound : goal.returns-clause-bound
returns-clause-bound c = subst (λ (n : ℕ). n ≤ length c.args.front.now) (sym c.common_prefix_len.ensures.shared) (common_bound c.args.front.now c.args.key.now)

pub returns-clause-front : goal.returns-clause-front
returns-clause-front c = subst (λ (n : ℕ). HasFront n c.args.front.now c.args.key.now) (sym c.common_prefix_len.ensures.shared) (common_front c.args.front.now c.args.key.now)
