use Rattle.std.proofs.Common.{◌≡◌, ◌∙◌, ◌+◌, ◌%◌, ◌^◌, ℕ, ap, arith}
use Rattle.uc_logrec.specs.Mask.{masked, unmasked, mask_delta}
use Rattle.uc_logrec.proofs.Masks.{rotated_right, unmasked-masked}
use Rattle.uc_logrec.proofs.masking.mask.Goals as goal

value : (c : goal.After-rotate_right) → (c.rotate_right.result + mask_delta) % 2 ^ 32 ≡ masked c.args.crc
unfolding masked
value c = ap (λ (n : ℕ). (n + mask_delta) % 2 ^ 32) (c.rotate_right.ensures ∙ rotated_right c.args.crc (omega arith))

pub returns-clause-value : goal.returns-clause-value
returns-clause-value c = value c

pub returns-clause-undone : goal.returns-clause-undone
returns-clause-undone c = ap unmasked (value c) ∙ unmasked-masked c.args.crc (omega arith)
