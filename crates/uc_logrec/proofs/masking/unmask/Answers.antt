use Rattle.std.proofs.Common.{◌≡◌, ◌∙◌, ap, arith}
use Rattle.uc_logrec.specs.Mask.{masked, unmasked}
use Rattle.uc_logrec.proofs.Masks.{rotated_left, masked-unmasked}
use Rattle.uc_logrec.proofs.masking.unmask.Goals as goal

value : (c : goal.After-rotate_left) → c.rotate_left.result ≡ unmasked c.args.stored
unfolding unmasked
value c = c.rotate_left.ensures ∙ rotated_left _ (omega arith)

pub returns-clause-value : goal.returns-clause-value
returns-clause-value c = value c

pub returns-clause-undone : goal.returns-clause-undone
returns-clause-undone c = ap masked (value c) ∙ masked-unmasked c.args.stored (omega arith)
