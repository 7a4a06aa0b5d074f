use Rattle.std.proofs.Common.{◌%◌, ◌*◌, ◌^◌, ap, bit_or, ◌∙◌}
use Rattle.uc_run.specs.Ranks.{high_in, room}
use Rattle.uc_run.proofs.RankOrder.{rank_parts}
use Rattle.uc_run.proofs.ranks.rank_of.Goals as goal

pub returns : goal.returns
returns c =
    let bits = c.args.bits in
    ap (λ h. bit_or (h * room bits % 2 ^ 64) c.low_in.result) c.high_in.ensures
    ∙ ap (λ p. bit_or (high_in bits c.args.prefix * room bits % 2 ^ 64) p) c.low_in.ensures
    ∙ rank_parts bits c.args.prefix c.args.number c.ranges.prefix.fits
