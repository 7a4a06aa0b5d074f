use Rattle.std.proofs.Common.{◌∙◌, length, sym, ap}
use Rattle.uc_engine.specs.EngineViews.{value_seen}
use Rattle.uc_c.proofs.Cutting.{as_many}
use Rattle.uc_c.proofs.many.look_up_many.Goals as goal

pub copy_from_slice-requires : goal.copy_from_slice-requires
copy_from_slice-requires g c =
    c.if-value_lengths-key_lengths.false
    ∙ sym (ap length (c.deref.ensures.value ∙ c.in-Ok.ensures.lengths) ∙ as_many (value_seen (g.R.Readable.viewed c.args.source.now)) c.args.key_lengths.now c.args.keys.now)
