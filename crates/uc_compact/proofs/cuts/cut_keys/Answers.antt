use Rattle.std.proofs.Common.{rules}
use Rattle.uc_compact.proofs.Rising.{none_rise}
use Rattle.uc_compact.proofs.cuts.cut_keys.Goals as goal

pub loop-part-init : goal.loop-part-init
loop-part-init c = record { rise = none_rise (λ cut. cut.now) c.new-cuts.result.items c.new-cuts.ensures.items; count = search rules }

pub returns-then-parts-eq1-clause-rise : goal.returns-then-parts-eq1-clause-rise
returns-then-parts-eq1-clause-rise c = none_rise (λ cut. cut.now) c.new-cuts.result.items c.new-cuts.ensures.items

pub returns-in_default-clause-rise : goal.returns-in_default-clause-rise
returns-in_default-clause-rise c = none_rise (λ cut. cut.now) c.new-cuts.result.items c.new-cuts.ensures.items
