use Rattle.uc_share.proofs.Prefixes.{prefix_self}
use Rattle.uc_share.proofs.reader.Reader.pin_at_last.Goals as goal

pub loop-init : goal.loop-init
loop-init g c = (prefix_self c.args.self.now, c.recall.ensures.legal)
