use Rattle.std.proofs.Common.{[]}
use Rattle.uc_batch.specs.Gathering.{gathered_ops}
use Rattle.uc_batch.proofs.Gathered.{gathered, known, cleared}
use Rattle.uc_batch.proofs.gathering.WriteBatch.clear.Goals as goal

pub invariant_of-self : goal.invariant_of-self
invariant_of-self c =
    let bytes = c.set_count.new.bytes.items in
    known 0 bytes [] (cleared c.self.inside.count (gathered_ops c.self.inside.bytes.items) c.self.inside.bytes.items c.truncate.new.self.items bytes c.self.invariant c.truncate.ensures.items c.set_count.ensures)

pub returns : goal.returns
returns c =
    let bytes = c.set_count.new.bytes.items in
    gathered 0 bytes [] (cleared c.self.inside.count (gathered_ops c.self.inside.bytes.items) c.self.inside.bytes.items c.truncate.new.self.items bytes c.self.invariant c.truncate.ensures.items c.set_count.ensures)
