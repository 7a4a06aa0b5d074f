use Rattle.uc_batch.specs.Unread.{bytes_ahead}
use Rattle.uc_batch.proofs.Passing.{passes_over}
use Rattle.uc_batch.proofs.payload.read_over.Goals as goal

pub returns-in-Payload : goal.returns-in-Payload
returns-in-Payload c =
    let border = c.in-Some.border.items in
    let front = rw c.in-Some.is at c.in_ok-border.ensures in
    let passes = rw (c.in-Payload.is, c.deref.ensures.value) at c.in_ok-payload.ensures in
    let kept = rw c.deref-in-Payload.ensures.value at c.in_ok-join-in-Payload.ensures in
    passes_over c.in-Payload.payload c.in-Payload.size c.read_in.new.joined.items c.join.new.joined.items border (bytes_ahead c.args.unread.now) c.args.place front kept passes
