use Rattle.std.proofs.Common.{◌≡◌, drop}
use Rattle.uc_share.proofs.publisher.queued.Given as goal

-- what is queued and shown is what it was, and the entry is still to be queued
abbrev pub invariant-loop : goal.invariant-loop
invariant-loop g l =
    (l.writer.desk ≡ l.fn.writer.desk)
    × (drop l.writer.behind l.writer.log.items ≡ drop l.fn.writer.behind l.fn.writer.log.items)
    × (l.entry ≡ l.fn.next)
