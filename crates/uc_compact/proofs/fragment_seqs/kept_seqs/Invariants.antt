use Rattle.uc_compact.proofs.Newest.{KeepsOn, room}
use Rattle.uc_compact.proofs.fragment_seqs.kept_seqs.Given as goal

abbrev pub invariant-loop-next : goal.invariant-loop-next
invariant-loop-next l = KeepsOn l.keeping l.seqs l.kept.items l.next

abbrev pub decreases-loop-next : goal.decreases-loop-next
decreases-loop-next l = room l.next
