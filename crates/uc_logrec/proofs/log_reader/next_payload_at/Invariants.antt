use Rattle.std.proofs.Common.{◌≡◌, ◌+◌, ◌-◌, ◌≤◌, [], length, drop}
use Rattle.uc_logrec.specs.Position.{ahead_at}
use Rattle.uc_logrec.specs.Steps.{open_in}
use Rattle.uc_logrec.proofs.Reading.{Completes}
use Rattle.uc_logrec.proofs.Locality.{CompletesAlone}
use Rattle.uc_logrec.proofs.log_reader.next_payload_at.Given as goal

abbrev pub invariant-loop-found : goal.invariant-loop-found
invariant-loop-found l = record {
  completes : Completes (ahead_at l.fn.place l.fn.left) [] (open_in l.unfinished l.joined.items) l.place l.left;
  within : l.place + length l.left ≡ l.fn.place + length l.fn.left;
  later : l.fn.place ≤ l.place;
  alone : CompletesAlone l.fn.place l.fn.left (open_in l.unfinished l.joined.items) l.place;
  behind : l.left ≡ drop (l.place - l.fn.place) l.fn.left;
}

abbrev pub decreases-loop-found : goal.decreases-loop-found
decreases-loop-found l = length l.left
