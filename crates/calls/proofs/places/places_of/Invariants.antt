use Rattle.std.proofs.Common.{◌≡◌, All}
use Rattle.calls.proofs.places.places_of.Given as goal

abbrev pub invariant-loop-seat : goal.invariant-loop-seat
invariant-loop-seat g l = All (λ seat. seat.table ≡ g.N.Name.table) l.seat-iterator.rest.items
