use Rattle.std.proofs.Common.{rules, ◌≡◌, suc, List, ◌∷◌, All, arith}
use Rattle.calls.proofs.places.places_of.Goals as goal

first_of : {X : Type 0} (P : X → Type 0) (x : X) (xs : List X) → All P (x ∷ xs) → P x
first_of P x xs all = all 0 x (omega arith)

rest_of : {X : Type 0} (P : X → Type 0) (x : X) (xs : List X) → All P (x ∷ xs) → All P xs
rest_of P x xs all = λ k d lt. all (suc k) d (omega arith)

pub of-requires : goal.of-requires
of-requires g c =
    let l = c.loop-seat in
    let seats = c.next.new.self.rest.items in
    let first : l.seat-iterator.rest.items ≡ c.in-Some.seat ∷ seats = search rules in
    first_of (λ seat. seat.table ≡ g.N.Name.table) c.in-Some.seat seats (rw first at l.invariant)

pub loop-seat-preserved : goal.loop-seat-preserved
loop-seat-preserved g c =
    let l = c.loop-seat in
    let seats = c.next.new.self.rest.items in
    let first : l.seat-iterator.rest.items ≡ c.in-Some.seat ∷ seats = search rules in
    rest_of (λ seat. seat.table ≡ g.N.Name.table) c.in-Some.seat seats (rw first at l.invariant)
