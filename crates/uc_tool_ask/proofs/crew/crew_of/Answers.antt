use Rattle.std.proofs.Common.{rules, ◌≡◌, suc, ◌+◌, List, [], ◌∷◌, ◌++◌, All, length, ap, arith}
use Rattle.std.proofs.lemmas.List.{length_push}
use Rattle.uc_tool_ask.proofs.crew.crew_of.Goals as goal

first_of : {X : Type 0} (P : X → Type 0) (x : X) (xs : List X) → All P (x ∷ xs) → P x
first_of P x xs all = all 0 x (omega arith)

rest_of : {X : Type 0} (P : X → Type 0) (x : X) (xs : List X) → All P (x ∷ xs) → All P xs
rest_of P x xs all = λ k d lt. all (suc k) d (omega arith)

pub compactor-requires : goal.compactor-requires
compactor-requires g c =
    let table = c.args.store.now.table in
    let l = c.loop-seat in
    let seats = c.next.new.self.rest.items in
    let first : l.seat-iterator.rest.items ≡ c.in-Some.seat ∷ seats = search rules in
    first_of (λ seat. seat.table ≡ table) c.in-Some.seat seats (rw first at l.invariant.rest)

pub loop-seat-preserved : goal.loop-seat-preserved
loop-seat-preserved g c =
    let table = c.args.store.now.table in
    let l = c.loop-seat in
    let seats = c.next.new.self.rest.items in
    let first : l.seat-iterator.rest.items ≡ c.in-Some.seat ∷ seats = search rules in
    let all = rw first at l.invariant.rest in
    let count : length l.seat-iterator.rest.items ≡ suc (length seats) = ap length first in
    let yielded : length (l.yielded ++ c.in-Some.seat ∷ []) ≡ length l.yielded + 1 = length_push l.yielded c.in-Some.seat in
    record {
      rest = rest_of (λ seat. seat.table ≡ table) c.in-Some.seat seats all;
      all = omega (arith, l.invariant.all, count, yielded);
      left = omega (arith, l.invariant.left, yielded, c.in-Some-pop.ensures.len);
    }
