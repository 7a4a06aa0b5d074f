use Rattle.std.proofs.Common.{◌≡◌, ◌+◌, All, length, true}
use Rattle.uc_share.proofs.words.split_seats.Given as goal

-- all but the rest are split off, all of the table, and the rest is of it too; before the first split it is whole
abbrev pub invariant-loop : goal.invariant-loop
invariant-loop l =
    (length l.seats.items + 1 ≡ l.counter) × All (λ seat. seat.table ≡ l.fn.table.table) l.seats.items
    × (l.rest.table ≡ l.fn.table.table) × (l.counter ≡ 1 → l.rest.whole ≡ true)
