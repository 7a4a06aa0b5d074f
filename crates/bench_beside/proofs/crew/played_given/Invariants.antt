use Rattle.std.proofs.Common.{false}
use Rattle.bench_beside.proofs.crew.played_given.Given as goal

-- the book, the claim words and the version of the opened store; keeps come and go
abbrev pub ghosts-played_named : goal.ghosts-played_named
ghosts-played_named g a = record { book = a.opening.book; table = a.opening.table; base = a.opening.version; keeps_stay = false }
