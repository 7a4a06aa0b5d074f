use Rattle.std.proofs.Common.{false}
use Rattle.uc_tests_threads.proofs.soak.soak.Given as goal

-- the book, the claim words and the version of the opened store
abbrev pub ghosts-soak_named : goal.ghosts-soak_named
ghosts-soak_named g a = record { book = a.opening.book; table = a.opening.table; base = a.opening.version; keeps_stay = false }
