use Rattle.std.proofs.Common.{false}
use Rattle.uc_tests_threads.proofs.races.comes_right.Given as goal

-- the book, the claim words and the version of the opened store
abbrev pub ghosts-comes_right_named : goal.ghosts-comes_right_named
ghosts-comes_right_named g a = record { book = a.opening.book; table = a.opening.table; base = a.opening.version; keeps_stay = false }
