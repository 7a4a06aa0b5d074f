use Rattle.std.proofs.Common.{true}
use Rattle.uc_examples_library.proofs.main.Given as goal

-- the book, the claim words and the version of what was opened; no keep comes or goes
abbrev pub ghosts-count : goal.ghosts-count
ghosts-count g a = record { book = a.opening.book; table = a.opening.table; base = a.opening.version; keeps_stay = true }
