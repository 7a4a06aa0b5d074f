use Rattle.std.proofs.Common.{false}
use Rattle.calls.proofs.hall_calls.play_opened.Given as goal

-- the book, the claim words and the version of the opened store
abbrev pub ghosts-play_named : goal.ghosts-play_named
ghosts-play_named g a = record { book = a.opening.book; table = a.opening.table; base = a.opening.version; keeps_stay = false }
