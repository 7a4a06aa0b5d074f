use Rattle.std.proofs.Common.{true}
use Rattle.uc_tool_ask.proofs.ask_run.print_opened.Given as goal

-- the book, the claim words and the version of what was opened; nobody keeps or releases a sequence
abbrev pub ghosts-answer_shared : goal.ghosts-answer_shared
ghosts-answer_shared g a = record { book = a.opening.book; table = a.opening.table; base = a.opening.version; keeps_stay = true }
