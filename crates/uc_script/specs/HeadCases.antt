-- Lines before a log, by cases, and the outcome of each case.
use Rattle.std.specs.Prelude.{◌≡◌, ◌≢◌, ℕ, ◌+◌, List, ◌∷◌, ◌++◌, length, codes, None, IsSome, IsFalse, Result, Ok, Err, filter_map}
use Rattle.std.specs.List.{AllByRecursion}
use Rattle.uc_script.specs.Lines.{lines_of}
use Rattle.uc_script.specs.Head.{Head, head_line, says_log, keep_in, query_in, bytes_of}

-- No byte of a line is LF.
abbrev pub IsLine : List ℕ → Type 0
IsLine line = AllByRecursion (λ byte. byte ≢ 10) line

-- Each line may come before `log`, and is no `log` itself.
abbrev pub AreHead : List (List ℕ) → Type 0
AreHead lines = AllByRecursion (λ line. IsLine line × IsSome (head_line line) × IsFalse (says_log line)) lines

-- A head is such lines and a `log` line, each with its LF, and says what they name in order; any bytes follow.
-- Otherwise the fault is the first line that doesn't fit, or the one past the last if no `log` comes, or a `log`
-- without its LF.
pub data ComesTo : List ℕ → Result Head ℕ → Type 0 where
  asks : (before : List (List ℕ)) (log : List ℕ) → AreHead before
      → ComesTo (bytes_of before ++ (codes "log" ++ 10 ∷ log)) (Ok (record { keeps = filter_map keep_in before; queries = filter_map query_in before; size = length (bytes_of before) + 4 }))
  no_line : (text : List ℕ) (before : List (List ℕ)) (line : List ℕ) (rest : List (List ℕ)) → AreHead before → head_line line ≡ None → lines_of text ≡ before ++ line ∷ rest
      → ComesTo text (Err (length before + 1))
  no_log : (text : List ℕ) (before : List (List ℕ)) → AreHead before → lines_of text ≡ before → ComesTo text (Err (length before + 1))
  no_end : (before : List (List ℕ)) → AreHead before → ComesTo (bytes_of before ++ codes "log") (Err (length before + 1))
