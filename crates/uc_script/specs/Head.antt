-- The head before a log: lines that keep and ask, and a `log` line. What follows is the log, and no lines.
use Rattle.std.specs.Prelude.{ℕ, ◌+◌, nat_lt, Bool, List, [], ◌∷◌, ◌++◌, length, position, codes, Option, Some, None, is_none, Result, if◌then◌else◌}
use Rattle.std.specs.List.{before_first, filter_map}
use Rattle.std.specs.Option.{option_map, option_or}
use Rattle.uc_script.specs.Lines.{lines_of, fields_of, is_skipped, says}
use Rattle.uc_script.specs.Queries.{get_of, scan_of}
use Rattle.uc_script.specs.Script.{keep_of, unless_fault}
use Rattle.uc_script.specs.declared.head_line.HeadLine.{HeadLine}
use Rattle.uc_script.specs.declared.head_line.HeadLine.TheVariants as saying
use Rattle.uc_script.specs.declared.query.Query.{Query}

-- ---- lines of a head

-- Whether this is a `log` line.
unfoldable pub says_log : List ℕ → Bool
says_log line = says line (codes "log")

-- The meaning of another line of a head, by its fields: `keep S`, `get K S` and `scan LOW HIGH LIMIT S`.
unfoldable pub said_by : List (List ℕ) → Option HeadLine
said_by (word ∷ argument ∷ []) = option_map saying.Keep (keep_of word argument)
said_by (word ∷ key ∷ at ∷ []) = option_map saying.Ask (get_of word key at)
said_by (word ∷ low ∷ high ∷ limit ∷ at ∷ []) = option_map saying.Ask (scan_of word low high limit at)
said_by _ = None

-- The meaning of a line of a head, or None if it is faulty.
unfoldable pub head_line : List ℕ → Option HeadLine
head_line line =
    if is_skipped line then Some saying.Skipped
    else if says_log line then Some saying.Log
    else said_by (fields_of line)

abbrev kept : Option HeadLine → Option ℕ
kept (Some (saying.Keep number)) = Some number
kept _ = None

abbrev asked : Option HeadLine → Option Query
asked (Some (saying.Ask query)) = Some query
asked _ = None

-- The number kept and the query that a line names, if it names one.
unfoldable pub keep_in : List ℕ → Option ℕ
keep_in line = kept (head_line line)

unfoldable pub query_in : List ℕ → Option Query
query_in line = asked (head_line line)

-- The queries of the lines, in order.
abbrev pub queries_in : List ℕ → List Query
queries_in text = filter_map query_in (lines_of text)

-- ---- the whole head

-- The lines before the first `log` line.
abbrev pub lines_before : List (List ℕ) → List (List ℕ)
lines_before lines = before_first says_log lines

-- The bytes of lines, each with its LF.
abbrev pub bytes_of : List (List ℕ) → List ℕ
bytes_of [] = []
bytes_of (line ∷ lines) = line ++ 10 ∷ bytes_of lines

-- The contents of a head: the numbers of its `keep` lines and its queries, in order, and its size in bytes, its `log` line with its
-- LF included.
pub record Head : Type 0 where
  pub keeps : List ℕ
  pub queries : List Query
  pub size : ℕ

-- The head of lines without a fault.
abbrev pub said_in : List (List ℕ) → Head
said_in lines = record {
  keeps = filter_map keep_in (lines_before lines);
  queries = filter_map query_in (lines_before lines);
  size = length (bytes_of (lines_before lines)) + 4;
}

-- Number of lines before the first faulty line, if there is one, in input with this number of bytes and these lines. The first line
-- that may not come before a `log` line is faulty. If there is none, but the input ends before the LF of a `log` line, it is the
-- line after those: a `log` without its LF, or the missing line.
abbrev pub fault_at : ℕ → List (List ℕ) → Option ℕ
fault_at size lines =
    option_or (position (λ line. is_none (head_line line)) (lines_before lines))
    (if nat_lt size (length (bytes_of (lines_before lines)) + 4) then Some (length (lines_before lines)) else None)

-- The head of the input, or the number of its first faulty line, from 1.
unfoldable pub head_of : List ℕ → Result Head ℕ
head_of text = unless_fault (fault_at (length text) (lines_of text)) (said_in (lines_of text))
