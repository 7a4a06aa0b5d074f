-- The contents of a script.
use Rattle.std.specs.Prelude.{ℕ, ◌+◌, ◌==◌, Bool, true, false, List, [], ◌∷◌, ◌++◌, length, position, codes, Option, Some, None, is_none, Result, Ok, Err, if◌then◌else◌}
use Rattle.std.specs.List.{before_first, after_first, filter_map, cons_option}
use Rattle.std.specs.Option.{option_map, option_or}
use Rattle.uc_script.specs.Leaving.{leaves}
use Rattle.uc_script.specs.Lines.{lines_of, fields_of, is_skipped, says}
use Rattle.uc_script.specs.Texts.{◌>>=◌, number_of, name_of, seq_of}
use Rattle.uc_script.specs.Changes.{change_with_one, change_with_two}
use Rattle.uc_script.specs.Queries.{get_of, scan_of}
use Rattle.uc_script.specs.declared.call.Call.{Call}
use Rattle.uc_script.specs.declared.call.Call.TheVariants.{Feed, Keep, Release, Read, Claim, Install, Abandon, Compact, Pick, Report}
use Rattle.uc_script.specs.declared.setup_line.SetupLine.{SetupLine}
use Rattle.uc_script.specs.declared.setup_line.SetupLine.TheVariants as setup
use Rattle.uc_script.specs.declared.call_line.CallLine.{CallLine}
use Rattle.uc_script.specs.declared.call_line.CallLine.TheVariants as asking
use Rattle.uc_script.specs.declared.script.Script.{Script}
use Rattle.uc_bytes.specs.declared.op.Op.{Op}

-- ---- lines before `open`

-- `keep S`
unfoldable pub keep_of : List ℕ → List ℕ → Option ℕ
keep_of word argument = if says word (codes "keep") then number_of argument else None

-- `delete K` and `keep S`
unfoldable pub with_one : List ℕ → List ℕ → Option SetupLine
with_one word argument = option_or (option_map setup.Change (change_with_one word argument)) (option_map setup.Keep (keep_of word argument))

-- The meaning of a line up to the first `open`, by its fields.
unfoldable pub setup_of : List (List ℕ) → Option SetupLine
setup_of (word ∷ []) = if says word (codes "open") then Some setup.Open else None
setup_of (word ∷ argument ∷ []) = with_one word argument
setup_of (word ∷ first ∷ second ∷ []) = option_map setup.Change (change_with_two word first second)
setup_of _ = None

-- The meaning of such a line, or None if it is faulty.
unfoldable pub setup_line : List ℕ → Option SetupLine
setup_line line = if is_skipped line then Some setup.Skipped else setup_of (fields_of line)

-- ---- lines after `open`

-- `claim N FIRST COUNT`
unfoldable pub claim_of : List ℕ → List ℕ → List ℕ → Option Call
claim_of name first count = do
  n ← name_of name
  f ← number_of first
  c ← number_of count
  Some (Claim n f c)

-- `compact FIRST COUNT`
unfoldable pub compact_of : List ℕ → List ℕ → Option Call
compact_of first count = do
  f ← number_of first
  c ← number_of count
  Some (Compact f c)

-- `keep`, `pick` and `report`
unfoldable pub call_alone : List ℕ → Option Call
call_alone word =
    if says word (codes "keep") then Some Keep
    else if says word (codes "pick") then Some Pick
    else if says word (codes "report") then Some Report
    else None

-- `install N` and `abandon N`
unfoldable pub named_call : List ℕ → List ℕ → Option Call
named_call word name = do
  n ← name_of name
  if says word (codes "install") then Some (Install n)
      else if says word (codes "abandon") then Some (Abandon n)
      else None

-- `release S`, `install N` and `abandon N`
unfoldable pub call_with_one : List ℕ → List ℕ → Option Call
call_with_one word argument =
    if says word (codes "release") then option_map Release (seq_of argument)
    else named_call word argument

-- `get K S` and `compact FIRST COUNT`
unfoldable pub call_with_two : List ℕ → List ℕ → List ℕ → Option Call
call_with_two word first second =
    if says word (codes "compact") then compact_of first second
    else option_map Read (get_of word first second)

-- `feed`, and the calls without a field
abbrev pub line_alone : List ℕ → Option CallLine
line_alone word = if says word (codes "feed") then Some asking.Feed else option_map asking.Ask (call_alone word)

-- the calls with one field, and `delete K`
abbrev pub line_with_one : List ℕ → List ℕ → Option CallLine
line_with_one word argument =
    option_or (option_map asking.Ask (call_with_one word argument)) (option_map asking.Change (change_with_one word argument))

-- the calls with two fields, and `put K V`, `merge K V` and `range B E`
abbrev pub line_with_two : List ℕ → List ℕ → List ℕ → Option CallLine
line_with_two word first second =
    option_or (option_map asking.Ask (call_with_two word first second)) (option_map asking.Change (change_with_two word first second))

-- The meaning of a line after the first `open`, by its fields.
unfoldable pub call_of : List (List ℕ) → Option CallLine
call_of (word ∷ []) = line_alone word
call_of (word ∷ argument ∷ []) = line_with_one word argument
call_of (word ∷ first ∷ second ∷ []) = line_with_two word first second
call_of (word ∷ name ∷ first ∷ count ∷ []) = if says word (codes "claim") then option_map asking.Ask (claim_of name first count) else None
call_of (word ∷ low ∷ high ∷ limit ∷ at ∷ []) = option_map asking.Ask (option_map Read (scan_of word low high limit at))
call_of _ = None

-- The meaning of a line after the first `open`, or None if it is faulty.
unfoldable pub call_line : List ℕ → Option CallLine
call_line line = if is_skipped line then Some asking.Skipped else call_of (fields_of line)

-- ---- the lines after `open`

-- The call of a line, if it is one, after these changes came without a `feed`: a `feed` takes them.
abbrev pub call_after : List Op → CallLine → Option Call
call_after ops asking.Skipped = None
call_after ops (asking.Change op) = None
call_after ops asking.Feed = Some (Feed ops)
call_after ops (asking.Ask call) = Some call

-- The changes that are collected after it.
abbrev pub ops_after : List Op → CallLine → List Op
ops_after ops asking.Skipped = ops
ops_after ops (asking.Change op) = ops ++ op ∷ []
ops_after ops asking.Feed = []
ops_after ops (asking.Ask call) = ops

-- The calls of lines in order, after these changes came without a `feed`. A faulty line is no call.
abbrev pub calls_from : List Op → List (List ℕ) → List Call
calls_from ops [] = []
calls_from ops (line ∷ lines) = elim (call_line line) [
  | None ↦ calls_from ops lines
  | Some said ↦ cons_option (call_after ops said) (calls_from (ops_after ops said) lines)
]

abbrev pub is_change : Option CallLine → Bool
is_change (Some (asking.Change op)) = true
is_change _ = false

abbrev pub is_feed : Option CallLine → Bool
is_feed (Some asking.Feed) = true
is_feed _ = false

-- Whether this is a change, and whether it is a `feed`, if it follows `open`.
unfoldable pub says_change : List ℕ → Bool
says_change line = is_change (call_line line)

unfoldable pub says_feed : List ℕ → Bool
says_feed line = is_feed (call_line line)

-- Whether a change among these lines has no `feed` after it.
abbrev pub lack_a_feed : List (List ℕ) → Bool
lack_a_feed lines = leaves says_change says_feed lines

-- ---- the whole script

abbrev is_open : Option SetupLine → Bool
is_open (Some setup.Open) = true
is_open _ = false

-- Whether this is an `open` line.
unfoldable pub says_open : List ℕ → Bool
says_open line = is_open (setup_line line)

-- The lines before the first `open`, and the lines after it.
abbrev pub lines_before : List (List ℕ) → List (List ℕ)
lines_before lines = before_first says_open lines

abbrev pub lines_after : List (List ℕ) → List (List ℕ)
lines_after lines = after_first says_open lines

abbrev pub changed : Option SetupLine → Option Op
changed (Some (setup.Change op)) = Some op
changed _ = None

abbrev kept : Option SetupLine → Option ℕ
kept (Some (setup.Keep number)) = Some number
kept _ = None

-- The change and the number kept that a line names, if it names one.
unfoldable pub change_in : List ℕ → Option Op
change_in line = changed (setup_line line)

unfoldable pub keep_in : List ℕ → Option ℕ
keep_in line = kept (setup_line line)

-- Number of lines after `open` before the first faulty one, if there is one. If none is faulty but a change has no `feed` after it,
-- it is the line that is missing after the last.
abbrev pub fault_behind : List (List ℕ) → Option ℕ
fault_behind lines =
    option_or (position (λ line. is_none (call_line line)) lines)
    (if lack_a_feed lines then Some (length lines) else None)

-- Number of lines before the first faulty line, if there is one. Before the first `open` that is a line that is no setup line. If
-- no line is `open`, it is the line that is missing after the last.
abbrev pub fault_at : List (List ℕ) → Option ℕ
fault_at lines =
    option_or (position (λ line. is_none (setup_line line)) (lines_before lines))
    (if length (lines_before lines) == length lines then Some (length lines)
    else option_map (λ k. length (lines_before lines) + 1 + k) (fault_behind (lines_after lines)))

-- The script of lines without a fault, all in the order of the lines.
abbrev pub asked_by : List (List ℕ) → Script
asked_by lines = record {
  ops = filter_map change_in (lines_before lines);
  keeps = filter_map keep_in (lines_before lines);
  calls = calls_from [] (lines_after lines);
}

-- The result, unless there is a fault after this number of lines: then its number, from 1.
abbrev pub unless_fault : {A : Type 0} → Option ℕ → A → Result A ℕ
unless_fault (Some k) read = Err (k + 1)
unless_fault None read = Ok read

-- The script in these bytes, or the number of its first line at fault, from 1.
unfoldable pub script_of : List ℕ → Result Script ℕ
script_of text = unless_fault (fault_at (lines_of text)) (asked_by (lines_of text))
