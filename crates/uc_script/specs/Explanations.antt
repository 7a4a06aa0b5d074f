-- The explanation of a faulty line.
use Rattle.std.specs.Prelude.{ℕ, ◌-◌, ◌==◌, length, Bool, true, false, not, ◌&&◌, ◌||◌, List, [], ◌∷◌, take, drop, codes, nat_eq, Option, Some, None, string_bytes, if◌then◌else◌}
use Rattle.std.specs.List.{list_any, ends_with}
use Rattle.std.specs.Option.{option_map}
use Rattle.uc_script.specs.Lines.{lines_of, fields_of, says}
use Rattle.uc_script.specs.Leaving.{leaves}
use Rattle.uc_script.specs.Faults.{line_fault}
use Rattle.uc_script.specs.Parts.{part_of}
use Rattle.uc_script.specs.Shortened.{shortened}
use Rattle.uc_script.specs.FaultTexts.{line_text, missing_text}
use Rattle.uc_script.specs.Words.{form_of}
use Rattle.uc_script.specs.declared.explanation.Explanation.{Explanation}
use Rattle.uc_script.specs.declared.explanation.Explanation.TheVariants.{Line, Missing}
use Rattle.uc_script.specs.declared.fault.LineFault.{LineFault}
use Rattle.uc_script.specs.declared.fault.LineFault.TheVariants.{NoLineFeed}
use Rattle.uc_script.specs.declared.part.Part.{Part}
use Rattle.uc_script.specs.declared.part.Part.TheVariants.{Setup, Calls, Head}
use Rattle.uc_script.specs.declared.part.Source.{Source}

-- The explanation as it is printed.
abbrev pub explanation_text : Explanation → List ℕ
explanation_text (Line number line fault) = line_text number (string_bytes line) fault
explanation_text (Missing number word) = missing_text number (form_of word)

-- Whether a line is `open`.
abbrev pub says_open : List ℕ → Bool
says_open line = says line (codes "open")

-- The first field of a line.
abbrev pub first_field : List (List ℕ) → List ℕ
first_field [] = []
first_field (field ∷ fields) = field

-- Whether a line that begins with this word writes.
abbrev pub is_write : List ℕ → Bool
is_write word = says word (codes "put") || (says word (codes "delete") || (says word (codes "merge") || says word (codes "range")))

-- Whether a line writes, by its first word.
abbrev pub begins_write : List ℕ → Bool
begins_write line = is_write (first_field (fields_of line))

-- Whether a line takes the writes before it.
abbrev pub takes_writes : List ℕ → Bool
takes_writes line = says line (codes "open") || says line (codes "feed")

-- The explanation if the line of this number is missing: nothing after an `open` if no write is left to feed.
abbrev pub missing : Part → ℕ → Bool → Option (List ℕ)
missing Setup number unfed = Some (missing_text number (codes "open"))
missing Calls number unfed = if unfed then Some (missing_text number (codes "feed")) else None
missing Head number unfed = Some (missing_text number (codes "log"))

-- Whether the part is the head before a log.
abbrev is_head : Part → Bool
is_head Setup = false
is_head Calls = false
is_head Head = true

-- Whether a line that these follow is the end of a head except for its LF.
abbrev pub lacks_its_end : Part → List ℕ → List (List ℕ) → Bool → Bool
lacks_its_end part line others ended = is_head part && (says line (codes "log") && (length others == 0 && not ended))

-- The fault of a line before these others, in input that ends with LF or doesn't.
abbrev pub fault_before : Part → List ℕ → List (List ℕ) → Bool → Option LineFault
fault_before part line others ended = if lacks_its_end part line others ended then Some NoLineFeed else line_fault part line

-- The explanation of the first of these lines, which has this number, in input that leaves writes or doesn't.
abbrev pub said_of : Part → ℕ → Bool → List (List ℕ) → Bool → Option (List ℕ)
said_of part number unfed [] ended = missing part number unfed
said_of part number unfed (line ∷ others) ended = option_map (line_text number (shortened line)) (fault_before part line others ended)

-- The explanation of the line of this number, from 1, in input of this kind, if it is faulty or missing.
unfoldable pub explanation_of : Source → List ℕ → ℕ → Option (List ℕ)
explanation_of source text number =
    said_of (part_of source (list_any says_open (take (number - 1) (lines_of text)))) number (leaves begins_write takes_writes (lines_of text)) (drop (number - 1) (lines_of text)) (ends_with nat_eq text (10 ∷ []))
