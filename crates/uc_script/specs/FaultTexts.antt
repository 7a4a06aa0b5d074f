-- The message of a fault.
use Rattle.std.specs.Prelude.{ℕ, List, ◌++◌, codes}
use Rattle.std.specs.Fmt.{decimal}
use Rattle.uc_script.specs.FieldKinds.{kind_text}
use Rattle.uc_script.specs.Parts.{first_words}
use Rattle.uc_script.specs.Words.{form_of}
use Rattle.uc_script.specs.declared.fault.LineFault.{LineFault}
use Rattle.uc_script.specs.declared.fault.LineFault.TheVariants.{UnknownWord, Misplaced, TooFew, TooMany, BadField, NoLineFeed}

-- The message of a fault.
abbrev pub fault_text : LineFault → List ℕ
fault_text (UnknownWord part) = codes "its first word is unknown: " ++ first_words part
fault_text (Misplaced part) = codes "its first word has no place here: " ++ first_words part
fault_text (TooFew word) = codes "it has too few fields for `" ++ (form_of word ++ codes "`")
fault_text (TooMany word) = codes "it has too many fields for `" ++ (form_of word ++ codes "`")
fault_text (BadField word field kind) =
    codes "field " ++ (decimal field ++ (codes " of `" ++ (form_of word ++ (codes "` has to be " ++ kind_text kind))))
fault_text NoLineFeed = codes "its line feed is missing, behind which the log begins"

-- The message for a line of this number, shown like this, that has a fault.
abbrev pub line_text : ℕ → List ℕ → LineFault → List ℕ
line_text number line fault = codes "line " ++ (decimal number ++ (codes ", `" ++ (line ++ (codes "`: " ++ fault_text fault))))

-- The message for a missing line of this number, which must be this word.
abbrev pub missing_text : ℕ → List ℕ → List ℕ
missing_text number word = codes "line " ++ (decimal number ++ (codes " is missing: it has to be `" ++ (word ++ codes "`")))
