-- The fault of a line.
use Rattle.std.specs.Prelude.{ℕ, ◌+◌, List, [], ◌∷◌, Option, Some, None, if◌then◌else◌}
use Rattle.uc_script.specs.Lines.{fields_of, is_skipped}
use Rattle.uc_script.specs.FieldKinds.{reads}
use Rattle.uc_script.specs.Words.{named, is_word, kinds}
use Rattle.uc_script.specs.declared.fault.LineFault.{LineFault}
use Rattle.uc_script.specs.declared.fault.LineFault.TheVariants.{UnknownWord, Misplaced, TooFew, TooMany, BadField}
use Rattle.uc_script.specs.declared.field_kind.FieldKind.{FieldKind}
use Rattle.uc_script.specs.declared.part.Part.{Part}
use Rattle.uc_script.specs.declared.word.Word.{Word}

-- The fault of fields, from the one of this number on, if they must be of these kinds.
abbrev pub arguments_fault : Word → ℕ → List FieldKind → List (List ℕ) → Option LineFault
arguments_fault word number [] [] = None
arguments_fault word number [] (field ∷ fields) = Some (TooMany word)
arguments_fault word number (kind ∷ kinds) [] = Some (TooFew word)
arguments_fault word number (kind ∷ kinds) (field ∷ fields) =
    if reads kind field then arguments_fault word (number + 1) kinds fields else Some (BadField word number kind)

-- The fault of a line that begins with this field, which is this word of the part or none, and continues with these fields.
abbrev pub word_fault : Part → List ℕ → Option Word → List (List ℕ) → Option LineFault
word_fault part field (Some word) fields = arguments_fault word 2 (kinds word) fields
word_fault part field None fields = if is_word field then Some (Misplaced part) else Some (UnknownWord part)

abbrev pub fields_fault : Part → List (List ℕ) → Option LineFault
fields_fault part [] = None
fields_fault part (field ∷ fields) = word_fault part field (named part field) fields

-- The fault of a line of this part, if it has any.
unfoldable pub line_fault : Part → List ℕ → Option LineFault
line_fault part line = if is_skipped line then None else fields_fault part (fields_of line)

-- The fields of what follows a space, if there is one.
abbrev pub fields_after : Option (List ℕ) → List (List ℕ)
fields_after None = []
fields_after (Some text) = fields_of text
