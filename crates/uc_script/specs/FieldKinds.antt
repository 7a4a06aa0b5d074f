-- Kinds of the fields after a line's first word.
use Rattle.std.specs.Prelude.{ℕ, ◌-◌, List, ◌++◌, codes, Bool, is_some}
use Rattle.std.specs.Fmt.{decimal}
use Rattle.uc_script.specs.Texts.{number_of, name_of, text_of, seq_of, high_of}
use Rattle.uc_script.specs.declared.call.TheConstants.{NAMES}
use Rattle.uc_script.specs.declared.field_kind.FieldKind.{FieldKind}
use Rattle.uc_script.specs.declared.field_kind.FieldKind.TheVariants.{Text, High, Number, Name, Seq}

-- Whether a field is of this kind, as lines are read.
abbrev pub reads : FieldKind → List ℕ → Bool
reads Text field = is_some (text_of field)
reads High field = is_some (high_of field)
reads Number field = is_some (number_of field)
reads Name field = is_some (name_of field)
reads Seq field = is_some (seq_of field)

-- The description of a kind, as it is printed.
abbrev pub kind_text : FieldKind → List ℕ
kind_text Text = codes "hexadecimal, two digits for each byte, or . for no bytes"
kind_text High = codes "hexadecimal, two digits for each byte, or . for no bytes, or - for no end"
kind_text Number = codes "a number from 0 to 18446744073709551615, without sign or needless zeros"
kind_text Name = codes "a number from 0 to " ++ (decimal (NAMES - 1) ++ codes ", without sign or needless zeros")
kind_text Seq = codes "last, or a number from 0 to 18446744073709551615, without sign or needless zeros"
