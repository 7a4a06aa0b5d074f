-- Fields after a word, one by one.
use Rattle.std.proofs.Common.{◌≡◌, ℕ, ◌<◌, ◌≤◌, eqb, List, [], ◌∷◌, length, drop, Option, Some, None, refl, ap, ◌∙◌, arith}
use Rattle.std.specs.Option.{option_map}
use Rattle.std.proofs.lemmas.List.{drop_more, drop_all}
use Rattle.std.proofs.lemmas.List.Splits.{length-slice_split}
use Rattle.uc_script.specs.Lines.{fields_of}
use Rattle.uc_script.specs.Faults.{arguments_fault, fields_after}
use Rattle.uc_script.specs.declared.fault.LineFault.TheVariants.{TooFew, TooMany}
use Rattle.uc_script.specs.declared.field_kind.FieldKind.{FieldKind}
use Rattle.uc_script.specs.declared.field_kind.FieldKind.TheVariants.{Text}
use Rattle.uc_script.specs.declared.word.Word.{Word}

-- fields are missing where a kind is left
pub too_few : (word : Word) (number : ℕ) (kinds : List FieldKind) (i : ℕ) → i < length kinds → arguments_fault word number (drop i kinds) [] ≡ Some (TooFew word)
too_few word number kinds i lt = ap (λ (ks : List FieldKind). arguments_fault word number ks []) (drop_more kinds i Text lt)

some_fault : (word : Word) (number : ℕ) (fields : List (List ℕ)) → 0 < length fields → arguments_fault word number [] fields ≡ Some (TooMany word)
some_fault word number [] some = absurd (omega arith)
some_fault word number (field ∷ fields) some = refl

none_left : (word : Word) (number : ℕ) (rest : Option (List ℕ)) → arguments_fault word number [] (fields_after rest) ≡ option_map (λ (text : List ℕ). TooMany word) rest
none_left word number None = refl
none_left word number (Some text) = some_fault word number (fields_of text) (omega (arith, length-slice_split (λ byte. eqb byte 32) text))

-- there are too many if no kind is left and another field follows
pub at_end : (word : Word) (number : ℕ) (kinds : List FieldKind) (i : ℕ) (rest : Option (List ℕ)) → length kinds ≤ i → arguments_fault word number (drop i kinds) (fields_after rest) ≡ option_map (λ (text : List ℕ). TooMany word) rest
at_end word number kinds i rest le = ap (λ (ks : List FieldKind). arguments_fault word number ks (fields_after rest)) (drop_all i kinds le) ∙ none_left word number rest
