-- Messages about a line are made of printable characters.
use Rattle.std.proofs.Common.{◌≡◌, ℕ, ◌+◌, ◌-◌, ◌<◌, ◌≤◌, ◌^◌, Bool, true, false, cond, nat_eq, List, [], ◌∷◌, ◌++◌, length, take, drop, codes, Option, Some, None, refl, arith}
use Rattle.std.specs.Prelude.{IfSome}
use Rattle.std.specs.Fmt.{decimal}
use Rattle.std.specs.List.{list_all, list_any, ends_with}
use Rattle.std.specs.Option.{option_map}
use Rattle.uc_script.specs.Leaving.{leaves}
use Rattle.uc_script.specs.Lines.{lines_of, fields_of, is_skipped}
use Rattle.uc_script.specs.Explanations.{says_open, begins_write, takes_writes, missing, lacks_its_end, fault_before, said_of, explanation_of}
use Rattle.uc_script.specs.Faults.{arguments_fault, word_fault, fields_fault, line_fault}
use Rattle.uc_script.specs.FieldKinds.{reads, kind_text}
use Rattle.uc_script.specs.Parts.{part_of, first_words}
use Rattle.uc_script.specs.Shortened.{is_printable, shortened}
use Rattle.uc_script.specs.FaultTexts.{fault_text, line_text, missing_text}
use Rattle.uc_script.specs.Words.{named, is_word, kinds, form_of}
use Rattle.uc_script.specs.declared.call.TheConstants.{NAMES}
use Rattle.uc_script.specs.declared.fault.LineFault.{LineFault}
use Rattle.uc_script.specs.declared.fault.LineFault.TheVariants.{UnknownWord, Misplaced, TooFew, TooMany, BadField, NoLineFeed}
use Rattle.uc_script.specs.declared.field_kind.FieldKind.{FieldKind}
use Rattle.uc_script.specs.declared.field_kind.FieldKind.TheVariants.{Text, High, Number, Name, Seq}
use Rattle.uc_script.specs.declared.part.Part.{Part}
use Rattle.uc_script.specs.declared.part.Part.TheVariants.{Setup, Calls, Head}
use Rattle.uc_script.specs.declared.part.Source.{Source}
use Rattle.uc_script.specs.declared.word.Word.{Word}
use Rattle.uc_script.specs.declared.word.Word.TheVariants.{Put, Delete, Merge, Range, Keep, Open, Feed, KeepLast, Release, Get, Scan, Claim, Install, Abandon, Compact, Pick, Report, Log}
use Rattle.uc_script.proofs.PrintedFaults.{IsShown, joined, line_shown, number_shown}

-- ---- the fixed words

part_shown : (part : Part) → IsShown (first_words part)
part_shown Setup = refl
part_shown Calls = refl
part_shown Head = refl

kind_shown : (kind : FieldKind) → IsShown (kind_text kind)
kind_shown Text = refl
kind_shown High = refl
kind_shown Number = refl
kind_shown Name =
    let few = joined (decimal (NAMES - 1)) (codes ", without sign or needless zeros") (number_shown (NAMES - 1) (omega arith)) refl in
    joined (codes "a number from 0 to ") (decimal (NAMES - 1) ++ codes ", without sign or needless zeros") refl few
kind_shown Seq = refl

form_shown : (word : Word) → IsShown (form_of word)
form_shown Put = refl
form_shown Delete = refl
form_shown Merge = refl
form_shown Range = refl
form_shown Keep = refl
form_shown Open = refl
form_shown Feed = refl
form_shown KeepLast = refl
form_shown Release = refl
form_shown Get = refl
form_shown Scan = refl
form_shown Claim = refl
form_shown Install = refl
form_shown Abandon = refl
form_shown Compact = refl
form_shown Pick = refl
form_shown Report = refl
form_shown Log = refl

few_kinds : (word : Word) → length (kinds word) ≤ 4
few_kinds Put = omega arith
few_kinds Delete = omega arith
few_kinds Merge = omega arith
few_kinds Range = omega arith
few_kinds Keep = omega arith
few_kinds Open = omega arith
few_kinds Feed = omega arith
few_kinds KeepLast = omega arith
few_kinds Release = omega arith
few_kinds Get = omega arith
few_kinds Scan = omega arith
few_kinds Claim = omega arith
few_kinds Install = omega arith
few_kinds Abandon = omega arith
few_kinds Compact = omega arith
few_kinds Pick = omega arith
few_kinds Report = omega arith
few_kinds Log = omega arith

-- ---- faults

-- what is printed of a fault, if there is one
abbrev FaultIsShown : Option LineFault → Type 0
FaultIsShown fault = IfSome fault (λ f. IsShown (fault_text f))

quoted : (before word : List ℕ) → IsShown before → IsShown word → IsShown (before ++ (word ++ codes "`"))
quoted before word p q = joined before (word ++ codes "`") p (joined word (codes "`") q refl)

few_shown : (word : Word) → IsShown (fault_text (TooFew word))
few_shown word = quoted (codes "it has too few fields for `") (form_of word) refl (form_shown word)

many_shown : (word : Word) → IsShown (fault_text (TooMany word))
many_shown word = quoted (codes "it has too many fields for `") (form_of word) refl (form_shown word)

field_shown : (word : Word) (number : ℕ) (kind : FieldKind) → number < 2 ^ 64 → IsShown (fault_text (BadField word number kind))
field_shown word number kind lt =
    let d = joined (codes "` has to be ") (kind_text kind) refl (kind_shown kind) in
    let e = joined (form_of word) (codes "` has to be " ++ kind_text kind) (form_shown word) d in
    let f = joined (codes " of `") (form_of word ++ (codes "` has to be " ++ kind_text kind)) refl e in
    joined (codes "field ") (decimal number ++ (codes " of `" ++ (form_of word ++ (codes "` has to be " ++ kind_text kind)))) refl (joined (decimal number) (codes " of `" ++ (form_of word ++ (codes "` has to be " ++ kind_text kind))) (number_shown number lt) f)

field_step : (b : Bool) (word : Word) (number : ℕ) (kind : FieldKind) (later : Option LineFault) → number < 2 ^ 64 → FaultIsShown later → FaultIsShown (cond b later (Some (BadField word number kind)))
field_step true word number kind later lt is = is
field_step false word number kind later lt is = field_shown word number kind lt

arguments_shown : (word : Word) (number : ℕ) (kinds : List FieldKind) (fields : List (List ℕ)) → number + length kinds < 2 ^ 64 → FaultIsShown (arguments_fault word number kinds fields)
arguments_shown word number [] [] lt = tt
arguments_shown word number [] (field ∷ fields) lt = many_shown word
arguments_shown word number (kind ∷ kinds) [] lt = few_shown word
arguments_shown word number (kind ∷ kinds) (field ∷ fields) lt =
    field_step (reads kind field) word number kind (arguments_fault word (number + 1) kinds fields) (omega arith) (arguments_shown word (number + 1) kinds fields (omega arith))

place_step : (b : Bool) (part : Part) → FaultIsShown (cond b (Some (Misplaced part)) (Some (UnknownWord part)))
place_step true part = joined (codes "its first word has no place here: ") (first_words part) refl (part_shown part)
place_step false part = joined (codes "its first word is unknown: ") (first_words part) refl (part_shown part)

word_shown : (part : Part) (field : List ℕ) (word : Option Word) (fields : List (List ℕ)) → FaultIsShown (word_fault part field word fields)
word_shown part field None fields = place_step (is_word field) part
word_shown part field (Some word) fields = arguments_shown word 2 (kinds word) fields (omega (arith, few_kinds word))

fields_shown : (part : Part) (fields : List (List ℕ)) → FaultIsShown (fields_fault part fields)
fields_shown part [] = tt
fields_shown part (field ∷ fields) = word_shown part field (named part field) fields

skip_step : (b : Bool) (later : Option LineFault) → FaultIsShown later → FaultIsShown (cond b None later)
skip_step true later is = tt
skip_step false later is = is

fault_shown : (part : Part) (line : List ℕ) → FaultIsShown (line_fault part line)
unfolding line_fault
fault_shown part line = skip_step (is_skipped line) (fields_fault part (fields_of line)) (fields_shown part (fields_of line))

end_step : (b : Bool) (later : Option LineFault) → FaultIsShown later → FaultIsShown (cond b (Some NoLineFeed) later)
end_step true later is = refl
end_step false later is = is

before_shown : (part : Part) (line : List ℕ) (others : List (List ℕ)) (ended : Bool) → FaultIsShown (fault_before part line others ended)
before_shown part line others ended = end_step (lacks_its_end part line others ended) (line_fault part line) (fault_shown part line)

-- ---- lines

-- what is said, if anything is
abbrev SaidIsShown : Option (List ℕ) → Type 0
SaidIsShown said = IfSome said (λ s. list_all is_printable s ≡ true)

numbered : (number : ℕ) (rest : List ℕ) → number < 2 ^ 64 → IsShown rest → IsShown (codes "line " ++ (decimal number ++ rest))
numbered number rest lt is = joined (codes "line ") (decimal number ++ rest) refl (joined (decimal number) rest (number_shown number lt) is)

missing_shown : (number : ℕ) (word : List ℕ) → number < 2 ^ 64 → IsShown word → IsShown (missing_text number word)
missing_shown number word lt is =
    numbered number (codes " is missing: it has to be `" ++ (word ++ codes "`")) lt (quoted (codes " is missing: it has to be `") word refl is)

feed_shown : (number : ℕ) (unfed : Bool) → number < 2 ^ 64 → SaidIsShown (missing Calls number unfed)
feed_shown number true lt = missing_shown number (codes "feed") lt refl
feed_shown number false lt = tt

lines_shown : (part : Part) (number : ℕ) (unfed : Bool) → number < 2 ^ 64 → SaidIsShown (missing part number unfed)
lines_shown Setup number unfed lt = missing_shown number (codes "open") lt refl
lines_shown Calls number unfed lt = feed_shown number unfed lt
lines_shown Head number unfed lt = missing_shown number (codes "log") lt refl

line_shown_with : (number : ℕ) (line : List ℕ) (fault : Option LineFault) → number < 2 ^ 64 → IsShown line → FaultIsShown fault → SaidIsShown (option_map (line_text number line) fault)
line_shown_with number line None lt is told = tt
line_shown_with number line (Some fault) lt is told =
    let d = joined (codes "`: ") (fault_text fault) refl told in
    let e = joined line (codes "`: " ++ fault_text fault) is d in
    numbered number (codes ", `" ++ (line ++ (codes "`: " ++ fault_text fault))) lt (joined (codes ", `") (line ++ (codes "`: " ++ fault_text fault)) refl e)

said_shown : (part : Part) (number : ℕ) (unfed : Bool) (lines : List (List ℕ)) (ended : Bool) → number < 2 ^ 64 → SaidIsShown (said_of part number unfed lines ended)
said_shown part number unfed [] ended lt = lines_shown part number unfed lt
said_shown part number unfed (line ∷ others) ended lt =
    line_shown_with number (shortened line) (fault_before part line others ended) lt (line_shown line) (before_shown part line others ended)

pub explanation_shown : (source : Source) (text : List ℕ) (number : ℕ) → number < 2 ^ 64 → SaidIsShown (explanation_of source text number)
unfolding explanation_of
explanation_shown source text number lt =
    said_shown (part_of source (list_any says_open (take (number - 1) (lines_of text)))) number (leaves begins_write takes_writes (lines_of text)) (drop (number - 1) (lines_of text)) (ends_with nat_eq text (10 ∷ [])) lt
