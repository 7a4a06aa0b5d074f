-- The words that lines begin with, and what follows each.
use Rattle.std.specs.Prelude.{ℕ, List, [], ◌∷◌, ◌&&◌, Option, codes, find, Bool, true, false}
use Rattle.std.specs.List.{list_any}
use Rattle.std.specs.Str.{bytes_eq}
use Rattle.uc_script.specs.declared.field_kind.FieldKind.{FieldKind}
use Rattle.uc_script.specs.declared.field_kind.FieldKind.TheVariants.{Text, High, Number, Name, Seq}
use Rattle.uc_script.specs.declared.part.Part.{Part}
use Rattle.uc_script.specs.declared.part.Part.TheVariants.{Setup, Calls, Head}
use Rattle.uc_script.specs.declared.word.Word.{Word}
use Rattle.uc_script.specs.declared.word.Word.TheVariants.{Put, Delete, Merge, Range, Keep, Open, Feed, KeepLast, Release, Get, Scan, Claim, Install, Abandon, Compact, Pick, Report, Log}

-- The word itself.
abbrev pub word_text : Word → List ℕ
word_text Put = codes "put"
word_text Delete = codes "delete"
word_text Merge = codes "merge"
word_text Range = codes "range"
word_text Keep = codes "keep"
word_text Open = codes "open"
word_text Feed = codes "feed"
word_text KeepLast = codes "keep"
word_text Release = codes "release"
word_text Get = codes "get"
word_text Scan = codes "scan"
word_text Claim = codes "claim"
word_text Install = codes "install"
word_text Abandon = codes "abandon"
word_text Compact = codes "compact"
word_text Pick = codes "pick"
word_text Report = codes "report"
word_text Log = codes "log"

-- All of them.
abbrev pub all_words : List Word
all_words = Put ∷ Delete ∷ Merge ∷ Range ∷ Keep ∷ Open ∷ Feed ∷ KeepLast ∷ Release ∷ Get ∷ Scan ∷ Claim ∷ Install ∷ Abandon ∷ Compact ∷ Pick ∷ Report ∷ Log ∷ []

-- Whether a line of this part may begin with the word.
abbrev pub stands_in : Word → Part → Bool
stands_in Put Setup = true
stands_in Delete Setup = true
stands_in Merge Setup = true
stands_in Range Setup = true
stands_in Keep Setup = true
stands_in Open Setup = true
stands_in Put Calls = true
stands_in Delete Calls = true
stands_in Merge Calls = true
stands_in Range Calls = true
stands_in Feed Calls = true
stands_in KeepLast Calls = true
stands_in Release Calls = true
stands_in Get Calls = true
stands_in Scan Calls = true
stands_in Claim Calls = true
stands_in Install Calls = true
stands_in Abandon Calls = true
stands_in Compact Calls = true
stands_in Pick Calls = true
stands_in Report Calls = true
stands_in Keep Head = true
stands_in Get Head = true
stands_in Scan Head = true
stands_in Log Head = true
stands_in _ _ = false

-- The word of this part that a field is.
unfoldable pub named : Part → List ℕ → Option Word
named part field = find (λ word. bytes_eq (word_text word) field && stands_in word part) all_words

-- Whether a field is a word of any part.
unfoldable pub is_word : List ℕ → Bool
is_word field = list_any (λ word. bytes_eq (word_text word) field) all_words

-- The kinds of the fields after it, in order.
abbrev pub kinds : Word → List FieldKind
kinds Put = Text ∷ Text ∷ []
kinds Delete = Text ∷ []
kinds Merge = Text ∷ Text ∷ []
kinds Range = Text ∷ Text ∷ []
kinds Keep = Number ∷ []
kinds Open = []
kinds Feed = []
kinds KeepLast = []
kinds Release = Seq ∷ []
kinds Get = Text ∷ Seq ∷ []
kinds Scan = Text ∷ High ∷ Number ∷ Seq ∷ []
kinds Claim = Name ∷ Number ∷ Number ∷ []
kinds Install = Name ∷ []
kinds Abandon = Name ∷ []
kinds Compact = Number ∷ Number ∷ []
kinds Pick = []
kinds Report = []
kinds Log = []

-- The form of a line that begins with the word, as it is printed.
abbrev pub form_of : Word → List ℕ
form_of Put = codes "put KEY VALUE"
form_of Delete = codes "delete KEY"
form_of Merge = codes "merge KEY OPERAND"
form_of Range = codes "range BEGIN END"
form_of Keep = codes "keep SEQUENCE"
form_of Open = codes "open"
form_of Feed = codes "feed"
form_of KeepLast = codes "keep"
form_of Release = codes "release SEQUENCE"
form_of Get = codes "get KEY SEQUENCE"
form_of Scan = codes "scan LOW HIGH LIMIT SEQUENCE"
form_of Claim = codes "claim NAME FIRST COUNT"
form_of Install = codes "install NAME"
form_of Abandon = codes "abandon NAME"
form_of Compact = codes "compact FIRST COUNT"
form_of Pick = codes "pick"
form_of Report = codes "report"
form_of Log = codes "log"
