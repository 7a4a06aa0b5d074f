-- The names in a script that is read are below NAMES.
use Rattle.std.proofs.Common.{◌≡◌, ℕ, ◌<◌, Bool, true, false, cond, ltb, List, [], ◌∷◌, Option, Some, None, Result, Ok, refl, ap, subst, codes}
use Rattle.std.specs.Prelude.{All}
use Rattle.std.specs.List.{AllByRecursion, cons_option}
use Rattle.std.specs.Option.{option_map, option_or}
use Rattle.std.proofs.lemmas.Bool.{ltb-true}
use Rattle.std.proofs.lemmas.List.Elements.{All-from_recursion}
use Rattle.uc_script.specs.Lines.{lines_of, fields_of, is_skipped, says}
use Rattle.uc_script.specs.Texts.{◌>>=◌, number_of, name_of, seq_of}
use Rattle.uc_script.specs.Changes.{change_with_one, change_with_two}
use Rattle.uc_script.specs.Queries.{get_of, scan_of}
use Rattle.uc_script.specs.Fed.{fed_ops}
use Rattle.uc_script.specs.Script.{claim_of, compact_of, call_alone, named_call, call_with_one, call_with_two, call_of, call_line, call_after, ops_after, calls_from, script_of}
use Rattle.uc_script.specs.Cases.{ComesTo, asks, no_setup, no_open, no_call, no_feed}
use Rattle.uc_script.specs.Names.{NameIsGood}
use Rattle.uc_script.specs.declared.call.Call.{Call}
use Rattle.uc_script.specs.declared.call.TheConstants.{NAMES}
use Rattle.uc_script.specs.declared.call.Call.TheVariants.{Keep, Release, Read, Claim, Install, Abandon, Compact, Pick, Report}
use Rattle.uc_script.specs.declared.query.Query.{Query}
use Rattle.uc_script.specs.declared.seq.Seq.{Seq}
use Rattle.uc_script.specs.declared.call_line.CallLine.{CallLine}
use Rattle.uc_script.specs.declared.call_line.CallLine.TheVariants as asking
use Rattle.uc_script.specs.declared.script.Script.{Script}
use Rattle.uc_bytes.specs.declared.op.Op.{Op}
use Rattle.uc_script.proofs.Faults.{calls-said, calls-faulty}

-- a call of a line has a good name, and feeds nothing
abbrev IsPlain : Call → Type 0
IsPlain call = NameIsGood call × (fed_ops call ≡ [])

-- the same of a call, if there is one
abbrev IsGood : Option Call → Type 0
IsGood None = Unit {0}
IsGood (Some call) = IsPlain call

-- ---- what fields say

name_step : (t : Bool) (m n : ℕ) → ltb m NAMES ≡ t → cond t (Some m) None ≡ Some n → n < NAMES
name_step true m n is e = let same : m ≡ n = cc in subst (λ (k : ℕ). k < NAMES) same (ltb-true m NAMES is)
name_step false m n is e = absurd cc

number_step : (o : Option ℕ) (n : ℕ) → (o >>= λ m. cond (ltb m NAMES) (Some m) None) ≡ Some n → n < NAMES
number_step None n e = absurd cc
number_step (Some m) n e = name_step (ltb m NAMES) m n refl e

-- a name is below NAMES
name_small : (field : List ℕ) (n : ℕ) → name_of field ≡ Some n → n < NAMES
unfolding name_of
name_small field n e = number_step (number_of field) n e

abbrev IsSmall : Option ℕ → Type 0
IsSmall name = (n : ℕ) → name ≡ Some n → n < NAMES

query_good : (query : Option Query) → IsGood (option_map Read query)
query_good None = tt
query_good (Some query) = (tt, refl)

release_good : (at : Option Seq) → IsGood (option_map Release at)
release_good None = tt
release_good (Some at) = (tt, refl)

claim_good : (name first count : Option ℕ) → IsSmall name → IsGood (name >>= λ n. first >>= λ f. count >>= λ c. Some (Claim n f c))
claim_good None first count small = tt
claim_good (Some n) None count small = tt
claim_good (Some n) (Some f) None small = tt
claim_good (Some n) (Some f) (Some c) small = (small n refl, refl)

compact_good : (first count : Option ℕ) → IsGood (first >>= λ f. count >>= λ c. Some (Compact f c))
compact_good None count = tt
compact_good (Some f) None = tt
compact_good (Some f) (Some c) = (tt, refl)

alone_good : (s t u : Bool) → IsGood (cond s (Some Keep) (cond t (Some Pick) (cond u (Some Report) None)))
alone_good true t u = (tt, refl)
alone_good false true u = (tt, refl)
alone_good false false true = (tt, refl)
alone_good false false false = tt

one_choice : (t u : Bool) (n : ℕ) → n < NAMES → IsGood (cond t (Some (Install n)) (cond u (Some (Abandon n)) None))
one_choice true u n small = (small, refl)
one_choice false true n small = (small, refl)
one_choice false false n small = tt

named_good : (t u : Bool) (name : Option ℕ) → IsSmall name → IsGood (name >>= λ n. cond t (Some (Install n)) (cond u (Some (Abandon n)) None))
named_good t u None small = tt
named_good t u (Some n) small = one_choice t u n (small n refl)

-- one of two
either_good : (t : Bool) (a b : Option Call) → IsGood a → IsGood b → IsGood (cond t a b)
either_good true a b p q = p
either_good false a b p q = q

-- the calls by their fields
call_alone_good : (word : List ℕ) → IsGood (call_alone word)
unfolding call_alone
call_alone_good word = alone_good (says word (codes "keep")) (says word (codes "pick")) (says word (codes "report"))

named_call_good : (word name : List ℕ) → IsGood (named_call word name)
unfolding named_call
named_call_good word name = named_good (says word (codes "install")) (says word (codes "abandon")) (name_of name) (name_small name)

call_with_one_good : (word argument : List ℕ) → IsGood (call_with_one word argument)
unfolding call_with_one
call_with_one_good word argument =
    either_good (says word (codes "release")) (option_map Release (seq_of argument)) (named_call word argument) (release_good (seq_of argument)) (named_call_good word argument)

call_with_two_good : (word first second : List ℕ) → IsGood (call_with_two word first second)
unfolding call_with_two compact_of
call_with_two_good word first second =
    either_good (says word (codes "compact")) (compact_of first second) (option_map Read (get_of word first second)) (compact_good (number_of first) (number_of second)) (query_good (get_of word first second))

claim_of_good : (name first count : List ℕ) → IsGood (claim_of name first count)
unfolding claim_of
claim_of_good name first count = claim_good (name_of name) (number_of first) (number_of count) (name_small name)

-- ---- what a line says

-- what a line asks, if it asks something, is such a call
abbrev SaysGood : Option CallLine → Type 0
SaysGood None = Unit {0}
SaysGood (Some asking.Skipped) = Unit {0}
SaysGood (Some (asking.Change op)) = Unit {0}
SaysGood (Some asking.Feed) = Unit {0}
SaysGood (Some (asking.Ask call)) = IsPlain call

ask_says : (o : Option Call) → IsGood o → SaysGood (option_map asking.Ask o)
ask_says None good = tt
ask_says (Some call) good = good

change_says : (o : Option Op) → SaysGood (option_map asking.Change o)
change_says None = tt
change_says (Some op) = tt

ask_or_change : (o : Option Call) (p : Option Op) → IsGood o → SaysGood (option_or (option_map asking.Ask o) (option_map asking.Change p))
ask_or_change None p good = change_says p
ask_or_change (Some call) p good = good

feed_or_ask : (t : Bool) (o : Option Call) → IsGood o → SaysGood (cond t (Some asking.Feed) (option_map asking.Ask o))
feed_or_ask true o good = tt
feed_or_ask false o good = ask_says o good

ask_if : (t : Bool) (o : Option Call) → IsGood o → SaysGood (cond t (option_map asking.Ask o) None)
ask_if true o good = ask_says o good
ask_if false o good = tt

fields_good : (fields : List (List ℕ)) → SaysGood (call_of fields)
unfolding call_of
fields_good [] = tt
fields_good (word ∷ []) = feed_or_ask (says word (codes "feed")) (call_alone word) (call_alone_good word)
fields_good (word ∷ argument ∷ []) = ask_or_change (call_with_one word argument) (change_with_one word argument) (call_with_one_good word argument)
fields_good (word ∷ first ∷ second ∷ []) = ask_or_change (call_with_two word first second) (change_with_two word first second) (call_with_two_good word first second)
fields_good (word ∷ name ∷ first ∷ count ∷ []) = ask_if (says word (codes "claim")) (claim_of name first count) (claim_of_good name first count)
fields_good (word ∷ low ∷ high ∷ limit ∷ at ∷ []) = ask_says (option_map Read (scan_of word low high limit at)) (query_good (scan_of word low high limit at))
fields_good (a ∷ b ∷ c ∷ d ∷ e ∷ f ∷ fields) = tt

skip_good : (t : Bool) (o : Option CallLine) → SaysGood o → SaysGood (cond t (Some asking.Skipped) o)
skip_good true o good = tt
skip_good false o good = good

line_good : (line : List ℕ) → SaysGood (call_line line)
unfolding call_line
line_good line = skip_good (is_skipped line) (call_of (fields_of line)) (fields_good (fields_of line))

-- what a line asks has a good name, and feeds nothing
pub call_good : (line : List ℕ) (call : Call) → call_line line ≡ Some (asking.Ask call) → NameIsGood call × (fed_ops call ≡ [])
call_good line call is = subst SaysGood is (line_good line)

-- ---- lines

after_good : (ops : List Op) (said : CallLine) (calls : List Call) (line : List ℕ) → call_line line ≡ Some said
    → AllByRecursion NameIsGood calls → AllByRecursion NameIsGood (cons_option (call_after ops said) calls)
after_good ops asking.Skipped calls line is rest = rest
after_good ops (asking.Change op) calls line is rest = rest
after_good ops asking.Feed calls line is rest = (tt, rest)
after_good ops (asking.Ask call) calls line is rest = ((call_good line call is).0, rest)

lines_step : (said : Option CallLine) (ops : List Op) (line : List ℕ) (lines : List (List ℕ)) → call_line line ≡ said
    → ((others : List Op) → AllByRecursion NameIsGood (calls_from others lines)) → AllByRecursion NameIsGood (calls_from ops (line ∷ lines))
lines_step None ops line lines is ih = rw (calls-faulty ops line lines is) (ih ops)
lines_step (Some said) ops line lines is ih = rw (calls-said ops line lines said is) (after_good ops said (calls_from (ops_after ops said) lines) line is (ih (ops_after ops said)))

calls_good : (ops : List Op) (lines : List (List ℕ)) → AllByRecursion NameIsGood (calls_from ops lines)
calls_good ops [] = tt
calls_good ops (line ∷ lines) = lines_step (call_line line) ops line lines refl (λ others. calls_good others lines)

-- ---- the whole script

abbrev script_is : Script → Result Script ℕ
script_is s = Ok s

script_calls : {a b : Script} → script_is a ≡ script_is b → a.calls ≡ b.calls
script_calls {a} {b} e = let same : a ≡ b = cc in ap (λ (s : Script). s.calls) same

of_outcome : (lines : List (List ℕ)) (outcome : Result Script ℕ) (script : Script) → ComesTo lines outcome → outcome ≡ Ok script → All NameIsGood script.calls
of_outcome lines outcome script (asks before opening after p q r fed) e =
    let all : All NameIsGood (calls_from [] after) = All-from_recursion NameIsGood (calls_from [] after) (calls_good [] after) in
    subst (λ (calls : List Call). All NameIsGood calls) (script_calls e) all
of_outcome lines outcome script (no_setup before line rest p q) e = absurd cc
of_outcome lines outcome script (no_open before p) e = absurd cc
of_outcome lines outcome script (no_call before opening after line rest p q r s) e = absurd cc
of_outcome lines outcome script (no_feed before opening after p q r unfed) e = absurd cc

-- the names in a script that is read are good
pub good_names : ((text : List ℕ) → ComesTo (lines_of text) (script_of text)) → (text : List ℕ) (script : Script) → script_of text ≡ Ok script → All NameIsGood script.calls
good_names comes text script e = of_outcome (lines_of text) (script_of text) script (comes text) e
