-- A script has at most as many changes as bytes, and their keys and values are no longer than it.
use Rattle.std.proofs.Common.{◌≡◌, ℕ, suc, ◌+◌, ◌%◌, ◌≤◌, Bool, true, false, cond, eqb, List, [], ◌∷◌, ◌++◌, length, Option, Some, None, Result, Ok, Err, refl, ap, sym, subst, arith, codes}
use Rattle.std.specs.Prelude.{filter_map}
use Rattle.std.specs.List.{AllByRecursion, cons_option, flat_map, onto_first}
use Rattle.std.specs.Option.{option_map, option_or}
use Rattle.std.specs.Result.{result_ok}
use Rattle.std.proofs.lemmas.List.Elements.{All-from_recursion}
use Rattle.std.proofs.lemmas.List.{length-append}
use Rattle.hex.specs.Hex.{decode_of, decode_pairs, pair_value}
use Rattle.hex.specs.Hex.{◌>>=◌ as ◌>>>◌}
use Rattle.hex.specs.declared.error.FromHexError.{FromHexError}
use Rattle.hex.specs.declared.error.FromHexError.TheVariants.{OddLength}
use Rattle.uc_bytes.specs.declared.op.Op.{Op}
use Rattle.uc_bytes.specs.declared.op.Op.TheVariants.{Put, Delete, Merge, DeleteRange}
use Rattle.uc_script.specs.Lines.{lines_of, fields_of, is_skipped, says}
use Rattle.uc_script.specs.Texts.{◌>>=◌, text_of}
use Rattle.uc_script.specs.Changes.{change_with_one, change_with_two}
use Rattle.uc_script.specs.Queries.{scan_of}
use Rattle.uc_script.specs.Script.{keep_of, with_one, setup_of, setup_line, changed, change_in, keep_in, claim_of, call_alone, call_with_one, call_with_two, call_of, call_line, call_after, ops_after, calls_from, script_of}
use Rattle.uc_script.specs.Cases.{ComesTo, asks, no_setup, no_open, no_call, no_feed}
use Rattle.uc_script.specs.Fed.{fed_ops, all_ops}
use Rattle.uc_script.specs.Short.{IsShort, AreNoLonger}
use Rattle.uc_script.specs.declared.call.Call.{Call}
use Rattle.uc_script.specs.declared.call.Call.TheVariants.{Read}
use Rattle.uc_script.specs.declared.call_line.CallLine.{CallLine}
use Rattle.uc_script.specs.declared.call_line.CallLine.TheVariants as asking
use Rattle.uc_script.specs.declared.setup_line.SetupLine.{SetupLine}
use Rattle.uc_script.specs.declared.setup_line.SetupLine.TheVariants as setup
use Rattle.uc_script.specs.declared.script.Script.{Script}
use Rattle.uc_script.proofs.Faults.{made, calls-said, calls-faulty}
use Rattle.uc_script.proofs.Names.{call_good}

-- ---- pieces of the input

abbrev AreShort : ℕ → List (List ℕ) → Type 0
AreShort n pieces = AllByRecursion (λ piece. length piece ≤ n) pieces

longer : (m n : ℕ) (pieces : List (List ℕ)) → m ≤ n → AreShort m pieces → AreShort n pieces
longer m n [] le h = tt
longer m n (p ∷ ps) le h = (omega (arith, h.0), longer m n ps le h.1)

onto_short : (n b : ℕ) (pieces : List (List ℕ)) → AreShort n pieces → AreShort (suc n) (onto_first b pieces)
onto_short n b [] h = (omega arith, tt)
onto_short n b (p ∷ ps) h = (omega (arith, h.0), longer n (suc n) ps (omega arith) h.1)

lines_step : (t : Bool) (b n : ℕ) (pieces : List (List ℕ)) → AreShort n pieces → AreShort (suc n) (cond t ([] ∷ pieces) (onto_first b pieces))
lines_step true b n pieces h = (omega arith, longer n (suc n) pieces (omega arith) h)
lines_step false b n pieces h = onto_short n b pieces h

lines_short : (text : List ℕ) → AreShort (length text) (lines_of text)
lines_short [] = tt
lines_short (b ∷ rest) = lines_step (eqb b 10) b (length rest) (lines_of rest) (lines_short rest)

fields_short : (line : List ℕ) → AreShort (length line) (fields_of line)
fields_short [] = (omega arith, tt)
fields_short (b ∷ rest) = lines_step (eqb b 32) b (length rest) (fields_of rest) (fields_short rest)

count_step : (t : Bool) (b n : ℕ) (pieces : List (List ℕ)) → length pieces ≤ n → length (cond t ([] ∷ pieces) (onto_first b pieces)) ≤ suc n
count_step true b n pieces h = omega arith
count_step false b n [] h = omega arith
count_step false b n (p ∷ ps) h = omega arith

lines_few : (text : List ℕ) → length (lines_of text) ≤ length text
lines_few [] = omega arith
lines_few (b ∷ rest) = count_step (eqb b 10) b (length rest) (lines_of rest) (lines_few rest)

-- ---- what a field says

pairs_step : (r : Result ℕ FromHexError) (s : Result (List ℕ) FromHexError) (b : List ℕ) → (r >>> λ byte. s >>> λ bytes. Ok (byte ∷ bytes)) ≡ Ok b → (bytes : List ℕ) × (s ≡ Ok bytes) × (length b ≡ suc (length bytes))
pairs_step (Err e) s b h = absurd cc
pairs_step (Ok x) (Err e) b h = absurd cc
pairs_step (Ok x) (Ok bytes) b h = let same : x ∷ bytes ≡ b = cc in (bytes, refl, sym (ap length same))

pairs_short : (i : ℕ) (text b : List ℕ) → decode_pairs i text ≡ Ok b → length b ≤ length text
unfolding decode_pairs
pairs_short i [] b e = let same : [] ≡ b = cc in omega (arith, ap length same)
pairs_short i (digit ∷ []) b e = absurd cc
pairs_short i (high ∷ low ∷ rest) b e =
    let s = pairs_step (pair_value high low i) (decode_pairs (i + 2) rest) b e in
    omega (arith, pairs_short (i + 2) rest s.0 s.1, s.2)

ok_short : (r : Result (List ℕ) FromHexError) (text b : List ℕ) → result_ok r ≡ Some b → (r ≡ Ok b → length b ≤ length text) → length b ≤ length text
ok_short (Ok x) text b e h = h cc
ok_short (Err x) text b e h = absurd cc

decoded_short : (t : Bool) (text b : List ℕ) → result_ok (cond t (Err OddLength) (decode_pairs 0 text)) ≡ Some b → length b ≤ length text
decoded_short true text b e = absurd cc
decoded_short false text b e = ok_short (decode_pairs 0 text) text b e (pairs_short 0 text b)

text_step : (t : Bool) (text b : List ℕ) → cond t (Some []) (result_ok (decode_of text)) ≡ Some b → length b ≤ length text
text_step true text b e = let same : [] ≡ b = cc in omega (arith, ap length same)
text_step false text b e = decoded_short (eqb (length text % 2) 1) text b e

text_short : (field b : List ℕ) → text_of field ≡ Some b → length b ≤ length field
unfolding text_of
text_short [] b e = absurd cc
text_short (digit ∷ rest) b e = text_step (says (digit ∷ rest) (codes ".")) (digit ∷ rest) b e

-- ---- what a line says

-- the key and value of a change are short, if there is one
abbrev ChangeIsShort : ℕ → Option Op → Type 0
ChangeIsShort n None = Unit {0}
ChangeIsShort n (Some op) = IsShort n op

abbrev TextIsShort : ℕ → Option (List ℕ) → Type 0
TextIsShort n text = (b : List ℕ) → text ≡ Some b → length b ≤ n

field_short : (field : List ℕ) (n : ℕ) → length field ≤ n → TextIsShort n (text_of field)
field_short field n h b e = omega (arith, text_short field b e)

-- a key after a word
delete_step : (t : Bool) (key : Option (List ℕ)) (n : ℕ) → TextIsShort n key → ChangeIsShort n (cond t (key >>= λ k. Some (Delete k)) None)
delete_step false key n h = tt
delete_step true None n h = tt
delete_step true (Some k) n h = h k refl

delete_short : (word key : List ℕ) (n : ℕ) → length key ≤ n → ChangeIsShort n (change_with_one word key)
unfolding change_with_one
delete_short word key n h = delete_step (says word (codes "delete")) (text_of key) n (field_short key n h)

-- two byte strings after a word
two_step : (t u v : Bool) (a b : List ℕ) (n : ℕ) → length a ≤ n → length b ≤ n
    → ChangeIsShort n (cond t (Some (Put a b)) (cond u (Some (Merge a b)) (cond v (Some (DeleteRange a b)) None)))
two_step true u v a b n p q = (p, q)
two_step false true v a b n p q = (p, q)
two_step false false true a b n p q = (p, q)
two_step false false false a b n p q = tt

two_texts : (t u v : Bool) (first second : Option (List ℕ)) (n : ℕ) → TextIsShort n first → TextIsShort n second
    → ChangeIsShort n (first >>= λ a. second >>= λ b. cond t (Some (Put a b)) (cond u (Some (Merge a b)) (cond v (Some (DeleteRange a b)) None)))
two_texts t u v None second n p q = tt
two_texts t u v (Some a) None n p q = tt
two_texts t u v (Some a) (Some b) n p q = two_step t u v a b n (p a refl) (q b refl)

write_short : (word first second : List ℕ) (n : ℕ) → length first ≤ n → length second ≤ n → ChangeIsShort n (change_with_two word first second)
unfolding change_with_two
write_short word first second n p q =
    two_texts (says word (codes "put")) (says word (codes "merge")) (says word (codes "range")) (text_of first) (text_of second) n (field_short first n p) (field_short second n q)

-- ---- lines before `open`

only_open : (t : Bool) (n : ℕ) → ChangeIsShort n (changed (cond t (Some setup.Open) None))
only_open true n = tt
only_open false n = tt

change_or_keep : (o : Option Op) (k : Option ℕ) (n : ℕ) → ChangeIsShort n o → ChangeIsShort n (changed (option_or (option_map setup.Change o) (option_map setup.Keep k)))
change_or_keep None None n h = tt
change_or_keep None (Some k) n h = tt
change_or_keep (Some op) k n h = h

only_change : (o : Option Op) (n : ℕ) → ChangeIsShort n o → ChangeIsShort n (changed (option_map setup.Change o))
only_change None n h = tt
only_change (Some op) n h = h

setup_short : (fields : List (List ℕ)) (n : ℕ) → AreShort n fields → ChangeIsShort n (changed (setup_of fields))
unfolding setup_of with_one
setup_short [] n h = tt
setup_short (word ∷ []) n h = only_open (says word (codes "open")) n
setup_short (word ∷ argument ∷ []) n h = change_or_keep (change_with_one word argument) (keep_of word argument) n (delete_short word argument n h.1.0)
setup_short (word ∷ first ∷ second ∷ []) n h = only_change (change_with_two word first second) n (write_short word first second n h.1.0 h.1.1.0)
setup_short (word ∷ first ∷ second ∷ third ∷ fields) n h = tt

setup_step : (t : Bool) (o : Option SetupLine) (n : ℕ) → ChangeIsShort n (changed o) → ChangeIsShort n (changed (cond t (Some setup.Skipped) o))
setup_step true o n h = tt
setup_step false o n h = h

line_short : (line : List ℕ) (n : ℕ) → length line ≤ n → ChangeIsShort n (change_in line)
unfolding change_in setup_line
line_short line n h = setup_step (is_skipped line) (setup_of (fields_of line)) n (setup_short (fields_of line) n (longer (length line) n (fields_of line) h (fields_short line)))

cons_short : (o : Option Op) (n : ℕ) (ops : List Op) → ChangeIsShort n o → AllByRecursion (IsShort n) ops → AllByRecursion (IsShort n) (cons_option o ops)
cons_short None n ops h rest = rest
cons_short (Some op) n ops h rest = (h, rest)

cons_few : (o : Option Op) (ops : List Op) (n : ℕ) → length ops ≤ n → length (cons_option o ops) ≤ suc n
cons_few None ops n h = omega arith
cons_few (Some op) ops n h = omega arith

-- the changes that lines name
changes_short : (lines : List (List ℕ)) (n : ℕ) → AreShort n lines → AllByRecursion (IsShort n) (filter_map change_in lines)
changes_short [] n h = tt
changes_short (line ∷ lines) n h = cons_short (change_in line) n (filter_map change_in lines) (line_short line n h.0) (changes_short lines n h.1)

changes_few : (lines : List (List ℕ)) → length (filter_map change_in lines) ≤ length lines
changes_few [] = omega arith
changes_few (line ∷ lines) = cons_few (change_in line) (filter_map change_in lines) (length lines) (changes_few lines)

-- ---- lines after `open`

-- the change that such a line names, if it names one
abbrev gathered : Option CallLine → Option Op
gathered (Some (asking.Change op)) = Some op
gathered _ = None

ask_names_none : (o : Option Call) (n : ℕ) → ChangeIsShort n (gathered (option_map asking.Ask o))
ask_names_none None n = tt
ask_names_none (Some call) n = tt

feed_or_ask : (t : Bool) (o : Option Call) (n : ℕ) → ChangeIsShort n (gathered (cond t (Some asking.Feed) (option_map asking.Ask o)))
feed_or_ask true o n = tt
feed_or_ask false o n = ask_names_none o n

ask_if : (t : Bool) (o : Option Call) (n : ℕ) → ChangeIsShort n (gathered (cond t (option_map asking.Ask o) None))
ask_if true o n = ask_names_none o n
ask_if false o n = tt

ask_or_change : (o : Option Call) (p : Option Op) (n : ℕ) → ChangeIsShort n p → ChangeIsShort n (gathered (option_or (option_map asking.Ask o) (option_map asking.Change p)))
ask_or_change None None n h = tt
ask_or_change None (Some op) n h = h
ask_or_change (Some call) p n h = tt

call_short : (fields : List (List ℕ)) (n : ℕ) → AreShort n fields → ChangeIsShort n (gathered (call_of fields))
unfolding call_of
call_short [] n h = tt
call_short (word ∷ []) n h = feed_or_ask (says word (codes "feed")) (call_alone word) n
call_short (word ∷ argument ∷ []) n h = ask_or_change (call_with_one word argument) (change_with_one word argument) n (delete_short word argument n h.1.0)
call_short (word ∷ first ∷ second ∷ []) n h = ask_or_change (call_with_two word first second) (change_with_two word first second) n (write_short word first second n h.1.0 h.1.1.0)
call_short (word ∷ name ∷ first ∷ count ∷ []) n h = ask_if (says word (codes "claim")) (claim_of name first count) n
call_short (word ∷ low ∷ high ∷ limit ∷ at ∷ []) n h = ask_names_none (option_map Read (scan_of word low high limit at)) n
call_short (a ∷ b ∷ c ∷ d ∷ e ∷ f ∷ fields) n h = tt

call_step : (t : Bool) (o : Option CallLine) (n : ℕ) → ChangeIsShort n (gathered o) → ChangeIsShort n (gathered (cond t (Some asking.Skipped) o))
call_step true o n h = tt
call_step false o n h = h

call_line_short : (line : List ℕ) (n : ℕ) → length line ≤ n → ChangeIsShort n (gathered (call_line line))
unfolding call_line
call_line_short line n h = call_step (is_skipped line) (call_of (fields_of line)) n (call_short (fields_of line) n (longer (length line) n (fields_of line) h (fields_short line)))

gathered_short : (line : List ℕ) (n : ℕ) (op : Op) → length line ≤ n → call_line line ≡ Some (asking.Change op) → IsShort n op
gathered_short line n op h is = subst (λ (o : Option CallLine). ChangeIsShort n (gathered o)) is (call_line_short line n h)

both_short : (n : ℕ) (ops others : List Op) → AllByRecursion (IsShort n) ops → AllByRecursion (IsShort n) others → AllByRecursion (IsShort n) (ops ++ others)
both_short n [] others p q = q
both_short n (op ∷ ops) others p q = (p.0, both_short n ops others p.1 q)

-- the changes that calls feed
abbrev fed_by : List Call → List Op
fed_by calls = flat_map fed_ops calls

-- these changes are few and short
abbrev IsFine : ℕ → ℕ → List Op → Type 0
IsFine count n ops = (length ops ≤ count) × AllByRecursion (IsShort n) ops

fed_nothing : (ops fed : List Op) (count n : ℕ) → fed ≡ [] → IsFine count n ops → IsFine count n (fed ++ ops)
fed_nothing ops fed count n none fine = rw none fine

-- a line that says something, in front of others
said_fine : (said : CallLine) (ops : List Op) (line : List ℕ) (lines : List (List ℕ)) (n : ℕ) → call_line line ≡ Some said → length line ≤ n → AllByRecursion (IsShort n) ops
    → ((others : List Op) → AllByRecursion (IsShort n) others → IsFine (length others + length lines) n (fed_by (calls_from others lines)))
    → IsFine (length ops + suc (length lines)) n (fed_by (cons_option (call_after ops said) (calls_from (ops_after ops said) lines)))
said_fine asking.Skipped ops line lines n is le short ih = let fine = ih ops short in (omega (arith, fine.0), fine.1)
said_fine (asking.Change op) ops line lines n is le short ih =
    let fine = ih (ops ++ op ∷ []) (both_short n ops (op ∷ []) short (gathered_short line n op le is, tt)) in
    (omega (arith, fine.0, length-append ops (op ∷ [])), fine.1)
said_fine asking.Feed ops line lines n is le short ih =
    let fine = ih [] tt in
    (omega (arith, fine.0, length-append ops (fed_by (calls_from [] lines))), both_short n ops (fed_by (calls_from [] lines)) short fine.1)
said_fine (asking.Ask call) ops line lines n is le short ih =
    let fine = ih ops short in
    fed_nothing (fed_by (calls_from ops lines)) (fed_ops call) (length ops + suc (length lines)) n (call_good line call is).1 (omega (arith, fine.0), fine.1)

fed_step : (said : Option CallLine) (ops : List Op) (line : List ℕ) (lines : List (List ℕ)) (n : ℕ) → call_line line ≡ said → length line ≤ n → AllByRecursion (IsShort n) ops
    → ((others : List Op) → AllByRecursion (IsShort n) others → IsFine (length others + length lines) n (fed_by (calls_from others lines)))
    → IsFine (length ops + suc (length lines)) n (fed_by (calls_from ops (line ∷ lines)))
fed_step None ops line lines n is le short ih = let fine = ih ops short in rw (calls-faulty ops line lines is) (omega (arith, fine.0), fine.1)
fed_step (Some said) ops line lines n is le short ih = rw (calls-said ops line lines said is) (said_fine said ops line lines n is le short ih)

-- the writes that lines feed after these changes
fed_fine : (ops : List Op) (lines : List (List ℕ)) (n : ℕ) → AreShort n lines → AllByRecursion (IsShort n) ops → IsFine (length ops + length lines) n (fed_by (calls_from ops lines))
fed_fine ops [] n h short = (omega arith, tt)
fed_fine ops (line ∷ lines) n h short = fed_step (call_line line) ops line lines n refl h.0 short (λ others all. fed_fine others lines n h.1 all)

-- ---- the whole script

abbrev script_is : Script → Result Script ℕ
script_is s = Ok s

script_same : {a b : Script} → script_is a ≡ script_is b → a ≡ b
script_same e = cc

short_front : (p : List (List ℕ)) (l : List ℕ) (r : List (List ℕ)) (n : ℕ) → AreShort n (p ++ l ∷ r) → AreShort n p
short_front [] l r n h = tt
short_front (x ∷ p) l r n h = (h.0, short_front p l r n h.1)

short_behind : (p : List (List ℕ)) (l : List ℕ) (r : List (List ℕ)) (n : ℕ) → AreShort n (p ++ l ∷ r) → AreShort n r
short_behind [] l r n h = h.1
short_behind (x ∷ p) l r n h = short_behind p l r n h.1

no_longer_of : (n : ℕ) (ops : List Op) → length ops ≤ n → AllByRecursion (IsShort n) ops → AreNoLonger n ops
no_longer_of n ops few short = record { few = few; short = All-from_recursion (IsShort n) ops short }

-- the changes before `open`, and all of them
abbrev BothAreNoLonger : ℕ → Script → Type 0
BothAreNoLonger n script = AreNoLonger n script.ops × AreNoLonger n (all_ops script)

of_lines : (before : List (List ℕ)) (opening : List ℕ) (after : List (List ℕ)) (n : ℕ) → AreShort n (before ++ opening ∷ after) → length (before ++ opening ∷ after) ≤ n
    → BothAreNoLonger n (made (filter_map change_in before) (filter_map keep_in before) (calls_from [] after))
of_lines before opening after n short few =
    let ops = filter_map change_in before in
    let fed = fed_by (calls_from [] after) in
    let changes = changes_short before n (short_front before opening after n short) in
    let fine = fed_fine [] after n (short_behind before opening after n short) tt in (
      no_longer_of n ops (omega (arith, changes_few before, length-append before (opening ∷ after))) changes,
      no_longer_of n (ops ++ fed) (omega (arith, changes_few before, fine.0, length-append ops fed, length-append before (opening ∷ after))) (both_short n ops fed changes fine.1),
    )

of_outcome : (lines : List (List ℕ)) (outcome : Result Script ℕ) (script : Script) (n : ℕ) → ComesTo lines outcome → AreShort n lines → length lines ≤ n → outcome ≡ Ok script → BothAreNoLonger n script
of_outcome lines outcome script n (asks before opening after p q r fed) short few e = subst (BothAreNoLonger n) (script_same e) (of_lines before opening after n short few)
of_outcome lines outcome script n (no_setup before line rest p q) short few e = absurd cc
of_outcome lines outcome script n (no_open before p) short few e = absurd cc
of_outcome lines outcome script n (no_call before opening after line rest p q r s) short few e = absurd cc
of_outcome lines outcome script n (no_feed before opening after p q r unfed) short few e = absurd cc

-- the contents of a script are no longer than its bytes
pub no_longer : ((text : List ℕ) → ComesTo (lines_of text) (script_of text)) → (text : List ℕ) (script : Script) → script_of text ≡ Ok script
    → AreNoLonger (length text) script.ops × AreNoLonger (length text) (all_ops script)
no_longer comes text script e = of_outcome (lines_of text) (script_of text) script (length text) (comes text) (lines_short text) (lines_few text) e
