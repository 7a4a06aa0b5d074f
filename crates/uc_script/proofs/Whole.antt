-- The reader's result for the lines, one after the other, is the script.
use Rattle.std.proofs.Common.{◌≡◌, ℕ, suc, ◌+◌, Bool, true, false, eqb, List, [], ◌∷◌, ◌++◌, length, Option, Some, None, Result, Ok, Err, refl, sym, ap, ◌∙◌, append_assoc, arith, add-zero}
use Rattle.std.specs.List.{cons_option, filter_map}
use Rattle.std.specs.Option.{option_map}
use Rattle.std.proofs.lemmas.Bool.{cond-false, ne_eqb}
use Rattle.std.proofs.lemmas.List.{append-nil}
use Rattle.uc_script.specs.declared.call.Call.{Call}
use Rattle.uc_script.specs.declared.setup_line.SetupLine.{SetupLine}
use Rattle.uc_script.specs.declared.setup_line.SetupLine.TheVariants as setup
use Rattle.uc_script.specs.declared.call_line.CallLine.{CallLine}
use Rattle.uc_script.specs.declared.script.Script.{Script}
use Rattle.uc_bytes.specs.declared.op.Op.{Op}
use Rattle.uc_script.specs.Lines.{lines_of}
use Rattle.uc_script.specs.Script.{setup_line, call_line, says_open, lines_before, lines_after, change_in, keep_in, call_after, ops_after, calls_from, fault_behind, fault_at, asked_by, unless_fault, script_of}
use Rattle.uc_script.specs.Reading.{Setup, Fails, snoc_option, setup_after, calls_after}
use Rattle.uc_script.specs.declared.error.ScriptError.{ScriptError}
use Rattle.uc_script.specs.declared.error.ScriptError.TheVariants as errors
use Rattle.uc_script.proofs.Faults.{refuses_setup, fault_from, fault_from-here, fault_from-next, some_ops, some_ops-after, calls-said, made, made-same, fault_at-next, fault_at-here, fault_at-open}
use Rattle.uc_script.proofs.First.{before_first-yes, before_first-no, after_first-yes, after_first-no}

-- an answer to lines from the one of number n on, where k lines come before the first fault
abbrev pub answer : {A : Type 0} → Option ℕ → ℕ → A → Result A ℕ
answer (Some k) n x = Err (n + k)
answer None n x = Ok x

answer-next : {A : Type 0} (o : Option ℕ) (n : ℕ) (x : A) → answer (option_map suc o) n x ≡ answer o (n + 1) x
answer-next (Some k) n x = ap Err (omega arith)
answer-next None n x = refl

-- a line at fault
pub stops : {A : Type 0} (o : Option ℕ) (n : ℕ) (x : A) → o ≡ Some 0 → ◌≡◌ {A = Result A ℕ} (Err n) (answer o n x)
stops o n x place = ap Err (sym (add-zero n)) ∙ ap (λ (p : Option ℕ). answer p n x) (sym place)

-- a line without a fault, in front of others
pub goes_on : {A : Type 0} (o p : Option ℕ) (n : ℕ) (x y : A) → p ≡ option_map suc o → x ≡ y → answer o (n + 1) x ≡ answer p n y
goes_on o p n x y place same = sym (answer-next o n x) ∙ ap (λ (q : Option ℕ). answer q n x) (sym place) ∙ ap (answer p n) same

-- one more item in front of those of a list
pub regroup : {A : Type 0} (front : List A) (x : A) (xs : List A) → (front ++ x ∷ []) ++ xs ≡ front ++ x ∷ xs
regroup front x xs = append_assoc front (x ∷ []) xs

by_fault : (o : Option ℕ) (script : Script) → answer o 1 script ≡ unless_fault o script
by_fault (Some k) script = ap Err (omega arith)
by_fault None script = refl

-- ---- lines after `open`

abbrev calls_answer : List Call → List Op → ℕ → List (List ℕ) → Result (List Call) ℕ
calls_answer calls ops n lines = answer (fault_from (some_ops ops) lines) n (calls ++ calls_from ops lines)

-- one more item, if there is one, in front of those of a list
pub regroup_option : {A : Type 0} (front : List A) (o : Option A) (xs : List A) → snoc_option front o ++ xs ≡ front ++ cons_option o xs
regroup_option front None xs = refl
regroup_option front (Some x) xs = regroup front x xs

calls_step : (said : Option CallLine) (calls : List Call) (ops : List Op) (n : ℕ) (line : List ℕ) (lines : List (List ℕ)) → call_line line ≡ said
    → ((more : List Call) (others : List Op) (m : ℕ) → calls_after more others m lines ≡ calls_answer more others m lines) → calls_after calls ops n (line ∷ lines) ≡ calls_answer calls ops n (line ∷ lines)
calls_step None calls ops n line lines is ih =
    let step : calls_after calls ops n (line ∷ lines) ≡ Err n = rw (is, calls_after) refl in
    step ∙ stops _ n _ (fault_from-here (some_ops ops) line lines is)
calls_step (Some said) calls ops n line lines is ih =
    let more = snoc_option calls (call_after ops said) in
    let others = ops_after ops said in
    let step : calls_after calls ops n (line ∷ lines) ≡ calls_after more others (n + 1) lines = rw (is, calls_after) refl in
    let items = calls-said ops line lines said is in
    let place : fault_from (some_ops ops) (line ∷ lines) ≡ option_map suc (fault_from (some_ops others) lines) =
    fault_from-next (some_ops ops) said line lines is ∙ ap (λ (b : Bool). option_map suc (fault_from b lines)) (sym (some_ops-after ops said)) in
    step ∙ ih more others (n + 1)
    ∙ goes_on _ _ n _ _ place (regroup_option calls (call_after ops said) (calls_from others lines) ∙ ap (λ (xs : List Call). calls ++ xs) (sym items))

calls_end : (ops : List Op) (calls : List Call) (n : ℕ) → calls_after calls ops n [] ≡ calls_answer calls ops n []
calls_end [] calls n = ap Ok (sym (append-nil calls))
calls_end (op ∷ ops) calls n = cond-false (eqb (suc (length ops)) 0) (Ok calls) (Err n) (ne_eqb (suc (length ops)) 0 (λ e. omega arith)) ∙ ap Err (sym (add-zero n))

calls_after-is : (calls : List Call) (ops : List Op) (n : ℕ) (lines : List (List ℕ)) → calls_after calls ops n lines ≡ calls_answer calls ops n lines
calls_after-is calls ops n [] = calls_end ops calls n
calls_after-is calls ops n (line ∷ lines) = calls_step (call_line line) calls ops n line lines refl (λ more others m. calls_after-is more others m lines)

-- ---- the whole script

-- the script, after what was read before `open`
abbrev with_calls : List Op → List ℕ → Result (List Call) ℕ → Result Script ℕ
with_calls ops keeps (Ok calls) = Ok (record { ops = ops; keeps = keeps; calls = calls })
with_calls ops keeps (Err n) = Err n

-- what the reader does after `open`
abbrev pub then_calls : Result Setup ℕ → Result Script ℕ
then_calls (Ok setup) = with_calls setup.ops setup.keeps (calls_after [] [] setup.number setup.lines)
then_calls (Err n) = Err n

-- what lines ask after these changes and keeps
abbrev asked_after : List Op → List ℕ → List (List ℕ) → Script
asked_after ops keeps lines =
    made (ops ++ filter_map change_in (lines_before lines)) (keeps ++ filter_map keep_in (lines_before lines)) (calls_from [] (lines_after lines))

abbrev script_answer : List Op → List ℕ → ℕ → List (List ℕ) → Result Script ℕ
script_answer ops keeps n lines = answer (fault_at lines) n (asked_after ops keeps lines)

open_answer : (o : Option ℕ) (ops : List Op) (keeps : List ℕ) (n : ℕ) (calls : List Call) → with_calls ops keeps (answer o (n + 1) calls) ≡ answer (option_map (λ k. 0 + 1 + k) o) n (made ops keeps calls)
open_answer (Some k) ops keeps n calls = ap Err (omega arith)
open_answer None ops keeps n calls = refl

-- a line before `open` that names these changes and keeps
setup_goes_on : (o p : List Op) (k l : List ℕ) (n : ℕ) (line : List ℕ) (lines : List (List ℕ)) → says_open line ≡ false → refuses_setup line ≡ false
    → p ++ filter_map change_in (lines_before lines) ≡ o ++ filter_map change_in (line ∷ lines_before lines)
    → l ++ filter_map keep_in (lines_before lines) ≡ k ++ filter_map keep_in (line ∷ lines_before lines)
    → script_answer p l (n + 1) lines ≡ script_answer o k n (line ∷ lines)
setup_goes_on o p k l n line lines other good changes keeps =
    let before = before_first-no says_open line lines other in
    let after = after_first-no says_open line lines other in
    goes_on (fault_at lines) (fault_at (line ∷ lines)) n (asked_after p l lines) (asked_after o k (line ∷ lines)) (fault_at-next line lines other good)
    (made-same _ _ _ _ _ _ (changes ∙ ap (λ (b : List (List ℕ)). o ++ filter_map change_in b) (sym before)) (keeps ∙ ap (λ (b : List (List ℕ)). k ++ filter_map keep_in b) (sym before)) (ap (calls_from []) (sym after)))

setup_step : (said : Option SetupLine) (ops : List Op) (keeps : List ℕ) (n : ℕ) (line : List ℕ) (lines : List (List ℕ)) → setup_line line ≡ said
    → ((o : List Op) (k : List ℕ) (m : ℕ) → then_calls (setup_after o k m lines) ≡ script_answer o k m lines) → then_calls (setup_after ops keeps n (line ∷ lines)) ≡ script_answer ops keeps n (line ∷ lines)
unfolding says_open change_in keep_in
setup_step None ops keeps n line lines said ih =
    let step : then_calls (setup_after ops keeps n (line ∷ lines)) ≡ Err n = rw (said, setup_after) refl in
    step ∙ stops (fault_at (line ∷ lines)) n (asked_after ops keeps (line ∷ lines)) (fault_at-here line lines (rw said refl) (rw said refl))
setup_step (Some setup.Open) ops keeps n line lines said ih =
    let step : then_calls (setup_after ops keeps n (line ∷ lines)) ≡ with_calls ops keeps (calls_after [] [] (n + 1) lines) = rw (said, setup_after) refl in
    let opens : says_open line ≡ true = rw said refl in
    let before = before_first-yes says_open line lines opens in
    let after = after_first-yes says_open line lines opens in
    let script : made ops keeps (calls_from [] lines) ≡ asked_after ops keeps (line ∷ lines) = made-same _ _ _ _ _ _
    (sym (append-nil ops) ∙ ap (λ (b : List (List ℕ)). ops ++ filter_map change_in b) (sym before))
    (sym (append-nil keeps) ∙ ap (λ (b : List (List ℕ)). keeps ++ filter_map keep_in b) (sym before)) (ap (calls_from []) (sym after)) in
    step ∙ ap (with_calls ops keeps) (calls_after-is [] [] (n + 1) lines) ∙ open_answer (fault_behind lines) ops keeps n (calls_from [] lines)
    ∙ ap (λ (o : Option ℕ). answer o n (made ops keeps (calls_from [] lines))) (sym (fault_at-open line lines opens)) ∙ ap (answer (fault_at (line ∷ lines)) n) script
setup_step (Some setup.Skipped) ops keeps n line lines said ih =
    let step : then_calls (setup_after ops keeps n (line ∷ lines)) ≡ then_calls (setup_after ops keeps (n + 1) lines) = rw (said, setup_after) refl in
    step ∙ ih ops keeps (n + 1) ∙ setup_goes_on ops ops keeps keeps n line lines (rw said refl) (rw said refl) (rw said refl) (rw said refl)
setup_step (Some (setup.Change op)) ops keeps n line lines said ih =
    let step : then_calls (setup_after ops keeps n (line ∷ lines)) ≡ then_calls (setup_after (ops ++ op ∷ []) keeps (n + 1) lines) = rw (said, setup_after) refl in
    step ∙ ih (ops ++ op ∷ []) keeps (n + 1)
    ∙ setup_goes_on ops (ops ++ op ∷ []) keeps keeps n line lines (rw said refl) (rw said refl) (rw said (regroup ops op (filter_map change_in (lines_before lines)))) (rw said refl)
setup_step (Some (setup.Keep keep)) ops keeps n line lines said ih =
    let step : then_calls (setup_after ops keeps n (line ∷ lines)) ≡ then_calls (setup_after ops (keeps ++ keep ∷ []) (n + 1) lines) = rw (said, setup_after) refl in
    step ∙ ih ops (keeps ++ keep ∷ []) (n + 1)
    ∙ setup_goes_on ops ops keeps (keeps ++ keep ∷ []) n line lines (rw said refl) (rw said refl) (rw said refl) (rw said (regroup keeps keep (filter_map keep_in (lines_before lines))))

pub then_calls-is : (ops : List Op) (keeps : List ℕ) (n : ℕ) (lines : List (List ℕ)) → then_calls (setup_after ops keeps n lines) ≡ script_answer ops keeps n lines
then_calls-is ops keeps n [] = ap Err (sym (add-zero n))
then_calls-is ops keeps n (line ∷ lines) = setup_step (setup_line line) ops keeps n line lines refl (λ o k m. then_calls-is o k m lines)

-- the reader's steps come to what the script asks
pub steps-script_of : (text : List ℕ) → then_calls (setup_after [] [] 1 (lines_of text)) ≡ script_of text
unfolding script_of
steps-script_of text = then_calls-is [] [] 1 (lines_of text) ∙ by_fault (fault_at (lines_of text)) (asked_by (lines_of text))

-- a script without a fault
pub script_of-read : (text : List ℕ) (setup : Setup) (calls : List Call) → setup_after [] [] 1 (lines_of text) ≡ Ok setup → calls_after [] [] setup.number setup.lines ≡ Ok calls
    → script_of text ≡ Ok (made setup.ops setup.keeps calls)
script_of-read text setup calls opened asked = sym (steps-script_of text) ∙ ap then_calls opened ∙ ap (with_calls setup.ops setup.keeps) asked

-- a fault before `open`, and one after it
pub script_of-at_setup : (text : List ℕ) (e : ScriptError) → Fails e (setup_after [] [] 1 (lines_of text)) → Fails e (script_of text)
script_of-at_setup text errors.Memory fails = tt
script_of-at_setup text (errors.Fault n) fails = sym (steps-script_of text) ∙ ap then_calls fails

pub script_of-at_calls : (text : List ℕ) (setup : Setup) (e : ScriptError) → setup_after [] [] 1 (lines_of text) ≡ Ok setup → Fails e (calls_after [] [] setup.number setup.lines) → Fails e (script_of text)
script_of-at_calls text setup errors.Memory opened fails = tt
script_of-at_calls text setup (errors.Fault n) opened fails = sym (steps-script_of text) ∙ ap then_calls opened ∙ ap (with_calls setup.ops setup.keeps) fails
