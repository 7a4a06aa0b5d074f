-- The calls of lines, validated or with one line taken from the front.
use Rattle.std.proofs.Common.{◌≡◌, ℕ, ◌+◌, Bool, false, eqb, suc, List, [], ◌∷◌, ◌++◌, length, drop, Option, Some, None, Result, Ok, Err, refl, ap, ◌∙◌, sym, arith}
use Rattle.std.specs.List.{cons_option}
use Rattle.std.proofs.lemmas.Bool.{cond-false, ne_eqb}
use Rattle.std.proofs.lemmas.List.{append-nil}
use Rattle.uc_script.specs.Calls.{calls_in}
use Rattle.uc_script.specs.Lines.{lines_of}
use Rattle.uc_script.specs.Reading.{Setup, Fails, snoc_option, setup_after, calls_after, unfed_after, judged_after}
use Rattle.uc_script.specs.Script.{call_after, ops_after, calls_from, call_line, script_of}
use Rattle.uc_script.specs.declared.call.Call.{Call}
use Rattle.uc_script.specs.declared.call_line.CallLine.{CallLine}
use Rattle.uc_script.specs.declared.error.ScriptError.{ScriptError}
use Rattle.uc_script.specs.declared.error.ScriptError.TheVariants as errors
use Rattle.uc_script.specs.declared.script.Script.{Script}
use Rattle.uc_bytes.specs.declared.op.Op.{Op}
use Rattle.uc_script.proofs.Faults.{made, some_ops, some_ops-after, calls-said}
use Rattle.uc_script.proofs.Whole.{regroup_option, script_of-read, script_of-at_calls}

-- ---- validated lines

abbrev script_is : Script → Result Script ℕ
script_is script = Ok script

-- these calls, where the lines have no fault
abbrev unless_faulty : List Call → Result (Unit {0}) ℕ → Result (List Call) ℕ
unless_faulty calls (Ok done) = Ok calls
unless_faulty calls (Err number) = Err number

-- lines after these changes are validated, and these are the calls in front
abbrev judged_answer : List Call → List Op → ℕ → List (List ℕ) → Result (List Call) ℕ
judged_answer calls ops n lines = unless_faulty (calls ++ calls_from ops lines) (judged_after (some_ops ops) n lines)

judged_step : (said : Option CallLine) (calls : List Call) (ops : List Op) (n : ℕ) (line : List ℕ) (lines : List (List ℕ)) → call_line line ≡ said
    → ((more : List Call) (others : List Op) → calls_after more others (n + 1) lines ≡ judged_answer more others (n + 1) lines)
    → calls_after calls ops n (line ∷ lines) ≡ judged_answer calls ops n (line ∷ lines)
judged_step None calls ops n line lines is ih = rw (is, calls_after, judged_after) refl
judged_step (Some said) calls ops n line lines is ih =
    let others = ops_after ops said in
    let items = calls-said ops line lines said is in
    let step : calls_after calls ops n (line ∷ lines) ≡ calls_after (snoc_option calls (call_after ops said)) others (n + 1) lines = rw (is, calls_after) refl in
    let judged : judged_after (unfed_after (some_ops ops) said) (n + 1) lines ≡ judged_after (some_ops ops) n (line ∷ lines) = rw (is, judged_after) refl in
    step
    ∙ ih (snoc_option calls (call_after ops said)) others
    ∙ ap (λ (xs : List Call). unless_faulty xs (judged_after (some_ops others) (n + 1) lines)) (regroup_option calls (call_after ops said) (calls_from others lines))
    ∙ ap (λ (b : Bool). unless_faulty (calls ++ cons_option (call_after ops said) (calls_from others lines)) (judged_after b (n + 1) lines)) (some_ops-after ops said)
    ∙ ap (λ (xs : List Call). unless_faulty (calls ++ xs) (judged_after (unfed_after (some_ops ops) said) (n + 1) lines)) (sym items)
    ∙ ap (unless_faulty (calls ++ calls_from ops (line ∷ lines))) judged

judged_end : (ops : List Op) (calls : List Call) (n : ℕ) → calls_after calls ops n [] ≡ judged_answer calls ops n []
judged_end [] calls n = ap Ok (sym (append-nil calls))
judged_end (op ∷ ops) calls n = cond-false (eqb (suc (length ops)) 0) (Ok calls) (Err n) (ne_eqb (suc (length ops)) 0 (λ e. omega arith))

judged-calls : (calls : List Call) (ops : List Op) (n : ℕ) (lines : List (List ℕ)) → calls_after calls ops n lines ≡ judged_answer calls ops n lines
judged-calls calls ops n [] = judged_end ops calls n
judged-calls calls ops n (line ∷ lines) = judged_step (call_line line) calls ops n line lines refl (λ more others. judged-calls more others (n + 1) lines)

-- lines without a fault
judged-fine : (n : ℕ) (lines : List (List ℕ)) (done : Unit {0}) → judged_after false n lines ≡ Ok done → calls_after [] [] n lines ≡ Ok (calls_from [] lines)
judged-fine n lines done fine = judged-calls [] [] n lines ∙ ap (unless_faulty (calls_from [] lines)) fine

-- lines with one
judged-fails : (n : ℕ) (lines : List (List ℕ)) (e : ScriptError) → Fails e (judged_after false n lines) → Fails e (calls_after [] [] n lines)
judged-fails n lines errors.Memory fails = tt
judged-fails n lines (errors.Fault line) fails = judged-calls [] [] n lines ∙ ap (unless_faulty (calls_from [] lines)) fails

-- a script without a fault, whose lines after `open` are these
pub script_of-judged : (text rest : List ℕ) (size : ℕ) (setup : Setup) (done : Unit {0}) → setup_after [] [] 1 (lines_of text) ≡ Ok setup → setup.lines ≡ lines_of rest
    → judged_after false setup.number setup.lines ≡ Ok done → rest ≡ drop size text → script_of text ≡ Ok (made setup.ops setup.keeps (calls_in (drop size text)))
script_of-judged text rest size setup done opened lines fine is =
    script_of-read text setup (calls_from [] setup.lines) opened (judged-fine setup.number setup.lines done fine)
    ∙ ap (λ (ls : List (List ℕ)). script_is (made setup.ops setup.keeps (calls_from [] ls))) lines
    ∙ ap (λ (behind : List ℕ). script_is (made setup.ops setup.keeps (calls_in behind))) is

-- and one with a fault in a line after it
pub script_of-judged_at : (text : List ℕ) (setup : Setup) (e : ScriptError) → setup_after [] [] 1 (lines_of text) ≡ Ok setup → Fails e (judged_after false setup.number setup.lines) → Fails e (script_of text)
script_of-judged_at text setup e opened fails = script_of-at_calls text setup e opened (judged-fails setup.number setup.lines e fails)
