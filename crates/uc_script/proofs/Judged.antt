-- The lines of a script fall under one of the cases, and what it comes to is what the script asks.
use Rattle.std.proofs.Common.{◌≡◌, ℕ, suc, ◌+◌, Bool, true, false, cond, List, [], ◌∷◌, ◌++◌, length, Option, Some, None, Result, Ok, Err, is_none, refl, sym, ap, subst, ◌∙◌, arith, inl, inr}
use Rattle.std.specs.Prelude.{position, IsSome, ◌⊎◌, filter_map}
use Rattle.std.specs.List.{cons_option}
use Rattle.std.specs.Option.{option_map, option_or}
use Rattle.uc_script.specs.declared.call_line.CallLine.{CallLine}
use Rattle.uc_script.specs.declared.setup_line.SetupLine.{SetupLine}
use Rattle.uc_script.specs.declared.setup_line.SetupLine.TheVariants as setup
use Rattle.uc_script.specs.declared.script.Script.{Script}
use Rattle.uc_script.specs.Cases.{AreSetup, AreCalls, ComesTo, asks, no_setup, no_open, no_call, no_feed}
use Rattle.uc_script.specs.Lines.{lines_of}
use Rattle.uc_script.specs.Script.{setup_line, call_line, says_open, change_in, keep_in, calls_from, lack_a_feed, fault_behind, fault_at, asked_by, unless_fault, script_of}
use Rattle.uc_script.proofs.Faults.{refuses_call, made, made-same, fault_at-next, fault_at-here, fault_at-open}
use Rattle.uc_script.proofs.First.{position-yes, position-no, before_first-yes, before_first-no, after_first-yes, after_first-no}

-- what lines ask
abbrev read : List (List ℕ) → Result Script ℕ
read lines = unless_fault (fault_at lines) (asked_by lines)

-- the calls of lines after one more line before `open`
abbrev behind : List ℕ → Result Script ℕ → Result Script ℕ
behind line (Ok script) = Ok (made (cons_option (change_in line) script.ops) (cons_option (keep_in line) script.keeps) script.calls)
behind line (Err n) = Err (n + 1)

-- no line is rejected if a line is named
not_refused : {A : Type 0} (o : Option A) → IsSome o → is_none o ≡ false
not_refused (Some x) h = refl
not_refused None h = absurd cc

behind_of : (line : List ℕ) (o : Option ℕ) (script longer : Script) → longer ≡ made (cons_option (change_in line) script.ops) (cons_option (keep_in line) script.keeps) script.calls
    → unless_fault (option_map suc o) longer ≡ behind line (unless_fault o script)
behind_of line (Some k) script longer same = ap Err (omega arith)
behind_of line None script longer same = ap Ok same

-- a line before `open`
read-next : (line : List ℕ) (lines : List (List ℕ)) → IsSome (setup_line line) × (says_open line ≡ false) → read (line ∷ lines) ≡ behind line (read lines)
read-next line lines good =
    let before = before_first-no says_open line lines good.1 in
    let after = after_first-no says_open line lines good.1 in
    ap (λ (o : Option ℕ). unless_fault o (asked_by (line ∷ lines))) (fault_at-next line lines good.1 (not_refused (setup_line line) good.0))
    ∙ behind_of line (fault_at lines) (asked_by lines) (asked_by (line ∷ lines))
    (made-same _ _ _ _ _ _ (ap (filter_map change_in) before) (ap (filter_map keep_in) before) (ap (calls_from []) after))

-- calls without a fault, and with one
position-calls : (after : List (List ℕ)) → AreCalls after → position refuses_call after ≡ None
position-calls [] good = refl
position-calls (line ∷ after) good = position-no refuses_call line after (not_refused (call_line line) good.0) ∙ ap (option_map suc) (position-calls after good.1)

position-no_call : (after : List (List ℕ)) (line : List ℕ) (rest : List (List ℕ)) → AreCalls after → call_line line ≡ None → position refuses_call (after ++ line ∷ rest) ≡ Some (length after)
position-no_call [] line rest good bad = position-yes refuses_call line rest (rw bad refl)
position-no_call (first ∷ after) line rest good bad =
    position-no refuses_call first (after ++ line ∷ rest) (not_refused (call_line first) good.0) ∙ ap (option_map suc) (position-no_call after line rest good.1 bad)

-- where the first of these is, or what lacks a `feed`
fault-of : (after : List (List ℕ)) (lacks : Bool) → AreCalls after → lack_a_feed after ≡ lacks → fault_behind after ≡ cond lacks (Some (length after)) None
fault-of after lacks good is =
    ap (λ (o : Option ℕ). option_or o (cond (lack_a_feed after) (Some (length after)) None)) (position-calls after good) ∙ ap (λ (b : Bool). cond b (Some (length after)) None) is

fault-no_call : (after : List (List ℕ)) (line : List ℕ) (rest : List (List ℕ)) → AreCalls after → call_line line ≡ None → fault_behind (after ++ line ∷ rest) ≡ Some (length after)
fault-no_call after line rest good bad =
    ap (λ (o : Option ℕ). option_or o (cond (lack_a_feed (after ++ line ∷ rest)) (Some (length (after ++ line ∷ rest))) None)) (position-no_call after line rest good bad)

-- the `open`
read-open : (opening : List ℕ) (lines : List (List ℕ)) → says_open opening ≡ true
    → read (opening ∷ lines) ≡ unless_fault (option_map (λ k. 0 + 1 + k) (fault_behind lines)) (made [] [] (calls_from [] lines))
read-open opening lines opens =
    let before = before_first-yes says_open opening lines opens in
    let after = after_first-yes says_open opening lines opens in
    ap (λ (o : Option ℕ). unless_fault o (asked_by (opening ∷ lines))) (fault_at-open opening lines opens)
    ∙ ap (unless_fault (option_map (λ k. 0 + 1 + k) (fault_behind lines)))
    (made-same _ _ _ _ _ _ (ap (filter_map change_in) before) (ap (filter_map keep_in) before) (ap (calls_from []) after))

no_line_opens : (line : List ℕ) → setup_line line ≡ None → says_open line ≡ false
unfolding says_open
no_line_opens line bad = rw bad refl

-- ---- what each case comes to

read-asks : (before : List (List ℕ)) (opening : List ℕ) (after : List (List ℕ)) → AreSetup before → says_open opening ≡ true → AreCalls after → lack_a_feed after ≡ false
    → read (before ++ opening ∷ after) ≡ Ok (made (filter_map change_in before) (filter_map keep_in before) (calls_from [] after))
read-asks [] opening after good opens calls fed =
    read-open opening after opens ∙ ap (λ (o : Option ℕ). unless_fault (option_map (λ k. 0 + 1 + k) o) (made [] [] (calls_from [] after))) (fault-of after false calls fed)
read-asks (line ∷ before) opening after good opens calls fed = read-next line (before ++ opening ∷ after) good.0 ∙ ap (behind line) (read-asks before opening after good.1 opens calls fed)

read-no_feed : (before : List (List ℕ)) (opening : List ℕ) (after : List (List ℕ)) → AreSetup before → says_open opening ≡ true → AreCalls after → lack_a_feed after ≡ true
    → read (before ++ opening ∷ after) ≡ Err (length before + 1 + length after + 1)
read-no_feed [] opening after good opens calls unfed =
    read-open opening after opens ∙ ap (λ (o : Option ℕ). unless_fault (option_map (λ k. 0 + 1 + k) o) (made [] [] (calls_from [] after))) (fault-of after true calls unfed)
read-no_feed (line ∷ before) opening after good opens calls unfed =
    read-next line (before ++ opening ∷ after) good.0 ∙ ap (behind line) (read-no_feed before opening after good.1 opens calls unfed) ∙ ap Err (omega arith)

read-no_setup : (before : List (List ℕ)) (line : List ℕ) (rest : List (List ℕ)) → AreSetup before → setup_line line ≡ None → read (before ++ line ∷ rest) ≡ Err (length before + 1)
read-no_setup [] line rest good bad = ap (λ (o : Option ℕ). unless_fault o (asked_by (line ∷ rest))) (fault_at-here line rest (no_line_opens line bad) (rw bad refl))
read-no_setup (first ∷ before) line rest good bad = read-next first (before ++ line ∷ rest) good.0 ∙ ap (behind first) (read-no_setup before line rest good.1 bad) ∙ ap Err (omega arith)

read-no_open : (before : List (List ℕ)) → AreSetup before → read before ≡ Err (length before + 1)
read-no_open [] good = refl
read-no_open (first ∷ before) good = read-next first before good.0 ∙ ap (behind first) (read-no_open before good.1) ∙ ap Err (omega arith)

read-no_call : (before : List (List ℕ)) (opening : List ℕ) (after : List (List ℕ)) (line : List ℕ) (rest : List (List ℕ)) → AreSetup before → says_open opening ≡ true → AreCalls after
    → call_line line ≡ None → read (before ++ opening ∷ (after ++ line ∷ rest)) ≡ Err (length before + 1 + length after + 1)
read-no_call [] opening after line rest good opens calls bad =
    read-open opening (after ++ line ∷ rest) opens
    ∙ ap (λ (o : Option ℕ). unless_fault (option_map (λ k. 0 + 1 + k) o) (made [] [] (calls_from [] (after ++ line ∷ rest)))) (fault-no_call after line rest calls bad)
read-no_call (first ∷ before) opening after line rest good opens calls bad =
    read-next first (before ++ opening ∷ (after ++ line ∷ rest)) good.0 ∙ ap (behind first) (read-no_call before opening after line rest good.1 opens calls bad) ∙ ap Err (omega arith)

-- whatever the lines come to is what they ask
alone : {lines : List (List ℕ)} {outcome : Result Script ℕ} → ComesTo lines outcome → outcome ≡ read lines
alone (asks before opening after good opens calls fed) = sym (read-asks before opening after good opens calls fed)
alone (no_setup before line rest good bad) = sym (read-no_setup before line rest good bad)
alone (no_open before good) = sym (read-no_open before good)
alone (no_call before opening after line rest good opens calls bad) = sym (read-no_call before opening after line rest good opens calls bad)
alone (no_feed before opening after good opens calls unfed) = sym (read-no_feed before opening after good opens calls unfed)

-- ---- each list of lines falls under a case

abbrev Falls : List (List ℕ) → Type 0
Falls lines = (outcome : Result Script ℕ) × ComesTo lines outcome

falls-next : (line : List ℕ) {lines : List (List ℕ)} {outcome : Result Script ℕ} → IsSome (setup_line line) × (says_open line ≡ false) → ComesTo lines outcome → Falls (line ∷ lines)
falls-next line first (asks before opening after good opens calls fed) = (_, asks (line ∷ before) opening after (first, good) opens calls fed)
falls-next line first (no_setup before bad_line rest good bad) = (_, no_setup (line ∷ before) bad_line rest (first, good) bad)
falls-next line first (no_open before good) = (_, no_open (line ∷ before) (first, good))
falls-next line first (no_call before opening after bad_line rest good opens calls bad) = (_, no_call (line ∷ before) opening after bad_line rest (first, good) opens calls bad)
falls-next line first (no_feed before opening after good opens calls unfed) = (_, no_feed (line ∷ before) opening after (first, good) opens calls unfed)

-- calls, up to one that is none
abbrev StopsAt : List (List ℕ) → Type 0
StopsAt lines = (after : List (List ℕ)) × (line : List ℕ) × (rest : List (List ℕ)) × AreCalls after × (call_line line ≡ None) × (lines ≡ after ++ line ∷ rest)

split_step : (said : Option CallLine) (line : List ℕ) (lines : List (List ℕ)) → call_line line ≡ said → AreCalls lines ⊎ StopsAt lines → AreCalls (line ∷ lines) ⊎ StopsAt (line ∷ lines)
split_step None line lines is others = inr ([], line, lines, tt, is, refl)
split_step (Some said) line lines is (inl calls) = inl (rw is refl, calls)
split_step (Some said) line lines is (inr s) = inr (line ∷ s.0, s.1, s.2, (rw is refl, s.3), s.4, ap (λ (ls : List (List ℕ)). line ∷ ls) s.5)

split_calls : (lines : List (List ℕ)) → AreCalls lines ⊎ StopsAt lines
split_calls [] = inl tt
split_calls (line ∷ lines) = split_step (call_line line) line lines refl (split_calls lines)

falls_calls : (lacks : Bool) (line : List ℕ) (lines : List (List ℕ)) → says_open line ≡ true → AreCalls lines → lack_a_feed lines ≡ lacks → Falls (line ∷ lines)
falls_calls true line lines opens calls unfed = (_, no_feed [] line lines tt opens calls unfed)
falls_calls false line lines opens calls fed = (_, asks [] line lines tt opens calls fed)

falls_open : (line : List ℕ) (lines : List (List ℕ)) → says_open line ≡ true → AreCalls lines ⊎ StopsAt lines → Falls (line ∷ lines)
falls_open line lines opens (inl calls) = falls_calls (lack_a_feed lines) line lines opens calls refl
falls_open line lines opens (inr s) = subst (λ (ls : List (List ℕ)). Falls (line ∷ ls)) (sym s.5) (_, no_call [] line s.0 s.1 s.2 tt opens s.3 s.4)

falls_step : (said : Option SetupLine) (line : List ℕ) (lines : List (List ℕ)) → setup_line line ≡ said → Falls lines → Falls (line ∷ lines)
unfolding says_open
falls_step None line lines is others = (_, no_setup [] line lines tt is)
falls_step (Some setup.Open) line lines is others = falls_open line lines (rw is refl) (split_calls lines)
falls_step (Some setup.Skipped) line lines is others = falls-next line (rw is refl, rw is refl) others.1
falls_step (Some (setup.Change op)) line lines is others = falls-next line (rw is refl, rw is refl) others.1
falls_step (Some (setup.Keep keep)) line lines is others = falls-next line (rw is refl, rw is refl) others.1

falls : (lines : List (List ℕ)) → Falls lines
falls [] = (_, no_open [] tt)
falls (line ∷ lines) = falls_step (setup_line line) line lines refl (falls lines)

-- ---- the law

pub script_of-alone : (text : List ℕ) (outcome : Result Script ℕ) → ComesTo (lines_of text) outcome → outcome ≡ script_of text
unfolding script_of
script_of-alone text outcome comes = alone comes

pub script_of-comes : (text : List ℕ) → ComesTo (lines_of text) (script_of text)
script_of-comes text =
    let case = falls (lines_of text) in
    subst (λ (outcome : Result Script ℕ). ComesTo (lines_of text) outcome) (script_of-alone text case.0 case.1) case.1
