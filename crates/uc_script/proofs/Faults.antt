-- The first fault of lines with one more line in front.
use Rattle.std.proofs.Common.{◌≡◌, ℕ, suc, ◌+◌, Bool, true, false, cond, not, ◌&&◌, ◌||◌, eqb, List, [], ◌∷◌, ◌++◌, length, Option, Some, None, is_none, refl, sym, ap, ◌∙◌, arith, inl, inr}
use Rattle.std.specs.Prelude.{position}
use Rattle.std.specs.List.{cons_option}
use Rattle.std.specs.Option.{option_map, option_or}
use Rattle.std.proofs.lemmas.Bool.{cases_eq, eq-eqb, ne_eqb}
use Rattle.uc_script.specs.declared.call.Call.{Call}
use Rattle.uc_script.specs.declared.script.Script.{Script}
use Rattle.uc_bytes.specs.declared.op.Op.{Op}
use Rattle.uc_script.specs.Script.{setup_line, call_line, says_open, says_change, says_feed, lines_before, lines_after, call_after, ops_after, calls_from, fault_behind, fault_at}
use Rattle.uc_script.specs.Reading.{unfed_after}
use Rattle.uc_script.specs.declared.call_line.CallLine.{CallLine}
use Rattle.uc_script.specs.declared.call_line.CallLine.TheVariants as asking
use Rattle.uc_script.proofs.Leaving.{left_by, left_by-next}
use Rattle.uc_script.proofs.First.{position-yes, position-no, before_first-yes, before_first-no, after_first-yes, after_first-no}

-- a line that may not stand before `open`, and one that may not stand after it
abbrev pub refuses_setup : List ℕ → Bool
refuses_setup line = is_none (setup_line line)

abbrev pub refuses_call : List ℕ → Bool
refuses_call line = is_none (call_line line)

-- a script of these parts
abbrev pub made : List Op → List ℕ → List Call → Script
made ops keeps calls = record { ops = ops; keeps = keeps; calls = calls }

pub made-same : (o p : List Op) (k l : List ℕ) (c d : List Call) → o ≡ p → k ≡ l → c ≡ d → made o k c ≡ made p l d
made-same o p k l c d eo ek ec = ap (λ (x : List Op). made x k c) eo ∙ ap (λ (x : List ℕ). made p x c) ek ∙ ap (made p l) ec

-- the first fault, by the first in each part and how many lines there are before `open` and in all
abbrev fault_of : Option ℕ → ℕ → ℕ → Option ℕ → Option ℕ
fault_of in_setup before all in_calls = option_or in_setup (cond (eqb before all) (Some all) (option_map (λ k. before + 1 + k) in_calls))

fault_of-next : (s : Option ℕ) (b a : ℕ) (c : Option ℕ) → fault_of (option_map suc s) (suc b) (suc a) c ≡ option_map suc (fault_of s b a c)
fault_of-next (Some k) b a c = refl
fault_of-next None b a None =
    elim (cases_eq b a) [
      | inl same ↦ rw (eq-eqb (suc b) (suc a) (ap suc same), eq-eqb b a same) refl
      | inr other ↦ rw (ne_eqb (suc b) (suc a) (λ e. other (omega arith)), ne_eqb b a other) refl
    ]
fault_of-next None b a (Some k) =
    elim (cases_eq b a) [
      | inl same ↦ rw (eq-eqb (suc b) (suc a) (ap suc same), eq-eqb b a same) refl
      | inr other ↦ rw (ne_eqb (suc b) (suc a) (λ e. other (omega arith)), ne_eqb b a other) (ap Some (omega arith))
    ]

-- the same of lines
abbrev fault_in : List (List ℕ) → List (List ℕ) → List (List ℕ) → Option ℕ
fault_in before lines after = fault_of (position refuses_setup before) (length before) (length lines) (fault_behind after)

-- a line that is no `open`, and no fault
pub fault_at-next : (line : List ℕ) (lines : List (List ℕ)) → says_open line ≡ false → refuses_setup line ≡ false → fault_at (line ∷ lines) ≡ option_map suc (fault_at lines)
fault_at-next line lines other good =
    let before = before_first-no says_open line lines other in
    let after = after_first-no says_open line lines other in
    let place = position-no refuses_setup line (lines_before lines) good in
    ap (λ (b : List (List ℕ)). fault_in b (line ∷ lines) (lines_after (line ∷ lines))) before
    ∙ ap (λ (a : List (List ℕ)). fault_in (line ∷ lines_before lines) (line ∷ lines) a) after
    ∙ ap (λ (s : Option ℕ). fault_of s (suc (length (lines_before lines))) (suc (length lines)) (fault_behind (lines_after lines))) place
    ∙ fault_of-next (position refuses_setup (lines_before lines)) (length (lines_before lines)) (length lines) (fault_behind (lines_after lines))

-- a line that is a fault before `open`
pub fault_at-here : (line : List ℕ) (lines : List (List ℕ)) → says_open line ≡ false → refuses_setup line ≡ true → fault_at (line ∷ lines) ≡ Some 0
fault_at-here line lines other bad =
    ap (λ (b : List (List ℕ)). fault_in b (line ∷ lines) (lines_after (line ∷ lines))) (before_first-no says_open line lines other)
    ∙ ap (λ (s : Option ℕ). fault_of s (suc (length (lines_before lines))) (suc (length lines)) (fault_behind (lines_after (line ∷ lines)))) (position-yes refuses_setup line (lines_before lines) bad)

-- the `open`
pub fault_at-open : (line : List ℕ) (lines : List (List ℕ)) → says_open line ≡ true → fault_at (line ∷ lines) ≡ option_map (λ k. 0 + 1 + k) (fault_behind lines)
fault_at-open line lines opens =
    ap (λ (b : List (List ℕ)). fault_in b (line ∷ lines) (lines_after (line ∷ lines))) (before_first-yes says_open line lines opens)
    ∙ ap (λ (a : List (List ℕ)). fault_in [] (line ∷ lines) a) (after_first-yes says_open line lines opens)
    ∙ ap (λ (b : Bool). cond b (Some (suc (length lines))) (option_map (λ k. 0 + 1 + k) (fault_behind lines))) (ne_eqb 0 (suc (length lines)) (λ e. omega arith))

-- ---- lines after `open`, by whether changes before them were not taken

abbrev pub fault_from : Bool → List (List ℕ) → Option ℕ
fault_from unfed lines = option_or (position refuses_call lines) (cond (left_by says_change says_feed unfed lines) (Some (length lines)) None)

-- a line that is a fault
pub fault_from-here : (unfed : Bool) (line : List ℕ) (lines : List (List ℕ)) → call_line line ≡ None → fault_from unfed (line ∷ lines) ≡ Some 0
fault_from-here unfed line lines bad =
    ap (λ (o : Option ℕ). option_or o (cond (left_by says_change says_feed unfed (line ∷ lines)) (Some (length (line ∷ lines))) None)) (position-yes refuses_call line lines (rw bad refl))

counted : (o : Option ℕ) (b : Bool) (n : ℕ) → option_or (option_map suc o) (cond b (Some (suc n)) None) ≡ option_map suc (option_or o (cond b (Some n) None))
counted (Some k) b n = refl
counted None true n = refl
counted None false n = refl

unfed_is : (said : CallLine) (unfed : Bool) (line : List ℕ) → call_line line ≡ Some said → unfed_after unfed said ≡ (says_change line || (unfed && not (says_feed line)))
unfolding says_change says_feed
unfed_is asking.Skipped true line is = rw is refl
unfed_is asking.Skipped false line is = rw is refl
unfed_is (asking.Change op) unfed line is = rw is refl
unfed_is asking.Feed true line is = rw is refl
unfed_is asking.Feed false line is = rw is refl
unfed_is (asking.Ask call) true line is = rw is refl
unfed_is (asking.Ask call) false line is = rw is refl

-- a line without a fault, in front of others
pub fault_from-next : (unfed : Bool) (said : CallLine) (line : List ℕ) (lines : List (List ℕ)) → call_line line ≡ Some said
    → fault_from unfed (line ∷ lines) ≡ option_map suc (fault_from (unfed_after unfed said) lines)
fault_from-next unfed said line lines is =
    let place = position-no refuses_call line lines (rw is refl) in
    let left = left_by-next says_change says_feed line lines unfed (unfed_after unfed said) (unfed_is said unfed line is) in
    ap (λ (o : Option ℕ). option_or o (cond (left_by says_change says_feed unfed (line ∷ lines)) (Some (suc (length lines))) None)) place
    ∙ ap (λ (b : Bool). option_or (option_map suc (position refuses_call lines)) (cond b (Some (suc (length lines))) None)) (sym left)
    ∙ counted (position refuses_call lines) (left_by says_change says_feed (unfed_after unfed said) lines) (length lines)

-- ---- changes that are collected

-- whether there are any
abbrev pub some_ops : List Op → Bool
some_ops [] = false
some_ops (op ∷ ops) = true

some_more : (ops : List Op) (op : Op) → some_ops (ops ++ op ∷ []) ≡ true
some_more [] op = refl
some_more (first ∷ ops) op = refl

pub some_ops-after : (ops : List Op) (said : CallLine) → some_ops (ops_after ops said) ≡ unfed_after (some_ops ops) said
some_ops-after ops asking.Skipped = refl
some_ops-after ops (asking.Change op) = some_more ops op
some_ops-after ops asking.Feed = refl
some_ops-after ops (asking.Ask call) = refl

-- ---- what lines ask

-- a line that says something, in front of others
pub calls-said : (ops : List Op) (line : List ℕ) (lines : List (List ℕ)) (said : CallLine) → call_line line ≡ Some said
    → calls_from ops (line ∷ lines) ≡ cons_option (call_after ops said) (calls_from (ops_after ops said) lines)
calls-said ops line lines said is = rw (is, calls_from) refl

-- a faulty line
pub calls-faulty : (ops : List Op) (line : List ℕ) (lines : List (List ℕ)) → call_line line ≡ None → calls_from ops (line ∷ lines) ≡ calls_from ops lines
calls-faulty ops line lines is = rw (is, calls_from) refl
