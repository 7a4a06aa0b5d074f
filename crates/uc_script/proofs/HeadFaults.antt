-- The `log` line, and the first fault of a head with one more line in front.
use Rattle.std.proofs.Common.{◌≡◌, ℕ, suc, ◌+◌, ◌-◌, ◌≤◌, Bool, true, false, cond, ltb, List, [], ◌∷◌, length, codes, Option, Some, None, is_none, refl, ap, sym, ◌∙◌, arith, inl, inr}
use Rattle.std.specs.Prelude.{position}
use Rattle.std.specs.Option.{option_map, option_or}
use Rattle.std.proofs.lemmas.Bool.{cases_lt, lt-ltb, le-ltb}
use Rattle.std.proofs.lemmas.Slice.Eq.{bytes_eq-Decides}
use Rattle.uc_script.specs.Lines.{fields_of, is_skipped}
use Rattle.uc_script.specs.Queries.{get_of, scan_of}
use Rattle.uc_script.specs.Script.{keep_of}
use Rattle.uc_script.specs.declared.head_line.HeadLine.TheVariants as saying
use Rattle.uc_script.specs.declared.query.Query.{Query}
use Rattle.uc_script.specs.Head.{says_log, said_by, head_line, lines_before, bytes_of, fault_at}
use Rattle.uc_script.proofs.First.{position-yes, position-no, before_first-yes, before_first-no}
use Rattle.uc_script.proofs.LineEnds.{size-next}

-- ---- the `log` line

-- there is only one
pub log_is : (line : List ℕ) → says_log line ≡ true → line ≡ codes "log"
unfolding says_log
log_is line logs = (bytes_eq-Decides line (codes "log")).0 logs

pub head_line-log : head_line (codes "log") ≡ Some saying.Log
unfolding head_line says_log
head_line-log = refl

pub says_log-log : says_log (codes "log") ≡ true
unfolding says_log
says_log-log = refl

-- no other line says what it says
kept_no_log : (o : Option ℕ) → option_map saying.Keep o ≡ Some saying.Log → ⊥
kept_no_log None e = cc
kept_no_log (Some n) e = cc

asked_no_log : (o : Option Query) → option_map saying.Ask o ≡ Some saying.Log → ⊥
asked_no_log None e = cc
asked_no_log (Some q) e = cc

fields_no_log : (fields : List (List ℕ)) → said_by fields ≡ Some saying.Log → ⊥
unfolding said_by
fields_no_log [] e = cc
fields_no_log (word ∷ []) e = cc
fields_no_log (word ∷ argument ∷ []) e = kept_no_log (keep_of word argument) e
fields_no_log (word ∷ key ∷ at ∷ []) e = asked_no_log (get_of word key at) e
fields_no_log (a ∷ b ∷ c ∷ d ∷ []) e = cc
fields_no_log (word ∷ low ∷ high ∷ limit ∷ at ∷ []) e = asked_no_log (scan_of word low high limit at) e
fields_no_log (a ∷ b ∷ c ∷ d ∷ e ∷ f ∷ fields) is = cc

no_log_step : (skipped logs : Bool) (fields : List (List ℕ)) → logs ≡ false → cond skipped (Some saying.Skipped) (cond logs (Some saying.Log) (said_by fields)) ≡ Some saying.Log → ⊥
no_log_step true logs fields other e = cc
no_log_step false true fields other e = cc
no_log_step false false fields other e = fields_no_log fields e

pub head_line-no_log : (line : List ℕ) → says_log line ≡ false → head_line line ≡ Some saying.Log → ⊥
unfolding head_line
head_line-no_log line other e = no_log_step (is_skipped line) (says_log line) (fields_of line) other e

-- a line that says nothing is no `log`
some_none : {A : Type 0} (x : A) → Some x ≡ None → ⊥
some_none x e = cc

refused_step : (logs : Bool) (line : List ℕ) → says_log line ≡ logs → head_line line ≡ None → logs ≡ false
refused_step true line is bad = absurd (some_none saying.Log (sym head_line-log ∙ ap head_line (sym (log_is line is)) ∙ bad))
refused_step false line is bad = refl

pub refused_no_log : (line : List ℕ) → head_line line ≡ None → says_log line ≡ false
refused_no_log line bad = refused_step (says_log line) line refl bad

-- ---- one more line in front

-- a line that may not stand in front of a log
abbrev pub refuses : List ℕ → Bool
refuses line = is_none (head_line line)

-- the first fault, by the first of the lines before `log`, whether the input is too short, and the number of those lines
abbrev pub fault_of : Option ℕ → Bool → ℕ → Option ℕ
fault_of refused short before = option_or refused (cond short (Some before) None)

fault_of-next : (o : Option ℕ) (t : Bool) (n : ℕ) → fault_of (option_map suc o) t (suc n) ≡ option_map suc (fault_of o t n)
fault_of-next (Some k) t n = refl
fault_of-next None true n = refl
fault_of-next None false n = refl

pub fault_none : (o : Option ℕ) (t : Bool) (n : ℕ) → fault_of o t n ≡ None → t ≡ false
fault_none (Some k) t n e = absurd (some_none k e)
fault_none None true n e = absurd (some_none n e)
fault_none None false n e = refl

-- the bytes after the first line are fewer by its length and its LF
short-next : (left : ℕ) (line : List ℕ) (lines : List (List ℕ)) → ltb left (length (bytes_of (line ∷ lines)) + 4) ≡ ltb (left - (length line + 1)) (length (bytes_of lines) + 4)
short-next left line lines =
    let size = size-next line lines in
    elim (cases_lt (left - (length line + 1)) (length (bytes_of lines) + 4)) [
      | inl short ↦ lt-ltb _ _ (omega (arith, size, short)) ∙ sym (lt-ltb _ _ short)
      | inr long ↦ le-ltb _ _ (omega (arith, size, long)) ∙ sym (le-ltb _ _ long)
    ]

-- the first fault by the lines before `log`
abbrev fault_in : ℕ → List (List ℕ) → Option ℕ
fault_in left before = fault_of (position refuses before) (ltb left (length (bytes_of before) + 4)) (length before)

pub fault_at-next : (left : ℕ) (line : List ℕ) (lines : List (List ℕ)) → says_log line ≡ false → refuses line ≡ false
    → fault_at left (line ∷ lines) ≡ option_map suc (fault_at (left - (length line + 1)) lines)
fault_at-next left line lines other good =
    let before = lines_before lines in
    ap (fault_in left) (before_first-no says_log line lines other)
    ∙ ap (λ (o : Option ℕ). fault_of o (ltb left (length (bytes_of (line ∷ before)) + 4)) (suc (length before))) (position-no refuses line before good)
    ∙ ap (λ (t : Bool). fault_of (option_map suc (position refuses before)) t (suc (length before))) (short-next left line before)
    ∙ fault_of-next (position refuses before) (ltb (left - (length line + 1)) (length (bytes_of before) + 4)) (length before)

pub fault_at-here : (left : ℕ) (line : List ℕ) (lines : List (List ℕ)) → says_log line ≡ false → refuses line ≡ true → fault_at left (line ∷ lines) ≡ Some 0
fault_at-here left line lines other bad =
    let before = lines_before lines in
    ap (fault_in left) (before_first-no says_log line lines other)
    ∙ ap (λ (o : Option ℕ). fault_of o (ltb left (length (bytes_of (line ∷ before)) + 4)) (suc (length before))) (position-yes refuses line before bad)

pub fault_at-log : (left : ℕ) (lines : List (List ℕ)) → fault_at left (codes "log" ∷ lines) ≡ cond (ltb left 4) (Some 0) None
fault_at-log left lines = ap (fault_in left) (before_first-yes says_log (codes "log") lines says_log-log)

-- where no line is left, and no byte
pub fault_at-end : (left : ℕ) → left ≤ 0 → fault_at left [] ≡ Some 0
fault_at-end left none = ap (λ (t : Bool). fault_of None t 0) (lt-ltb left 4 (omega arith))
