-- The reader's result for a head's lines, one after the other, is the head, except for its queries.
use Rattle.std.proofs.Common.{◌≡◌, ℕ, ◌+◌, ◌-◌, ◌≤◌, Bool, false, cond, List, [], ◌∷◌, ◌++◌, length, codes, Option, Some, None, Result, Ok, Err, refl, sym, ap, subst, ◌∙◌, arith, inl, inr}
use Rattle.std.specs.List.{filter_map}
use Rattle.std.proofs.lemmas.Bool.{cases_Bool, cases_lt, lt-ltb, le-ltb}
use Rattle.std.proofs.lemmas.List.{append-nil}
use Rattle.uc_script.specs.declared.head.Head.{Head as Found}
use Rattle.uc_script.specs.declared.head_line.HeadLine.{HeadLine}
use Rattle.uc_script.specs.declared.head_line.HeadLine.TheVariants as saying
use Rattle.uc_script.specs.Head.{says_log, head_line, keep_in, lines_before, bytes_of, fault_at}
use Rattle.uc_script.specs.HeadReading.{head_after}
use Rattle.uc_script.proofs.First.{before_first-yes, before_first-no}
use Rattle.uc_script.proofs.LineEnds.{size-next}
use Rattle.uc_script.proofs.HeadFaults.{log_is, head_line-log, says_log-log, head_line-no_log, refuses, fault_at-next, fault_at-here, fault_at-log, fault_at-end}
use Rattle.uc_script.proofs.Whole.{answer, stops, goes_on, regroup}

-- what was found
abbrev pub found : List ℕ → ℕ → Found
found keeps size = record { keeps = keeps; size = size }

found-same : (k l : List ℕ) (s t : ℕ) → k ≡ l → s ≡ t → found k s ≡ found l t
found-same k l s t ek es = ap (λ (x : List ℕ). found x s) ek ∙ ap (found l) es

-- the result for lines after these keeps, where `left` bytes of all are left
abbrev pub found_after : List ℕ → ℕ → ℕ → List (List ℕ) → Found
found_after keeps all left lines = found (keeps ++ filter_map keep_in (lines_before lines)) (all - (left - (length (bytes_of (lines_before lines)) + 4)))

abbrev pub head_answer : List ℕ → ℕ → ℕ → ℕ → List (List ℕ) → Result Found ℕ
head_answer keeps n all left lines = answer (fault_at left lines) n (found_after keeps all left lines)

-- a line that is no `log` and names these keeps
head_goes_on : (k l : List ℕ) (n all left : ℕ) (line : List ℕ) (lines : List (List ℕ)) → says_log line ≡ false → refuses line ≡ false
    → l ++ filter_map keep_in (lines_before lines) ≡ k ++ filter_map keep_in (line ∷ lines_before lines)
    → head_answer l (n + 1) all (left - (length line + 1)) lines ≡ head_answer k n all left (line ∷ lines)
head_goes_on k l n all left line lines other good keeps =
    let before = before_first-no says_log line lines other in
    let size : length (bytes_of (lines_before (line ∷ lines))) ≡ length line + 1 + length (bytes_of (lines_before lines)) = ap (λ (b : List (List ℕ)). length (bytes_of b)) before ∙ size-next line (lines_before lines) in
    goes_on (fault_at (left - (length line + 1)) lines) (fault_at left (line ∷ lines)) n (found_after l all (left - (length line + 1)) lines) (found_after k all left (line ∷ lines)) (fault_at-next left line lines other good)
    (found-same _ _ _ _ (keeps ∙ ap (λ (b : List (List ℕ)). k ++ filter_map keep_in b) (sym before)) (omega (arith, size)))

-- a `log` line
log_short : (keeps : List ℕ) (n all left : ℕ) (lines : List (List ℕ)) → left ≤ 3 → head_after keeps n all left (codes "log" ∷ lines) ≡ head_answer keeps n all left (codes "log" ∷ lines)
log_short keeps n all left lines short =
    let step : head_after keeps n all left (codes "log" ∷ lines) ≡ Err n = rw (head_line-log, head_after) (rw (le-ltb 3 left short) refl) in
    step ∙ stops (fault_at left (codes "log" ∷ lines)) n (found_after keeps all left (codes "log" ∷ lines)) (fault_at-log left lines ∙ ap (λ (t : Bool). cond t (Some 0) None) (lt-ltb left 4 (omega arith)))

log_long : (keeps : List ℕ) (n all left : ℕ) (lines : List (List ℕ)) → 4 ≤ left → head_after keeps n all left (codes "log" ∷ lines) ≡ head_answer keeps n all left (codes "log" ∷ lines)
log_long keeps n all left lines long =
    let step : head_after keeps n all left (codes "log" ∷ lines) ≡ Ok (found keeps (all - (left - 4))) = rw (head_line-log, head_after) (rw (lt-ltb 3 left (omega arith)) refl) in
    let before = before_first-yes says_log (codes "log") lines says_log-log in
    let fault : fault_at left (codes "log" ∷ lines) ≡ None = fault_at-log left lines ∙ ap (λ (t : Bool). cond t (Some 0) None) (le-ltb left 4 long) in
    let same : found keeps (all - (left - 4)) ≡ found_after keeps all left (codes "log" ∷ lines) = found-same _ _ _ _
    (sym (append-nil keeps) ∙ ap (λ (b : List (List ℕ)). keeps ++ filter_map keep_in b) (sym before)) (ap (λ (b : List (List ℕ)). all - (left - (length (bytes_of b) + 4))) (sym before)) in
    step ∙ ap Ok same ∙ ap (λ (o : Option ℕ). answer o n (found_after keeps all left (codes "log" ∷ lines))) (sym fault)

log_step : (keeps : List ℕ) (n all left : ℕ) (lines : List (List ℕ)) → head_after keeps n all left (codes "log" ∷ lines) ≡ head_answer keeps n all left (codes "log" ∷ lines)
log_step keeps n all left lines =
    elim (cases_lt left 4) [
      | inl short ↦ log_short keeps n all left lines (omega arith)
      | inr long ↦ log_long keeps n all left lines long
    ]

-- another line
head_step : (said : Option HeadLine) (keeps : List ℕ) (n all left : ℕ) (line : List ℕ) (lines : List (List ℕ)) → head_line line ≡ said → says_log line ≡ false
    → ((k : List ℕ) (m : ℕ) → head_after k m all (left - (length line + 1)) lines ≡ head_answer k m all (left - (length line + 1)) lines)
    → head_after keeps n all left (line ∷ lines) ≡ head_answer keeps n all left (line ∷ lines)
unfolding keep_in
head_step None keeps n all left line lines said other ih =
    let step : head_after keeps n all left (line ∷ lines) ≡ Err n = rw (said, head_after) refl in
    step ∙ stops (fault_at left (line ∷ lines)) n (found_after keeps all left (line ∷ lines)) (fault_at-here left line lines other (rw said refl))
head_step (Some saying.Skipped) keeps n all left line lines said other ih =
    let step : head_after keeps n all left (line ∷ lines) ≡ head_after keeps (n + 1) all (left - (length line + 1)) lines = rw (said, head_after) refl in
    step ∙ ih keeps (n + 1) ∙ head_goes_on keeps keeps n all left line lines other (rw said refl) (rw said refl)
head_step (Some (saying.Keep keep)) keeps n all left line lines said other ih =
    let step : head_after keeps n all left (line ∷ lines) ≡ head_after (keeps ++ keep ∷ []) (n + 1) all (left - (length line + 1)) lines = rw (said, head_after) refl in
    step ∙ ih (keeps ++ keep ∷ []) (n + 1) ∙ head_goes_on keeps (keeps ++ keep ∷ []) n all left line lines other (rw said refl) (rw said (regroup keeps keep (filter_map keep_in (lines_before lines))))
head_step (Some (saying.Ask query)) keeps n all left line lines said other ih =
    let step : head_after keeps n all left (line ∷ lines) ≡ head_after keeps (n + 1) all (left - (length line + 1)) lines = rw (said, head_after) refl in
    step ∙ ih keeps (n + 1) ∙ head_goes_on keeps keeps n all left line lines other (rw said refl) (rw said refl)
head_step (Some saying.Log) keeps n all left line lines said other ih = absurd (head_line-no_log line other said)

pub head_after-is : (keeps : List ℕ) (n all left : ℕ) (lines : List (List ℕ)) → left ≤ length (bytes_of lines) → head_after keeps n all left lines ≡ head_answer keeps n all left lines
head_after-is keeps n all left [] few = stops (fault_at left []) n (found_after keeps all left []) (fault_at-end left few)
head_after-is keeps n all left (line ∷ lines) few =
    elim (cases_Bool (says_log line)) [
      | inl logs ↦
          let P : List ℕ → Type 0 = λ l. head_after keeps n all left (l ∷ lines) ≡ head_answer keeps n all left (l ∷ lines) in
          subst P (sym (log_is line logs)) (log_step keeps n all left lines)
      | inr other ↦
          let size = size-next line lines in
          head_step (head_line line) keeps n all left line lines refl other (λ k m. head_after-is k m all (left - (length line + 1)) lines (omega (arith, size, few)))
    ]
