-- The input is one of the cases, and its outcome is what its head says.
use Rattle.std.proofs.Common.{◌≡◌, ℕ, suc, ◌+◌, ◌-◌, ◌≤◌, ◌<◌, Bool, false, cond, List, [], ◌∷◌, ◌++◌, length, codes, Option, Some, None, Result, Ok, Err, is_none, refl, sym, ap, subst, ◌∙◌, append_assoc, arith, inl, inr}
use Rattle.std.specs.Prelude.{IsSome, filter_map}
use Rattle.std.specs.List.{AllByRecursion, cons_option}
use Rattle.std.specs.Option.{option_map}
use Rattle.std.proofs.lemmas.Bool.{cases_Bool, lt-ltb, le-ltb}
use Rattle.std.proofs.lemmas.List.{length-append}
use Rattle.uc_script.specs.declared.head_line.HeadLine.{HeadLine}
use Rattle.uc_script.specs.declared.query.Query.{Query}
use Rattle.uc_script.specs.Lines.{lines_of}
use Rattle.uc_script.specs.Script.{unless_fault}
use Rattle.uc_script.specs.Head.{Head, says_log, head_line, keep_in, query_in, lines_before, bytes_of, said_in, fault_at, head_of}
use Rattle.uc_script.specs.HeadCases.{IsLine, AreHead, ComesTo, asks, no_line, no_log, no_end}
use Rattle.uc_script.proofs.First.{before_first-yes, before_first-no}
use Rattle.uc_script.proofs.LineEnds.{lines_of-first, lines_of-alone, lines_of-bytes, size-next, size_of_lines, cut}
use Rattle.uc_script.proofs.HeadFaults.{log_is, says_log-log, refused_no_log, fault_at-next, fault_at-here, fault_at-log, fault_at-end}

-- the head of lines, in input of `size` bytes
abbrev read : ℕ → List (List ℕ) → Result Head ℕ
read size lines = unless_fault (fault_at size lines) (said_in lines)

abbrev made : List ℕ → List Query → ℕ → Head
made keeps queries size = record { keeps = keeps; queries = queries; size = size }

made-same : (k l : List ℕ) (p q : List Query) (s t : ℕ) → k ≡ l → p ≡ q → s ≡ t → made k p s ≡ made l q t
made-same k l p q s t ek eq es = ap (λ (x : List ℕ). made x p s) ek ∙ ap (λ (x : List Query). made l x s) eq ∙ ap (made l q) es

-- the head of lines after one more
abbrev behind : List ℕ → Result Head ℕ → Result Head ℕ
behind line (Ok head) = Ok (made (cons_option (keep_in line) head.keeps) (cons_option (query_in line) head.queries) (length line + 1 + head.size))
behind line (Err n) = Err (n + 1)

not_refused : {A : Type 0} (o : Option A) → IsSome o → is_none o ≡ false
not_refused (Some x) h = refl
not_refused None h = absurd cc

behind_of : (line : List ℕ) (o : Option ℕ) (head longer : Head) → longer ≡ made (cons_option (keep_in line) head.keeps) (cons_option (query_in line) head.queries) (length line + 1 + head.size)
    → unless_fault (option_map suc o) longer ≡ behind line (unless_fault o head)
behind_of line (Some k) head longer same = ap Err (omega arith)
behind_of line None head longer same = ap Ok same

abbrev IsFront : List ℕ → Type 0
IsFront line = IsLine line × IsSome (head_line line) × (says_log line ≡ false)

read-next : (size : ℕ) (line : List ℕ) (lines : List (List ℕ)) → IsFront line → read size (line ∷ lines) ≡ behind line (read (size - (length line + 1)) lines)
read-next size line lines good =
    let before = before_first-no says_log line lines good.2 in
    let bytes : length (bytes_of (lines_before (line ∷ lines))) ≡ length line + 1 + length (bytes_of (lines_before lines)) = ap (λ (b : List (List ℕ)). length (bytes_of b)) before ∙ size-next line (lines_before lines) in
    ap (λ (o : Option ℕ). unless_fault o (said_in (line ∷ lines))) (fault_at-next size line lines good.2 (not_refused (head_line line) good.1))
    ∙ behind_of line (fault_at (size - (length line + 1)) lines) (said_in lines) (said_in (line ∷ lines))
    (made-same _ _ _ _ _ _ (ap (filter_map keep_in) before) (ap (filter_map query_in) before) (omega (arith, bytes)))

-- ---- what each case comes to

read-asks : (before : List (List ℕ)) (size : ℕ) (rest : List (List ℕ)) → AreHead before → length (bytes_of before) + 4 ≤ size
    → read size (before ++ codes "log" ∷ rest) ≡ Ok (made (filter_map keep_in before) (filter_map query_in before) (length (bytes_of before) + 4))
read-asks [] size rest good long =
    let before = before_first-yes says_log (codes "log") rest says_log-log in
    ap (λ (o : Option ℕ). unless_fault o (said_in (codes "log" ∷ rest))) (fault_at-log size rest ∙ ap (λ (t : Bool). cond t (Some 0) None) (le-ltb size 4 long))
    ∙ ap (λ (b : List (List ℕ)). Ok (made (filter_map keep_in b) (filter_map query_in b) (length (bytes_of b) + 4))) before
read-asks (line ∷ before) size rest good long =
    let bytes = size-next line before in
    read-next size line (before ++ codes "log" ∷ rest) good.0 ∙ ap (behind line) (read-asks before (size - (length line + 1)) rest good.1 (omega (arith, bytes, long)))
    ∙ ap Ok (made-same _ _ _ _ _ _ refl refl (omega (arith, bytes)))

read-no_line : (before : List (List ℕ)) (size : ℕ) (line : List ℕ) (rest : List (List ℕ)) → AreHead before → head_line line ≡ None → read size (before ++ line ∷ rest) ≡ Err (length before + 1)
read-no_line [] size line rest good bad = ap (λ (o : Option ℕ). unless_fault o (said_in (line ∷ rest))) (fault_at-here size line rest (refused_no_log line bad) (rw bad refl))
read-no_line (first ∷ before) size line rest good bad =
    read-next size first (before ++ line ∷ rest) good.0 ∙ ap (behind first) (read-no_line before (size - (length first + 1)) line rest good.1 bad) ∙ ap Err (omega arith)

read-no_log : (before : List (List ℕ)) (size : ℕ) → AreHead before → size ≤ length (bytes_of before) → read size before ≡ Err (length before + 1)
read-no_log [] size good short = ap (λ (o : Option ℕ). unless_fault o (said_in [])) (fault_at-end size short)
read-no_log (first ∷ before) size good short =
    let bytes = size-next first before in
    read-next size first before good.0 ∙ ap (behind first) (read-no_log before (size - (length first + 1)) good.1 (omega (arith, bytes, short))) ∙ ap Err (omega arith)

read-no_end : (before : List (List ℕ)) (size : ℕ) (rest : List (List ℕ)) → AreHead before → size < length (bytes_of before) + 4 → read size (before ++ codes "log" ∷ rest) ≡ Err (length before + 1)
read-no_end [] size rest good short = ap (λ (o : Option ℕ). unless_fault o (said_in (codes "log" ∷ rest))) (fault_at-log size rest ∙ ap (λ (t : Bool). cond t (Some 0) None) (lt-ltb size 4 short))
read-no_end (line ∷ before) size rest good short =
    let bytes = size-next line before in
    read-next size line (before ++ codes "log" ∷ rest) good.0 ∙ ap (behind line) (read-no_end before (size - (length line + 1)) rest good.1 (omega (arith, bytes, short))) ∙ ap Err (omega arith)

pub are_lines : (lines : List (List ℕ)) → AreHead lines → AllByRecursion IsLine lines
are_lines [] good = tt
are_lines (line ∷ lines) good = (good.0.0, are_lines lines good.1)

-- every outcome of the input is that of its head
alone : {text : List ℕ} {outcome : Result Head ℕ} → ComesTo text outcome → outcome ≡ read (length text) (lines_of text)
alone (asks before log good) =
    let text = bytes_of before ++ (codes "log" ++ 10 ∷ log) in
    let lines : lines_of text ≡ before ++ codes "log" ∷ lines_of log = lines_of-bytes before (codes "log" ++ 10 ∷ log) (are_lines before good) in
    sym (ap (read (length text)) lines ∙ read-asks before (length text) (lines_of log) good (omega (arith, length-append (bytes_of before) (codes "log" ++ 10 ∷ log))))
alone (no_line text before line rest good bad lines) = sym (ap (read (length text)) lines ∙ read-no_line before (length text) line rest good bad)
alone (no_log text before good lines) =
    let short : length text ≤ length (bytes_of before) = let P : List (List ℕ) → Type 0 = λ ls. length text ≤ length (bytes_of ls) in subst P lines (size_of_lines text) in
    sym (ap (read (length text)) lines ∙ read-no_log before (length text) good short)
alone (no_end before good) =
    let text = bytes_of before ++ codes "log" in
    let lines : lines_of text ≡ before ++ codes "log" ∷ [] = lines_of-bytes before (codes "log") (are_lines before good) in
    sym (ap (read (length text)) lines ∙ read-no_end before (length text) [] good (omega (arith, length-append (bytes_of before) (codes "log"))))

-- ---- every input is one of the cases

abbrev Falls : List ℕ → Type 0
Falls text = (outcome : Result Head ℕ) × ComesTo text outcome

falls_at : (a b : List ℕ) → a ≡ b → Falls a → Falls b
falls_at a b same = subst Falls same

falls-next : (line : List ℕ) {text : List ℕ} {outcome : Result Head ℕ} → IsFront line → ComesTo text outcome → Falls (line ++ 10 ∷ text)
falls-next line first (asks before log good) =
    falls_at _ _ (append_assoc line (10 ∷ bytes_of before) (codes "log" ++ 10 ∷ log)) (_, asks (line ∷ before) log (first, good))
falls-next line first (no_line text before bad_line rest good bad lines) =
    (_, no_line (line ++ 10 ∷ text) (line ∷ before) bad_line rest (first, good) bad (lines_of-first line text first.0 ∙ ap (λ (ls : List (List ℕ)). line ∷ ls) lines))
falls-next line first (no_log text before good lines) =
    (_, no_log (line ++ 10 ∷ text) (line ∷ before) (first, good) (lines_of-first line text first.0 ∙ ap (λ (ls : List (List ℕ)). line ∷ ls) lines))
falls-next line first (no_end before good) =
    falls_at _ _ (append_assoc line (10 ∷ bytes_of before) (codes "log")) (_, no_end (line ∷ before) (first, good))

-- a line with its LF
falls_front : (said : Option HeadLine) (line text : List ℕ) → IsLine line → says_log line ≡ false → head_line line ≡ said → Falls text → Falls (line ++ 10 ∷ text)
falls_front None line text is other bad behind = (_, no_line (line ++ 10 ∷ text) [] line (lines_of text) tt bad (lines_of-first line text is))
falls_front (Some said) line text is other good behind = falls-next line (is, rw good refl, other) behind.1

falls_first : (line text : List ℕ) → IsLine line → Falls text → Falls (line ++ 10 ∷ text)
falls_first line text is behind =
    elim (cases_Bool (says_log line)) [
      | inl logs ↦ let P : List ℕ → Type 0 = λ l. Falls (l ++ 10 ∷ text) in subst P (sym (log_is line logs)) (_, asks [] text tt)
      | inr other ↦ falls_front (head_line line) line text is other refl behind
    ]

-- the bytes that are left after the last LF
falls_left_front : (said : Option HeadLine) (byte : ℕ) (line : List ℕ) → IsLine (byte ∷ line) → says_log (byte ∷ line) ≡ false → head_line (byte ∷ line) ≡ said → Falls (byte ∷ line)
falls_left_front None byte line is other bad = (_, no_line (byte ∷ line) [] (byte ∷ line) [] tt bad (lines_of-alone byte line is))
falls_left_front (Some said) byte line is other good = (_, no_log (byte ∷ line) ((byte ∷ line) ∷ []) ((is, rw good refl, other), tt) (lines_of-alone byte line is))

falls_left : (line : List ℕ) → IsLine line → Falls line
falls_left [] is = (_, no_log [] [] tt refl)
falls_left (byte ∷ line) is =
    elim (cases_Bool (says_log (byte ∷ line))) [
      | inl logs ↦ falls_at _ _ (sym (log_is (byte ∷ line) logs)) (_, no_end [] tt)
      | inr other ↦ falls_left_front (head_line (byte ∷ line)) byte line is other refl
    ]

falls_lines : (whole : List (List ℕ)) (left : List ℕ) → AllByRecursion IsLine whole → IsLine left → Falls (bytes_of whole ++ left)
falls_lines [] left are is = falls_left left is
falls_lines (line ∷ whole) left are is =
    falls_at _ _ (sym (append_assoc line (10 ∷ bytes_of whole) left)) (falls_first line (bytes_of whole ++ left) are.0 (falls_lines whole left are.1 is))

falls : (text : List ℕ) → Falls text
falls text = let c = cut text in falls_at _ _ (sym c.same) (falls_lines c.whole c.left c.are c.is)

-- ---- the law

pub head_of-alone : (text : List ℕ) (outcome : Result Head ℕ) → ComesTo text outcome → outcome ≡ head_of text
unfolding head_of
head_of-alone text outcome comes = alone comes

pub head_of-comes : (text : List ℕ) → ComesTo text (head_of text)
head_of-comes text =
    let case = falls text in
    subst (λ (outcome : Result Head ℕ). ComesTo text outcome) (head_of-alone text case.0 case.1) case.1
