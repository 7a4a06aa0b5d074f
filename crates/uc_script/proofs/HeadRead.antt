-- The reader finds the head in front of a log, with the queries in its bytes.
use Rattle.std.proofs.Common.{◌≡◌, ℕ, ◌+◌, ◌-◌, ◌≤◌, ltb, List, [], ◌∷◌, ◌++◌, length, take, codes, Option, Some, None, Result, Ok, Err, refl, sym, ap, subst, ◌∙◌, arith}
use Rattle.std.specs.Prelude.{position}
use Rattle.std.specs.List.{filter_map}
use Rattle.std.proofs.lemmas.Bool.{ltb-false}
use Rattle.std.proofs.lemmas.List.{append-nil}
use Rattle.std.proofs.lemmas.List.Elements.{filter_map-append}
use Rattle.std.proofs.Math.Seq.{take-append-add}
use Rattle.uc_script.specs.declared.error.ScriptError.{ScriptError}
use Rattle.uc_script.specs.declared.error.ScriptError.TheVariants as errors
use Rattle.uc_script.specs.declared.head.Head.{Head as Found}
use Rattle.uc_script.specs.declared.query.Query.{Query}
use Rattle.uc_script.specs.Lines.{lines_of}
use Rattle.uc_script.specs.Reading.{Gives}
use Rattle.uc_script.specs.Script.{unless_fault}
use Rattle.uc_script.specs.Head.{Head, says_log, head_line, query_in, queries_in, lines_before, bytes_of, said_in, fault_at, head_of}
use Rattle.uc_script.specs.HeadReading.{head_after, seen}
use Rattle.uc_script.specs.HeadCases.{AreHead, ComesTo, asks, no_line, no_log, no_end}
use Rattle.uc_script.proofs.Whole.{answer}
use Rattle.uc_script.proofs.LineEnds.{lines_of-bytes, size_of_lines}
use Rattle.uc_script.proofs.HeadFaults.{refuses, fault_none}
use Rattle.uc_script.proofs.HeadWhole.{found_after, head_after-is}
use Rattle.uc_script.proofs.HeadJudged.{are_lines, head_of-comes}

-- ---- the queries

query_in-log : query_in (codes "log") ≡ None
unfolding query_in head_line says_log
query_in-log = refl

abbrev ok : Head → Result Head ℕ
ok head = Ok head

head-same : {a b : Head} → ok a ≡ ok b → a ≡ b
head-same {a} {b} e = cc

queries_of : (before : List (List ℕ)) (log : List ℕ) → AreHead before
    → queries_in (take (length (bytes_of before) + 4) (bytes_of before ++ (codes "log" ++ 10 ∷ log))) ≡ filter_map query_in before
queries_of before log good =
    ap queries_in (take-append-add (bytes_of before) (codes "log" ++ 10 ∷ log) 4)
    ∙ ap (filter_map query_in) (lines_of-bytes before (codes "log" ++ 10 ∷ []) (are_lines before good))
    ∙ filter_map-append query_in before (codes "log" ∷ [])
    ∙ rw query_in-log (append-nil (filter_map query_in before))

of_outcome : {text : List ℕ} {outcome : Result Head ℕ} (head : Head) → ComesTo text outcome → outcome ≡ Ok head → head.queries ≡ queries_in (take head.size text)
of_outcome head (asks before log good) e =
    let same = head-same e in
    let text = bytes_of before ++ (codes "log" ++ 10 ∷ log) in
    sym (ap (λ (h : Head). queries_in (take h.size text)) (sym same) ∙ queries_of before log good ∙ ap (λ (h : Head). h.queries) same)
of_outcome head (no_line text before line rest good bad lines) e = absurd cc
of_outcome head (no_log text before good lines) e = absurd cc
of_outcome head (no_end before good) e = absurd cc

-- the queries of a head are those that stand in its bytes
pub queries_stand : (text : List ℕ) (head : Head) → head_of text ≡ Ok head → head.queries ≡ queries_in (take head.size text)
queries_stand text head e = of_outcome head (head_of-comes text) e

-- ---- the whole head

same_head : (keeps : List ℕ) (p q : List Query) (s t : ℕ) → p ≡ q → s ≡ t → ◌≡◌ {A = Head} (record { keeps = keeps; queries = p; size = s }) (record { keeps = keeps; queries = q; size = t })
same_head keeps p q s t eq es = ap (λ (x : List Query). record { keeps = keeps; queries = x; size = s }) eq ∙ ap (λ (x : ℕ). record { keeps = keeps; queries = q; size = x }) es

-- input without a fault
seen_fine : (text : List ℕ) → fault_at (length text) (lines_of text) ≡ None → said_in (lines_of text) ≡ seen text (found_after [] (length text) (length text) (lines_of text))
unfolding head_of
seen_fine text fine =
    let before = lines_before (lines_of text) in
    let size = length (bytes_of before) + 4 in
    let within : size ≤ length text = ltb-false (length text) size (fault_none (position refuses before) (ltb (length text) size) (length before) fine) in
    let same : size ≡ length text - (length text - size) = omega (arith, within) in
    let head : head_of text ≡ Ok (said_in (lines_of text)) = ap (λ (o : Option ℕ). unless_fault o (said_in (lines_of text))) fine in
    same_head _ _ _ _ _ (queries_stand text (said_in (lines_of text)) head ∙ ap (λ (n : ℕ). queries_in (take n text)) same) same

-- what the reader gives, by the first fault
abbrev found_ok : Found → Result Found ℕ
found_ok x = Ok x

found-same : {x y : Found} → found_ok x ≡ found_ok y → x ≡ y
found-same {x} {y} e = cc

abbrev found_err : ℕ → Result Found ℕ
found_err n = Err n

err-same : {m n : ℕ} → found_err m ≡ found_err n → m ≡ n
err-same {m} {n} e = cc

given : (fault : Option ℕ) (text : List ℕ) (r : Result Found ScriptError) → fault_at (length text) (lines_of text) ≡ fault
    → Gives (λ (h : Found). h) r (answer fault 1 (found_after [] (length text) (length text) (lines_of text))) → Gives (seen text) r (unless_fault fault (said_in (lines_of text)))
given (Some k) text (Ok head) is gives = absurd cc
given None text (Ok head) is gives = ap Ok (seen_fine text is ∙ ap (seen text) (found-same gives))
given fault text (Err errors.Memory) is gives = tt
given (Some k) text (Err (errors.Fault n)) is gives = ap Err (let same = err-same gives in omega (arith, same))
given None text (Err (errors.Fault n)) is gives = absurd cc

pub head_is_read : (text : List ℕ) (r : Result Found ScriptError) → Gives (λ (h : Found). h) r (head_after [] 1 (length text) (length text) (lines_of text)) → Gives (seen text) r (head_of text)
unfolding head_of
head_is_read text r gives =
    let P : Result Found ℕ → Type 0 = λ read. Gives (λ (h : Found). h) r read in
    given (fault_at (length text) (lines_of text)) text r refl (subst P (head_after-is [] 1 (length text) (length text) (lines_of text) (size_of_lines text)) gives)
