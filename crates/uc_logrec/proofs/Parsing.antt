-- The open payload along the records of a sentence.
use Rattle.std.proofs.Common.{◌≡◌, ℕ, zero, suc, true, false, eqb, List, [], ◌∷◌, ◌++◌, length, map, Option, Some, None, ◌⊎◌, inl, inr, refl, sym, ap, subst, ◌∙◌, append_assoc, arith}
use Rattle.std.specs.List.{concat}
use Rattle.std.proofs.lemmas.Bool.{ne_eqb}
use Rattle.std.proofs.lemmas.List.{append-nil, map-append}
use Rattle.std.proofs.lemmas.List.Concat.{flat_map-append}
use Rattle.uc_logrec.specs.declared.fault.LogFault.{LogFault}
use Rattle.uc_logrec.specs.declared.fault.LogFault.TheVariants.{MiddleAlone, LastAlone, FullInside, FirstInside}
use Rattle.uc_logrec.specs.declared.kind.Kind.{Kind}
use Rattle.uc_logrec.specs.declared.kind.Kind.TheVariants.{Full, First, Middle, Last}
use Rattle.uc_logrec.specs.Steps.{Fragments, StepWithData, Complete, Open, Refused}
use Rattle.uc_logrec.specs.Log.{step_at}
use Rattle.uc_logrec.specs.Grammar.{LogRecord, next_place, place_behind, Group, Whole, Pieces, empty_firsts, begun_records, group_records, payload_of, sentence, BeginSentence, Unfinished, records_of}

-- ---- a run of the reader over records

-- the complete payloads read up to now, the one that is open, and the place after the records
pub record State : Type 0 where
  pub front : List (List ℕ)
  pub fragments : Option Fragments
  pub place : ℕ

abbrev pub at : List (List ℕ) → Option Fragments → ℕ → Option State
at front fragments place = Some (record { front = front; fragments = fragments; place = place })

abbrev pub turned : List (List ℕ) → ℕ → StepWithData → Option State
turned front next (Complete payload) = at (front ++ payload ∷ []) None next
turned front next (Open fragments) = at front (Some fragments) next
turned front next (Refused fault) = None

abbrev pub stepped : Option State → LogRecord → Option State
stepped None found = None
stepped (Some s) found = turned s.front (next_place s.place found) (step_at s.fragments s.place found.0 found.1)

abbrev pub run : Option State → List LogRecord → Option State
run state [] = state
run state (found ∷ records) = run (stepped state found) records

run-append : (state : Option State) (a b : List LogRecord) → run state (a ++ b) ≡ run (run state a) b
run-append state [] b = refl
run-append state (found ∷ a) b = run-append (stepped state found) a b

pub run-none : (records : List LogRecord) → run None records ≡ None
run-none [] = refl
run-none (found ∷ records) = run-none records

pub place_behind-append : (place : ℕ) (a b : List LogRecord) → place_behind place (a ++ b) ≡ place_behind (place_behind place a) b
place_behind-append place [] b = refl
place_behind-append place (found ∷ a) b = place_behind-append (next_place place found) a b

-- one run after another
joined : (state next end : Option State) (a b : List LogRecord) → run state a ≡ next → run next b ≡ end → run state (a ++ b) ≡ end
joined state next end a b p q = run-append state a b ∙ (ap (λ (s : Option State). run s b) p ∙ q)

-- ---- what the Es leave

data IsFree : Option Fragments → Type 0 where
  nothing_open : IsFree None
  empty_open : (start : ℕ) → IsFree (Some (record { start = start; payload = []; is_empty_first = true }))

abbrev pub begun : ℕ → List ℕ → Fragments
begun place first = record { start = place; payload = first; is_empty_first = eqb (length first) 0 }

step_full : (front : List (List ℕ)) (fragments : Option Fragments) (place : ℕ) (payload : List ℕ) → IsFree fragments → stepped (at front fragments place) (Full, payload) ≡ at (front ++ payload ∷ []) None (next_place place (Full, payload))
step_full front fragments place payload nothing_open = refl
step_full front fragments place payload (empty_open start) = refl

step_first : (front : List (List ℕ)) (fragments : Option Fragments) (place : ℕ) (first : List ℕ) → IsFree fragments → stepped (at front fragments place) (First, first) ≡ at front (Some (begun place first)) (next_place place (First, first))
step_first front fragments place first nothing_open = refl
step_first front fragments place first (empty_open start) = refl

run_empty : (count : ℕ) (front : List (List ℕ)) (fragments : Option Fragments) (place : ℕ) → IsFree fragments
    → (still : Option Fragments) × IsFree still × (run (at front fragments place) (empty_firsts count) ≡ at front still (place_behind place (empty_firsts count)))
run_empty zero front fragments place free = (fragments, free, refl)
run_empty (suc count) front fragments place free =
    let next = next_place place (First, []) in
    let one = step_first front fragments place [] free in
    let more = run_empty count front (Some (begun place [])) next (empty_open place) in
    (more.0, more.1, ap (λ (s : Option State). run s (empty_firsts count)) one ∙ more.2)

-- ---- a payload

abbrev pub with_middles : Fragments → List (List ℕ) → Fragments
with_middles f [] = f
with_middles f (middle ∷ middles) = with_middles (record { start = f.start; payload = f.payload ++ middle; is_empty_first = false }) middles

pub with_middles-start : (f : Fragments) (middles : List (List ℕ)) → (with_middles f middles).start ≡ f.start
with_middles-start f [] = refl
with_middles-start f (middle ∷ middles) = with_middles-start (record { start = f.start; payload = f.payload ++ middle; is_empty_first = false }) middles

with_middles-payload : (f : Fragments) (middles : List (List ℕ)) → (with_middles f middles).payload ≡ f.payload ++ concat middles
with_middles-payload f [] = sym (append-nil f.payload)
with_middles-payload f (middle ∷ middles) = with_middles-payload (record { start = f.start; payload = f.payload ++ middle; is_empty_first = false }) middles ∙ append_assoc f.payload middle (concat middles)

with_middles-empty_first : (f : Fragments) (middles : List (List ℕ)) → f.is_empty_first ≡ false → (with_middles f middles).is_empty_first ≡ false
with_middles-empty_first f [] e = e
with_middles-empty_first f (middle ∷ middles) e = with_middles-empty_first (record { start = f.start; payload = f.payload ++ middle; is_empty_first = false }) middles refl

abbrev middle_records : List (List ℕ) → List LogRecord
middle_records middles = map (λ fragment. (Middle, fragment)) middles

run_middles : (middles : List (List ℕ)) (front : List (List ℕ)) (f : Fragments) (place : ℕ) → run (at front (Some f) place) (middle_records middles) ≡ at front (Some (with_middles f middles)) (place_behind place (middle_records middles))
run_middles [] front f place = refl
run_middles (middle ∷ middles) front f place = run_middles middles front (record { start = f.start; payload = f.payload ++ middle; is_empty_first = false }) (next_place place (Middle, middle))

-- a FIRST and MIDDLEs
run_begun : (front : List (List ℕ)) (fragments : Option Fragments) (place : ℕ) (first : List ℕ) (middles : List (List ℕ)) → IsFree fragments
    → run (at front fragments place) (begun_records first middles) ≡ at front (Some (with_middles (begun place first) middles)) (place_behind place (begun_records first middles))
run_begun front fragments place first middles free =
    ap (λ (s : Option State). run s (middle_records middles)) (step_first front fragments place first free) ∙ run_middles middles front (begun place first) (next_place place (First, first))

-- with Es before them
run_unfinished : (front : List (List ℕ)) (place count : ℕ) (first : List ℕ) (middles : List (List ℕ))
    → run (at front None place) (empty_firsts count ++ begun_records first middles) ≡ at front (Some (with_middles (begun (place_behind place (empty_firsts count)) first) middles)) (place_behind place (empty_firsts count ++ begun_records first middles))
run_unfinished front place count first middles =
    let dropped = run_empty count front None place nothing_open in
    let start = place_behind place (empty_firsts count) in
    joined (at front None place) (at front dropped.0 start) _ (empty_firsts count) (begun_records first middles) dropped.2 (run_begun front dropped.0 start first middles dropped.1)
    ∙ ap (at front (Some (with_middles (begun start first) middles))) (sym (place_behind-append place (empty_firsts count) (begun_records first middles)))

run_group : (front : List (List ℕ)) (place : ℕ) (group : Group) → run (at front None place) (group_records group) ≡ at (front ++ payload_of group ∷ []) None (place_behind place (group_records group))
run_group front place (Whole count payload) =
    let dropped = run_empty count front None place nothing_open in
    let start = place_behind place (empty_firsts count) in
    joined (at front None place) (at front dropped.0 start) _ (empty_firsts count) ((Full, payload) ∷ []) dropped.2 (step_full front dropped.0 start payload dropped.1)
    ∙ ap (at (front ++ payload ∷ []) None) (sym (place_behind-append place (empty_firsts count) ((Full, payload) ∷ [])))
run_group front place (Pieces count first middles last) =
    let open_records = empty_firsts count ++ begun_records first middles in
    let start = place_behind place (empty_firsts count) in
    let f = with_middles (begun start first) middles in
    let there = place_behind place open_records in
    let grouped : group_records (Pieces count first middles last) ≡ open_records ++ (Last, last) ∷ [] = sym (append_assoc (empty_firsts count) (begun_records first middles) ((Last, last) ∷ [])) in
    let ran : run (at front None place) (open_records ++ (Last, last) ∷ []) ≡ at (front ++ (f.payload ++ last) ∷ []) None (next_place there (Last, last)) = joined (at front None place) (at front (Some f) there) _ open_records ((Last, last) ∷ []) (run_unfinished front place count first middles) refl in
    let payload : f.payload ++ last ≡ first ++ concat middles ++ last = ap (λ (p : List ℕ). p ++ last) (with_middles-payload (begun start first) middles) in
    let behind : next_place there (Last, last) ≡ place_behind place (group_records (Pieces count first middles last)) = sym (ap (place_behind place) grouped ∙ place_behind-append place open_records ((Last, last) ∷ [])) in
    ap (run (at front None place)) grouped ∙ (ran ∙ (ap (λ (p : List ℕ). at (front ++ p ∷ []) None (next_place there (Last, last))) payload ∙ ap (at (front ++ (first ++ concat middles ++ last) ∷ []) None) behind))

run_sentence : (groups : List Group) (front : List (List ℕ)) (place : ℕ) → run (at front None place) (sentence groups) ≡ at (front ++ map payload_of groups) None (place_behind place (sentence groups))
run_sentence [] front place = ap (λ (ps : List (List ℕ)). at ps None place) (sym (append-nil front))
run_sentence (group ∷ groups) front place =
    let there = place_behind place (group_records group) in
    joined (at front None place) (at (front ++ payload_of group ∷ []) None there) _ (group_records group) (sentence groups) (run_group front place group) (run_sentence groups (front ++ payload_of group ∷ []) there)
    ∙ (ap (λ (ps : List (List ℕ)). at ps None (place_behind there (sentence groups))) (append_assoc front (payload_of group ∷ []) (map payload_of groups))
    ∙ ap (at (front ++ map payload_of (group ∷ groups)) None) (sym (place_behind-append place (group_records group) (sentence groups))))

-- ---- the records of payloads and of an open one

abbrev pub start : Option State
start = at [] None 0

-- the fragments of the open payload
abbrev pub fragments_of : List Group → Option Unfinished → Option Fragments
fragments_of groups None = None
fragments_of groups (Some u) = Some (with_middles (begun (place_behind 0 (sentence groups ++ empty_firsts u.dropped)) u.first) u.middles)

abbrev pub place_of : List Group → Option Unfinished → ℕ
place_of groups unfinished = place_behind 0 (records_of groups unfinished)

pub run_records : (groups : List Group) (unfinished : Option Unfinished) → run start (records_of groups unfinished) ≡ at (map payload_of groups) (fragments_of groups unfinished) (place_of groups unfinished)
run_records groups None =
    ap (run start) (append-nil (sentence groups)) ∙ (run_sentence groups [] 0 ∙ ap (λ (rs : List LogRecord). at (map payload_of groups) None (place_behind 0 rs)) (sym (append-nil (sentence groups))))
run_records groups (Some u) =
    let front = map payload_of groups in
    let there = place_behind 0 (sentence groups) in
    let records = empty_firsts u.dropped ++ begun_records u.first u.middles in
    joined start (at front None there) _ (sentence groups) records (run_sentence groups [] 0) (run_unfinished front there u.dropped u.first u.middles)
    ∙ (ap (λ (p : ℕ). at front (Some (with_middles (begun p u.first) u.middles)) (place_behind there records)) (sym (place_behind-append 0 (sentence groups) (empty_firsts u.dropped)))
    ∙ ap (at front (fragments_of groups (Some u))) (sym (place_behind-append 0 (sentence groups) records)))

-- no record at the beginning of a sentence is rejected
pub begins_runs : (records : List LogRecord) → BeginSentence records → run start records ≡ None → ⊥
begins_runs records (more, groups, whole) refused =
    let all : run start (sentence groups) ≡ None = ap (run start) (sym whole) ∙ (run-append start records more ∙ (ap (λ (s : Option State). run s more) refused ∙ run-none more)) in
    let other = run_sentence groups [] 0 in
    cc

-- ---- one record more

sentence-push : (groups : List Group) (group : Group) → sentence (groups ++ group ∷ []) ≡ sentence groups ++ group_records group
sentence-push groups group = flat_map-append group_records groups (group ∷ []) ∙ ap (λ (rs : List LogRecord). sentence groups ++ rs) (append-nil (group_records group))

-- a payload more
complete_records : (groups : List Group) (group : Group) → records_of (groups ++ group ∷ []) None ≡ sentence groups ++ group_records group
complete_records groups group = append-nil (sentence (groups ++ group ∷ [])) ∙ sentence-push groups group

empty_firsts-push : (count : ℕ) (records : List LogRecord) → empty_firsts count ++ (First, []) ∷ records ≡ empty_firsts (suc count) ++ records
empty_firsts-push zero records = refl
empty_firsts-push (suc count) records = ap (λ (rs : List LogRecord). (First, []) ∷ rs) (empty_firsts-push count records)

-- with a LAST after them
with_last : (groups : List Group) (count : ℕ) (first : List ℕ) (middles : List (List ℕ)) (last : List ℕ)
    → records_of groups (Some (record { dropped = count; first = first; middles = middles })) ++ (Last, last) ∷ [] ≡ records_of (groups ++ Pieces count first middles last ∷ []) None
with_last groups count first middles last =
    let es = empty_firsts count in
    let begun_ones = begun_records first middles in
    append_assoc (sentence groups) (es ++ begun_ones) ((Last, last) ∷ [])
    ∙ (ap (λ (rs : List LogRecord). sentence groups ++ rs) (append_assoc es begun_ones ((Last, last) ∷ []))
    ∙ sym (complete_records groups (Pieces count first middles last)))

with_middle : (groups : List Group) (count : ℕ) (first : List ℕ) (middles : List (List ℕ)) (middle : List ℕ)
    → records_of groups (Some (record { dropped = count; first = first; middles = middles })) ++ (Middle, middle) ∷ [] ≡ records_of groups (Some (record { dropped = count; first = first; middles = middles ++ middle ∷ [] }))
with_middle groups count first middles middle =
    let es = empty_firsts count in
    let begun_ones = begun_records first middles in
    append_assoc (sentence groups) (es ++ begun_ones) ((Middle, middle) ∷ [])
    ∙ (ap (λ (rs : List LogRecord). sentence groups ++ rs) (append_assoc es begun_ones ((Middle, middle) ∷ []))
    ∙ ap (λ (rs : List LogRecord). sentence groups ++ (es ++ (First, first) ∷ rs)) (sym (map-append (λ (fragment : List ℕ). let r : LogRecord = (Middle, fragment) in r) middles (middle ∷ []))))

-- after an E
with_empty : (groups : List Group) (count : ℕ) (found : LogRecord)
    → records_of groups (Some (record { dropped = count; first = []; middles = [] })) ++ found ∷ [] ≡ sentence groups ++ (empty_firsts (suc count) ++ found ∷ [])
with_empty groups count found =
    append_assoc (sentence groups) (empty_firsts count ++ (First, []) ∷ []) (found ∷ [])
    ∙ ap (λ (rs : List LogRecord). sentence groups ++ rs) (append_assoc (empty_firsts count) ((First, []) ∷ []) (found ∷ []) ∙ empty_firsts-push count (found ∷ []))

-- where none is open
with_one : (groups : List Group) (found : LogRecord) → records_of groups None ++ found ∷ [] ≡ sentence groups ++ found ∷ []
with_one groups found = ap (λ (rs : List LogRecord). rs ++ found ∷ []) (append-nil (sentence groups))

pub begin_sentence : (groups : List Group) (unfinished : Option Unfinished) → BeginSentence (records_of groups unfinished)
begin_sentence groups None = ([], groups, append-nil (records_of groups None) ∙ append-nil (sentence groups))
begin_sentence groups (Some u) = ((Last, []) ∷ [], groups ++ Pieces u.dropped u.first u.middles [] ∷ [], with_last groups u.dropped u.first u.middles [] ∙ append-nil (sentence (groups ++ Pieces u.dropped u.first u.middles [] ∷ [])))

-- The record is one of a longer row, or it is rejected, at any place.
pub record Longer (groups : List Group) (unfinished : Option Unfinished) (found : LogRecord) : Type 0 where
  pub groups_then : List Group
  pub unfinished_then : Option Unfinished
  pub records_then : records_of groups unfinished ++ found ∷ [] ≡ records_of groups_then unfinished_then

pub record IsRefused (fragments : Option Fragments) (found : LogRecord) : Type 0 where
  pub fault : LogFault
  pub refused : (place : ℕ) → step_at fragments place found.0 found.1 ≡ Refused fault

-- a FULL or a FIRST where more is open than an E
kept_full : (f : Fragments) (fragment : List ℕ) → f.is_empty_first ≡ false → IsRefused (Some f) (Full, fragment)
kept_full f fragment e = record { fault = FullInside; refused = λ place. rw e refl }

kept_first : (f : Fragments) (fragment : List ℕ) → f.is_empty_first ≡ false → IsRefused (Some f) (First, fragment)
kept_first f fragment e = record { fault = FirstInside; refused = λ place. rw e refl }

-- an E is open, or more than that
lone_cases : (place : ℕ) (first : List ℕ) (middles : List (List ℕ)) → ((first ≡ []) × (middles ≡ [])) ⊎ ((with_middles (begun place first) middles).is_empty_first ≡ false)
lone_cases place [] [] = inl (refl, refl)
lone_cases place (byte ∷ bytes) [] = inr (ne_eqb (suc (length bytes)) 0 (λ e. absurd (omega arith)))
lone_cases place first (middle ∷ middles) = inr (with_middles-empty_first (record { start = place; payload = first ++ middle; is_empty_first = false }) middles refl)

abbrev Judged : List Group → Option Unfinished → LogRecord → Type 0
Judged groups unfinished found = Longer groups unfinished found ⊎ IsRefused (fragments_of groups unfinished) found

abbrev opened : ℕ → List ℕ → List (List ℕ) → Option Unfinished
opened count first middles = Some (record { dropped = count; first = first; middles = middles })

behind_empty : (groups : List Group) (count : ℕ) (kind : Kind) (fragment first : List ℕ) (middles : List (List ℕ)) → first ≡ [] → middles ≡ []
    → Longer groups (opened count [] []) (kind, fragment) → Longer groups (opened count first middles) (kind, fragment)
behind_empty groups count kind fragment first middles e f longer =
    subst (λ (bs : List ℕ). Longer groups (opened count bs middles) (kind, fragment)) (sym e) (subst (λ (bs : List (List ℕ)). Longer groups (opened count [] bs) (kind, fragment)) (sym f) longer)

judged_open : (groups : List Group) (count : ℕ) (first : List ℕ) (middles : List (List ℕ)) (kind : Kind) (fragment : List ℕ) → Judged groups (opened count first middles) (kind, fragment)
judged_open groups count first middles Full fragment =
    elim (lone_cases (place_behind 0 (sentence groups ++ empty_firsts count)) first middles) [
      | inl lone ↦ inl (behind_empty groups count Full fragment first middles lone.0 lone.1 (record { groups_then = groups ++ Whole (suc count) fragment ∷ []; unfinished_then = None; records_then = with_empty groups count (Full, fragment) ∙ sym (complete_records groups (Whole (suc count) fragment)) }))
      | inr more ↦ inr (kept_full _ fragment more)
    ]
judged_open groups count first middles First fragment =
    elim (lone_cases (place_behind 0 (sentence groups ++ empty_firsts count)) first middles) [
      | inl lone ↦ inl (behind_empty groups count First fragment first middles lone.0 lone.1 (record { groups_then = groups; unfinished_then = opened (suc count) fragment []; records_then = with_empty groups count (First, fragment) }))
      | inr more ↦ inr (kept_first _ fragment more)
    ]
judged_open groups count first middles Middle fragment = inl (record { groups_then = groups; unfinished_then = opened count first (middles ++ fragment ∷ []); records_then = with_middle groups count first middles fragment })
judged_open groups count first middles Last fragment = inl (record { groups_then = groups ++ Pieces count first middles fragment ∷ []; unfinished_then = None; records_then = with_last groups count first middles fragment })

judged_none : (groups : List Group) (kind : Kind) (fragment : List ℕ) → Judged groups None (kind, fragment)
judged_none groups Full fragment = inl (record { groups_then = groups ++ Whole 0 fragment ∷ []; unfinished_then = None; records_then = with_one groups (Full, fragment) ∙ sym (complete_records groups (Whole 0 fragment)) })
judged_none groups First fragment = inl (record { groups_then = groups; unfinished_then = opened 0 fragment []; records_then = with_one groups (First, fragment) })
judged_none groups Middle fragment = inr (record { fault = MiddleAlone; refused = λ place. refl })
judged_none groups Last fragment = inr (record { fault = LastAlone; refused = λ place. refl })

pub judged : (groups : List Group) (unfinished : Option Unfinished) (found : LogRecord) → Longer groups unfinished found ⊎ IsRefused (fragments_of groups unfinished) found
judged groups None found = judged_none groups found.0 found.1
judged groups (Some u) found = judged_open groups u.dropped u.first u.middles found.0 found.1

-- a rejected record doesn't begin a sentence
pub refused_longer : (groups : List Group) (unfinished : Option Unfinished) (found : LogRecord) → IsRefused (fragments_of groups unfinished) found → BeginSentence (records_of groups unfinished ++ found ∷ []) → ⊥
refused_longer groups unfinished found r begins =
    let ran = run_records groups unfinished in
    let none : stepped (at (map payload_of groups) (fragments_of groups unfinished) (place_of groups unfinished)) found ≡ None = ap (turned (map payload_of groups) (next_place (place_of groups unfinished) found)) (r.refused (place_of groups unfinished)) in
    begins_runs (records_of groups unfinished ++ found ∷ []) begins (run-append start (records_of groups unfinished) (found ∷ []) ∙ (ap (λ (s : Option State). stepped s found) ran ∙ none))
