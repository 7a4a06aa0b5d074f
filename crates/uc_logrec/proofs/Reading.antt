-- Reading a log record by record, as a loop does.
use Rattle.std.proofs.Common.{◌≡◌, ℕ, zero, suc, ◌+◌, ◌-◌, ◌≤◌, ◌<◌, List, [], ◌∷◌, ◌++◌, length, take, drop, Option, Some, None, Result, Ok, Err, refl, sym, ap, subst, ◌∙◌, append_assoc, length-drop, arith, rules}
use Rattle.std.proofs.lemmas.List.{append-nil, drop-drop, drop-take, length-take-le}
use Rattle.uc_logrec.specs.declared.ending.Ending.{Ending}
use Rattle.uc_logrec.specs.declared.ending.Ending.TheVariants.{Fault}
use Rattle.uc_logrec.specs.declared.kind.Kind.{Kind}
use Rattle.uc_logrec.specs.declared.log_record.Stop.{Stop}
use Rattle.uc_logrec.specs.Steps.{Fragments, StepWithData, Complete, Open, Refused}
use Rattle.uc_logrec.specs.Format.{room, header_place, record_of}
use Rattle.uc_logrec.specs.Position.{ahead_at}
use Rattle.uc_logrec.specs.Log.{step_at, ending_at, Reading, ended, after_step, after_record, reading_from, reading_of}

-- the payloads that were read before, and those after it
abbrev pub with_front : List (List ℕ) → Reading → Reading
with_front front reading = record { payloads = front ++ reading.payloads; ending = reading.ending }

-- what is read from an offset on is the rest of a whole reading
pub record Completes (all : Reading) (front : List (List ℕ)) (unfinished : Option Fragments) (offset : ℕ) (left : List ℕ) : Type 0 where
  pub places : ℕ
  pub enough : length left < places
  pub whole : all ≡ with_front front (reading_from places unfinished offset left)

pub Completes-here : (offset : ℕ) (left : List ℕ) → Completes (ahead_at offset left) [] None offset left
Completes-here offset left = record { places = suc (length left); enough = omega arith; whole = refl }

pub Completes-start : (bytes : List ℕ) → Completes (reading_of bytes) [] None 0 bytes
unfolding reading_of
Completes-start bytes = Completes-here 0 bytes

-- the bytes from the next header place on
abbrev pub here : ℕ → List ℕ → List ℕ
here offset left = drop (header_place offset - offset) left

-- the result of reading from a place on, where one place less is left for what comes after it
abbrev from_place : ℕ → Option Fragments → ℕ → List ℕ → Reading
from_place places unfinished offset left = after_record (reading_from places) unfinished (header_place offset) (here offset left) (record_of (room (header_place offset)) (here offset left))

one_of : (places : ℕ) (unfinished : Option Fragments) (offset : ℕ) (left : List ℕ) → length left < places
    → (fewer : ℕ) × (length left ≤ fewer) × (reading_from places unfinished offset left ≡ from_place fewer unfinished offset left)
unfolding reading_from
one_of zero unfinished offset left lt = absurd (omega arith)
one_of (suc n) unfinished offset left lt = (n, omega arith, refl)

one_place : (all : Reading) (front : List (List ℕ)) (unfinished : Option Fragments) (offset : ℕ) (left : List ℕ) → Completes all front unfinished offset left
    → (fewer : ℕ) × (length left ≤ fewer) × (all ≡ with_front front (from_place fewer unfinished offset left))
one_place all front unfinished offset left c =
    let o = one_of c.places unfinished offset left c.enough in
    (o.0, o.1, c.whole ∙ ap (with_front front) o.2)

abbrev pub stopped : List (List ℕ) → Ending → Reading
stopped payloads ending = record { payloads = payloads; ending = ending }

pub stopped_front : (front : List (List ℕ)) (ending : Ending) → with_front front (ended ending) ≡ stopped front ending
stopped_front front ending = ap (λ (ps : List (List ℕ)). stopped ps ending) (append-nil front)

-- where no record stands
pub stops : (all : Reading) (front : List (List ℕ)) (unfinished : Option Fragments) (offset : ℕ) (left : List ℕ) (stop : Stop) → Completes all front unfinished offset left
    → record_of (room (header_place offset)) (here offset left) ≡ Err stop → all ≡ stopped front (ending_at stop unfinished (header_place offset))
stops all front unfinished offset left stop c e =
    let p = one_place all front unfinished offset left c in
    p.2 ∙ rw e (stopped_front front (ending_at stop unfinished (header_place offset)))

-- the bytes after a record
abbrev pub behind : ℕ → List ℕ → ℕ → List ℕ
behind offset left len = drop len (drop 7 (here offset left))

-- a record that may stand there
abbrev pub Goes : Reading → List (List ℕ) → ℕ → List ℕ → ℕ → StepWithData → Type 0
Goes all front offset left len (Complete payload) = Completes all (front ++ payload ∷ []) None (header_place offset + 7 + len) (behind offset left len)
Goes all front offset left len (Open fragments) = Completes all front (Some fragments) (header_place offset + 7 + len) (behind offset left len)
Goes all front offset left len (Refused fault) = all ≡ stopped front (Fault fault (header_place offset))

pub behind_shorter : (offset : ℕ) (left : List ℕ) (len : ℕ) → 7 + len ≤ length (here offset left) → length (behind offset left len) < length left
behind_shorter offset left len h = omega (arith, length-drop len (drop 7 (here offset left)), length-drop 7 (here offset left), length-drop (header_place offset - offset) left)

goes_on : (all : Reading) (front : List (List ℕ)) (unfinished : Option Fragments) (offset : ℕ) (left : List ℕ) (kind : Kind) (len : ℕ) (turn : StepWithData) (fewer : ℕ) → length left ≤ fewer → 7 + len ≤ length (here offset left)
    → all ≡ with_front front (after_step (λ still. reading_from fewer still (header_place offset + 7 + len) (behind offset left len)) (header_place offset) turn)
    → Goes all front offset left len turn
goes_on all front unfinished offset left kind len (Complete payload) fewer le within e =
    record { places = fewer; enough = omega (arith, behind_shorter offset left len within); whole = e ∙ ap (λ (ps : List (List ℕ)). stopped ps (reading_from fewer None (header_place offset + 7 + len) (behind offset left len)).ending) (sym (append_assoc front (payload ∷ []) (reading_from fewer None (header_place offset + 7 + len) (behind offset left len)).payloads)) }
goes_on all front unfinished offset left kind len (Open fragments) fewer le within e =
    record { places = fewer; enough = omega (arith, behind_shorter offset left len within); whole = e }
goes_on all front unfinished offset left kind len (Refused fault) fewer le within e = e ∙ stopped_front front (Fault fault (header_place offset))

-- where a record stands
pub goes : (all : Reading) (front : List (List ℕ)) (unfinished : Option Fragments) (offset : ℕ) (left : List ℕ) (kind : Kind) (len : ℕ) (turn : StepWithData) → Completes all front unfinished offset left
    → record_of (room (header_place offset)) (here offset left) ≡ Ok (kind, len) → 7 + len ≤ length (here offset left)
    → turn ≡ step_at unfinished (header_place offset) kind (take len (drop 7 (here offset left))) → Goes all front offset left len turn
goes all front unfinished offset left kind len turn c found within turns =
    let p = one_place all front unfinished offset left c in
    let turned : from_place p.0 unfinished offset left ≡ after_step (λ still. reading_from p.0 still (header_place offset + 7 + len) (behind offset left len)) (header_place offset) turn = rw (found, turns) refl in
    goes_on all front unfinished offset left kind len turn p.0 p.1 within (p.2 ∙ ap (with_front front) turned)

-- the record that was found after a trailer is the one at the header place
pub found_there : (offset : ℕ) (left : List ℕ) (place : ℕ) (rest : List ℕ) (found : Result (Kind × ℕ) Stop) → place ≡ header_place offset → rest ≡ here offset left → record_of (room place) rest ≡ found
    → record_of (room (header_place offset)) (here offset left) ≡ found
found_there offset left place rest found e f h = sym (sym h ∙ rw (e, f) refl)

-- and so it is with what it does
pub turned_there : (unfinished : Option Fragments) (offset : ℕ) (left : List ℕ) (place : ℕ) (rest fragment : List ℕ) (kind : Kind) (len : ℕ) (turn : StepWithData) → place ≡ header_place offset → rest ≡ here offset left → fragment ≡ take len (drop 7 rest)
    → turn ≡ step_at unfinished place kind fragment → turn ≡ step_at unfinished (header_place offset) kind (take len (drop 7 (here offset left)))
turned_there unfinished offset left place rest fragment kind len turn e f g h =
    h ∙ (ap (λ (p : ℕ). step_at unfinished p kind fragment) e ∙ ap (step_at unfinished (header_place offset) kind) (g ∙ ap (λ (r : List ℕ). take len (drop 7 r)) f))

-- the bytes after it, and their number
pub behind_there : (offset : ℕ) (left rest after : List ℕ) (len : ℕ) → rest ≡ here offset left → after ≡ drop len (drop 7 rest) → after ≡ behind offset left len
behind_there offset left rest after len f g = g ∙ ap (λ (r : List ℕ). drop len (drop 7 r)) f

pub still_within : (offset : ℕ) (left : List ℕ) (len whole : ℕ) → 7 + len ≤ length (here offset left) → offset + length left ≡ whole → header_place offset + 7 + len + length (behind offset left len) ≡ whole
still_within offset left len whole h e =
    let a = length-drop len (drop 7 (here offset left)) in
    let b = length-drop 7 (here offset left) in
    let d = length-drop (header_place offset - offset) left in
    let later : offset ≤ header_place offset = search rules in
    omega (arith, a, b, d)

-- and they are those of the bytes at the first offset
pub still_behind : (first offset : ℕ) (all left : List ℕ) (len : ℕ) → first ≤ offset → left ≡ drop (offset - first) all → behind offset left len ≡ drop (header_place offset + 7 + len - first) all
still_behind first offset all left len le e =
    let skipped = header_place offset - offset in
    let later : offset ≤ header_place offset = search rules in
    ap (λ (l : List ℕ). behind offset l len) e
    ∙ (ap (λ (l : List ℕ). drop len (drop 7 l)) (drop-drop skipped (offset - first) all)
    ∙ (ap (drop len) (drop-drop 7 (offset - first + skipped) all)
    ∙ (drop-drop len (offset - first + skipped + 7) all ∙ ap (λ (n : ℕ). drop n all) (omega (arith, later, le)))))

-- its data are the last of the bytes from the first place to the one after it
pub last_there : (first offset place after : ℕ) (all left rest fragment : List ℕ) → first ≤ offset → left ≡ drop (offset - first) all → place ≡ header_place offset → rest ≡ here offset left
    → fragment ≡ take (length fragment) (drop 7 rest) → 7 + length fragment ≤ length rest → after ≡ place + 7 + length fragment
    → fragment ≡ drop (length (take (after - first) all) - length fragment) (take (after - first) all)
last_there first offset place after all left rest fragment le e p r f fits a =
    let len = length fragment in
    let skipped = header_place offset - offset in
    let later : offset ≤ header_place offset = search rules in
    let n = header_place offset - first + 7 in
    let rest_is : rest ≡ drop (header_place offset - first) all =
    r ∙ (ap (drop skipped) e ∙ (drop-drop skipped (offset - first) all ∙ ap (λ (k : ℕ). drop k all) (omega (arith, later, le)))) in
    let long : length rest ≡ length all - (header_place offset - first) = ap (λ (l : List ℕ). length l) rest_is ∙ length-drop (header_place offset - first) all in
    let ends : after - first ≡ n + len = omega (arith, a, p, later, le) in
    let whole : length (take (n + len) all) ≡ n + len = length-take-le (n + len) all (omega (arith, long, fits, later, le)) in
    let there : fragment ≡ take len (drop n all) =
    f ∙ ap (take len) (ap (drop 7) rest_is ∙ (drop-drop 7 (header_place offset - first) all)) in
    subst (λ (k : ℕ). fragment ≡ drop (length (take k all) - len) (take k all)) (sym ends)
    (subst (λ (k : ℕ). fragment ≡ drop k (take (n + len) all)) (omega (arith, whole)) (there ∙ sym (drop-take n len all)))

-- a record that was found after a trailer, and its effect
pub goes_there : (all : Reading) (front : List (List ℕ)) (unfinished : Option Fragments) (offset : ℕ) (left : List ℕ) (place : ℕ) (rest fragment : List ℕ) (kind : Kind) (len : ℕ) (turn : StepWithData)
    → Completes all front unfinished offset left → place ≡ header_place offset → rest ≡ here offset left → record_of (room place) rest ≡ Ok (kind, len) → 7 + len ≤ length rest
    → fragment ≡ take len (drop 7 rest) → turn ≡ step_at unfinished place kind fragment → Goes all front offset left len turn
goes_there all front unfinished offset left place rest fragment kind len turn c e f found within cut turns =
    goes all front unfinished offset left kind len turn c (found_there offset left place rest (Ok (kind, len)) e f found) (subst (λ (r : List ℕ). 7 + len ≤ length r) f within)
    (turned_there unfinished offset left place rest fragment kind len turn e f cut turns)
