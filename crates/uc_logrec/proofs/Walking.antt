-- A walk through a log, and the log cut at its end.
use Rattle.std.proofs.Common.{◌≡◌, ℕ, suc, ◌+◌, ◌-◌, ◌≤◌, ◌<◌, List, [], ◌∷◌, ◌++◌, length, take, drop, None, inl, inr, refl, sym, ap, subst, ◌∙◌, append_assoc, length-append, length-drop, arith}
use Rattle.std.proofs.Math.Seq.{take-add}
use Rattle.std.proofs.lemmas.Bool.{cases_lt}
use Rattle.std.proofs.lemmas.List.{take-append-drop, take-append-le, take-take, take_all, drop-append-le, drop-drop, drop-take, drop_at, drop_all, length-take-le}
use Rattle.uc_logrec.specs.declared.ending.Ending.TheVariants.{Clean}
use Rattle.uc_logrec.specs.declared.kind.Kind.TheVariants.{Full, First}
use Rattle.uc_logrec.specs.Format.{room, header_place, record_text}
use Rattle.uc_logrec.specs.Log.{Reading, ended, with_payload, reading_of, trailer, rest_text, records_text, payload_text, text_from}
use Rattle.uc_logrec.specs.Position.{ahead_at, ahead_in, IsTextOf, between, LiesIn}
use Rattle.uc_logrec.specs.Walk.{Walks, at_start, one_more, BeginsWith, cut_and_added, GoesOn}
use Rattle.uc_logrec.proofs.Reading.{with_front, stopped}
use Rattle.uc_logrec.proofs.Records.{length-record_text}
use Rattle.uc_logrec.proofs.Writing.{records_text-full, records_text-pieces}
use Rattle.uc_logrec.proofs.Ahead.{places_enough}
use Rattle.uc_logrec.proofs.RoundTrip.{nothing_left, read_payload, read_from}

-- ---- what was walked

-- the bytes up to the offset hold the payloads, whatever follows them
pub record IsHeld (log : List ℕ) (payloads : List (List ℕ)) (offset : ℕ) : Type 0 where
  pub within : offset ≤ length log
  pub alone : (more : List ℕ) → reading_of (take offset log ++ more) ≡ with_front payloads (ahead_at offset more)

held_start : (log : List ℕ) → IsHeld log [] 0
unfolding reading_of
held_start log = record { within = omega arith; alone = λ more. refl }

taken : (log : List ℕ) (offset behind : ℕ) (more : List ℕ) → offset ≤ behind → take behind log ++ more ≡ take offset log ++ (between offset behind log ++ more)
taken log offset behind more le =
    let sum : behind ≡ offset + (behind - offset) = omega (arith, le) in
    ap (λ (n : ℕ). take n log ++ more) sum
    ∙ (ap (λ (bs : List ℕ). bs ++ more) (take-add offset (behind - offset) log) ∙ append_assoc (take offset log) (between offset behind log) more)

payload_moved : (payloads : List (List ℕ)) (payload : List ℕ) (rest : Reading) → with_front payloads (with_payload payload rest) ≡ with_front (payloads ++ payload ∷ []) rest
payload_moved payloads payload rest = ap (λ (ps : List (List ℕ)). stopped ps rest.ending) (sym (append_assoc payloads (payload ∷ []) rest.payloads))

held_more : (log : List ℕ) (payloads : List (List ℕ)) (offset : ℕ) (payload : List ℕ) (behind : ℕ) → IsHeld log payloads offset → LiesIn payload log offset behind → IsHeld log (payloads ++ payload ∷ []) behind
held_more log payloads offset payload behind held lies = record {
  within = lies.within;
  alone = λ more.
      ap reading_of (taken log offset behind more (omega (arith, lies.later)))
      ∙ (held.alone (between offset behind log ++ more)
      ∙ (ap (with_front payloads) (lies.alone more) ∙ payload_moved payloads payload (ahead_at behind more)));
}

held_all : (log : List ℕ) (payloads : List (List ℕ)) (offset : ℕ) → Walks log payloads offset → IsHeld log payloads offset
held_all log payloads offset at_start = held_start log
held_all log payloads offset (one_more before from payload behind walk lies) = held_more log before from payload behind (held_all log before from walk) lies

pub begins_with : (log : List ℕ) (payloads : List (List ℕ)) (offset : ℕ) → Walks log payloads offset → BeginsWith log payloads offset
begins_with log payloads offset walk =
    let held = held_all log payloads offset walk in
    let all : reading_of log ≡ with_front payloads (ahead_in log offset) = ap reading_of (sym (take-append-drop offset log)) ∙ held.alone (drop offset log) in
    record { within = held.within; payloads_are = ap (λ (r : Reading). r.payloads) all; ending_is = ap (λ (r : Reading). r.ending) all }

pub goes_on : (log : List ℕ) (payloads : List (List ℕ)) (offset : ℕ) → Walks log payloads offset → (more : List (List ℕ)) → GoesOn log payloads offset more
goes_on log payloads offset walk more =
    let all = (held_all log payloads offset walk).alone (text_from offset more) ∙ ap (with_front payloads) (read_from more offset) in
    record { same = ap (λ (r : Reading). r.payloads) all; clean = ap (λ (r : Reading). r.ending) all }

-- ---- past the end

pub nothing_past : (log : List ℕ) (offset : ℕ) → length log ≤ offset → ahead_in log offset ≡ ended Clean
nothing_past log offset le = ap (ahead_at offset) (drop_all offset log le) ∙ nothing_left 0 offset

-- ---- a payload that is added to it

-- bytes that are read the same whatever follows are in the log
lies_there : (payload log : List ℕ) (offset behind : ℕ) → offset < behind → behind ≤ length log → IsTextOf payload offset (between offset behind log) behind → LiesIn payload log offset behind
lies_there payload log offset behind lt le alone =
    let sum : offset + (behind - offset) ≡ behind = omega (arith, lt) in
    let rest : drop (behind - offset) (drop offset log) ≡ drop behind log = drop-drop (behind - offset) offset log ∙ ap (λ (n : ℕ). drop n log) sum in
    let whole : drop offset log ≡ between offset behind log ++ drop behind log = sym (take-append-drop (behind - offset) (drop offset log)) ∙ ap (λ (bs : List ℕ). between offset behind log ++ bs) rest in
    record { comes = ap (ahead_at offset) whole ∙ alone (drop behind log); later = lt; within = le; alone = alone }

-- the bytes before a cut stay
between_stays : (log : List ℕ) (offset behind to : ℕ) (more : List ℕ) → offset ≤ behind → behind ≤ to → to ≤ length log → between offset behind (cut_and_added log to more) ≡ between offset behind log
between_stays log offset behind to more le cut within =
    let front = take to log in
    let front_length = length-take-le to log within in
    let sum : to ≡ offset + (to - offset) = omega (arith, le, cut) in
    let here : drop offset (front ++ more) ≡ drop offset front ++ more = drop-append-le offset front more (omega (arith, le, cut, front_length)) in
    let there : drop offset front ≡ take (to - offset) (drop offset log) = ap (λ (n : ℕ). drop offset (take n log)) sum ∙ drop-take offset (to - offset) log in
    ap (take (behind - offset)) here
    ∙ (take-append-le (behind - offset) (drop offset front) more (omega (arith, le, cut, front_length, length-drop offset front))
    ∙ (ap (take (behind - offset)) there ∙ take-take (behind - offset) (to - offset) (drop offset log) (omega (arith, le, cut))))

cut_length : (log : List ℕ) (to : ℕ) (more : List ℕ) → to ≤ length log → length (cut_and_added log to more) ≡ to + length more
cut_length log to more le = omega (arith, length-append (take to log) more, length-take-le to log le)

lies_still : (payload log : List ℕ) (offset behind to : ℕ) (more : List ℕ) → LiesIn payload log offset behind → behind ≤ to → to ≤ length log → LiesIn payload (cut_and_added log to more) offset behind
lies_still payload log offset behind to more lies cut within =
    lies_there payload (cut_and_added log to more) offset behind lies.later (omega (arith, cut, cut_length log to more within))
    (subst (λ (text : List ℕ). IsTextOf payload offset text behind) (sym (between_stays log offset behind to more (omega (arith, lies.later)) cut within)) lies.alone)

-- and so a walk through them
walks_still : (log : List ℕ) (to : ℕ) (more : List ℕ) (payloads : List (List ℕ)) (offset : ℕ) → to ≤ length log → Walks log payloads offset → offset ≤ to → Walks (cut_and_added log to more) payloads offset
walks_still log to more payloads offset within at_start le = at_start
walks_still log to more payloads offset within (one_more before from payload behind walk lies) le =
    one_more before from payload behind (walks_still log to more before from within walk (omega (arith, le, lies.later))) (lies_still payload log from behind to more lies le within)

-- the bytes that the writer adds are a payload's
written_alone : (offset : ℕ) (payload : List ℕ) → IsTextOf payload offset (payload_text offset payload) (offset + length (payload_text offset payload))
written_alone offset payload more =
    let text = payload_text offset payload in
    let read = read_payload (suc (length (text ++ more))) offset payload more (omega arith) in
    read.reads ∙ ap (with_payload payload) (places_enough read.fewer (suc (length more)) None (offset + length text) more read.enough (omega arith))

records_long : (place : ℕ) (payload : List ℕ) → 0 < length (records_text place payload)
records_long place payload =
    let fits = room place - 7 in
    elim (cases_lt fits (length payload)) [
      | inl long ↦ omega (arith, ap length (records_text-pieces place payload long), length-append (record_text First (take fits payload)) (rest_text (drop fits payload)), length-record_text First (take fits payload))
      | inr short ↦ omega (arith, ap length (records_text-full place payload short), length-record_text Full payload)
    ]

written_lies : (log : List ℕ) (offset : ℕ) (payload : List ℕ) → offset ≤ length log → LiesIn payload (cut_and_added log offset (payload_text offset payload)) offset (offset + length (payload_text offset payload))
written_lies log offset payload within =
    let text = payload_text offset payload in
    let behind = offset + length text in
    let some : 0 < length text = omega (arith, length-append (trailer offset) (records_text (header_place offset) payload), records_long (header_place offset) payload) in
    let size : behind - offset ≡ length text = omega arith in
    let there : between offset behind (cut_and_added log offset text) ≡ text =
    ap (take (behind - offset)) (drop_at (take offset log) text offset (length-take-le offset log within)) ∙ take_all (behind - offset) text (omega (arith, size)) in
    lies_there payload (cut_and_added log offset text) offset behind (omega (arith, some)) (omega (arith, cut_length log offset text within))
    (subst (λ (bs : List ℕ). IsTextOf payload offset bs behind) (sym there) (written_alone offset payload))

pub walks_kept : (log : List ℕ) (payloads : List (List ℕ)) (offset : ℕ) → Walks log payloads offset → (rest : List ℕ) → Walks (cut_and_added log offset rest) payloads offset
walks_kept log payloads offset walk rest = walks_still log offset rest payloads offset (held_all log payloads offset walk).within walk (omega arith)

pub walks_on : (log : List ℕ) (payloads : List (List ℕ)) (offset : ℕ) → Walks log payloads offset → (payload : List ℕ)
    → Walks (cut_and_added log offset (payload_text offset payload)) (payloads ++ payload ∷ []) (offset + length (payload_text offset payload))
walks_on log payloads offset walk payload =
    let text = payload_text offset payload in
    one_more payloads offset payload (offset + length text) (walks_kept log payloads offset walk text) (written_lies log offset payload (held_all log payloads offset walk).within)
