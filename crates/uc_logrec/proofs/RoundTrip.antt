-- Reading returns what the writer wrote.
use Rattle.std.proofs.Common.{◌≡◌, ℕ, zero, suc, ◌+◌, ◌-◌, ◌%◌, ◌≤◌, ◌<◌, Bool, false, cond, eqb, List, [], ◌∷◌, ◌++◌, length, take, drop, Option, Some, None, Ok, inl, inr, refl, sym, ap, subst, ◌∙◌, append_assoc, length-append, length-take, length-drop, arith}
use Rattle.std.proofs.lemmas.Bool.{cases_lt, le-ltb, lt-ltb}
use Rattle.std.proofs.lemmas.List.{append-nil, take-append-drop, drop_at, length-replicate}
use Rattle.std.proofs.Math.Seq.{drop-nil}
use Rattle.uc_logrec.specs.declared.ending.Ending.TheVariants.{Clean}
use Rattle.uc_logrec.specs.declared.kind.Kind.{Kind}
use Rattle.uc_logrec.specs.declared.kind.Kind.TheVariants.{Full, First, Middle, Last}
use Rattle.uc_logrec.specs.Steps.{Fragments}
use Rattle.uc_logrec.specs.Format.{room, header_place, record_text, record_of}
use Rattle.uc_logrec.specs.Log.{step_at, Reading, ended, with_payload, after_step, reading_from, reading_of, payloads_of, trailer, blocks_text, rest_text, payload_text, text_from, log_text, IsReadAgain}
use Rattle.uc_logrec.specs.Position.{ahead_at}
use Rattle.uc_logrec.proofs.Reading.{here}
use Rattle.uc_logrec.proofs.Writing.{blocks_text-last, blocks_text-middle, records_text-full, records_text-pieces}
use Rattle.uc_logrec.proofs.Records.{record_again, length-record_text, fragment_again, behind_again}

-- ---- places

-- where a header fits, it may begin right there
pub place_here : (offset : ℕ) → 7 ≤ room offset → header_place offset ≡ offset
place_here offset le = ap (λ (b : Bool). cond b (offset + room offset) offset) (le-ltb (room offset) 7 le)

pub place_behind : (offset : ℕ) → room offset < 7 → header_place offset ≡ offset + room offset
place_behind offset lt = ap (λ (b : Bool). cond b (offset + room offset) offset) (lt-ltb (room offset) 7 lt)

-- a header fits at a header place
pub header_fits : (offset : ℕ) → 7 ≤ room (header_place offset)
header_fits offset =
    elim (cases_lt (room offset) 7) [
      | inl lt ↦ rw (place_behind offset lt) (omega arith)
      | inr le ↦ rw (place_here offset le) le
    ]

-- it isn't before the offset
pub place_later : (offset : ℕ) → offset ≤ header_place offset
place_later offset =
    elim (cases_lt (room offset) 7) [
      | inl lt ↦ rw (place_behind offset lt) (omega arith)
      | inr le ↦ rw (place_here offset le) (omega arith)
    ]

-- and is its own header place
pub place_again : (offset : ℕ) → header_place (header_place offset) ≡ header_place offset
place_again offset = place_here (header_place offset) (header_fits offset)

-- the trailer is skipped
pub past_trailer : (offset : ℕ) (text : List ℕ) → here offset (trailer offset ++ text) ≡ text
past_trailer offset text = drop_at (trailer offset) text (header_place offset - offset) (length-replicate (header_place offset - offset) 0)

pub here_again : (offset : ℕ) (text : List ℕ) → 7 ≤ room offset → here offset text ≡ text
here_again offset text le = let same : header_place offset - offset ≡ 0 = omega (arith, place_here offset le) in rw same refl

pub length-trailer : (offset : ℕ) → offset + length (trailer offset) ≡ header_place offset
length-trailer offset = omega (arith, length-replicate {A = ℕ} (header_place offset - offset) 0, place_later offset)

-- ---- one record

read_record : (places : ℕ) (unfinished : Option Fragments) (offset : ℕ) (left : List ℕ) (kind : Kind) (fragment after : List ℕ) → here offset left ≡ record_text kind fragment ++ after → 7 + length fragment ≤ room (header_place offset)
    → reading_from (suc places) unfinished offset left ≡ after_step (λ still. reading_from places still (header_place offset + 7 + length fragment) after) (header_place offset) (step_at unfinished (header_place offset) kind fragment)
unfolding reading_from
read_record places unfinished offset left kind fragment after e fits =
    let place = header_place offset in
    let found : record_of (room place) (here offset left) ≡ Ok (kind, length fragment) = rw e (record_again (room place) kind fragment after fits (omega arith)) in
    let part : take (length fragment) (drop 7 (here offset left)) ≡ fragment = rw e (fragment_again kind fragment after) in
    let rest : drop (length fragment) (drop 7 (here offset left)) ≡ after = rw e (behind_again kind fragment after) in
    rw (found, part, rest) refl

-- ---- a payload's records

-- the result of reading records that complete a payload: the payload, and what comes after it
pub record Completed (payload : List ℕ) (unfinished : Option Fragments) (offset : ℕ) (text after : List ℕ) (places : ℕ) : Type 0 where
  pub fewer : ℕ
  pub enough : length after < fewer
  pub reads : reading_from places unfinished offset (text ++ after) ≡ with_payload payload (reading_from fewer None (offset + length text) after)

completed_there : (payload : List ℕ) (unfinished : Option Fragments) (offset there : ℕ) (text after : List ℕ) (places fewer : ℕ) → length after < fewer → {one : Reading} → reading_from places unfinished offset (text ++ after) ≡ one → one ≡ with_payload payload (reading_from fewer None there after)
    → there ≡ offset + length text → Completed payload unfinished offset text after places
completed_there payload unfinished offset there text after places fewer enough e f same = record { fewer = fewer; enough = enough; reads = e ∙ f ∙ ap (λ (o : ℕ). with_payload payload (reading_from fewer None o after)) same }

-- a LAST
read_last : (places : ℕ) (open_one : Fragments) (offset : ℕ) (fragment after : List ℕ) → offset % 32768 ≡ 0 → length fragment ≤ 32761 → length (record_text Last fragment ++ after) < places → Completed (open_one.payload ++ fragment) (Some open_one) offset (record_text Last fragment) after places
read_last zero open_one offset fragment after start le enough = absurd (omega arith)
read_last (suc places) open_one offset fragment after start le enough =
    let whole : room offset ≡ 32768 = omega arith in
    let place = place_here offset (omega arith) in
    let len = length-record_text Last fragment in
    let both = length-append (record_text Last fragment) after in
    let there : header_place offset + 7 + length fragment ≡ offset + length (record_text Last fragment) = omega arith in
    record {
      fewer = places;
      enough = omega arith;
      reads = rw (← there) (read_record places (Some open_one) offset (record_text Last fragment ++ after) Last fragment after (here_again offset (record_text Last fragment ++ after) (omega arith)) (omega arith));
    }

-- a payload with a MIDDLE at its end
abbrev longer : Fragments → List ℕ → Fragments
longer begun fragment = record { start = begun.start; payload = begun.payload ++ fragment; is_empty_first = false }

-- a MIDDLE that fills its block, and what comes after it
read_middle : (places : ℕ) (begun : Fragments) (offset : ℕ) (fragment rest text behind after : List ℕ) → offset % 32768 ≡ 0 → length fragment ≡ 32761 → text ≡ record_text Middle fragment ++ behind
    → Completed ((begun.payload ++ fragment) ++ rest) (Some (longer begun fragment)) (offset + 32768) behind after places → Completed (begun.payload ++ (fragment ++ rest)) (Some begun) offset text after (suc places)
read_middle places begun offset fragment rest text behind after start full e completed =
    let place = place_here offset (omega arith) in
    let regrouped : text ++ after ≡ record_text Middle fragment ++ (behind ++ after) = ap (λ (t : List ℕ). t ++ after) e ∙ append_assoc (record_text Middle fragment) behind after in
    let one = read_record places (Some begun) offset (text ++ after) Middle fragment (behind ++ after) (here_again offset (text ++ after) (omega arith) ∙ regrouped) (omega arith) in
    let there : header_place offset + 7 + length fragment ≡ offset + 32768 = omega arith in
    let len : offset + 32768 + length behind ≡ offset + length text = omega (arith, ap length e, length-append (record_text Middle fragment) behind, length-record_text Middle fragment) in
    record {
      fewer = completed.fewer;
      enough = completed.enough;
      reads = one ∙ rw (there, completed.reads, len, append_assoc begun.payload fragment rest) refl;
    }

fewer_left : (blocks places : ℕ) (payload after : List ℕ) → 32761 < length payload → length (blocks_text (suc blocks) payload ++ after) < suc places → length (blocks_text blocks (drop 32761 payload) ++ after) < places
fewer_left blocks places payload after long enough =
    let len = ap length (blocks_text-middle blocks payload long) in
    omega (arith, len, length-append (blocks_text (suc blocks) payload) after, length-append (record_text Middle (take 32761 payload)) (blocks_text blocks (drop 32761 payload)), length-append (blocks_text blocks (drop 32761 payload)) after, length-record_text Middle (take 32761 payload))

-- MIDDLEs and a LAST, from a block's start on
read_rest : (blocks places : ℕ) (begun : Fragments) (offset : ℕ) (payload after : List ℕ) → offset % 32768 ≡ 0 → length payload < blocks → length (blocks_text blocks payload ++ after) < places → Completed (begun.payload ++ payload) (Some begun) offset (blocks_text blocks payload) after places
read_rest zero places begun offset payload after start lt enough = absurd (omega arith)
read_rest (suc blocks) zero begun offset payload after start lt enough = absurd (omega arith)
read_rest (suc blocks) (suc places) begun offset payload after start lt enough =
    elim (cases_lt 32761 (length payload)) [
      | inl long ↦
          let fragment = take 32761 payload in
          let rest = drop 32761 payload in
          let behind = read_rest blocks places (longer begun fragment) (offset + 32768) rest after (omega arith) (omega (arith, length-drop 32761 payload)) (fewer_left blocks places payload after long enough) in
          let all = read_middle places begun offset fragment rest (blocks_text (suc blocks) payload) (blocks_text blocks rest) after start (omega (arith, length-take 32761 payload)) (blocks_text-middle blocks payload long) behind in
          subst (λ (p : List ℕ). Completed (begun.payload ++ p) (Some begun) offset (blocks_text (suc blocks) payload) after (suc places)) (take-append-drop 32761 payload) all
      | inr short ↦
          let same = blocks_text-last blocks payload short in
          subst (λ (t : List ℕ). Completed (begun.payload ++ payload) (Some begun) offset t after (suc places)) (sym same) (read_last (suc places) begun offset payload after start short (subst (λ (t : List ℕ). length (t ++ after) < suc places) same enough))
    ]

-- ---- a payload

-- a payload that fits its block
read_full : (places offset : ℕ) (payload after : List ℕ) → length payload ≤ room (header_place offset) - 7 → length ((trailer offset ++ record_text Full payload) ++ after) < places
    → Completed payload None offset (trailer offset ++ record_text Full payload) after places
read_full zero offset payload after le enough = absurd (omega arith)
read_full (suc places) offset payload after le enough =
    let fits = header_fits offset in
    let skipped = length-trailer offset in
    let len = length-record_text Full payload in
    let both = length-append (trailer offset) (record_text Full payload) in
    let all = length-append (trailer offset ++ record_text Full payload) after in
    let there : header_place offset + 7 + length payload ≡ offset + length (trailer offset ++ record_text Full payload) = omega arith in
    let left = ap (here offset) (append_assoc (trailer offset) (record_text Full payload) after) ∙ past_trailer offset (record_text Full payload ++ after) in
    record {
      fewer = places;
      enough = omega arith;
      reads = rw (← there) (read_record places None offset ((trailer offset ++ record_text Full payload) ++ after) Full payload after left (omega arith));
    }

-- a FIRST that fills its block, and the rest of the payload
read_pieces : (places offset : ℕ) (fragment rest after : List ℕ) → length fragment ≡ room (header_place offset) - 7 → length ((trailer offset ++ (record_text First fragment ++ rest_text rest)) ++ after) < places
    → Completed (fragment ++ rest) None offset (trailer offset ++ (record_text First fragment ++ rest_text rest)) after places
read_pieces zero offset fragment rest after full enough = absurd (omega arith)
read_pieces (suc places) offset fragment rest after full enough =
    let fits = header_fits offset in
    let skipped = length-trailer offset in
    let len = length-record_text First fragment in
    let pieces = record_text First fragment ++ rest_text rest in
    let a = length-append (record_text First fragment) (rest_text rest) in
    let b = length-append (trailer offset) pieces in
    let d = length-append (trailer offset ++ pieces) after in
    let e = length-append (rest_text rest) after in
    let place = header_place offset in
    let left : here offset ((trailer offset ++ pieces) ++ after) ≡ record_text First fragment ++ (rest_text rest ++ after) = ap (here offset) (append_assoc (trailer offset) pieces after) ∙ (past_trailer offset (pieces ++ after) ∙ append_assoc (record_text First fragment) (rest_text rest) after) in
    let one = read_record places None offset ((trailer offset ++ pieces) ++ after) First fragment (rest_text rest ++ after) left (omega arith) in
    let begun : Fragments = record { start = place; payload = fragment; is_empty_first = eqb (length fragment) 0 } in
    let behind = read_rest (suc (length rest)) places begun (place + 7 + length fragment) rest after (omega arith) (omega arith) (omega arith) in
    let there : place + 7 + length fragment + length (rest_text rest) ≡ offset + length (trailer offset ++ pieces) = omega arith in
    completed_there (fragment ++ rest) None offset (place + 7 + length fragment + length (rest_text rest)) (trailer offset ++ pieces) after (suc places) behind.fewer behind.enough one behind.reads there

pub read_payload : (places offset : ℕ) (payload after : List ℕ) → length (payload_text offset payload ++ after) < places → Completed payload None offset (payload_text offset payload) after places
read_payload places offset payload after enough =
    let place = header_place offset in
    let fits = room place - 7 in
    elim (cases_lt fits (length payload)) [
      | inl long ↦
          let same : payload_text offset payload ≡ trailer offset ++ (record_text First (take fits payload) ++ rest_text (drop fits payload)) = ap (λ (t : List ℕ). trailer offset ++ t) (records_text-pieces place payload long) in
          let pieces = read_pieces places offset (take fits payload) (drop fits payload) after (omega (arith, length-take fits payload)) (subst (λ (t : List ℕ). length (t ++ after) < places) same enough) in
          subst (λ (t : List ℕ). Completed payload None offset t after places) (sym same) (subst (λ (p : List ℕ). Completed p None offset (trailer offset ++ (record_text First (take fits payload) ++ rest_text (drop fits payload))) after places) (take-append-drop fits payload) pieces)
      | inr short ↦
          let same : payload_text offset payload ≡ trailer offset ++ record_text Full payload = ap (λ (t : List ℕ). trailer offset ++ t) (records_text-full place payload short) in
          subst (λ (t : List ℕ). Completed payload None offset t after places) (sym same) (read_full places offset payload after short (subst (λ (t : List ℕ). length (t ++ after) < places) same enough))
    ]

-- ---- a log

clean : List (List ℕ) → Reading
clean payloads = record { payloads = payloads; ending = Clean }

-- nothing is left
pub nothing_left : (places offset : ℕ) → reading_from (suc places) None offset [] ≡ ended Clean
unfolding reading_from record_of
nothing_left places offset = let none : here offset [] ≡ [] = drop-nil (header_place offset - offset) in rw none refl

read_all : (payloads : List (List ℕ)) (places offset : ℕ) → length (text_from offset payloads) < places → reading_from places None offset (text_from offset payloads) ≡ clean payloads
unfolding text_from clean
read_all [] zero offset enough = absurd (omega arith)
read_all [] (suc places) offset enough = nothing_left places offset
read_all (payload ∷ payloads) places offset enough =
    let first = read_payload places offset payload (text_from (offset + length (payload_text offset payload)) payloads) enough in
    first.reads ∙ ap (with_payload payload) (read_all payloads first.fewer (offset + length (payload_text offset payload)) first.enough)

-- the result of reading payloads' bytes from an offset on
pub read_from : (payloads : List (List ℕ)) (offset : ℕ) → ahead_at offset (text_from offset payloads) ≡ record { payloads = payloads; ending = Clean }
unfolding clean
read_from payloads offset = read_all payloads (suc (length (text_from offset payloads))) offset (omega arith)

-- and of the log of payloads
pub read_again : (payloads : List (List ℕ)) → reading_of (log_text payloads) ≡ record { payloads = payloads; ending = Clean }
unfolding reading_of
read_again payloads = read_from payloads 0

pub is_read_again : (payloads : List (List ℕ)) → IsReadAgain payloads
is_read_again payloads = record { same = ap (λ (r : Reading). r.payloads) (read_again payloads); clean = ap (λ (r : Reading). r.ending) (read_again payloads) }

-- a payload more
text_from-push : (payloads : List (List ℕ)) (payload : List ℕ) (offset : ℕ) → text_from offset (payloads ++ payload ∷ []) ≡ text_from offset payloads ++ payload_text (offset + length (text_from offset payloads)) payload
unfolding text_from
text_from-push [] payload offset =
    let same : offset ≡ offset + 0 = omega arith in
    append-nil (payload_text offset payload) ∙ ap (λ (o : ℕ). payload_text o payload) same
text_from-push (first ∷ payloads) payload offset =
    let text = payload_text offset first in
    let rest = text_from (offset + length text) payloads in
    let same : offset + length text + length rest ≡ offset + length (text ++ rest) = omega (arith, length-append text rest) in
    ap (λ (t : List ℕ). text ++ t) (text_from-push payloads payload (offset + length text)) ∙ (sym (append_assoc text rest (payload_text (offset + length text + length rest) payload)) ∙ ap (λ (o : ℕ). (text ++ rest) ++ payload_text o payload) same)

pub log_text-push : (payloads : List (List ℕ)) (payload : List ℕ) → log_text (payloads ++ payload ∷ []) ≡ log_text payloads ++ payload_text (length (log_text payloads)) payload
log_text-push payloads payload = let same : 0 + length (log_text payloads) ≡ length (log_text payloads) = omega arith in text_from-push payloads payload 0 ∙ ap (λ (o : ℕ). log_text payloads ++ payload_text o payload) same

-- ---- bytes that are a log

abbrev pub IsLog : List ℕ → Type 0
IsLog text = text ≡ log_text (payloads_of text)

log_text-nil : log_text [] ≡ []
unfolding text_from
log_text-nil = refl

pub payloads_of-nil : payloads_of [] ≡ []
payloads_of-nil = ap payloads_of (sym log_text-nil) ∙ (is_read_again []).same

pub IsLog-nil : IsLog []
IsLog-nil = sym (ap log_text payloads_of-nil ∙ log_text-nil)

-- with a payload more it is one, and has it at its end
pub added_payload : (old new payload : List ℕ) → IsLog old → new ≡ old ++ payload_text (length old) payload → new ≡ log_text (payloads_of old ++ payload ∷ [])
added_payload old new payload log e =
    let old_text : old ++ payload_text (length old) payload ≡ log_text (payloads_of old) ++ payload_text (length (log_text (payloads_of old))) payload = ap (λ (t : List ℕ). t ++ payload_text (length t) payload) log in
    e ∙ (old_text ∙ sym (log_text-push (payloads_of old) payload))

pub payloads_of-added : (old new payload : List ℕ) → IsLog old → new ≡ old ++ payload_text (length old) payload → payloads_of new ≡ payloads_of old ++ payload ∷ []
payloads_of-added old new payload log e = ap payloads_of (added_payload old new payload log e) ∙ (is_read_again (payloads_of old ++ payload ∷ [])).same

pub IsLog-added : (old new payload : List ℕ) → IsLog old → new ≡ old ++ payload_text (length old) payload → IsLog new
IsLog-added old new payload log e = added_payload old new payload log e ∙ ap log_text (sym (payloads_of-added old new payload log e))
