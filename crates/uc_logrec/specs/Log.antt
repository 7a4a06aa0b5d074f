-- The meaning of a log, and the log of payloads.
use Rattle.std.specs.Prelude.{ℕ, zero, suc, ◌+◌, ◌-◌, false, List, [], ◌∷◌, ◌++◌, length, take, drop, Option, Some, None, Result, Ok, Err, replicate, nat_le, ◌≡◌, ◌==◌, if◌then◌else◌}
use Rattle.uc_logrec.specs.declared.fault.LogFault.TheVariants.{MiddleAlone, LastAlone, FullInside, FirstInside}
use Rattle.uc_logrec.specs.declared.ending.Ending.{Ending}
use Rattle.uc_logrec.specs.declared.ending.Ending.TheVariants.{Clean, Torn, Fault}
use Rattle.uc_logrec.specs.declared.kind.Kind.{Kind}
use Rattle.uc_logrec.specs.declared.kind.Kind.TheVariants.{Full, First, Middle, Last}
use Rattle.uc_logrec.specs.declared.log_record.Stop.{Stop}
use Rattle.uc_logrec.specs.declared.log_record.Stop.TheVariants.{End, Cut, Bad}
use Rattle.uc_logrec.specs.Steps.{Fragments, StepWithData, Complete, Open, Refused}
use Rattle.uc_logrec.specs.Format.{room, header_place, record_text, record_of}

-- if no payload is open, a FULL is one and a FIRST begins one
abbrev pub step_outside : ℕ → Kind → List ℕ → StepWithData
step_outside offset Full fragment = Complete fragment
step_outside offset First fragment = Open (record { start = offset; payload = fragment; is_empty_first = length fragment == 0 })
step_outside offset Middle fragment = Refused MiddleAlone
step_outside offset Last fragment = Refused LastAlone

-- if a payload is open, a MIDDLE continues it and a LAST completes it. Another may begin only if the open one is
-- nothing but a FIRST without data, which is dropped
abbrev pub step_inside : Fragments → ℕ → Kind → List ℕ → StepWithData
step_inside unfinished offset Full fragment = if unfinished.is_empty_first then step_outside offset Full fragment else Refused FullInside
step_inside unfinished offset First fragment = if unfinished.is_empty_first then step_outside offset First fragment else Refused FirstInside
step_inside unfinished offset Middle fragment = Open (record { start = unfinished.start; payload = unfinished.payload ++ fragment; is_empty_first = false })
step_inside unfinished offset Last fragment = Complete (unfinished.payload ++ fragment)

abbrev pub step_at : Option Fragments → ℕ → Kind → List ℕ → StepWithData
step_at None offset kind fragment = step_outside offset kind fragment
step_at (Some unfinished) offset kind fragment = step_inside unfinished offset kind fragment

-- how a log ends if no record is there: an open payload is torn at its first fragment
abbrev pub ending_at : Stop → Option Fragments → ℕ → Ending
ending_at End None offset = Clean
ending_at End (Some unfinished) offset = Torn unfinished.start
ending_at Cut None offset = Torn offset
ending_at Cut (Some unfinished) offset = Torn unfinished.start
ending_at (Bad fault) unfinished offset = Fault fault offset

-- what a log holds
pub record Reading : Type 0 where
  pub payloads : List (List ℕ)
  pub ending : Ending

abbrev pub ended : Ending → Reading
ended ending = record { payloads = []; ending = ending }

abbrev pub with_payload : List ℕ → Reading → Reading
with_payload payload reading = record { payloads = payload ∷ reading.payloads; ending = reading.ending }

-- what is read from a record on; go reads what follows it
abbrev pub after_step : (Option Fragments → Reading) → ℕ → StepWithData → Reading
after_step go offset (Complete payload) = with_payload payload (go None)
after_step go offset (Open fragments) = go (Some fragments)
after_step go offset (Refused fault) = ended (Fault fault offset)

abbrev pub after_record : (Option Fragments → ℕ → List ℕ → Reading) → Option Fragments → ℕ → List ℕ → Result (Kind × ℕ) Stop → Reading
after_record go unfinished offset rest (Ok found) =
    after_step (λ still_open. go still_open (offset + 7 + found.1) (drop found.1 (drop 7 rest))) offset (step_at unfinished offset found.0 (take found.1 (drop 7 rest)))
after_record go unfinished offset rest (Err stop) = ended (ending_at stop unfinished offset)

-- what is read from an offset on, in at most this number of places
unfoldable pub reading_from : ℕ → Option Fragments → ℕ → List ℕ → Reading
reading_from zero unfinished offset rest = ended Clean
reading_from (suc places) unfinished offset rest =
    let place = header_place offset in
    let here = drop (place - offset) rest in
    after_record (reading_from places) unfinished place here (record_of (room place) here)

-- a record takes seven bytes or more, so there are enough places
unfoldable pub reading_of : List ℕ → Reading
reading_of bytes = reading_from (suc (length bytes)) None 0 bytes

-- the payloads of a log
abbrev pub payloads_of : List ℕ → List (List ℕ)
payloads_of bytes = (reading_of bytes).payloads

-- how a log ends
abbrev pub ending_of : List ℕ → Ending
ending_of bytes = (reading_of bytes).ending

-- ---- writing

-- the zero bytes from an offset to the next header place
abbrev pub trailer : ℕ → List ℕ
trailer offset = replicate (header_place offset - offset) 0

-- what follows a FIRST, in at most `blocks` blocks: MIDDLEs that fill theirs, and a LAST
unfoldable pub blocks_text : ℕ → List ℕ → List ℕ
blocks_text zero payload = []
blocks_text (suc blocks) payload =
    if nat_le (length payload) 32761 then record_text Last payload
    else record_text Middle (take 32761 payload) ++ blocks_text blocks (drop 32761 payload)

-- a block takes a byte or more, so there are enough blocks
abbrev pub rest_text : List ℕ → List ℕ
rest_text payload = blocks_text (suc (length payload)) payload

-- the records of a payload at a header place: each has as much data as fits its block
unfoldable pub records_text : ℕ → List ℕ → List ℕ
records_text place payload =
    let fits = room place - 7 in
    if nat_le (length payload) fits then record_text Full payload
    else record_text First (take fits payload) ++ rest_text (drop fits payload)

-- what the writer adds to a log at an offset
abbrev pub payload_text : ℕ → List ℕ → List ℕ
payload_text offset payload = trailer offset ++ records_text (header_place offset) payload

-- the log of payloads, from an offset on
unfoldable pub text_from : ℕ → List (List ℕ) → List ℕ
text_from offset [] = []
text_from offset (payload ∷ payloads) =
    let text = payload_text offset payload in
    text ++ text_from (offset + length text) payloads

-- the log of payloads
abbrev pub log_text : List (List ℕ) → List ℕ
log_text payloads = text_from 0 payloads

-- what was added follows what was there
abbrev pub Extends : List ℕ → List ℕ → Type 0
Extends old new = (more : List ℕ) × (new ≡ old ++ more)

-- reading a written log returns what was written, and it ends clean
pub record IsReadAgain (payloads : List (List ℕ)) : Type 0 where
  pub same : payloads_of (log_text payloads) ≡ payloads
  pub clean : ending_of (log_text payloads) ≡ Clean
