-- Reading along records that stand in a log.
use Rattle.std.proofs.Common.{◌≡◌, ℕ, ◌+◌, ◌≤◌, List, [], ◌∷◌, ◌++◌, length, take, drop, Some, None, Ok, Err, refl, sym, ap, subst, ◌∙◌, length-append, arith}
use Rattle.uc_logrec.specs.declared.ending.Ending.TheVariants.{Fault}
use Rattle.uc_logrec.specs.declared.log_record.Stop.{Stop}
use Rattle.uc_logrec.specs.Steps.{StepWithData, Complete, Open, Refused}
use Rattle.uc_logrec.specs.Format.{room, header_place, record_text, record_of}
use Rattle.uc_logrec.specs.Log.{step_at, ending_at, reading_of}
use Rattle.uc_logrec.specs.Grammar.{LogRecord, next_place, past_trailer, Stand}
use Rattle.uc_logrec.proofs.Reading.{Completes, Completes-start, Goes, goes, stops, stopped, here, behind}
use Rattle.uc_logrec.proofs.Records.{length-record_text}
use Rattle.uc_logrec.proofs.Standing.{found_there, fragment_there, left_there}
use Rattle.uc_logrec.proofs.Parsing.{State, start, turned, run, run-none}

-- what is read from a place on, where the rest is, is the rest of the reading of the whole log
pub record CompletesAt (bytes : List ℕ) (s : State) (rest : List ℕ) : Type 0 where
  pub offset : ℕ
  pub left : List ℕ
  pub completes : Completes (reading_of bytes) s.front s.fragments offset left
  pub place_is : header_place offset ≡ s.place
  pub rest_is : here offset left ≡ rest

CompletesAt-start : (bytes : List ℕ) → CompletesAt bytes (record { front = []; fragments = None; place = 0 }) bytes
CompletesAt-start bytes = record { offset = 0; left = bytes; completes = Completes-start bytes; place_is = refl; rest_is = refl }

-- after a record that is valid there
abbrev Moved : List ℕ → State → LogRecord → List ℕ → StepWithData → Type 0
Moved bytes s found left (Complete payload) = CompletesAt bytes (record { front = s.front ++ payload ∷ []; fragments = None; place = next_place s.place found }) (past_trailer s.place found left)
Moved bytes s found left (Open fragments) = CompletesAt bytes (record { front = s.front; fragments = Some fragments; place = next_place s.place found }) (past_trailer s.place found left)
Moved bytes s found left (Refused fault) = reading_of bytes ≡ stopped s.front (Fault fault s.place)

-- the next place, by what was read before
next_is : (place offset : ℕ) (found : LogRecord) → header_place offset ≡ place → header_place (header_place offset + 7 + length found.1) ≡ next_place place found
next_is place offset found e = ap (λ (p : ℕ). header_place (p + 7 + length found.1)) e

past_is : (place offset : ℕ) (found : LogRecord) (behind_it left : List ℕ) → header_place offset ≡ place → behind_it ≡ left → here (header_place offset + 7 + length found.1) behind_it ≡ past_trailer place found left
past_is place offset found behind_it left e f = ap (λ (p : ℕ). here (p + 7 + length found.1) behind_it) e ∙ ap (λ (bs : List ℕ). here (place + 7 + length found.1) bs) f

moved : (bytes : List ℕ) (s : State) (found : LogRecord) (left : List ℕ) (offset : ℕ) (before : List ℕ) (turn : StepWithData) → header_place offset ≡ s.place → behind offset before (length found.1) ≡ left
    → Goes (reading_of bytes) s.front offset before (length found.1) turn → Moved bytes s found left turn
moved bytes s found left offset before (Complete payload) e f g = record { offset = header_place offset + 7 + length found.1; left = behind offset before (length found.1); completes = g; place_is = next_is s.place offset found e; rest_is = past_is s.place offset found (behind offset before (length found.1)) left e f }
moved bytes s found left offset before (Open fragments) e f g = record { offset = header_place offset + 7 + length found.1; left = behind offset before (length found.1); completes = g; place_is = next_is s.place offset found e; rest_is = past_is s.place offset found (behind offset before (length found.1)) left e f }
moved bytes s found left offset before (Refused fault) e f g = g ∙ ap (λ (p : ℕ). stopped s.front (Fault fault p)) e

fits_there : (rest : List ℕ) (found : LogRecord) (left : List ℕ) → rest ≡ record_text found.0 found.1 ++ left → 7 + length found.1 ≤ length rest
fits_there rest found left text = omega (arith, ap length text, length-append (record_text found.0 found.1) left, length-record_text found.0 found.1)

-- one record
pub moves : (bytes : List ℕ) (s : State) (rest : List ℕ) (found : LogRecord) (left : List ℕ) (turn : StepWithData) → CompletesAt bytes s rest → 7 + length found.1 ≤ room s.place → rest ≡ record_text found.0 found.1 ++ left
    → turn ≡ step_at s.fragments s.place found.0 found.1 → Moved bytes s found left turn
moves bytes s rest found left turn c fits text turns =
    let len = length found.1 in
    let there : record_of (room (header_place c.offset)) (here c.offset c.left) ≡ Ok (found.0, len) =
    ap (λ (p : ℕ). record_of (room p) (here c.offset c.left)) c.place_is ∙ (ap (record_of (room s.place)) c.rest_is ∙ found_there s.place rest found left fits text) in
    let within : 7 + len ≤ length (here c.offset c.left) = subst (λ (bs : List ℕ). 7 + len ≤ length bs) (sym c.rest_is) (fits_there rest found left text) in
    let fragment : take len (drop 7 (here c.offset c.left)) ≡ found.1 = ap (λ (bs : List ℕ). take len (drop 7 bs)) c.rest_is ∙ fragment_there rest found left text in
    let after : behind c.offset c.left len ≡ left = ap (λ (bs : List ℕ). drop len (drop 7 bs)) c.rest_is ∙ left_there rest found left text in
    let turned_is : turn ≡ step_at s.fragments (header_place c.offset) found.0 (take len (drop 7 (here c.offset c.left))) =
    turns ∙ (ap (λ (p : ℕ). step_at s.fragments p found.0 found.1) (sym c.place_is) ∙ ap (step_at s.fragments (header_place c.offset) found.0) (sym fragment)) in
    moved bytes s found left c.offset c.left turn c.place_is after (goes (reading_of bytes) s.front s.fragments c.offset c.left found.0 len turn c.completes there within turned_is)

-- no record
pub stops_there : (bytes : List ℕ) (s : State) (rest : List ℕ) (stop : Stop) → CompletesAt bytes s rest → record_of (room s.place) rest ≡ Err stop → reading_of bytes ≡ stopped s.front (ending_at stop s.fragments s.place)
stops_there bytes s rest stop c none =
    let there : record_of (room (header_place c.offset)) (here c.offset c.left) ≡ Err stop =
    ap (λ (p : ℕ). record_of (room p) (here c.offset c.left)) c.place_is ∙ (ap (record_of (room s.place)) c.rest_is ∙ none) in
    stops (reading_of bytes) s.front s.fragments c.offset c.left stop c.completes there ∙ ap (λ (p : ℕ). stopped s.front (ending_at stop s.fragments p)) c.place_is

-- a row of records
along_turn : (bytes : List ℕ) (s : State) (found : LogRecord) (records : List LogRecord) (left rest : List ℕ) (end : State) (turn : StepWithData)
    → ((next : State) → CompletesAt bytes next (past_trailer s.place found left) → next.place ≡ next_place s.place found → run (Some next) records ≡ Some end → CompletesAt bytes end rest)
    → Moved bytes s found left turn → run (turned s.front (next_place s.place found) turn) records ≡ Some end → CompletesAt bytes end rest
along_turn bytes s found records left rest end (Complete payload) go m e = go (record { front = s.front ++ payload ∷ []; fragments = None; place = next_place s.place found }) m refl e
along_turn bytes s found records left rest end (Open fragments) go m e = go (record { front = s.front; fragments = Some fragments; place = next_place s.place found }) m refl e
along_turn bytes s found records left rest end (Refused fault) go m e = let none = run-none records in absurd cc

along : (records : List LogRecord) (bytes : List ℕ) (s : State) (from rest : List ℕ) (end : State) → CompletesAt bytes s from → Stand s.place from records rest → run (Some s) records ≡ Some end → CompletesAt bytes end rest
along [] bytes s from rest end c stand e =
    let same : s ≡ end = cc in
    subst (λ (t : State). CompletesAt bytes t rest) same (subst (λ (bs : List ℕ). CompletesAt bytes s bs) stand c)
along (found ∷ records) bytes s from rest end c (left, fits, text, stands) e =
    let turn = step_at s.fragments s.place found.0 found.1 in
    along_turn bytes s found records left rest end turn
    (λ next there place ran. along records bytes next (past_trailer s.place found left) rest end there (subst (λ (p : ℕ). Stand p (past_trailer s.place found left) records rest) (sym place) stands) ran)
    (moves bytes s from found left turn c fits text refl)
    e

-- the records from the start on
pub along_all : (records : List LogRecord) (bytes rest : List ℕ) (end : State) → Stand 0 bytes records rest → run start records ≡ Some end → CompletesAt bytes end rest
along_all records bytes rest end stand e = along records bytes (record { front = []; fragments = None; place = 0 }) bytes rest end (CompletesAt-start bytes) stand e
