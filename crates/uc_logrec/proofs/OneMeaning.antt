-- Reading a log returns its contents.
use Rattle.std.proofs.Common.{◌≡◌, ℕ, zero, suc, ◌+◌, ◌-◌, ◌≤◌, ◌<◌, List, [], ◌∷◌, ◌++◌, length, map, take, drop, Option, Some, None, Result, Ok, Err, ◌⊎◌, inl, inr, refl, sym, ap, subst, ◌∙◌, length-append, length-drop, get_or-drop, slice_index, arith}
use Rattle.std.proofs.lemmas.List.{get_or-append-add}
use Rattle.uc_logrec.specs.declared.ending.Ending.{Ending}
use Rattle.uc_logrec.specs.declared.ending.Ending.TheVariants.{Fault}
use Rattle.uc_logrec.specs.declared.kind.Kind.{Kind}
use Rattle.uc_logrec.specs.declared.log_record.Stop.{Stop}
use Rattle.uc_logrec.specs.Format.{room, record_text, record_of}
use Rattle.uc_logrec.specs.Log.{ending_at, Reading, reading_of, payloads_of, ending_of}
use Rattle.uc_logrec.specs.Grammar.{LogRecord, next_place, past_trailer, Stand, place_behind, Group, payload_of, sentence, empty_firsts, BeginSentence, Unfinished, records_of, open_place, endings, first_row, Reads, AreBytes, IsMeaning}
use Rattle.uc_logrec.proofs.Reading.{stopped}
use Rattle.uc_logrec.proofs.RoundTrip.{header_fits}
use Rattle.uc_logrec.proofs.Parsing.{State, fragments_of, place_of, with_middles-start, begun, run_records, begin_sentence, Longer, IsRefused, judged, refused_longer}
use Rattle.uc_logrec.proofs.Standing.{record_found, stands_there, found_there, fragment_there, none_longer, Stand-append}
use Rattle.uc_logrec.proofs.Along.{CompletesAt, moves, stops_there, along_all}
use Rattle.uc_logrec.proofs.Endings.{first_place, row_of, row_is, refused_row}

-- ---- places

-- a header fits at each of them
behind_fits : (records : List LogRecord) (place : ℕ) → 7 ≤ room place → 7 ≤ room (place_behind place records)
behind_fits [] place fits = fits
behind_fits (found ∷ records) place fits = behind_fits records (next_place place found) (header_fits (place + 7 + length found.1))

fits_behind : (groups : List Group) (unfinished : Option Unfinished) → 7 ≤ room (place_of groups unfinished)
fits_behind groups unfinished = behind_fits (records_of groups unfinished) 0 (omega arith)

first_is : (groups : List Group) (unfinished : Option Unfinished) → open_place groups unfinished ≡ first_place (fragments_of groups unfinished)
first_is groups None = refl
first_is groups (Some u) = ap Some (sym (with_middles-start (begun (place_behind 0 (sentence groups ++ empty_firsts u.dropped)) u.first) u.middles))

-- ---- the end of a row of records

-- No longer row stands there, and this is what is read.
record Ends (bytes : List ℕ) (groups : List Group) (unfinished : Option Unfinished) (rest : List ℕ) : Type 0 where
  ending : Ending
  read : reading_of bytes ≡ stopped (map payload_of groups) ending
  row : first_row (endings (open_place groups unfinished) (place_of groups unfinished) rest) ≡ Some ending
  none : (found : LogRecord) (left : List ℕ) → Stand (place_of groups unfinished) rest (found ∷ []) left → BeginSentence (records_of groups unfinished ++ found ∷ []) → ⊥

-- A record more stands there.
record Goes (groups : List Group) (unfinished : Option Unfinished) (rest : List ℕ) : Type 0 where
  groups_then : List Group
  unfinished_then : Option Unfinished
  found : LogRecord
  left : List ℕ
  records_then : records_of groups unfinished ++ found ∷ [] ≡ records_of groups_then unfinished_then
  stand : Stand (place_of groups unfinished) rest (found ∷ []) left
  bytes_left : AreBytes left
  shorter : length left < length rest

module _ (bytes : List ℕ) (groups : List Group) (unfinished : Option Unfinished) (rest : List ℕ) (stand : Stand 0 bytes (records_of groups unfinished) rest) where
  state : State
  state = record { front = map payload_of groups; fragments = fragments_of groups unfinished; place = place_of groups unfinished }

  completes : CompletesAt bytes (record { front = map payload_of groups; fragments = fragments_of groups unfinished; place = place_of groups unfinished }) rest
  completes = along_all (records_of groups unfinished) bytes rest _ stand (run_records groups unfinished)

  row_there : (found : Result (Kind × ℕ) Stop) (ending : Ending) → record_of (room (place_of groups unfinished)) rest ≡ found → row_of (fragments_of groups unfinished) (place_of groups unfinished) found ≡ Some ending
      → first_row (endings (open_place groups unfinished) (place_of groups unfinished) rest) ≡ Some ending
  row_there found ending e row =
      ap (λ (o : Option ℕ). first_row (endings o (place_of groups unfinished) rest)) (first_is groups unfinished)
      ∙ (row_is (fragments_of groups unfinished) (place_of groups unfinished) rest
      ∙ (ap (row_of (fragments_of groups unfinished) (place_of groups unfinished)) e ∙ row))

  none_found : (stop : Stop) → record_of (room (place_of groups unfinished)) rest ≡ Err stop → (found : LogRecord) (left : List ℕ) → Stand (place_of groups unfinished) rest (found ∷ []) left → ⊥
  none_found stop e found left (behind, fits, text, same) = let one = found_there (place_of groups unfinished) rest found behind fits text in cc

  stopped_there : (stop : Stop) → record_of (room (place_of groups unfinished)) rest ≡ Err stop → Ends bytes groups unfinished rest
  stopped_there stop e = record {
    ending = ending_at stop (fragments_of groups unfinished) (place_of groups unfinished);
    read = stops_there bytes _ rest stop completes e;
    row = row_there (Err stop) _ e refl;
    none = λ found left there begins. none_found stop e found left there;
  }

  -- the record that stands there is the one that is found
  one_there : (kind : Kind) (len : ℕ) → record_of (room (place_of groups unfinished)) rest ≡ Ok (kind, len) → (found : LogRecord) (left : List ℕ) → Stand (place_of groups unfinished) rest (found ∷ []) left
      → ◌≡◌ {A = LogRecord} (kind, take len (drop 7 rest)) found
  one_there kind len e found left (behind, fits, text, same) =
      let one = found_there (place_of groups unfinished) rest found behind fits text in
      let both : ◌≡◌ {A = Kind × ℕ} (kind, len) (found.0, length found.1) = cc in
      ap (λ (p : Kind × ℕ). let r : LogRecord = (p.0, take p.1 (drop 7 rest)) in r) both ∙ ap (λ (fragment : List ℕ). let r : LogRecord = (found.0, fragment) in r) (fragment_there rest found behind text)

  refused_there : (kind : Kind) (len : ℕ) → AreBytes rest → record_of (room (place_of groups unfinished)) rest ≡ Ok (kind, len) → IsRefused (fragments_of groups unfinished) (kind, take len (drop 7 rest)) → Ends bytes groups unfinished rest
  refused_there kind len are_bytes e r =
      let place = place_of groups unfinished in
      let fragment = take len (drop 7 rest) in
      let there = stands_there place rest kind len are_bytes (fits_behind groups unfinished) e in
      record {
        ending = Fault r.fault place;
        read = moves bytes _ rest (kind, fragment) there.0 _ completes there.1 there.2 (sym (r.refused place));
        row = row_there (Ok (kind, len)) _ e (refused_row (fragments_of groups unfinished) place kind fragment len r.fault (r.refused place));
        none = λ found left stands begins. refused_longer groups unfinished (kind, fragment) r (subst (λ (f : LogRecord). BeginSentence (records_of groups unfinished ++ f ∷ [])) (sym (one_there kind len e found left stands)) begins);
      }

  left_bytes : (count more : ℕ) → AreBytes rest → AreBytes (drop more (drop count (drop 7 rest)))
  left_bytes count more are_bytes i = rw (get_or-drop more (drop count (drop 7 rest)) i 0, get_or-drop count (drop 7 rest) (more + i) 0, get_or-drop 7 rest (count + (more + i)) 0) (are_bytes (7 + (count + (more + i))))

  goes_there : (kind : Kind) (len : ℕ) → AreBytes rest → record_of (room (place_of groups unfinished)) rest ≡ Ok (kind, len) → Longer groups unfinished (kind, take len (drop 7 rest)) → Goes groups unfinished rest
  goes_there kind len are_bytes e more =
      let place = place_of groups unfinished in
      let found : LogRecord = (kind, take len (drop 7 rest)) in
      let r = record_found (room place) rest kind len e in
      let skipped = next_place place found - (place + 7 + length found.1) in
      record {
        groups_then = more.groups_then;
        unfinished_then = more.unfinished_then;
        found = found;
        left = past_trailer place found (drop len (drop 7 rest));
        records_then = more.records_then;
        stand = stands_there place rest kind len are_bytes (fits_behind groups unfinished) e;
        bytes_left = left_bytes len skipped are_bytes;
        shorter = omega (arith, r.header, length-drop skipped (drop len (drop 7 rest)), length-drop len (drop 7 rest), length-drop 7 rest);
      }

  judged_there : (found : Result (Kind × ℕ) Stop) → AreBytes rest → record_of (room (place_of groups unfinished)) rest ≡ found → Goes groups unfinished rest ⊎ Ends bytes groups unfinished rest
  judged_there (Err stop) are_bytes e = inr (stopped_there stop e)
  judged_there (Ok found) are_bytes e =
      elim (judged groups unfinished (found.0, take found.1 (drop 7 rest))) [
        | inl more ↦ inl (goes_there found.0 found.1 are_bytes e more)
        | inr refused ↦ inr (refused_there found.0 found.1 are_bytes e refused)
      ]

  ends_or_goes : AreBytes rest → Goes groups unfinished rest ⊎ Ends bytes groups unfinished rest
  ends_or_goes are_bytes = judged_there (record_of (room (place_of groups unfinished)) rest) are_bytes refl

-- ---- the whole

reads_ended : (bytes : List ℕ) (groups : List Group) (unfinished : Option Unfinished) (rest : List ℕ) → Stand 0 bytes (records_of groups unfinished) rest → Ends bytes groups unfinished rest → Reads bytes (payloads_of bytes) (ending_of bytes)
reads_ended bytes groups unfinished rest stand ends = record {
  groups = groups;
  unfinished = unfinished;
  rest = rest;
  stand = stand;
  begin = begin_sentence groups unfinished;
  longest = none_longer bytes (records_of groups unfinished) rest stand ends.none;
  complete = ap (λ (r : Reading). r.payloads) ends.read;
  ends = ends.row ∙ ap (λ (r : Reading). Some r.ending) (sym ends.read);
}

reads_on : (fuel : ℕ) (bytes : List ℕ) (groups : List Group) (unfinished : Option Unfinished) (rest : List ℕ) → length rest < fuel → AreBytes rest → Stand 0 bytes (records_of groups unfinished) rest → Reads bytes (payloads_of bytes) (ending_of bytes)
reads_on zero bytes groups unfinished rest lt are_bytes stand = absurd (omega arith)
reads_on (suc fuel) bytes groups unfinished rest lt are_bytes stand =
    elim (ends_or_goes bytes groups unfinished rest stand are_bytes) [
      | inr ends ↦ reads_ended bytes groups unfinished rest stand ends
      | inl goes ↦
          let more = Stand-append (records_of groups unfinished) (goes.found ∷ []) 0 bytes rest goes.left stand goes.stand in
          reads_on fuel bytes goes.groups_then goes.unfinished_then goes.left (omega (arith, goes.shorter)) goes.bytes_left (subst (λ (rs : List LogRecord). Stand 0 bytes rs goes.left) goes.records_then more)
    ]

pub reads : (bytes : List ℕ) → AreBytes bytes → Reads bytes (payloads_of bytes) (ending_of bytes)
reads bytes are_bytes = reads_on (suc (length bytes)) bytes [] None bytes (omega arith) are_bytes refl

-- what is left of bytes are bytes
bytes_after : (bytes front left : List ℕ) (skipped : ℕ) → AreBytes bytes → bytes ≡ front ++ left → AreBytes (drop skipped left)
bytes_after bytes front left skipped are_bytes text i =
    let there : slice_index bytes (length front + (skipped + i)) ≡ slice_index (drop skipped left) i = ap (λ (bs : List ℕ). slice_index bs (length front + (skipped + i))) text ∙ (get_or-append-add front left (skipped + i) 0 ∙ sym (get_or-drop skipped left i 0)) in
    subst (λ (n : ℕ). n < 256) there (are_bytes (length front + (skipped + i)))

bytes_behind : (records : List LogRecord) (place : ℕ) (bytes rest : List ℕ) → AreBytes bytes → Stand place bytes records rest → AreBytes rest
bytes_behind [] place bytes rest are_bytes stand = subst AreBytes stand are_bytes
bytes_behind (found ∷ records) place bytes rest are_bytes (left, fits, text, stands) =
    bytes_behind records (next_place place found) (past_trailer place found left) rest (bytes_after bytes (record_text found.0 found.1) left (next_place place found - (place + 7 + length found.1)) are_bytes text) stands

only_these : (bytes : List ℕ) (others : List (List ℕ)) (other : Ending) → AreBytes bytes → Reads bytes others other → (others ≡ payloads_of bytes) × (other ≡ ending_of bytes)
only_these bytes others other are_bytes r =
    elim (ends_or_goes bytes r.groups r.unfinished r.rest r.stand (bytes_behind (records_of r.groups r.unfinished) 0 bytes r.rest are_bytes r.stand)) [
      | inr ends ↦
          let same : ends.ending ≡ other = cc (ends.row, r.ends) in
          (r.complete ∙ ap (λ (x : Reading). x.payloads) (sym ends.read), sym (ap (λ (x : Reading). x.ending) ends.read ∙ same))
      | inl goes ↦
          let more = Stand-append (records_of r.groups r.unfinished) (goes.found ∷ []) 0 bytes r.rest goes.left r.stand goes.stand in
          let begins = subst BeginSentence (sym goes.records_then) (begin_sentence goes.groups_then goes.unfinished_then) in
          let longer = r.longest (records_of r.groups r.unfinished ++ goes.found ∷ []) goes.left more begins in
          absurd (omega (arith, longer, length-append (records_of r.groups r.unfinished) (goes.found ∷ [])))
    ]

pub is_meaning : (bytes : List ℕ) → AreBytes bytes → IsMeaning bytes (payloads_of bytes) (ending_of bytes)
is_meaning bytes are_bytes = record { reads = reads bytes are_bytes; only = λ others other r. only_these bytes others other are_bytes r }

-- and so is what equals it
pub reads_as : (bytes : List ℕ) (payloads : List (List ℕ)) (ending : Ending) → AreBytes bytes → payloads ≡ payloads_of bytes → ending ≡ ending_of bytes → Reads bytes payloads ending
reads_as bytes payloads ending are_bytes p e = subst (λ (ps : List (List ℕ)). Reads bytes ps ending) (sym p) (subst (λ (x : Ending). Reads bytes (payloads_of bytes) x) (sym e) (reads bytes are_bytes))
