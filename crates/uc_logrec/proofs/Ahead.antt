-- The payloads ahead of a reader, however many places are left to it.
use Rattle.std.proofs.Common.{◌≡◌, ℕ, zero, suc, ◌+◌, ◌≤◌, ◌<◌, List, [], ◌∷◌, length, take, drop, Option, Some, None, Result, Ok, Err, refl, ap, ◌∙◌, arith}
use Rattle.uc_logrec.specs.declared.kind.Kind.{Kind}
use Rattle.uc_logrec.specs.declared.log_record.Stop.{Stop}
use Rattle.uc_logrec.specs.Steps.{Fragments, StepWithData, Complete, Open, Refused}
use Rattle.uc_logrec.specs.Format.{room, header_place, record_of}
use Rattle.uc_logrec.specs.Log.{step_at, Reading, with_payload, after_step, after_record, reading_from}
use Rattle.uc_logrec.specs.Position.{ahead_at}
use Rattle.uc_logrec.proofs.Reading.{Completes, here, behind, behind_shorter}
use Rattle.uc_logrec.proofs.Standing.{record_found}

same_turns : (f g : Option Fragments → Reading) → ((unfinished : Option Fragments) → f unfinished ≡ g unfinished) → (place : ℕ) (turn : StepWithData) → after_step f place turn ≡ after_step g place turn
same_turns f g same place (Complete payload) = ap (with_payload payload) (same None)
same_turns f g same place (Open fragments) = same (Some fragments)
same_turns f g same place (Refused fault) = refl

same_records : (f g : Option Fragments → ℕ → List ℕ → Reading) (unfinished : Option Fragments) (place : ℕ) (rest : List ℕ) (found : Result (Kind × ℕ) Stop)
    → ((kind : Kind) (len : ℕ) → found ≡ Ok (kind, len) → (still : Option Fragments) → f still (place + 7 + len) (drop len (drop 7 rest)) ≡ g still (place + 7 + len) (drop len (drop 7 rest)))
    → after_record f unfinished place rest found ≡ after_record g unfinished place rest found
same_records f g unfinished place rest (Ok found) same =
    same_turns (λ still. f still (place + 7 + found.1) (drop found.1 (drop 7 rest))) (λ still. g still (place + 7 + found.1) (drop found.1 (drop 7 rest))) (same found.0 found.1 refl) place (step_at unfinished place found.0 (take found.1 (drop 7 rest)))
same_records f g unfinished place rest (Err stop) same = refl

-- a record that was found there fits the bytes there
found_fits : (space : ℕ) (rest : List ℕ) (kind : Kind) (len : ℕ) → record_of space rest ≡ Ok (kind, len) → 7 + len ≤ length rest
found_fits space rest kind len found =
    let r = record_found space rest kind len found in
    omega (arith, r.header, r.fits_log)

-- enough places are as good as more of them
pub places_enough : (p q : ℕ) (unfinished : Option Fragments) (offset : ℕ) (left : List ℕ) → length left < p → length left < q → reading_from p unfinished offset left ≡ reading_from q unfinished offset left
unfolding reading_from
places_enough zero q unfinished offset left lp lq = absurd (omega arith)
places_enough (suc p) zero unfinished offset left lp lq = absurd (omega arith)
places_enough (suc p) (suc q) unfinished offset left lp lq =
    same_records (reading_from p) (reading_from q) unfinished (header_place offset) (here offset left) (record_of (room (header_place offset)) (here offset left)) (λ kind len found still.
    let shorter = behind_shorter offset left len (found_fits (room (header_place offset)) (here offset left) kind len found) in
    places_enough p q still (header_place offset + 7 + len) (behind offset left len) (omega (arith, shorter)) (omega (arith, shorter)))

-- after the first payload
pub payload_comes : (all : Reading) (payload : List ℕ) (offset : ℕ) (left : List ℕ) → Completes all (payload ∷ []) None offset left → all ≡ with_payload payload (ahead_at offset left)
payload_comes all payload offset left c = c.whole ∙ ap (with_payload payload) (places_enough c.places (suc (length left)) None offset left c.enough (omega arith))
