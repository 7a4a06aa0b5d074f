-- The bytes that a payload takes at an offset depend only on the offset's place in its block.
use Rattle.std.proofs.Common.{◌≡◌, ℕ, ◌+◌, ◌-◌, ◌%◌, List, [], ◌++◌, length, replicate, inl, inr, refl, ap, ap₂, ◌∙◌, arith}
use Rattle.std.proofs.lemmas.Bool.{cases_lt}
use Rattle.uc_logrec.specs.Format.{room, header_place}
use Rattle.uc_logrec.specs.Log.{records_text, payload_text}
use Rattle.uc_logrec.proofs.RoundTrip.{place_here, place_behind, place_later}

skipped_alike : (a b : ℕ) → a % 32768 ≡ b % 32768 → header_place a - a ≡ header_place b - b
skipped_alike a b e =
    elim (cases_lt (room a) 7) [
      | inl lt ↦ rw (place_behind a lt, place_behind b (omega (arith, e, lt))) (omega (arith, e))
      | inr le ↦ rw (place_here a le, place_here b (omega (arith, e, le))) (omega arith)
    ]

room_alike : (a b : ℕ) → a % 32768 ≡ b % 32768 → room (header_place a) ≡ room (header_place b)
room_alike a b e = omega (arith, e, skipped_alike a b e, place_later a, place_later b)

records_alike : (a b : ℕ) (payload : List ℕ) → room a ≡ room b → records_text a payload ≡ records_text b payload
unfolding records_text
records_alike a b payload e = rw e refl

pub payload_alike : (a b : ℕ) (payload : List ℕ) → a % 32768 ≡ b % 32768 → payload_text a payload ≡ payload_text b payload
payload_alike a b payload e =
    ap₂ (λ (n : ℕ) (text : List ℕ). replicate n 0 ++ text) (skipped_alike a b e) (records_alike (header_place a) (header_place b) payload (room_alike a b e))

-- appended to nothing, at that place
pub payload_alone : (length_before : ℕ) (old new payload : List ℕ) → old ≡ [] → new ≡ old ++ payload_text (length_before % 32768 + length old) payload → new ≡ payload_text length_before payload
payload_alone length_before old new payload none e =
    let place : (length_before % 32768 + length old) % 32768 ≡ length_before % 32768 = omega (arith, ap length none) in
    e ∙ (ap (λ (front : List ℕ). front ++ payload_text (length_before % 32768 + length old) payload) none ∙ payload_alike (length_before % 32768 + length old) length_before payload place)
