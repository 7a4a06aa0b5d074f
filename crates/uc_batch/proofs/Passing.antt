-- Payloads in a piece, and what follows them.
use Rattle.std.proofs.Common.{◌≡◌, ℕ, ◌+◌, ◌-◌, ◌≤◌, List, ◌++◌, length, take, drop, ap, sym, ◌∙◌, append_assoc, length-append, length-take, length-drop, arith}
use Rattle.std.proofs.lemmas.List.{take-append-drop, drop-drop, drop-take, drop-append-le}
use Rattle.uc_logrec.specs.Log.{with_payload}
use Rattle.uc_logrec.specs.Position.{ahead_at, StandsBetween}
use Rattle.uc_batch.specs.declared.payload.Payload.{Payload}
use Rattle.uc_batch.specs.declared.payload.Payload.TheVariants as payloads
use Rattle.uc_batch.specs.PiecePosition.{payload_in, Passes, PassesOver}

-- the payload, and what is left after it
text_there : (piece more : List ℕ) (at size : ℕ) → drop at piece ++ more ≡ take size (drop at piece) ++ (drop (at + size) piece ++ more)
text_there piece more at size =
    ap (λ (l : List ℕ). l ++ more) (sym (take-append-drop size (drop at piece)))
    ∙ append_assoc (take size (drop at piece)) (drop size (drop at piece)) more
    ∙ ap (λ (l : List ℕ). take size (drop at piece) ++ (l ++ more)) (drop-drop size at piece)

-- a payload that stands there is read whatever follows
pub passes_by : (payload piece behind : List ℕ) (at place after : ℕ) → StandsBetween payload place (drop at piece) after behind
    → (more : List ℕ) → ahead_at place (drop at piece ++ more) ≡ with_payload payload (ahead_at (place + (after - place)) (drop (at + (after - place)) piece ++ more))
passes_by payload piece behind at place after stands more =
    let size = after - place in
    let there : after ≡ place + size = omega (arith, stands.1) in
    ap (ahead_at place) (text_there piece more at size)
    ∙ stands.3 (drop (at + size) piece ++ more)
    ∙ ap (λ (n : ℕ). with_payload payload (ahead_at n (drop (at + size) piece ++ more))) there

-- its bytes are in the piece
pub text_within : (payload piece behind : List ℕ) (at place after : ℕ) → at ≤ length piece → StandsBetween payload place (drop at piece) after behind → at + (after - place) ≤ length piece
text_within payload piece behind at place after le stands = omega (arith, stands.1, stands.2, length-drop at piece)

-- the last bytes of a payload, in the piece
pub last_lies : (payload piece : List ℕ) (at size : ℕ) → at + size ≤ length piece → payload ≡ drop (length (take size (drop at piece)) - length payload) (take size (drop at piece))
    → take ((at + size) - ((at + size) - length payload)) (drop ((at + size) - length payload) piece) ≡ payload
last_lies payload piece at size le last =
    let text = take size (drop at piece) in
    let long : length text ≡ size = omega (arith, length-take size (drop at piece), length-drop at piece) in
    let fits : length payload ≤ size = omega (arith, long, ap length last, length-drop (length text - length payload) text) in
    let from = size - length payload in
    let begins : (at + size) - length payload ≡ at + from = omega (arith, fits) in
    let many : (at + size) - ((at + size) - length payload) ≡ length payload = omega (arith, fits) in
    let whole : from + length payload ≡ size = omega (arith, fits) in
    ap (λ (n : ℕ). take n (drop ((at + size) - length payload) piece)) many
    ∙ ap (λ (n : ℕ). take (length payload) (drop n piece)) begins
    ∙ ap (λ (l : List ℕ). take (length payload) l) (sym (drop-drop from at piece))
    ∙ sym (drop-take from (length payload) (drop at piece))
    ∙ ap (λ (n : ℕ). drop from (take n (drop at piece))) whole
    ∙ ap (λ (n : ℕ). drop (n - length payload) text) (sym long)
    ∙ sym last

-- a payload in one piece of the log
pub passes_whole : (payload joined piece behind : List ℕ) (at place after : ℕ) → at ≤ length piece → StandsBetween payload place (drop at piece) after behind
    → payload ≡ drop (length (take (after - place) (drop at piece)) - length payload) (take (after - place) (drop at piece))
    → Passes (payloads.Within (at + (after - place) - length payload) (at + (after - place))) (after - place) joined piece at place
passes_whole payload joined piece behind at place after le stands last =
    let within = text_within payload piece behind at place after le stands in
    let is = last_lies payload piece at (after - place) within last in
    record {
      some = omega (arith, stands.1);
      within = within;
      lies = (omega arith, within);
      comes = λ more. passes_by payload piece behind at place after stands more
          ∙ ap (λ (bytes : List ℕ). with_payload bytes (ahead_at (place + (after - place)) (drop (at + (after - place)) piece ++ more))) (sym is);
    }

-- one that was joined
pub passes_joined : (joined piece behind : List ℕ) (at place after : ℕ) → at ≤ length piece → StandsBetween joined place (drop at piece) after behind → Passes payloads.Joined (after - place) joined piece at place
passes_joined joined piece behind at place after le stands = record {
  some = omega (arith, stands.1);
  within = text_within joined piece behind at place after le stands;
  lies = tt;
  comes = passes_by joined piece behind at place after stands;
}

-- ---- in the first bytes of all

pub passes_over : (payload : Payload) (size : ℕ) (joined kept border all : List ℕ) (place : ℕ) → border ≡ take (length border) all → kept ≡ payload_in payload border joined → Passes payload size joined border 0 place → PassesOver size kept place all
passes_over payload size joined kept border all place first is passes =
    let more = drop (length border) all in
    let whole : all ≡ border ++ more = sym (take-append-drop (length border) all) ∙ ap (λ (l : List ℕ). l ++ more) (sym first) in
    let within : size ≤ length border = omega (arith, passes.within) in
    let at_start : 0 + size ≡ size = omega arith in
    let left : drop size border ++ more ≡ drop size all = sym (drop-append-le size border more within) ∙ ap (drop size) (sym whole) in
    record {
      some = passes.some;
      within = omega (arith, within, ap length whole, length-append border more);
      comes = ap (ahead_at place) whole
          ∙ passes.comes more
          ∙ ap (λ (bytes : List ℕ). with_payload bytes (ahead_at (place + size) (drop (0 + size) border ++ more))) (sym is)
          ∙ ap (λ (n : ℕ). with_payload kept (ahead_at (place + size) (drop n border ++ more))) at_start
          ∙ ap (λ (bytes : List ℕ). with_payload kept (ahead_at (place + size) bytes)) left;
    }
