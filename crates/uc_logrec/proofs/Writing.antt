-- Writing a payload record by record.
use Rattle.std.proofs.Common.{◌≡◌, ℕ, zero, suc, ◌-◌, ◌≤◌, ◌<◌, List, ◌++◌, length, take, drop, refl, sym, ap, ◌∙◌, append_assoc, length-drop, arith}
use Rattle.std.proofs.lemmas.Bool.{le-leb, lt-leb}
use Rattle.uc_logrec.specs.declared.kind.Kind.TheVariants.{Full, First, Middle, Last}
use Rattle.uc_logrec.specs.Format.{room, record_text}
use Rattle.uc_logrec.specs.Log.{blocks_text, rest_text, records_text, Extends}

-- what is written so far, with what is left to be written
pub record Remains (old payload text left : List ℕ) : Type 0 where
  pub blocks : ℕ
  pub enough : length left < blocks
  pub whole : old ++ rest_text payload ≡ text ++ blocks_text blocks left

pub Remains-start : (old payload : List ℕ) → Remains old payload old payload
Remains-start old payload = record { blocks = suc (length payload); enough = omega arith; whole = refl }

-- the last record
pub blocks_text-last : (blocks : ℕ) (payload : List ℕ) → length payload ≤ 32761 → blocks_text (suc blocks) payload ≡ record_text Last payload
unfolding blocks_text
blocks_text-last blocks payload le = rw (le-leb (length payload) 32761 le) refl

-- and one before it
pub blocks_text-middle : (blocks : ℕ) (payload : List ℕ) → 32761 < length payload → blocks_text (suc blocks) payload ≡ record_text Middle (take 32761 payload) ++ blocks_text blocks (drop 32761 payload)
unfolding blocks_text
blocks_text-middle blocks payload lt = rw (lt-leb (length payload) 32761 lt) refl

one_block : (old payload text left : List ℕ) (blocks : ℕ) → length left < blocks → old ++ rest_text payload ≡ text ++ blocks_text blocks left → 32761 < length left → Remains old payload (text ++ record_text Middle (take 32761 left)) (drop 32761 left)
one_block old payload text left zero enough whole lt = absurd (omega arith)
one_block old payload text left (suc blocks) enough whole lt = record {
  blocks = blocks;
  enough = omega (arith, length-drop 32761 left);
  whole = whole ∙ (ap (λ (t : List ℕ). text ++ t) (blocks_text-middle blocks left lt) ∙ sym (append_assoc text (record_text Middle (take 32761 left)) (blocks_text blocks (drop 32761 left))));
}

pub Remains-middle : (old payload text left : List ℕ) → Remains old payload text left → 32761 < length left → Remains old payload (text ++ record_text Middle (take 32761 left)) (drop 32761 left)
Remains-middle old payload text left r lt = one_block old payload text left r.blocks r.enough r.whole lt

ended : (old payload text left : List ℕ) (blocks : ℕ) → length left < blocks → old ++ rest_text payload ≡ text ++ blocks_text blocks left → length left ≤ 32761 → text ++ record_text Last left ≡ old ++ rest_text payload
ended old payload text left zero enough whole le = absurd (omega arith)
ended old payload text left (suc blocks) enough whole le = sym (whole ∙ ap (λ (t : List ℕ). text ++ t) (blocks_text-last blocks left le))

pub Remains-last : (old payload text left : List ℕ) → Remains old payload text left → length left ≤ 32761 → text ++ record_text Last left ≡ old ++ rest_text payload
Remains-last old payload text left r le = ended old payload text left r.blocks r.enough r.whole le

-- a payload that fits, and one that doesn't
pub records_text-full : (place : ℕ) (payload : List ℕ) → length payload ≤ room place - 7 → records_text place payload ≡ record_text Full payload
unfolding records_text
records_text-full place payload le = rw (le-leb (length payload) (room place - 7) le) refl

pub records_text-pieces : (place : ℕ) (payload : List ℕ) → room place - 7 < length payload → records_text place payload ≡ record_text First (take (room place - 7) payload) ++ rest_text (drop (room place - 7) payload)
unfolding records_text
records_text-pieces place payload lt = rw (lt-leb (length payload) (room place - 7) lt) refl

-- bytes after an appended part are after the whole
pub Extends-then : (a b c : List ℕ) → Extends a b → Extends b c → Extends a c
Extends-then a b c p q = (p.0 ++ q.0, q.1 ∙ (ap (λ (t : List ℕ). t ++ q.0) p.1 ∙ append_assoc a p.0 q.0))

-- the records of a payload in a place, from its first
pub pieces_written : (old payload first rest text : List ℕ) (place fits : ℕ) → fits ≡ room place - 7 → fits < length payload → first ≡ take fits payload → rest ≡ drop fits payload → text ≡ old ++ record_text First first
    → text ++ rest_text rest ≡ old ++ records_text place payload
pieces_written old payload first rest text place fits e lt f g h =
    let long : room place - 7 < length payload = omega (arith, e) in
    rw (h, records_text-pieces place payload long, f, g, e) (append_assoc old (record_text First (take (room place - 7) payload)) (rest_text (drop (room place - 7) payload)))

pub full_written : (old payload : List ℕ) (place fits : ℕ) → fits ≡ room place - 7 → length payload ≤ fits → old ++ record_text Full payload ≡ old ++ records_text place payload
full_written old payload place fits e le =
    let short : length payload ≤ room place - 7 = omega (arith, e) in
    ap (λ (t : List ℕ). old ++ t) (sym (records_text-full place payload short))
