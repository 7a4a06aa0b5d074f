-- The table of digits is held against the digits of each byte, by computing.
use Rattle.std.proofs.Common.{◌≡◌, ℕ, ◌+◌, ◌*◌, ◌<◌, Bool, true, ◌&&◌, List, [], ◌∷◌, get_or, eqb, refl, ap₂}
use Rattle.std.proofs.lemmas.Bool.{agree_below, agree_below_at, eqb-true, and_parts}
use Rattle.hex.specs.Hex.{encode_with, encode_lower}
use Rattle.uc_tool_io.specs.declared.digits.TheConstants.{PAIRS}

-- the digits that stand at a byte's place
abbrev pub pair : ℕ → List ℕ
pair byte = get_or PAIRS (2 * byte) 0 ∷ get_or PAIRS (2 * byte + 1) 0 ∷ []

abbrev digit : ℕ → ℕ → ℕ
digit byte place = get_or (encode_lower (byte ∷ [])) place 0

unfoldable is_pair : ℕ → Bool
is_pair byte = eqb (get_or PAIRS (2 * byte) 0) (digit byte 0) && eqb (get_or PAIRS (2 * byte + 1) 0) (digit byte 1)

unfoldable always : ℕ → Bool
always byte = true

all_are_pairs : agree_below is_pair always 256 ≡ true
unfolding is_pair always encode_with
all_are_pairs = refl

-- at a byte's place stand its two digits
pub pair_at : (byte : ℕ) → byte < 256 → pair byte ≡ encode_lower (byte ∷ [])
unfolding is_pair always encode_with
pair_at byte l =
    let both = and_parts _ _ (agree_below_at is_pair always 256 byte all_are_pairs l) in
    ap₂ (λ (a b : ℕ). a ∷ b ∷ []) (eqb-true _ _ both.0) (eqb-true _ _ both.1)
