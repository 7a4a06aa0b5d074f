-- The values of many keys, whose bytes are concatenated.
use Rattle.std.specs.Prelude.{◌≡◌, ◌⊎◌, ◌-◌, ◌^◌, ℕ, ℤ, List, [], ◌∷◌, length, take, drop, sum, map, Option, Some, None}
use Rattle.std.specs.List.{flat_map}
use Rattle.uc_c.specs.declared.status.TheConstants.{OK, OUT_OF_MEMORY, BAD_KEYS}
use Rattle.uc_c.specs.Room.{filled}

-- the keys of these lengths
abbrev pub cut_keys : List ℕ → List ℕ → List (List ℕ)
cut_keys [] bytes = []
cut_keys (n ∷ lengths) bytes = take n bytes ∷ cut_keys lengths (drop n bytes)

-- the lengths are those of keys which are all of the bytes, and there are as many places for answers
abbrev pub AreCut : List ℕ → List ℕ → List ℕ → Type 0
AreCut keys lengths places = (sum lengths ≡ length keys) × (length places ≡ length lengths)

-- the value of each key
abbrev pub values_of : (List ℕ → Option (List ℕ)) → List ℕ → List ℕ → List (Option (List ℕ))
values_of value lengths keys = map value (cut_keys lengths keys)

-- the length of a value; the greatest number if there is none
abbrev pub length_told : Option (List ℕ) → ℕ
length_told None = 2 ^ 64 - 1
length_told (Some value) = length value

-- the bytes of a value, if there is one
abbrev pub value_bytes : Option (List ℕ) → List ℕ
value_bytes None = []
value_bytes (Some value) = value

-- the concatenated bytes of the values that exist
abbrev pub values_bytes : List (Option (List ℕ)) → List ℕ
values_bytes values = flat_map value_bytes values

-- The values' lengths are stored, as many of their bytes are in the buffer as fit it, and their total size is stored.
pub record AreTold (values : List (Option (List ℕ))) (lengths' room room' : List ℕ) (size' : ℕ) : Type 0 where
  pub lengths : lengths' ≡ map length_told values
  pub bytes : room' ≡ filled (values_bytes values) room
  pub size : size' ≡ length (values_bytes values)

-- the values are stored, or the status says that allocation failed
abbrev pub TellsMany : ℤ → List (Option (List ℕ)) → List ℕ → List ℕ → List ℕ → ℕ → Type 0
TellsMany status values lengths' room room' size' = ((status ≡ OK) × AreTold values lengths' room room' size') ⊎ (status ≡ OUT_OF_MEMORY)

module _ (status : ℤ) (value : List ℕ → Option (List ℕ)) (keys lengths places places' room room' : List ℕ) (size' : ℕ) where
  -- So it is with the value of each key; or the status says that the lengths aren't those of the keys.
  abbrev pub FoundMany : Type 0
  FoundMany =
      (AreCut keys lengths places × TellsMany status (values_of value lengths keys) places' room room' size')
      ⊎ ((status ≡ BAD_KEYS) × ¬ AreCut keys lengths places)
