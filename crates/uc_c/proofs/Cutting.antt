-- Concatenated keys, one by one.
use Rattle.std.proofs.Common.{◌≡◌, ℕ, suc, ◌+◌, ◌<◌, List, [], ◌∷◌, ◌++◌, length, get_or, take, drop, map, refl, ap, sym, ◌∙◌}
use Rattle.std.specs.Prelude.{sum, Option}
use Rattle.std.proofs.lemmas.Grind.{flat_map-append}
use Rattle.std.proofs.lemmas.List.{append-nil, drop-drop, map-append, take_more}
use Rattle.std.proofs.lemmas.List.Sums.{sum_by-cons, sum_by_more}
use Rattle.uc_c.specs.Many.{cut_keys, values_of, length_told, value_bytes, values_bytes}

-- the key after the others
cut_more : (lengths : List ℕ) (n : ℕ) (keys : List ℕ) → cut_keys (lengths ++ n ∷ []) keys ≡ cut_keys lengths keys ++ take n (drop (sum lengths) keys) ∷ []
cut_more [] n keys = refl
cut_more (m ∷ lengths) n keys =
    ap (λ (ks : List (List ℕ)). take m keys ∷ ks) (cut_more lengths n (drop m keys))
    ∙ rw (drop-drop (sum lengths) m keys, sum_by-cons (λ (x : ℕ). x) m lengths) refl

-- the bytes after a key, and the result of its lookup
pub found_more : (f : List ℕ → Option (List ℕ)) (lengths : List ℕ) (i : ℕ) (keys : List ℕ) → i < length lengths
    → let before = take i lengths in
    let value = f (take (get_or lengths i 0) (drop (sum before) keys)) in
    (drop (sum (take (i + 1) lengths)) keys ≡ drop (get_or lengths i 0) (drop (sum before) keys))
    × (map length_told (values_of f (take (i + 1) lengths) keys) ≡ map length_told (values_of f before keys) ++ length_told value ∷ [])
    × (values_bytes (values_of f (take (i + 1) lengths) keys) ≡ values_bytes (values_of f before keys) ++ value_bytes value)
found_more f lengths i keys lt =
    let before = take i lengths in
    let n = get_or lengths i 0 in
    let value = f (take n (drop (sum before) keys)) in
    let values : values_of f (take (i + 1) lengths) keys ≡ values_of f before keys ++ value ∷ [] =
    ap (λ (ns : List ℕ). values_of f ns keys) (take_more lengths i 0 lt)
    ∙ ap (map f) (cut_more before n keys)
    ∙ map-append f (cut_keys before keys) (take n (drop (sum before) keys) ∷ [])
    in (
      ap (λ (k : ℕ). drop k keys) (sum_by_more (λ (x : ℕ). x) lengths i 0 lt) ∙ sym (drop-drop n (sum before) keys),
      ap (map length_told) values ∙ map-append length_told (values_of f before keys) (value ∷ []),
      ap values_bytes values ∙ flat_map-append value_bytes (values_of f before keys) (value ∷ []) ∙ ap (λ (l : List ℕ). values_bytes (values_of f before keys) ++ l) (append-nil (value_bytes value)),
    )

-- a length is stored for each key
pub as_many : (f : List ℕ → Option (List ℕ)) (lengths keys : List ℕ) → length (map length_told (values_of f lengths keys)) ≡ length lengths
as_many f [] keys = refl
as_many f (n ∷ lengths) keys = ap suc (as_many f lengths (drop n keys))
