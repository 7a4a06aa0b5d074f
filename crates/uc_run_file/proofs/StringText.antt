-- Byte strings that are spelled at the front of bytes.
use Rattle.std.proofs.Common.{◌≡◌, ℕ, ◌^◌, ◌<◌, ◌≤◌, List, ◌++◌, length, take, drop, refl, sym, ap, ◌∙◌, append_assoc, length-append, arith}
use Rattle.std.proofs.lemmas.List.{take_at, drop_at, take-append-drop, length-take-le}
use Rattle.uc_run_points.specs.Numbers.{number_text}
use Rattle.uc_run_points.proofs.Unique.{numbers_apart}
use Rattle.uc_run_points.proofs.Grown.{number_some}
use Rattle.uc_run_file.specs.Spelling.{string_text}

pub in_parts : (s rest : List ℕ) → string_text s ++ rest ≡ number_text (length s) ++ (s ++ rest)
unfolding string_text
in_parts s rest = append_assoc (number_text (length s)) s rest

-- a length that is read is that of each byte string that is spelled there
pub same_len : (bytes after s rest : List ℕ) (len : ℕ) → len < 2 ^ 64 → length s < 2 ^ 64 → bytes ≡ number_text len ++ after → bytes ≡ string_text s ++ rest → (len ≡ length s) × (after ≡ s ++ rest)
same_len bytes after s rest len fits also e f =
    numbers_apart len (length s) after (s ++ rest) fits also (sym e ∙ f ∙ in_parts s rest)

pub too_long : (bytes after s rest : List ℕ) (len : ℕ) → len < 2 ^ 64 → length s < 2 ^ 64 → bytes ≡ number_text len ++ after → bytes ≡ string_text s ++ rest → length after < len → ⊥
too_long bytes after s rest len fits also e f lt =
    let is = same_len bytes after s rest len fits also e f in
    absurd (omega (arith, lt, is.0, ap (λ (xs : List ℕ). length xs) is.1, length-append s rest))

pub string_there : (bytes after front back : List ℕ) (len : ℕ) → bytes ≡ number_text len ++ after → len ≤ length after → front ≡ take len after → back ≡ drop len after → bytes ≡ string_text front ++ back
string_there bytes after front back len e le f b =
    let many : length front ≡ len = ap (λ (xs : List ℕ). length xs) f ∙ length-take-le len after le in
    let split : after ≡ front ++ back = sym (take-append-drop len after) ∙ ap (λ (xs : List ℕ). xs ++ drop len after) (sym f) ∙ ap (λ (xs : List ℕ). front ++ xs) (sym b) in
    e ∙ ap (λ (xs : List ℕ). number_text len ++ xs) split ∙ ap (λ (n : ℕ). number_text n ++ (front ++ back)) (sym many) ∙ sym (in_parts front back)

pub strings_apart : (s t xs ys : List ℕ) → length s < 2 ^ 64 → length t < 2 ^ 64 → string_text s ++ xs ≡ string_text t ++ ys → (s ≡ t) × (xs ≡ ys)
strings_apart s t xs ys fits also e =
    let both = numbers_apart (length s) (length t) (s ++ xs) (t ++ ys) fits also (sym (in_parts s xs) ∙ e ∙ in_parts t ys) in
    let front : take (length s) (s ++ xs) ≡ take (length t) (t ++ ys) = ap (λ (n : ℕ). take n (s ++ xs)) both.0 ∙ ap (take (length t)) both.1 in
    let back : drop (length s) (s ++ xs) ≡ drop (length t) (t ++ ys) = ap (λ (n : ℕ). drop n (s ++ xs)) both.0 ∙ ap (drop (length t)) both.1 in
    (sym (take_at s xs (length s) refl) ∙ front ∙ take_at t ys (length t) refl, sym (drop_at s xs (length s) refl) ∙ back ∙ drop_at t ys (length t) refl)

-- the same, read twice
pub two_strings : (bytes s t xs ys : List ℕ) → length s < 2 ^ 64 → length t < 2 ^ 64 → bytes ≡ string_text s ++ xs → bytes ≡ string_text t ++ ys → (s ≡ t) × (xs ≡ ys)
two_strings bytes s t xs ys fits also e f = strings_apart s t xs ys fits also (sym e ∙ f)

pub string_some : (s : List ℕ) → 0 < length (string_text s)
unfolding string_text
string_some s = omega (arith, number_some (length s), length-append (number_text (length s)) s)
