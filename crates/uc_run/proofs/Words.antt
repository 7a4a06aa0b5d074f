-- The first eight bytes are a number.
use Rattle.std.proofs.Common.{◌≡◌, ℕ, List, [], ◌∷◌, take, refl}
use Rattle.uc_run.specs.KeyHash.{first_word}

-- the bytes after the eighth don't count
pub first_word-take : (xs : List ℕ) → first_word (take 8 xs) ≡ first_word xs
unfolding first_word
first_word-take [] = refl
first_word-take (a ∷ []) = refl
first_word-take (a ∷ b ∷ []) = refl
first_word-take (a ∷ b ∷ c ∷ []) = refl
first_word-take (a ∷ b ∷ c ∷ d ∷ []) = refl
first_word-take (a ∷ b ∷ c ∷ d ∷ e ∷ []) = refl
first_word-take (a ∷ b ∷ c ∷ d ∷ e ∷ f ∷ []) = refl
first_word-take (a ∷ b ∷ c ∷ d ∷ e ∷ f ∷ g ∷ []) = refl
first_word-take (a ∷ b ∷ c ∷ d ∷ e ∷ f ∷ g ∷ h ∷ rest) = refl
