-- The encoding of a number, one byte at a time.
use Rattle.std.proofs.Common.{◌≡◌, ◌≢◌, ℕ, zero, suc, ◌+◌, ◌-◌, ◌/◌, ◌%◌, ◌≤◌, List, [], ◌∷◌, ◌++◌, refl, ap, sym, ◌∙◌, append_assoc, arith}
use Rattle.std.proofs.lemmas.Bool.{le-ltb}
use Rattle.uc_batch.specs.Spelling.{varint_text}

pub varint_more : (more n : ℕ) → more ≢ 0 → 128 ≤ n → varint_text more n ≡ (n % 128 + 128) ∷ varint_text (more - 1) (n / 128)
unfolding varint_text
varint_more zero n some large = absurd (some refl)
varint_more (suc more) n some large = let e : suc more - 1 ≡ more = omega arith in rw (le-ltb n 128 large, e) refl

-- one byte, and then the encoding of the rest
pub more_pushed : (old mid new : List ℕ) (more n : ℕ) → more ≢ 0 → 128 ≤ n → mid ≡ old ++ (n % 128 + 128) ∷ [] → new ≡ mid ++ varint_text (more - 1) (n / 128) → new ≡ old ++ varint_text more n
more_pushed old mid new more n some large first rest =
    let byte = n % 128 + 128 in
    let others = varint_text (more - 1) (n / 128) in
    rest ∙ ap (λ (l : List ℕ). l ++ others) first ∙ append_assoc old (byte ∷ []) others ∙ ap (λ (l : List ℕ). old ++ l) (sym (varint_more more n some large))
