-- Batches that come after a sequence come after each lesser one.
use Rattle.std.proofs.Common.{◌≡◌, ℕ, ◌+◌, ◌^◌, ◌≤◌, Bool, true, false, List, length, take, drop, Result, Ok, Err, refl, sym, ◌∙◌, arith}
use Rattle.std.specs.Prelude.{◌&&◌, if◌then◌else◌, nat_lt, nat_le}
use Rattle.std.specs.Int.{w32, w64, from_le_bytes}
use Rattle.std.proofs.lemmas.Bool.{leb-true, le-leb, false≢true}
use Rattle.uc_bytes.specs.declared.write.Write.{Write}
use Rattle.uc_batch.specs.declared.error.BatchError.{BatchError}
use Rattle.uc_batch.specs.declared.error.BatchError.TheVariants.{TooShort, SequenceBack, SequenceTooLarge}
use Rattle.uc_batch.specs.Reads.{◌>>=◌}
use Rattle.uc_batch.specs.Batch.{batch_of, counted_of, judged}

-- the two tests of a sequence
abbrev tested : Bool → Bool → Bool → ℕ → ℕ → Result ℕ BatchError
tested some back large last seq = if some && back then Err (SequenceBack last) else if some && large then Err SequenceTooLarge else Ok seq

-- a valid batch stays valid, if the sequence number isn't back
still_tested : (some back less_back large : Bool) (last less seq : ℕ) (go : ℕ → Result (List Write) BatchError) (ws : List Write) → (less_back ≡ true → back ≡ true) →
    (tested some back large last seq >>= go) ≡ Ok ws → (tested some less_back large less seq >>= go) ≡ Ok ws
still_tested false back less_back large last less seq go ws up e = e
still_tested true true less_back large last less seq go ws up e = absurd cc
still_tested true false true large last less seq go ws up e = absurd (false≢true (up refl))
still_tested true false false large last less seq go ws up e = e

back_up : (seq less last : ℕ) (b : Bool) → nat_le seq last ≡ b → less ≤ last → nat_le seq less ≡ true → b ≡ true
back_up seq less last true e le h = refl
back_up seq less last false e le h =
    let low = leb-true seq less h in
    absurd (false≢true (sym e ∙ le-leb seq last (omega (arith, low, le))))

long_enough : (short : Bool) (last less : ℕ) (bytes : List ℕ) (ws : List Write) → less ≤ last →
    (if short then Err TooShort else (judged last (from_le_bytes w64 (take 8 bytes)) (from_le_bytes w32 (take 4 (drop 8 bytes)))
    >>= λ seq. counted_of seq (from_le_bytes w32 (take 4 (drop 8 bytes))) (length bytes) (drop 12 bytes))) ≡ Ok ws →
    (if short then Err TooShort else (judged less (from_le_bytes w64 (take 8 bytes)) (from_le_bytes w32 (take 4 (drop 8 bytes)))
    >>= λ seq. counted_of seq (from_le_bytes w32 (take 4 (drop 8 bytes))) (length bytes) (drop 12 bytes))) ≡ Ok ws
unfolding judged
long_enough true last less bytes ws le e = absurd cc
long_enough false last less bytes ws le e =
    let seq = from_le_bytes w64 (take 8 bytes) in
    let count = from_le_bytes w32 (take 4 (drop 8 bytes)) in
    still_tested (nat_lt 0 count) (nat_le seq last) (nat_le seq less) (nat_lt (2 ^ 56) (seq + count)) last less seq
    (λ s. counted_of s count (length bytes) (drop 12 bytes)) ws (back_up seq less last (nat_le seq last) refl le) e

pub comes_after : (less last : ℕ) (bytes : List ℕ) (ws : List Write) → less ≤ last → batch_of last bytes ≡ Ok ws → batch_of less bytes ≡ Ok ws
unfolding batch_of
comes_after less last bytes ws le e = long_enough (nat_lt (length bytes) 12) last less bytes ws le e
