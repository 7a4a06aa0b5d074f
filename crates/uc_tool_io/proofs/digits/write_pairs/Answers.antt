use Rattle.std.proofs.Common.{◌≡◌, ◌/◌, ◌%◌, ℕ, [], ◌∷◌, ◌∙◌, refl, ap, slice_index, slice_index_or, arith}
use Rattle.std.proofs.lemmas.List.{length-set}
use Rattle.hex.specs.Hex.{encode_with, encode_lower, lower_digits}
use Rattle.hex.proofs.Pairs.{encode_step, encode_done}
use Rattle.uc_tool_io.proofs.digits.write_pairs.Goals as goal

-- the first digit of a byte, and the second
first_digit : (byte : ℕ) → slice_index_or (encode_lower (byte ∷ [])) 0 0 ≡ slice_index lower_digits (byte / 16)
unfolding encode_with
first_digit byte = refl

second_digit : (byte : ℕ) → slice_index_or (encode_lower (byte ∷ [])) 1 0 ≡ slice_index lower_digits (byte % 16)
unfolding encode_with
second_digit byte = refl

pub loop-place-preserved : goal.loop-place-preserved
loop-place-preserved c =
    let l = c.loop-place in
    let bytes = c.args.bytes.now in
    let byte = slice_index bytes l.place in
    let first = ap (λ digits. slice_index_or digits 0 0) c.pair_of-pair.ensures ∙ first_digit byte in
    let second = ap (λ digits. slice_index_or digits 1 0) c.pair_of-pair.ensures ∙ second_digit byte in (
      length-set _ _ _ ∙ length-set _ _ _ ∙ l.invariant.0,
      encode_step lower_digits bytes l.out l.place _ _ c.loop-place-test.true (omega (arith, l.invariant.0, c.loop-place-test.true)) first second l.invariant.1,
    )

pub returns : goal.returns
returns c =
    let l = c.loop-place in
    encode_done lower_digits c.args.bytes.now l.out l.place (omega (arith, c.loop-place-test.false)) l.invariant.0 l.invariant.1
