use Rattle.std.proofs.Common.{◌≡◌, ℕ, length, max, arith}
use Rattle.std.proofs.lemmas.List.FromFn.{fill_by_all}
use Rattle.uc_mixed.specs.Bytewise.{byte_at}
use Rattle.uc_mixed.specs.ByteFunctions.{function_of}
use Rattle.uc_mixed.proofs.bytewise.combine_slice.Goals as goal

pub returns : goal.returns
returns c =
    let old = c.args.bytes.now in
    let others = c.args.others.now in
    let long = c.loop-place.auto.bytes in
    let size : length c.loop-place.bytes ≡ max (length old) (length others) = omega (arith, long) in
    fill_by_all (λ (k : ℕ). function_of c.args.function (byte_at old k) (byte_at others k)) c.loop-place.bytes (max (length old) (length others)) 0 size
    (λ k lt. let last = c.loop-place-test.false in c.loop-place.invariant.done k (omega (arith, lt, size, last)))
