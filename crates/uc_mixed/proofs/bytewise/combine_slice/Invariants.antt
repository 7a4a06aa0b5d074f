use Rattle.std.proofs.Common.{◌≡◌, ℕ, ◌<◌, ◌≤◌}
use Rattle.uc_mixed.specs.Bytewise.{byte_at}
use Rattle.uc_mixed.specs.ByteFunctions.{function_of}
use Rattle.uc_mixed.proofs.bytewise.combine_slice.Given as goal

abbrev pub invariant-loop-place : goal.invariant-loop-place
invariant-loop-place l = record {
  done : (k : ℕ) → k < l.place → byte_at l.bytes k ≡ function_of l.function (byte_at l.fn.bytes k) (byte_at l.others k);
  left : (k : ℕ) → l.place ≤ k → byte_at l.bytes k ≡ byte_at l.fn.bytes k;
}
