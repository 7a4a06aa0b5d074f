use Rattle.std.proofs.Common.{◌≡◌, ◌*◌, ◌++◌, length, take, drop}
use Rattle.hex.specs.Hex.{encode_lower}
use Rattle.uc_tool_io.proofs.digits.write_pairs.Given as goal

abbrev pub invariant-loop-place : goal.invariant-loop-place
invariant-loop-place l = (length l.out ≡ 2 * length l.bytes) × (take (2 * l.place) l.out ++ encode_lower (drop l.place l.bytes) ≡ encode_lower l.bytes)
