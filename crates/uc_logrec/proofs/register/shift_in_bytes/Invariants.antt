use Rattle.std.proofs.Common.{◌≡◌, take}
use Rattle.uc_logrec.specs.Bits.{lowest_first}
use Rattle.uc_logrec.specs.Crc.{register_after}
use Rattle.uc_logrec.proofs.register.shift_in_bytes.Given as goal

abbrev pub invariant-loop-byte : goal.invariant-loop-byte
invariant-loop-byte l =
    lowest_first 32 l.register ≡ register_after (lowest_first 32 l.fn.register) (take l.byte-index l.bytes)
