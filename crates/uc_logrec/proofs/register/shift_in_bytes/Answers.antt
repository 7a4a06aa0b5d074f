use Rattle.std.proofs.Common.{◌∙◌, ap, sym, take, get_or, arith}
use Rattle.std.proofs.lemmas.List.{take_more}
use Rattle.uc_logrec.specs.Bits.{lowest_first}
use Rattle.uc_logrec.specs.Crc.{register_after}
use Rattle.uc_logrec.proofs.Numbers.{length-lowest_first}
use Rattle.uc_logrec.proofs.Shifts.{register_after-nil}
use Rattle.uc_logrec.proofs.Words.{bytes_more}
use Rattle.uc_logrec.proofs.register.shift_in_bytes.Goals as goal

pub loop-byte-init : goal.loop-byte-init
loop-byte-init c = sym (register_after-nil (lowest_first 32 c.args.register) (length-lowest_first 32 c.args.register))

pub loop-byte-preserved : goal.loop-byte-preserved
loop-byte-preserved c =
    let start = lowest_first 32 c.args.register in
    let i = c.loop-byte.byte-index in
    let bytes = c.args.bytes.now in
    bytes_more start (take i bytes) (get_or bytes i 0) c.loop-byte.register c.shift_in_byte-register.result (length-lowest_first 32 c.args.register) c.loop-byte.invariant c.shift_in_byte-register.ensures
    ∙ ap (register_after start) (sym (take_more bytes i 0 (omega arith)))
