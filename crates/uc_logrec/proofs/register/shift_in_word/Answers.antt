use Rattle.std.proofs.Common.{◌∙◌, sym, arith, rules}
use Rattle.std.proofs.lemmas.Nat.{le_bytes_8}
use Rattle.uc_logrec.proofs.Words.{behind_register, shifted_word}
use Rattle.uc_logrec.proofs.register.shift_in_word.Goals as goal

pub returns : goal.returns
returns c =
    let word = c.args.word.now in
    shifted_word c.to_le_bytes-bytes.result (omega arith) _ _ _ _ _ _ _ _
    c.remainder_of.ensures c.remainder_of-2.ensures c.remainder_of-3.ensures c.remainder_of-4.ensures
    c.remainder_of-5.ensures c.remainder_of-6.ensures c.remainder_of-7.ensures c.remainder_of-8.ensures
    ∙ sym (behind_register c.args.register c.from_le_bytes.result word c.to_le_bytes-bytes.result (omega arith)
    (le_bytes_8 word c.from_le_bytes.result (search rules) (search rules) c.from_le_bytes.ensures)
    c.to_le_bytes-bytes.ensures)
