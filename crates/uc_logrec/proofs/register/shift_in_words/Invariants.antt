use Rattle.std.proofs.Common.{◌≡◌, take}
use Rattle.std.specs.List.{concat}
use Rattle.uc_logrec.specs.Bits.{lowest_first}
use Rattle.uc_logrec.specs.Crc.{register_after}
use Rattle.uc_logrec.proofs.register.shift_in_words.Given as goal

abbrev pub invariant-loop-word : goal.invariant-loop-word
invariant-loop-word l =
    lowest_first 32 l.register ≡ register_after (lowest_first 32 l.fn.register) (concat (take l.word-index l.words))
