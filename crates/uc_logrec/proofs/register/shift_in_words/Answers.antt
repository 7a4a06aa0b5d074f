use Rattle.std.proofs.Common.{◌∙◌, ap, sym, take, get_or, arith, List, ℕ, []}
use Rattle.std.specs.List.{concat}
use Rattle.std.proofs.lemmas.List.{take_more}
use Rattle.uc_logrec.specs.Bits.{lowest_first}
use Rattle.uc_logrec.specs.Crc.{register_after}
use Rattle.uc_logrec.proofs.Numbers.{length-lowest_first}
use Rattle.uc_logrec.proofs.Shifts.{register_after-nil}
use Rattle.uc_logrec.proofs.Words.{words_more}
use Rattle.uc_logrec.proofs.register.shift_in_words.Goals as goal

pub loop-word-init : goal.loop-word-init
loop-word-init c = sym (register_after-nil (lowest_first 32 c.args.register) (length-lowest_first 32 c.args.register))

pub loop-word-preserved : goal.loop-word-preserved
loop-word-preserved c =
    let start = lowest_first 32 c.args.register in
    let i = c.loop-word.word-index in
    let words = c.args.words.now in
    words_more start (take i words) (get_or words i []) c.loop-word.register c.shift_in_word-register.result (length-lowest_first 32 c.args.register) c.loop-word.invariant c.shift_in_word-register.ensures
    ∙ ap (λ (ws : List (List ℕ)). register_after start (concat ws)) (sym (take_more words i [] (omega arith)))
