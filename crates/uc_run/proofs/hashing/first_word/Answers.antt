use Rattle.std.proofs.Common.{rules, ◌≡◌, ◌∙◌, ap, take}
use Rattle.uc_run.specs.KeyHash.{first_word}
use Rattle.uc_run.proofs.Words.{first_word-take}
use Rattle.uc_run.proofs.hashing.first_word.Goals as goal

pub returns-in-Some : goal.returns-in-Some
unfolding first_word
returns-in-Some c =
    let eight : c.in-Some.first.now ≡ take 8 c.args.bytes.now = search rules in
    c.from_le_bytes.ensures ∙ ap first_word eight ∙ first_word-take c.args.bytes.now
