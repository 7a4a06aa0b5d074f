-- The words, and the number behind them.
use Rattle.std.specs.Prelude.{◌≡◌, ◌++◌, codes}
use Rattle.std.specs.Fmt.{decimal}
use Rattle.std.proofs.Common.{sym, ◌∙◌, subst, append_assoc}
use Rattle.uc_batch.specs.declared.error.BatchError.{BatchError}
use Rattle.uc_tool_io.specs.LogLines.{batch_words}
use Rattle.uc_tool_io.proofs.logs.push_batch_words.Goals as goal

pub returns-in_ok-push_counted-in-SequenceBack : goal.returns-in_ok-push_counted-in-SequenceBack
returns-in_ok-push_counted-in-SequenceBack c = subst (λ (f : BatchError). c.push_counted.new.out.items ≡ c.args.out.now.items ++ batch_words f) (sym c.in-SequenceBack.is) (c.in_ok-push_counted-in-SequenceBack.ensures ∙ append_assoc c.args.out.now.items (codes " sequence back ") (decimal c.in-SequenceBack.last))

pub returns-in_ok-push_counted-in-BadVarint : goal.returns-in_ok-push_counted-in-BadVarint
returns-in_ok-push_counted-in-BadVarint c = subst (λ (f : BatchError). c.push_counted-in-BadVarint.new.out.items ≡ c.args.out.now.items ++ batch_words f) (sym c.in-BadVarint.is) (c.in_ok-push_counted-in-BadVarint.ensures ∙ append_assoc c.args.out.now.items (codes " bad varint ") (decimal c.in-BadVarint.offset))

pub returns-in_ok-push_counted-in-OtherFamily : goal.returns-in_ok-push_counted-in-OtherFamily
returns-in_ok-push_counted-in-OtherFamily c =
    let said = rw c.from-in-OtherFamily.ensures at c.in_ok-push_counted-in-OtherFamily.ensures in
    subst (λ (f : BatchError). c.push_counted-in-OtherFamily.new.out.items ≡ c.args.out.now.items ++ batch_words f) (sym c.in-OtherFamily.is) (said ∙ append_assoc c.args.out.now.items (codes " other family ") (decimal c.in-OtherFamily.id))
