use Rattle.std.proofs.Common.{◌∙◌, ◌<◌, ◌^◌, length, sym, ap, rules}
use Rattle.std.proofs.lemmas.Bool.{false≢true}
use Rattle.uc_run_file.specs.Footers.{footer_in}
use Rattle.uc_run_file.proofs.FileText.{no_shorter, no_others, same_last, is_split}
use Rattle.uc_run_file.proofs.splitting.split_file.Goals as goal

pub returns-then-file-lt-FOOTER_SIZE-clause-fault : goal.returns-then-file-lt-FOOTER_SIZE-clause-fault
returns-then-file-lt-FOOTER_SIZE-clause-fault c = ((λ r is e. no_shorter c.args.file.now r e c.if-file-lt-FOOTER_SIZE.true), c.if-file-lt-FOOTER_SIZE.true)

pub returns-in-None-clause-fault : goal.returns-in-None-clause-fault
returns-in-None-clause-fault c =
    let small : length c.args.file.now < 2 ^ 64 = search rules in
    ((λ r is e. no_others c.args.file.now r e is small c.read_footer-footer.result (c.read_footer-footer.ensures ∙ ap footer_in c.split_at.ensures.back) c.split_at.result.0.now c.split_at.ensures.front c.in-None.ensures), c.footer_fault.ensures c.args.file.now tt)

pub returns-then-not-are_same-clause-fault : goal.returns-then-not-are_same-clause-fault
returns-then-not-are_same-clause-fault c =
    let small : length c.args.file.now < 2 ^ 64 = search rules in (
      (λ r is e.
          let same = same_last c.args.file.now r e is small c.read_footer-footer.result (c.read_footer-footer.ensures ∙ ap footer_in c.split_at.ensures.back)
          c.split_at.result.0.now c.split_at-in-Some.result.1.now c.split_at-in-Some.result.0.now c.split_at-in-Some-2.result.0.now c.split_at-in-Some-2.result.1.now c.in-Some.points_len c.in-Some.fragments_len
          c.split_at.ensures.front c.in-Some.ensures.0 c.in-Some.ensures.1 c.split_at-in-Some.ensures.front c.split_at-in-Some.ensures.back c.split_at-in-Some-2.ensures.front c.split_at-in-Some-2.ensures.back in
          false≢true (sym c.if-not-are_same.true ∙ c.are_same.ensures.1 (c.deref.ensures.value ∙ c.in_ok-spelled-in-Some.ensures ∙ same ∙ sym c.split_at.ensures.back))),
      c.footer_fault-then-not-are_same.ensures c.args.file.now tt,
    )

pub returns-else-not-are_same-clause-split : goal.returns-else-not-are_same-clause-split
returns-else-not-are_same-clause-split c =
    is_split c.args.file.now c.split_at.result.0.now c.split_at.result.1.now c.split_at-in-Some.result.1.now c.split_at-in-Some.result.0.now c.split_at-in-Some-2.result.0.now c.split_at-in-Some-2.result.1.now c.deref.result.now
    c.read_footer-footer.result c.in-Some.points_len c.in-Some.fragments_len c.if-file-lt-FOOTER_SIZE.false c.split_at.ensures.front c.split_at.ensures.back c.read_footer-footer.ensures
    c.in-Some.ensures.0 c.in-Some.ensures.1 c.in-Some.ensures.2 c.split_at-in-Some.ensures.front c.split_at-in-Some.ensures.back c.split_at-in-Some-2.ensures.front c.split_at-in-Some-2.ensures.back
    (c.deref.ensures.value ∙ c.in_ok-spelled-in-Some.ensures) (c.are_same.ensures.0 c.if-not-are_same.false)
