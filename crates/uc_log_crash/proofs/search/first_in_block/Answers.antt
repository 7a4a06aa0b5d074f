use Rattle.std.proofs.Common.{Some, None, sym, ◌∙◌}
use Rattle.std.proofs.lemmas.Bool.{false≢true}
use Rattle.uc_log_crash.proofs.Searched.{found_here, found_none, found_later}
use Rattle.uc_log_crash.proofs.search.first_in_block.Goals as goal

pub returns-then-branch : goal.returns-then-branch
returns-then-branch c =
    c.loop-next.invariant.so_far (Some c.loop-next.place) (found_here c.args.log.now c.args.end c.args.last c.loop-next.place (c.in_ok-tells.ensures.0 c.if-branch.true))

pub loop-next-preserved : goal.loop-next-preserved
loop-next-preserved c = record {
  small = c.in-Some.ensures.small;
  so_far = λ found first.
      c.loop-next.invariant.so_far found
      (found_later c.args.log.now c.args.end c.args.last c.loop-next.place c.in-Some.next found (λ told. false≢true (sym c.if-branch.false ∙ c.in_ok-tells.ensures.1 told)) (sym c.in-Some.ensures.value) first);
}

pub returns-in-None : goal.returns-in-None
returns-in-None c =
    c.loop-next.invariant.so_far None
    (found_none c.args.log.now c.args.end c.args.last c.loop-next.place (λ told. false≢true (sym c.if-branch.false ∙ c.in_ok-tells.ensures.1 told)) (sym c.in-None.ensures.value))
