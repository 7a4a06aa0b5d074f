use Rattle.std.proofs.lemmas.Bool.{false≢true}
use Rattle.uc_memtable.proofs.Gathered.{none_waits}
use Rattle.uc_live.proofs.adding.has_no_write.Goals as goal

pub returns : goal.returns
returns c =
    let none = none_waits c.args.active.now.waiting (λ some. false≢true (c.if-is_waiting.ensures.1 some)) in
    ((λ is. (c.is_empty.ensures.0 is, none)), (λ both. c.is_empty.ensures.1 both.0))
