use Rattle.uc_run.proofs.heads.Heads.least.Goals as goal

pub least_of-requires-clause-numbered : goal.least_of-requires-clause-numbered
least_of-requires-clause-numbered c = (c.self.inside.front.now, rw c.deref.ensures.value c.self.invariant)
