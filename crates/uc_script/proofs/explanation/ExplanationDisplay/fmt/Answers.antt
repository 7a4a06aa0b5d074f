use Rattle.uc_script.proofs.explanation.ExplanationDisplay.fmt.Goals as goal

pub returns-in-Missing-clause-writes : goal.returns-in-Missing-clause-writes
returns-in-Missing-clause-writes g c = rw c.in-Missing.is c.write-in-Missing.ensures.writes
