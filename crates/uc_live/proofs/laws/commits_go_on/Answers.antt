use Rattle.uc_live.proofs.Going.{commit_on, given_up_on, commits}
use Rattle.uc_live.proofs.laws.commits_go_on.Goals as goal

pub returns-clause-committed : goal.returns-clause-committed
returns-clause-committed g c l = commit_on g.O.Operator.meaning l

pub returns-clause-given_up : goal.returns-clause-given_up
returns-clause-given_up g c l = given_up_on g.O.Operator.meaning l

pub returns-clause-prepared : goal.returns-clause-prepared
returns-clause-prepared g c = commits g.O.Operator.meaning
