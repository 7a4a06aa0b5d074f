use Rattle.std.proofs.lemmas.Result.{on_ok_weaker}
use Rattle.uc_query_read.specs.Answers.{answer_of}
use Rattle.uc_version_state.specs.Versions.{writes_in}
use Rattle.uc_query_workers.proofs.Pieced.{mapped_behind}
use Rattle.uc_query_workers.proofs.one_version.OneVersionSourceUnit.push_answers.Goals as goal

pub returns-clause-answers : goal.returns-clause-answers
returns-clause-answers g c =
    let version = c.args.self.now.version.now in
    on_ok_weaker c.push_answers.result (mapped_behind (answer_of g.O.Operator.meaning (writes_in version) version.keeps) c.args.queries.now c.args.answers.now.items c.push_answers.new.answers.items) c.push_answers.ensures
