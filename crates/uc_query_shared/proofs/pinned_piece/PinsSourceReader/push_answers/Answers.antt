use Rattle.std.proofs.Common.{refl}
use Rattle.uc_query_workers.specs.Asking.{answers_of}
use Rattle.uc_query_shared.proofs.Between.{all_pinned}
use Rattle.uc_query_shared.proofs.pinned_piece.PinsSourceReader.push_answers.Goals as goal

pub returns-clause-answers : goal.returns-clause-answers
returns-clause-answers g c = record {
  given = answers_of g.O.Operator.meaning c.version.result.now c.args.queries.now;
  are = c.in_ok-push_answers.ensures;
  each = all_pinned g.O.Operator.meaning g.N.Name.keeps_stay g.N.Name.base c.pinned_versions_answer_as_given.ensures.given c.pinned_versions_answer_as_given.ensures.stay
      c.args.place.now c.pin.new.self c.in_ok-pin.ensures.seen c.in_ok-pin.ensures.legal
      c.in_ok-pin.pin _ c.version.result.now c.args.queries.now c.in_ok-pin.ensures.pinned refl refl c.version.ensures c.recall.ensures.seen.keeps;
}
