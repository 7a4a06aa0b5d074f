use Rattle.uc_query_workers.proofs.Moves.{word_bound}
use Rattle.uc_query_workers.proofs.draw_laws.numbers_are_drawn_once.Goals as goal

pub returns : goal.returns
returns c = record {
  once = λ shares words seats number rule. rule.once number;
  bound = λ shares words seats rule. word_bound shares words seats rule;
}
