-- Byte strings joined by a delimiter (RocksDB, `StringAppendOperator`).
use Rattle.std.specs.Prelude.{ℕ, List, ◌∷◌, ◌++◌}
use Rattle.std.proofs.Common.{rules}
use Rattle.std.proofs.lemmas.Grind.{common_steps}
use Rattle.uc_oper.specs.Operation.{Operation, IsLawful}

abbrev pub appended : ℕ → List ℕ → List ℕ → List ℕ
appended delimiter x y = x ++ delimiter ∷ y

abbrev pub appending : ℕ → Operation
appending delimiter = record { first = λ x. x; join = appended delimiter; pair = appended delimiter }

pub appending_lawful : (delimiter : ℕ) → IsLawful (appending delimiter)
appending_lawful delimiter = record {
  join_pair = λ b x y. search (rules, common_steps);
  first_pair = λ x y. search (rules, common_steps);
  pair_assoc = λ x y z. search (rules, common_steps);
}
