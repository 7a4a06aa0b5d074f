use Rattle.uc_serial.proofs.Unchanged.{one_value, same_rows}
use Rattle.uc_serial.proofs.read_laws.rows_say_values.Goals as goal

pub returns-clause-values : goal.returns-clause-values
returns-clause-values g c = one_value g.O.Operator.meaning g.P.Operator.meaning c.value_is_given.ensures c.value_is_given-2.ensures c.scan_rows_are_first.ensures c.scan_rows_are_first-2.ensures

pub returns-clause-rows : goal.returns-clause-rows
returns-clause-rows g c log others low high at since limit = same_rows g.O.Operator.meaning g.P.Operator.meaning c.value_is_given.ensures c.value_is_given-2.ensures c.scan_rows_are_first.ensures c.scan_rows_are_first-2.ensures log others low high at since limit c.scan_rows_are_determined.ensures
