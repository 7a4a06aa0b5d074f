-- How rows are held.
use Rattle.std.specs.Prelude.{List}
use Rattle.uc_rows.specs.RowBytes.{Row, rows_from, AreSpelled}
use Rattle.uc_rows.specs.declared.row_buffer.RowBuffer.TheInside.{Inside}

abbrev pub rows_of : Inside → List Row
rows_of b = rows_from b.count b.bytes.items

-- the bytes encode the rows
abbrev pub AreHeld : Inside → Type 0
AreHeld b = AreSpelled b.count b.bytes.items
