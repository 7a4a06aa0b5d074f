use Rattle.std.proofs.Common.{◌≡◌, sym, subst, rules}
use Rattle.uc_query_read.specs.Answers.{named_keys, first_rows}
use Rattle.uc_rows.specs.Rising.{KeysRise}
use Rattle.uc_query_read.proofs.FirstRows.{rows_first}
use Rattle.uc_query_read.proofs.plain.reading.Goals as goal

pub known-requires : goal.known-requires
known-requires g c =
    let m = g.O.Operator.meaning in
    let ws = c.args.writes.now in
    let low = c.in-Scan.low in
    let high = c.in-Scan.high in
    let at = c.in-Scan.at in
    let limit = c.in-Scan.limit in
    let first : c.in_ok-rows-in-Scan.rows ≡ first_rows m ws at limit (named_keys ws low high) = search rules in
    subst KeysRise (sym first) (rows_first m ws low high at limit).rise
