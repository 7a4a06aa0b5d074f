use Rattle.std.proofs.Common.{◌∙◌}
use Rattle.uc_compact.specs.Inputs.{writes_of}
use Rattle.uc_version_state.specs.Versions.{contents_of}
use Rattle.uc_query_read.proofs.Shown.{rows_shown, rows_rise}
use Rattle.uc_query_read.proofs.scan.rows_of_runs.Goals as goal

pub known-requires : goal.known-requires
known-requires g c =
    let runs = contents_of c.args.runs.now in
    let first = c.scan_rows_are_first.ensures (writes_of runs) c.args.low.now c.args.high.now c.args.at c.args.limit in
    rows_rise g.O.Operator.meaning c.plain_list_is_in_order.ensures.same c.scan_keys_rise.ensures c.scan_keys_are_named.ensures c.value_is_given.ensures runs c.args.low.now c.args.high.now c.args.at c.args.limit c.in_ok-rows.rows c.in_ok-rows.ensures first.rise

pub returns : goal.returns
returns g c =
    c.known.ensures
    ∙ rows_shown g.O.Operator.meaning c.plain_list_is_in_order.ensures.same c.scan_keys_rise.ensures c.scan_keys_are_named.ensures c.value_is_given.ensures (contents_of c.args.runs.now) c.args.low.now c.args.high.now c.args.at c.args.limit c.in_ok-rows.rows c.in_ok-rows.ensures
