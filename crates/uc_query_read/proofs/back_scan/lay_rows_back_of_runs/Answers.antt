use Rattle.std.proofs.Common.{◌≡◌, ℕ, List, refl, subst}
use Rattle.std.specs.Prelude.{reverse, IfOk, false}
use Rattle.std.specs.declared.result.Result.TheVariants.{Ok}
use Rattle.uc_compact.specs.Inputs.{writes_of, points_of}
use Rattle.uc_version_state.specs.Versions.{contents_of}
use Rattle.uc_query_read.specs.Ahead.{keys_ahead}
use Rattle.uc_query_read.specs.Answers.{first_rows, named_keys}
use Rattle.uc_query_read.proofs.Shown.{rows_shown_back}
use Rattle.uc_rows.specs.Laying.{AreLaid}
use Rattle.uc_query_read.proofs.back_scan.lay_rows_back_of_runs.Goals as goal

pub returns : goal.returns
returns g c =
    let m = g.O.Operator.meaning in
    let runs = contents_of c.args.runs.now in
    let ahead = first_rows m (writes_of runs) c.args.at c.args.limit (reverse (keys_ahead (points_of runs) c.args.low.now false c.args.high.now)) in
    let named = first_rows m (writes_of runs) c.args.at c.args.limit (reverse (named_keys (writes_of runs) c.args.low.now c.args.high.now)) in
    let same : ahead ≡ named =
    rows_shown_back m c.plain_list_is_in_order.ensures.same c.scan_keys_rise.ensures c.scan_keys_are_named.ensures c.value_is_given.ensures runs c.args.low.now c.args.high.now c.args.at c.args.limit (Ok ahead) refl in
    subst (λ (rows : List (List ℕ × List ℕ)). IfOk c.lay_last_rows.result (AreLaid rows c.args.room.now c.lay_last_rows.new.room)) same c.lay_last_rows.ensures
