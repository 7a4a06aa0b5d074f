use Rattle.std.proofs.Common.{◌≡◌, ◌<◌, ◌-◌, ◌^◌, length, sym, ap, ◌∙◌, arith}
use Rattle.uc_query_read.specs.Answers.{first_rows, named_keys}
use Rattle.uc_live.specs.Lives as lives
use Rattle.uc_live.specs.Views as views
use Rattle.uc_live.proofs.live_store.LiveStore.is_unchanged_range.Goals as goal

pub returns : goal.returns
returns g c =
    let m = g.O.Operator.meaning in
    let log = lives.writes_of c.args.self.now in
    let at = lives.last c.args.self.now in
    let others = views.writes_of c.args.view.now in
    let since = views.last c.args.view.now in
    let low = c.args.low.now in
    let high = c.args.high.now in
    let limit = 2 ^ 64 - 1 in
    let all = c.rows_say_values.ensures in
    let long : c.len-few.result ≡ length (first_rows m log at limit (named_keys log low high)) = c.len-few.ensures.count ∙ ap length c.in_ok-now.ensures in
    let bound : c.len-few.result < 2 ^ 63 = c.len-few.ensures.bound in
    let few : length (first_rows m log at limit (named_keys log low high)) < limit = omega (arith, long, bound) in (
      λ same. all.values log others low high at since limit (sym c.in_ok-now.ensures ∙ c.are_same_rows.ensures.0 same ∙ c.in_ok-before.ensures) few,
      λ unchanged. c.are_same_rows.ensures.1 (c.in_ok-now.ensures ∙ all.rows log others low high at since limit unchanged ∙ sym c.in_ok-before.ensures),
    )
