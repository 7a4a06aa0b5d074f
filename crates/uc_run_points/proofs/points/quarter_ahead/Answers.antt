use Rattle.std.proofs.Common.{rules, ◌≡◌, ℕ, ◌*◌, ◌-◌, ◌<◌, ◌≤◌, List, length, slice_index_or, drop, sym, ap, ◌∙◌, arith}
use Rattle.std.proofs.lemmas.List.{take_rest}
use Rattle.uc_run_points.specs.Spelling.{entries_from}
use Rattle.uc_run_points.proofs.Grown.{none_there, quarter_before, start_within, quarter_there}
use Rattle.uc_run_points.proofs.points.quarter_ahead.Goals as goal

pub slice_bounds-new-count : goal.slice_bounds-new-count
slice_bounds-new-count c =
    let lt : c.args.quarter < length c.args.starts.now = search rules in
    let at : c.in-Some.start.now ≡ slice_index_or c.args.starts.now c.args.quarter 0 = search rules in
    let within = start_within c.args.count c.args.bytes.now c.args.starts.now c.requires.spelled c.requires.starts c.args.quarter lt in
    omega (arith, at, within)

pub slice_bounds-new-start : goal.slice_bounds-new-start
slice_bounds-new-start c = let le = slice_bounds-new-count c in search rules

pub overflow_sub-count : goal.overflow_sub-count
overflow_sub-count c =
    let lt : c.args.quarter < length c.args.starts.now = search rules in
    let before = quarter_before c.args.count c.args.bytes.now c.args.starts.now c.requires.spelled c.requires.starts c.args.quarter lt in
    omega (arith, before)

pub returns-in-None : goal.returns-in-None
returns-in-None c =
    let past : length c.args.starts.now ≤ c.args.quarter = search rules in
    c.none.ensures ∙ sym (none_there c.args.count c.args.bytes.now c.args.starts.now c.requires.spelled c.requires.starts c.args.quarter past)

pub returns-in-Some : goal.returns-in-Some
returns-in-Some c =
    let bytes = c.args.bytes.now in
    let lt : c.args.quarter < length c.args.starts.now = search rules in
    let at : c.in-Some.start.now ≡ slice_index_or c.args.starts.now c.args.quarter 0 = search rules in
    let start = c.in-Some.start.now in
    let same : c.args.quarter * 4 ≡ 4 * c.args.quarter = omega arith in
    c.new.ensures
    ∙ ap (λ (xs : List ℕ). entries_from (c.args.count - c.args.quarter * 4) xs) (take_rest bytes start ∙ ap (λ n. drop n bytes) at)
    ∙ ap (λ n. entries_from (c.args.count - n) (drop (slice_index_or c.args.starts.now c.args.quarter 0) bytes)) same
    ∙ quarter_there c.args.count bytes c.args.starts.now c.requires.spelled c.requires.starts c.args.quarter lt
