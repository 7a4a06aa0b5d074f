use Rattle.std.proofs.Common.{ℕ, List, ◌∷◌, ◌++◌, reverse, IfOk, ap, ◌∙◌, subst}
use Rattle.uc_batch.specs.Rising.{last_of}
use Rattle.uc_query_read.specs.Answers.{first_rows, named_keys}
use Rattle.uc_rows.specs.Laying.{AreLaid}
use Rattle.uc_version_state.specs.Versions.{writes_in}
use Rattle.uc_version_state.proofs.Memtables.{last_of_some, rising_from_any}
use Rattle.uc_live.proofs.Taken.{rows_back_alike}
use Rattle.uc_live.proofs.Behind.{flushed_before, flushed_alone, value_alike}
use Rattle.uc_live.proofs.last_reads.lay_sorted_rows_back.Goals as goal

pub returns : goal.returns
returns g c =
    let m = g.O.Operator.meaning in
    let r = c.lay_rows_back_behind.result in
    let old = c.args.room.now in
    let new = c.lay_rows_back_behind.new.room in
    let low = c.args.low.now in
    let high = c.args.high.now in
    let limit = c.args.limit in
    let v = c.args.version.now in
    let shown = c.args.gathered.now.shown in
    let at = last_of 0 shown in
    let some = c.requires.some in
    let rising = rising_from_any v.last shown c.requires.rising in
    let of_run = subst (λ run. IfOk r (AreLaid (first_rows m (writes_in (record v { runs = record { id = 0; slot = 0; run = run } ∷ v.runs })) c.last.result limit
    (reverse (named_keys (writes_in (record v { runs = record { id = 0; slot = 0; run = run } ∷ v.runs })) low high))) old new)) c.requires.newer c.lay_rows_back_behind.ensures in
    let at_last = subst (λ (n : ℕ). IfOk r (AreLaid (first_rows m (flushed_before shown v) n limit (reverse (named_keys (flushed_before shown v) low high))) old new)) c.last.ensures of_run in
    let same = rows_back_alike m (flushed_before shown v) (writes_in v ++ shown) low high at limit c.equal_values_give_equal_answers.ensures c.rows_back_are_rows_reversed.ensures
    (λ key. value_alike m (writes_in v) (flushed_alone shown v) shown key at c.effect_continues_value.ensures.none (c.flush_keeps_every_effect.ensures shown key at rising some)) in
    let last = last_of_some v.last shown some in
    subst (λ (expected : List (List ℕ × List ℕ)). IfOk r (AreLaid expected old new)) (same ∙ ap (λ (n : ℕ). first_rows m (writes_in v ++ shown) n limit (reverse (named_keys (writes_in v ++ shown) low high))) last) at_last
