use Rattle.std.proofs.Common.{◌≡◌, ℕ, List, [], length, None, sym, ap, subst, ◌∙◌, arith}
use Rattle.std.specs.Prelude.{take, option_map}
use Rattle.uc_model.specs.Meaning.{value_of}
use Rattle.std.proofs.Math.Seq.{take-length}
use Rattle.std.proofs.lemmas.List.{length-take}
use Rattle.uc_batch.specs.Rising.{IsRising, last_of}
use Rattle.uc_batch.proofs.Rises.{rising-append}
use Rattle.uc_version_state.specs.Histories.{writes_given}
use Rattle.uc_query_read.specs.Answers.{rows_of, named_keys}
use Rattle.uc_live.specs.Views.{seen_in}
use Rattle.uc_checkpoint.specs.Checkpoints.{all_rows}
use Rattle.uc_checkpoint.proofs.Counted.{filtered_shorter, keys_at_most, rising_at_most}
use Rattle.uc_checkpoint.proofs.laws.rows_are_at_most_the_writes.Goals as goal

pub returns : goal.returns
returns g c l ws taken gathered =
    let m = g.O.Operator.meaning in
    let all = all_rows m (seen_in l) in
    let plain = rows_of m ws (last_of 0 ws) (named_keys ws [] None) in
    let h = taken.history in
    let last = c.histories_say_writes_and_keeps.ensures.last h taken.legal in
    let behind : IsRising (last_of 0 (writes_given h)) l.gathered = subst (λ (n : ℕ). IsRising n l.gathered) (ap (λ v. v.last) taken.version ∙ sym last) gathered in
    let rising : IsRising 0 ws = subst (IsRising 0) taken.writes (rising-append 0 (writes_given h) l.gathered (c.histories_say_writes_and_keeps.ensures.rising h taken.legal) behind) in
    let same : take (length all) all ≡ take (length all) plain = c.views_answer_as_their_writes.ensures.rows l ws [] None (length all) taken gathered in
    let first = ap (λ (rows : List (List ℕ × List ℕ)). length rows) (sym (take-length all) ∙ same) in
    let few = length-take (length all) plain in
    let rows = filtered_shorter {Y = List ℕ × List ℕ} (λ (key : List ℕ). option_map (λ (value : List ℕ). (key, value)) (value_of m ws key (last_of 0 ws))) (named_keys ws [] None) in
    let keys = keys_at_most ws [] None in
    let writes = rising_at_most 0 ws rising in
    let ends = c.views_answer_as_their_writes.ensures.last l ws taken in
    omega (arith, first, few, rows, keys, writes, ends)
