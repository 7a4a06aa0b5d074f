use Rattle.std.proofs.Common.{◌≡◌, Some, None, refl, sym, ap, ◌∙◌}
use Rattle.std.specs.Prelude.{option_map}
use Rattle.std.specs.List.{slice_get}
use Rattle.uc_run_entry.specs.declared.entry.Entry.{Entry}
use Rattle.uc_run_entry.specs.Seek.{seek_place}
use Rattle.uc_run.proofs.LeastKey.{found_is_next}
use Rattle.uc_run.proofs.Rests.{head_there}
use Rattle.uc_run.proofs.run.Run.next_key.Goals as goal

pub returns-in_err-point : goal.returns-in_err-point
returns-in_err-point c =
    let low = c.args.low.now in
    let strict = c.args.strict in
    let points = c.args.self.now.points in
    let place = seek_place points low strict in
    let got : slice_get points place ≡ None = sym (ap (λ es. slice_get es 0) c.found.ensures ∙ head_there points place) ∙ sym c.first.ensures ∙ c.in_err-point.was in
    let there = ap (option_map (λ key. key.now)) c.from_residual.ensures ∙ sym (ap (option_map (λ (p : Entry). p.key)) got) in
    found_is_next low strict points place _ c.recall.ensures.points_sorted refl there

pub returns : goal.returns
returns c =
    let low = c.args.low.now in
    let strict = c.args.strict in
    let points = c.args.self.now.points in
    let place = seek_place points low strict in
    let got : slice_get points place ≡ Some c.in_ok-point.point = sym (ap (λ es. slice_get es 0) c.found.ensures ∙ head_there points place) ∙ sym c.first.ensures ∙ c.in_ok-point.was in
    let there = ap (λ key. Some key) c.key.ensures ∙ sym (ap (option_map (λ (p : Entry). p.key)) got) in
    found_is_next low strict points place (Some c.key.result.now) c.recall.ensures.points_sorted refl there
