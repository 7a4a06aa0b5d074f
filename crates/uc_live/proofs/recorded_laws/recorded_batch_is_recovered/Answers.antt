use Rattle.std.proofs.Common.{◌≡◌, ℕ, ◌+◌, List, [], ◌∷◌, ◌++◌, length, ap, sym, subst, ◌∙◌}
use Rattle.uc_logrec.specs.declared.ending.Ending.TheVariants.{Clean}
use Rattle.uc_logrec.specs.Log.{payloads_of, ending_of}
use Rattle.uc_logrec.specs.Walk.{Walks, cut_and_added}
use Rattle.uc_batch.specs.Log.{batches_of, kept}
use Rattle.uc_live.specs.Writing.{numbered}
use Rattle.uc_batch.specs.Rising.{last_of}
use Rattle.uc_live.proofs.Recorded.{text_of_one, batches_known, whole}
use Rattle.uc_live.proofs.Later.{comes_after}
use Rattle.uc_live.proofs.recorded_laws.recorded_batch_is_recovered.Goals as goal

pub returns : goal.returns
returns c log offset last writes batch bytes has behind recorded =
    let payload = numbered last batch in
    let more = recorded.read.writes in
    let continued = cut_and_added log offset bytes in
    let known = batches_known has.payloads payload writes more has.read (comes_after (last_of 0 writes) last payload more behind recorded.read.is) in
    let on = c.log_goes_on.ensures log has.payloads offset has.walked (payload ∷ []) in
    let text = text_of_one offset payload ∙ sym recorded.text in
    let payloads : payloads_of continued ≡ has.payloads ++ payload ∷ [] = ap (λ (bs : List ℕ). payloads_of (cut_and_added log offset bs)) (sym text) ∙ on.same in
    let clean : ending_of continued ≡ Clean = ap (λ (bs : List ℕ). ending_of (cut_and_added log offset bs)) (sym text) ∙ on.clean in
    record {
      all = ap (λ (ps : List (List ℕ)). kept (batches_of 0 1 ps) (ending_of continued)) payloads
          ∙ (ap (λ (b : _). kept b (ending_of continued)) known ∙ ap (kept (whole (writes ++ more))) clean);
      goes_on = record {
        payloads = has.payloads ++ payload ∷ [];
        walked = subst (λ (bs : List ℕ). Walks (cut_and_added log offset bs) (has.payloads ++ payload ∷ []) (offset + length bs)) (sym recorded.text) (c.walk_goes_on.ensures log has.payloads offset has.walked payload);
        read = known;
      };
    }
