-- The batches of a log, and one more.
use Rattle.std.proofs.Common.{◌≡◌, ℕ, ◌+◌, List, [], ◌∷◌, ◌++◌, None, Result, Ok, Err, sym, ap, subst, ◌∙◌, append_assoc}
use Rattle.std.proofs.lemmas.List.{append-nil}
use Rattle.uc_bytes.specs.declared.write.Write.{Write}
use Rattle.uc_logrec.specs.Log.{payload_text, text_from}
use Rattle.uc_batch.specs.declared.error.BatchError.{BatchError}
use Rattle.uc_batch.specs.Batch.{batch_of}
use Rattle.uc_batch.specs.Log.{Batches, after_batch, batches_of}
use Rattle.uc_batch.specs.Rising.{last_of}
use Rattle.uc_batch.proofs.Rises.{last_of-append}

abbrev pub whole : List Write → Batches
whole writes = record { writes = writes; refused = None }

-- the bytes of one payload
pub text_of_one : (offset : ℕ) (payload : List ℕ) → text_from offset (payload ∷ []) ≡ payload_text offset payload
unfolding text_from
text_of_one offset payload = append-nil (payload_text offset payload)

-- a payload that is added after a batch and its followers is added after the followers
push_behind : (go more : ℕ → Batches) (payload : List ℕ) (ws : List Write) (last number : ℕ) (read : Result (List Write) BatchError)
    → ((used : ℕ) → (go used).refused ≡ None → batch_of (last_of used (go used).writes) payload ≡ Ok ws → more used ≡ whole ((go used).writes ++ ws))
    → (after_batch go last number read).refused ≡ None → batch_of (last_of last (after_batch go last number read).writes) payload ≡ Ok ws
    → after_batch more last number read ≡ whole ((after_batch go last number read).writes ++ ws)
push_behind go more payload ws last number (Ok first) behind none e =
    let used = last_of last first in
    let others = (go used).writes in
    let there : batch_of (last_of used others) payload ≡ Ok ws = subst (λ (n : ℕ). batch_of n payload ≡ Ok ws) (last_of-append last first others) e in
    ap (λ (b : Batches). record { writes = first ++ b.writes; refused = b.refused }) (behind used none there)
    ∙ ap whole (sym (append_assoc first others ws))
push_behind go more payload ws last number (Err fault) behind none e = absurd cc

-- a payload after those that are read, if it is a batch after their last sequence number
pub batches_push : (payloads : List (List ℕ)) (payload : List ℕ) (ws : List Write) (last number : ℕ)
    → (batches_of last number payloads).refused ≡ None → batch_of (last_of last (batches_of last number payloads).writes) payload ≡ Ok ws
    → batches_of last number (payloads ++ payload ∷ []) ≡ whole ((batches_of last number payloads).writes ++ ws)
batches_push [] payload ws last number none e = rw e (ap whole (append-nil ws))
batches_push (first ∷ payloads) payload ws last number none e =
    push_behind (λ used. batches_of used (number + 1) payloads) (λ used. batches_of used (number + 1) (payloads ++ payload ∷ [])) payload ws last number (batch_of last first)
    (λ used. batches_push payloads payload ws used (number + 1)) none e

-- the same, if it is known what these are
pub batches_known : (payloads : List (List ℕ)) (payload : List ℕ) (writes ws : List Write) → batches_of 0 1 payloads ≡ whole writes → batch_of (last_of 0 writes) payload ≡ Ok ws
    → batches_of 0 1 (payloads ++ payload ∷ []) ≡ whole (writes ++ ws)
batches_known payloads payload writes ws known e =
    let same : (batches_of 0 1 payloads).writes ≡ writes = ap (λ (b : Batches). b.writes) known in
    batches_push payloads payload ws 0 1 (ap (λ (b : Batches). b.refused) known) (subst (λ (us : List Write). batch_of (last_of 0 us) payload ≡ Ok ws) (sym same) e)
    ∙ ap (λ (us : List Write). whole (us ++ ws)) same
