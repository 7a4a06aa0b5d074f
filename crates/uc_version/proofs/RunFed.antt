-- Writes that make one run, which are fed.
use Rattle.std.proofs.Common.{◌≡◌, ◌≢◌, ℕ, ◌+◌, ◌<◌, ◌^◌, true, List, [], ◌∷◌, length, refl, ap, ◌∙◌}
use Rattle.std.specs.Prelude.{nat_le, nat_lt, Option, Some, None}
use Rattle.std.proofs.lemmas.Bool.{lt-ltb}
use Rattle.uc_bytes.specs.declared.write.Write.{Write}
use Rattle.uc_batch.specs.Rising.{IsRising}
use Rattle.uc_claims.specs.declared.table.TheConstants.{MOST_SLOTS}
use Rattle.uc_version_state.specs.Versions.{Stored}
use Rattle.uc_version_state.specs.Flushes.{memtables}
use Rattle.uc_version_state.specs.Feeds.{memtables_in, first_feed_refusal, feed_refusal}
use Rattle.uc_run_entry.specs.Run.{Contents}
use Rattle.uc_run.specs.Size.{memtable_size}
use Rattle.uc_version.specs.Feeding.{MakesRun}

-- why they aren't fed, if they aren't
pub refusal_is : (v : Stored) (ws : List Write) → ws ≢ [] → IsRising v.last ws → memtables_in v ws ≡ ws ∷ [] →
    feed_refusal v ws ≡ first_feed_refusal v.last true (nat_le (length v.runs + 1) MOST_SLOTS) (nat_lt (v.next_id + 1) (2 ^ 64))
refusal_is v [] some rising one = absurd (some refl)
refusal_is v (w ∷ ws) some rising one =
    let ms = memtables_in v (w ∷ ws) in
    ap (λ b. first_feed_refusal v.last b (nat_le (length v.runs + length ms) MOST_SLOTS) (nat_lt (v.next_id + length ms) (2 ^ 64))) (lt-ltb v.last w.seq rising.0)
    ∙ ap (λ (ns : List (List Write)). first_feed_refusal v.last true (nat_le (length v.runs + length ns) MOST_SLOTS) (nat_lt (v.next_id + length ns) (2 ^ 64))) one

-- what the law of small writes says
abbrev pub FillOne : Type 0
FillOne = (limit : ℕ) (writes : List Write) → writes ≢ [] → memtable_size writes < limit → memtables limit writes ≡ writes ∷ []

-- they are fed if no number and no slot lacks
pub not_refused : FillOne → (v : Stored) (run : Contents) (last : ℕ) (ws : List Write) → MakesRun v run last ws →
    first_feed_refusal v.last true (nat_le (length v.runs + 1) MOST_SLOTS) (nat_lt (v.next_id + 1) (2 ^ 64)) ≡ None → feed_refusal v ws ≡ None
not_refused one v run last ws makes none = refusal_is v ws makes.some makes.rising (one v.limit ws makes.some makes.small) ∙ none
