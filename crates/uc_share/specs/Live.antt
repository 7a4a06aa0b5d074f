-- Writes that are fed to a shared store, and snapshots that come and go.
use Rattle.std.specs.Prelude.{◌≡◌, ◌⊎◌, ℕ, Some, None, List, Contains}
use Rattle.uc_bytes.specs.declared.write.Write.{Write}
use Rattle.uc_version_state.specs.Versions.{Stored}
use Rattle.uc_version_state.specs.Feeds.{feed_refusal}
use Rattle.uc_version_state.specs.declared.feed_error.FeedError.{FeedError}
use Rattle.uc_version_state.specs.declared.feed_error.FeedError.TheVariants as feed_error
use Rattle.uc_version_state.specs.declared.release_error.ReleaseError.{ReleaseError}
use Rattle.uc_version_state.specs.declared.release_error.ReleaseError.TheVariants.{NotKept, Memory}

-- Why writes aren't fed, if this is the version that the caller has seen then. `Memory` is returned only if nothing else is against
-- them. So they weren't fed: they would be at or below its last sequence number.
abbrev pub IsFeedRefused : Stored → List Write → FeedError → Type 0
IsFeedRefused present ws error =
    (feed_refusal present ws ≡ Some error) ⊎ ((feed_refusal present ws ≡ None) × (error ≡ feed_error.Memory))

-- Why a sequence number isn't released, if this is the version that the caller has seen then. `Memory` is returned only for a keep.
abbrev pub IsReleaseRefused : Stored → ℕ → ReleaseError → Type 0
IsReleaseRefused present seq (NotKept named) = (named ≡ seq) × ¬ Contains present.keeps seq
IsReleaseRefused present seq Memory = Contains present.keeps seq
