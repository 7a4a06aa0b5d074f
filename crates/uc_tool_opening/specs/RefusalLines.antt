-- The lines of refusals.
use Rattle.std.specs.Prelude.{ℕ, List, codes}
use Rattle.uc_version_compact.specs.declared.claim_error.ClaimError.{ClaimError}
use Rattle.uc_version_compact.specs.declared.claim_error.ClaimError.TheVariants as claim
use Rattle.uc_version_compact.specs.declared.install_error.InstallError.{InstallError}
use Rattle.uc_version_compact.specs.declared.install_error.InstallError.TheVariants as install
use Rattle.uc_version_state.specs.declared.feed_error.FeedError.{FeedError}
use Rattle.uc_version_state.specs.declared.feed_error.FeedError.TheVariants as feed
use Rattle.uc_tool_io.specs.Line.{numbered_line}

-- why a stretch isn't claimed; an owner of a store never says the last two
abbrev pub claim_refusal_line : ClaimError → List ℕ
claim_refusal_line claim.OutOfRange = codes "refused out of range\n"
claim_refusal_line claim.TooNarrow = codes "refused too narrow\n"
claim_refusal_line (claim.Busy slot) = numbered_line (codes "refused busy ") slot
claim_refusal_line claim.Moved = codes "refused moved\n"
claim_refusal_line claim.Memory = codes "out of memory\n"

-- why a compaction isn't installed; of what an owner compacted itself only the first is said
abbrev pub install_refusal_line : InstallError → List ℕ
install_refusal_line install.IdsSpent = codes "refused ids spent\n"
install_refusal_line install.WrongInputs = codes "refused wrong inputs\n"
install_refusal_line (install.WrongKeeps keep) = numbered_line (codes "refused wrong keeps ") keep
install_refusal_line install.Stale = codes "refused stale\n"
install_refusal_line install.Memory = codes "out of memory\n"

-- why writes aren't fed; a script, whose writes are numbered on, never sees the first and the last
abbrev pub feed_refusal_line : FeedError → List ℕ
feed_refusal_line (feed.Back last) = numbered_line (codes "refused back ") last
feed_refusal_line feed.TooManyRuns = codes "refused too many runs\n"
feed_refusal_line feed.IdsSpent = codes "refused ids spent\n"
feed_refusal_line feed.Memory = codes "out of memory\n"
