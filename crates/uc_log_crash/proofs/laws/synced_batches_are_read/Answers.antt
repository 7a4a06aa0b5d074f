use Rattle.std.proofs.Common.{ℕ, List, subst, drop}
use Rattle.uc_logrec.specs.Walk.{Walks}
use Rattle.uc_log_crash.proofs.Shown.{is_cut}
use Rattle.uc_log_crash.proofs.laws.synced_batches_are_read.Goals as goal

pub returns : goal.returns
returns c = λ written shown synced before walk shows.
    subst (λ (log : List ℕ). Walks log before synced) (is_cut written shown synced shows) (c.walk_is_kept.ensures written before synced walk (drop synced shown))
