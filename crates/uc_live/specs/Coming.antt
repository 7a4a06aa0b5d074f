-- Where a live store comes from.
use Rattle.std.specs.Prelude.{◌≡◌, List, ◌++◌}
use Rattle.uc_bytes.specs.declared.write.Write.{Write}
use Rattle.uc_oper.specs.Operation.{Operation}
use Rattle.uc_version_state.specs.Histories.{History, IsLegal, version_after, writes_given}
use Rattle.uc_live.specs.Lives.{Live}

-- The store has taken these writes, oldest first: those that a legal history of its version was given, and those in memtables.
pub record HasTaken (m : Operation) (l : Live) (ws : List Write) : Type 0 where
  pub history : History
  pub legal : IsLegal m history
  pub version : l.version ≡ version_after history
  pub writes : writes_given history ++ l.gathered ≡ ws
