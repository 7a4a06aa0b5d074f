use Rattle.uc_tool_ask.proofs.Later.{without_none}
use Rattle.uc_tool_ask.proofs.laws.nothing_later_leaves_all_writes.Goals as goal

pub returns : goal.returns
returns c writes = without_none writes
