-- The output for queries, from the plain writes that a store was given.
use Rattle.std.specs.Prelude.{ℕ, List}
use Rattle.uc_oper.specs.Operation.{Operation}
use Rattle.uc_script.specs.declared.query.Query.{Query as Asked}
use Rattle.uc_version_state.specs.Histories.{History, version_after, writes_given}
use Rattle.uc_tool_ask.specs.Ask.{replies_to}

-- the lines of the answers to some lines of a head, after a history
abbrev pub replies_given : Operation → History → ℕ → List Asked → List (List ℕ)
replies_given m h last queries = replies_to m (writes_given h) (version_after h).keeps last queries
