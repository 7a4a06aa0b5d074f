-- The result of one compaction of a log's store.
use Rattle.std.specs.Prelude.{◌≡◌}
use Rattle.uc_oper.specs.Operation.{Operation}
use Rattle.uc_version.specs.Owners.{Owner}
use Rattle.uc_tool.specs.Report.{Compactions, no_more, last_line, behind_line, after_pick, pick_of}
use Rattle.uc_tool.specs.declared.compaction_steps.Step.{Step}
use Rattle.uc_tool.specs.declared.compaction_steps.Step.TheVariants as step

-- what a step leads to, where others follow from what is then
abbrev pub after_step : Step → Owner → (Owner → Compactions) → Compactions
after_step step.Nothing o others = no_more o
after_step (step.Last line) o others = last_line line.items o
after_step (step.Compacted line) o others = behind_line line.items (others o)

-- the step is what is to be done next, and the store is left as it leaves it
abbrev pub IsStep : Operation → Owner → Step → Owner → Type 0
IsStep m old step new = (others : Owner → Compactions) → after_pick m old (pick_of old) others ≡ after_step step new others
