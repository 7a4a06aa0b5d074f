-- Writes that a thread feeds to a shared store, as its reader sees them.
use Rattle.std.specs.Prelude.{List, [], ◌∷◌}
use mathlib.Core.List.{IsPrefix}
use Rattle.uc_bytes.specs.declared.write.Write.{Write}
use Rattle.uc_version_state.specs.declared.event.Event.{Event}
use Rattle.uc_version_state.specs.declared.event.Event.TheVariants.{Flushed}
use Rattle.uc_share.specs.Installing.{EndsWith}

-- After the events that were seen before, each of the writes was fed alone, in their order, possibly with events of other threads
-- between them.
abbrev pub AreFed : List Write → List Event → List Event → Type 0
AreFed [] old new = IsPrefix old new
AreFed (w ∷ ws) old new = (behind : List Event) × EndsWith old (Flushed (w ∷ [])) behind × AreFed ws behind new
