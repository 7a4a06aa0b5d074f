-- Writes that were fed, as a reader later sees them.
use Rattle.std.proofs.Common.{◌≡◌, ℕ, List, [], ◌∷◌, ◌++◌, length, take, ap, sym, ◌∙◌}
use Rattle.std.proofs.Math.Seq.{take-append_seam}
use mathlib.Core.List.{IsPrefix}
use Rattle.uc_bytes.specs.declared.write.Write.{Write}
use Rattle.uc_version_state.specs.declared.event.Event.{Event}
use Rattle.uc_version_state.specs.declared.event.Event.TheVariants.{Flushed}
use Rattle.uc_share.specs.Installing.{EndsWith}
use Rattle.uc_share.proofs.Prefixes.{prefix_self, prefix_behind}
use Rattle.uc_tool_ask.specs.Feeding.{AreFed}

-- what is seen later changes nothing
pub seen_on : (ws : List Write) (old now later : List Event) → AreFed ws old now → IsPrefix now later → AreFed ws old later
seen_on [] old now later fed on = prefix_behind old now later fed on
seen_on (w ∷ ws) old now later fed on = (fed.0, fed.1, seen_on ws fed.0 now later fed.2 on)

-- one write more
pub fed_more : (ws : List Write) (w : Write) (old now later : List Event) → AreFed ws old now → EndsWith now (Flushed (w ∷ [])) later → AreFed (ws ++ w ∷ []) old later
fed_more [] w old now later fed ends = (later, (ends.0, prefix_behind old now ends.0 fed ends.1, ends.2), prefix_self later)
fed_more (v ∷ ws) w old now later fed ends = (fed.0, fed.1, fed_more ws w fed.0 now later fed.2 ends)

-- as many as were yielded are the first ones
pub first_are : (fed : ℕ) (yielded rest all : List Write) → fed ≡ length yielded → yielded ++ rest ≡ all → take fed all ≡ yielded
first_are fed yielded rest all count whole =
    ap (λ (n : ℕ). take n all) count ∙ ap (take (length yielded)) (sym whole) ∙ take-append_seam yielded rest
