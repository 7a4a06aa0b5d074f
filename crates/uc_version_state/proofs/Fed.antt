-- A version after a feed is a version, and a feed without writes isn't rejected.
use Rattle.std.proofs.Common.{◌≤◌, List, arith}
use Rattle.uc_bytes.specs.declared.write.Write.{Write}
use Rattle.uc_batch.specs.Rising.{last_of}
use Rattle.uc_compact.proofs.NestedLists.{all-map}
use Rattle.uc_version_state.specs.Versions.{Stored, IsVersion}
use Rattle.uc_version_state.specs.Feeds.{fed, MayFeed}
use Rattle.uc_version_state.proofs.Memtables.{last_above, last_limit}
use Rattle.uc_version_state.proofs.Placing.{FlushesAreRuns, ArePlaced, placed_by}

pub placed_in : (v : Stored) → IsVersion v → ArePlaced v.next_id v.last v.runs
placed_in v is = record {
  runs_are = is.runs;
  newest_first = is.newest_first;
  below = is.below;
  slots_apart = is.slots_apart;
  slots_below = is.slots_below;
  ids_apart = is.ids_apart;
  ids_given = is.ids_given;
}

module _ (is_run : FlushesAreRuns) (v : Stored) (ws : List Write) (is : IsVersion v) (may : MayFeed v ws) where
  placed : ArePlaced (fed ws v).next_id (fed ws v).last (fed ws v).runs
  placed = placed_by is_run v ws may.rising may.few (placed_in v is)

  pub fed_is_version : IsVersion (fed ws v)
  fed_is_version = record {
    runs = placed.runs_are;
    newest_first = placed.newest_first;
    below = placed.below;
    keeps_rise = is.keeps_rise;
    keeps_below = all-map (λ keep. keep ≤ v.last) (λ keep. keep ≤ last_of v.last ws) (λ keep le. let up = last_above v.last ws may.rising in omega (arith, le, up)) v.keeps is.keeps_below;
    last_below = last_limit v.last ws is.last_below may.rising;
    slots_apart = placed.slots_apart;
    slots_below = placed.slots_below;
    ids_apart = placed.ids_apart;
    ids_given = placed.ids_given;
    id_below = may.ids_left;
    limit_some = is.limit_some;
  }
