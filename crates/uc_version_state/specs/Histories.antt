-- Events of a store after its opening.
use Rattle.std.specs.Prelude.{ℕ, zero, suc, ◌+◌, ⊤, List, [], ◌∷◌, ◌++◌, Contains, fold, length}
use Rattle.std.specs.List.{flat_map}
use Rattle.uc_oper.specs.Operation.{Operation}
use Rattle.uc_bytes.specs.declared.write.Write.{Write}
use Rattle.uc_batch.specs.Rising.{last_of}
use Rattle.uc_version_state.specs.Versions.{Stored, ids_of}
use Rattle.uc_version_state.specs.Openings.{Opening, MayOpen, opened, rising}
use Rattle.uc_version_state.specs.Installs.{MayInstall, installed}
use Rattle.uc_version_state.specs.Feeds.{memtables_in, fed, MayFeed}
use Rattle.uc_version_state.specs.Snapshots.{with_keep, without_keep, kept, released}
use Rattle.uc_version_state.specs.declared.event.Event.{Event}
use Rattle.uc_version_state.specs.declared.event.Event.TheVariants.{Installed, Flushed, Kept, Released}

-- when it may happen to a version
abbrev pub MayHappen : Operation → Stored → Event → Type 0
MayHappen m v (Installed i) = MayInstall m v i
MayHappen m v (Flushed ws) = MayFeed v ws
MayHappen m v Kept = ⊤
MayHappen m v (Released seq) = Contains v.keeps seq

-- the version after it
abbrev pub after : Stored → Event → Stored
after v (Installed i) = installed i v
after v (Flushed ws) = fed ws v
after v Kept = kept v
after v (Released seq) = released seq v

-- the writes that it adds
abbrev pub writes_brought : Event → List Write
writes_brought (Installed i) = []
writes_brought (Flushed ws) = ws
writes_brought Kept = []
writes_brought (Released seq) = []

-- the runs that it replaces
abbrev pub ids_replaced : Event → List ℕ
ids_replaced (Installed i) = i.ids
ids_replaced (Flushed ws) = []
ids_replaced Kept = []
ids_replaced (Released seq) = []

-- an opening, and what happened since, the first event first
pub record History : Type 0 where
  pub opening : Opening
  pub events : List Event

-- events that may happen one after the other to a version
abbrev pub MayFollow : Operation → Stored → List Event → Type 0
MayFollow m v [] = ⊤
MayFollow m v (e ∷ es) = MayHappen m v e × MayFollow m (after v e) es

-- the store may open like this, and each event may happen to the version after those before it
pub record IsLegal (m : Operation) (h : History) : Type 0 where
  pub opens : MayOpen h.opening
  pub follow : MayFollow m (opened h.opening) h.events

-- the version after all of it
abbrev pub version_after : History → Stored
version_after h = fold after (opened h.opening) h.events

-- all the writes that the store was given, oldest first
abbrev pub writes_given : History → List Write
writes_given h = h.opening.writes ++ flat_map writes_brought h.events

-- `count` numbers in turn, from one on
abbrev pub numbers_from : ℕ → ℕ → List ℕ
numbers_from first zero = []
numbers_from first (suc count) = first ∷ numbers_from (first + 1) count

-- the ids that an event gives to new runs
abbrev pub ids_given : Stored → Event → List ℕ
ids_given v (Installed i) = v.next_id ∷ []
ids_given v (Flushed ws) = numbers_from v.next_id (length (memtables_in v ws))
ids_given v Kept = []
ids_given v (Released seq) = []

-- those of events one after the other
abbrev pub ids_given_from : Stored → List Event → List ℕ
ids_given_from v [] = []
ids_given_from v (e ∷ es) = ids_given v e ++ ids_given_from (after v e) es

-- all ids that a store gave to runs: at its opening, and since
abbrev pub all_ids_given : History → List ℕ
all_ids_given h = ids_of (opened h.opening).runs ++ ids_given_from (opened h.opening) h.events

-- all ids of runs that were replaced, of one event after the other
abbrev pub all_ids_replaced : History → List ℕ
all_ids_replaced h = flat_map ids_replaced h.events

-- ---- what is known without a run

-- the writes so far, and the sequences that are kept
pub record Known : Type 0 where
  pub writes : List Write
  pub keeps : List ℕ

-- what is known after an event: an install changes nothing of it
abbrev pub known_after : Known → Event → Known
known_after k (Installed i) = k
known_after k (Flushed ws) = record k { writes = k.writes ++ ws }
known_after k Kept = record k { keeps = with_keep (last_of 0 k.writes) k.keeps }
known_after k (Released seq) = record k { keeps = without_keep seq k.keeps }

-- what is known of an opening
abbrev pub known_at_first : Opening → Known
known_at_first o = record { writes = o.writes; keeps = rising (o.keeps ++ last_of 0 o.writes ∷ []) }

-- what is known after a history
abbrev pub known : History → Known
known h = fold known_after (known_at_first h.opening) h.events

-- ---- events that leave the keeps alone

-- no keep comes, and none goes
abbrev pub KeepsStay : List Event → Type 0
KeepsStay [] = ⊤
KeepsStay (Installed i ∷ es) = KeepsStay es
KeepsStay (Flushed ws ∷ es) = KeepsStay es
KeepsStay (Kept ∷ es) = ⊥
KeepsStay (Released seq ∷ es) = ⊥
