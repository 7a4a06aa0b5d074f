-- Claims continue to hold their runs when writes are fed.
use Rattle.std.proofs.Common.{◌≡◌, ℕ, true, zero, suc, ◌+◌, ◌<◌, ◌≤◌, List, [], ◌∷◌, ◌++◌, Option, Some, None, length, length-append, map, get_or, take, drop, refl, sym, ap, ◌∙◌, subst, arith}
use Rattle.std.specs.Prelude.{◌^◌, Result, Ok, Err, OnOk, OnErr, IfSome}
use Rattle.std.specs.List.{AllByRecursion, flat_map}
use Rattle.std.proofs.lemmas.List.{append_assoc, length-map}
use Rattle.std.proofs.Math.Seq.{drop-append-add}
use Rattle.std.proofs.Math.ListN.{get_or-map}
use Rattle.uc_bytes.specs.declared.write.Write.{Write}
use Rattle.uc_claims.specs.Claims.{times}
use Rattle.uc_claims.specs.Holding.{AreDistinct}
use Rattle.uc_run.specs.Flush.{flushed}
use Rattle.uc_version_state.specs.Versions.{PlacedRun, Stored, IsVersion, ids_of, slots_of}
use Rattle.uc_version_state.specs.Installs.{part_of, newest_id}
use Rattle.uc_version_state.specs.Flushes.{least_free, with_run, flushed_onto}
use Rattle.uc_version_state.specs.Feeds.{memtables_in, fed}
use Rattle.uc_version_state.specs.Snapshots.{kept, released}
use Rattle.uc_version_state.proofs.Few.{few_runs}
use Rattle.uc_version_state.proofs.Placing.{count_flushed}
use Rattle.uc_version_state.proofs.Snapped.{kept_is_version, released_is_version}
use Rattle.uc_version.specs.declared.held_stretch.HeldStretch.{HeldStretch}
use Rattle.uc_version.specs.Owners.{Owner, IsOwner, Stands, runs_held, slots_held, claimed_slots, last_id}
use Rattle.uc_version.specs.Claiming.{Claim, has_ids, is_held}
use Rattle.uc_version.specs.Installing.{stretch_in, claimed_runs}
use Rattle.uc_version.specs.HeldOwners.{owner, IsOwned}
use Rattle.uc_version.specs.declared.owned.Owned.TheInside.{Inside}
use Rattle.uc_version.specs.Feeding.{moved_down, after_feed, after_keep, after_release}

-- the runs of memtables stand in front of the older ones, one for each
front : (id : ℕ) (runs : List PlacedRun) (ps : List (List Write)) → (new : List PlacedRun) × (flushed_onto id runs ps ≡ new ++ runs) × (length new ≡ length ps)
front id runs [] = ([], refl, refl)
front id runs (p ∷ ps) =
    let new : PlacedRun = record { id = id; slot = least_free (slots_of runs); run = flushed p } in
    let rest = front (id + 1) (with_run id runs (flushed p)) ps in
    let long = length-append rest.0 (new ∷ []) in
    let count = rest.2 in
    (rest.0 ++ new ∷ [], rest.1 ∙ sym (append_assoc rest.0 (new ∷ []) runs), omega (arith, long, count))

part_behind : (new runs : List PlacedRun) (first count : ℕ) → part_of (first + length new) count (new ++ runs) ≡ part_of first count runs
part_behind new runs first count =
    ap (λ n. take count (drop n (new ++ runs))) (let e : first + length new ≡ length new + first = omega arith in e)
    ∙ ap (take count) (drop-append-add new runs first)

-- a stretch still has a place after `count` more runs
abbrev pub Fits : ℕ → Option HeldStretch → Type 0
Fits count held = IfSome held (λ h. h.first + count < 2 ^ 63)

fits_at : (count : ℕ) (cs : List (Option HeldStretch)) (n : ℕ) → n < length cs → AllByRecursion (Fits count) cs → Fits count (get_or cs n None)
fits_at count [] n lt all = absurd (omega (arith, lt))
fits_at count (c ∷ cs) zero lt all = all.0
fits_at count (c ∷ cs) (suc n) lt all = fits_at count cs n (omega (arith, lt)) all.1

-- what wasn't moved yet is as it was
at_behind : (f : Option HeldStretch → Option HeldStretch) (cs : List (Option HeldStretch)) (n : ℕ) → n < length cs → get_or (map f (take n cs) ++ drop n cs) n None ≡ get_or cs n None
at_behind f [] n lt = absurd (omega (arith, lt))
at_behind f (c ∷ cs) zero lt = refl
at_behind f (c ∷ cs) (suc n) lt = at_behind f cs n (omega (arith, lt))

pub next_fits : (count : ℕ) (f : Option HeldStretch → Option HeldStretch) (cs now : List (Option HeldStretch)) (n : ℕ) → n < length cs → now ≡ map f (take n cs) ++ drop n cs → AllByRecursion (Fits count) cs → Fits count (get_or now n None)
next_fits count f cs now n lt so_far all =
    subst (Fits count) (sym (ap (λ (ds : List (Option HeldStretch)). get_or ds n None) so_far ∙ at_behind f cs n lt)) (fits_at count cs n lt all)

module _ (v : Stored) (ws : List Write) where
  abbrev count : ℕ
  count = length (memtables_in v ws)

  pub runs_counted : length (fed ws v).runs ≡ length v.runs + count
  runs_counted = count_flushed v.next_id v.runs (memtables_in v ws)

  runs_stay : (h : HeldStretch) → runs_held (fed ws v) (record h { first = h.first + count }) ≡ runs_held v h
  runs_stay h =
      let f = front v.next_id v.runs (memtables_in v ws) in
      ap (λ (rs : List PlacedRun). part_of (h.first + count) h.count rs) f.1
      ∙ ap (λ n. part_of (h.first + n) h.count (f.0 ++ v.runs)) (sym f.2)
      ∙ part_behind f.0 v.runs h.first h.count

  slots_stay : (c : Option HeldStretch) → slots_held (fed ws v) (moved_down count c) ≡ slots_held v c
  slots_stay None = refl
  slots_stay (Some h) = ap slots_of (runs_stay h)

  all_slots_stay : (cs : List (Option HeldStretch)) → flat_map (slots_held (fed ws v)) (map (moved_down count) cs) ≡ flat_map (slots_held v) cs
  all_slots_stay [] = refl
  all_slots_stay (c ∷ cs) =
      ap (λ (s : List ℕ). s ++ flat_map (slots_held (fed ws v)) (map (moved_down count) cs)) (slots_stay c) ∙ ap (λ (s : List ℕ). slots_held v c ++ s) (all_slots_stay cs)

  stands_on : (c : Option HeldStretch) → Stands v c → Stands (fed ws v) (moved_down count c)
  stands_on None stands = tt
  stands_on (Some h) stands = (
    stands.0,
    (let within : h.first + h.count ≤ length v.runs = stands.1 in let e = runs_counted in omega (arith, within, e)),
    subst (λ (rs : List PlacedRun). (h.newest ≡ newest_id (ids_of rs)) × (h.oldest ≡ last_id (ids_of rs))) (sym (runs_stay h)) stands.2,
  )

  all_stand_on : (cs : List (Option HeldStretch)) → AllByRecursion (Stands v) cs → AllByRecursion (Stands (fed ws v)) (map (moved_down count) cs)
  all_stand_on [] all = tt
  all_stand_on (c ∷ cs) all = (stands_on c all.0, all_stand_on cs all.1)

  -- their places are small numbers
  pub all_fit : IsVersion (fed ws v) → (cs : List (Option HeldStretch)) → AllByRecursion (Stands v) cs → AllByRecursion (Fits count) cs
  all_fit is [] all = tt
  all_fit is (c ∷ cs) all = (fits c all.0, all_fit is cs all.1)
    where
      fits : (held : Option HeldStretch) → Stands v held → Fits count held
      fits None stands = tt
      fits (Some h) stands = let within : h.first + h.count ≤ length v.runs = stands.1 in let few = few_runs (fed ws v) is in let e = runs_counted in omega (arith, within, few, e)

module _ (o : Owner) (is : IsOwner o) where
  pub slots_fed : (ws : List Write) → claimed_slots (after_feed ws o) ≡ claimed_slots o
  slots_fed ws = all_slots_stay o.version ws o.claims

  pub owner_fed : (ws : List Write) → IsVersion (fed ws o.version) → IsOwner (after_feed ws o)
  owner_fed ws is_version = record {
    version = is_version;
    options_good = is.options_good;
    numbers = length-map o.claims (moved_down (length (memtables_in o.version ws))) ∙ is.numbers;
    stand = all_stand_on o.version ws o.claims is.stand;
    apart = subst AreDistinct (sym (slots_fed ws)) is.apart;
  }

  -- other keeps leave the runs alone
  pub owner_kept : IsOwner (after_keep o)
  owner_kept = record {
    version = kept_is_version o.version is.version;
    options_good = is.options_good;
    numbers = is.numbers;
    stand = is.stand;
    apart = is.apart;
  }

  pub owner_released : (seq : ℕ) → IsOwner (after_release seq o)
  owner_released seq = record {
    version = released_is_version seq o.version is.version;
    options_good = is.options_good;
    numbers = is.numbers;
    stand = is.stand;
    apart = is.apart;
  }

-- ---- what a claim has

-- a stretch that moves down has its ids
ids_go_on : (more : ℕ) (found : Option HeldStretch) (c : Claim) → has_ids (moved_down more found) c ≡ has_ids found c
ids_go_on more None c = refl
ids_go_on more (Some h) c = refl

runs_go_on : (v : Stored) (ws : List Write) (found : Option HeldStretch) → runs_held (fed ws v) (stretch_in (moved_down (length (memtables_in v ws)) found)) ≡ runs_held v (stretch_in found)
runs_go_on v ws None = refl
runs_go_on v ws (Some h) = runs_stay v ws h

pub claim_fed : (o : Owner) (c : Claim) (ws : List Write) → is_held o c ≡ true → (is_held (after_feed ws o) c ≡ true) × (claimed_runs (after_feed ws o) c ≡ claimed_runs o c)
claim_fed o c ws held =
    let more = length (memtables_in o.version ws) in
    let at = get_or-map (moved_down more) o.claims c.number None in (
      ap (λ (found : Option HeldStretch). has_ids found c) at ∙ ids_go_on more (get_or o.claims c.number None) c ∙ held,
      ap (λ (found : Option HeldStretch). runs_held (fed ws o.version) (stretch_in found)) at ∙ runs_go_on o.version ws (get_or o.claims c.number None),
    )

-- ---- what is held

module _ {O : Type 0} (i : Inside O) (is : IsOwned i) where
  pub fed_is_owned : (ws : List Write) (next : Stored) (claims : List (Option HeldStretch)) → IsVersion (fed ws i.version) → next ≡ fed ws i.version → claims ≡ map (moved_down (length (memtables_in i.version ws))) i.claims →
      IsOwned (record i { version = next; claims = claims })
  fed_is_owned ws next claims is_version next_is claims_are =
      subst (λ (v : Stored). IsOwned (record i { version = v; claims = claims })) (sym next_is)
      (subst (λ (cs : List (Option HeldStretch)). IsOwned (record i { version = fed ws i.version; claims = cs })) (sym claims_are)
      (record {
        owner_is = owner_fed (owner i) is.owner_is ws is_version;
        count = is.count;
        table = is.table;
        whole = is.whole;
        slots = λ slot. is.slots slot ∙ ap (times slot) (sym (slots_fed (owner i) is.owner_is ws));
      }))

  kept_is_owned : IsOwned (record i { version = kept i.version })
  kept_is_owned = record { owner_is = owner_kept (owner i) is.owner_is; count = is.count; table = is.table; whole = is.whole; slots = is.slots }

  -- whether it could be kept or not
  pub kept_or_not : {T E : Type 0} (r : Result T E) (next : Stored) → OnOk r (next ≡ kept i.version) → OnErr r (next ≡ i.version) → IsOwned (record i { version = next })
  kept_or_not (Ok done) next ok err = subst (λ (v : Stored). IsOwned (record i { version = v })) (sym ok) kept_is_owned
  kept_or_not (Err error) next ok err = subst (λ (v : Stored). IsOwned (record i { version = v })) (sym err) is

  pub released_is_owned : (seq : ℕ) (next : Stored) → next ≡ released seq i.version → IsOwned (record i { version = next })
  released_is_owned seq next is_next =
      subst (λ (v : Stored). IsOwned (record i { version = v })) (sym is_next)
      (record { owner_is = owner_released (owner i) is.owner_is seq; count = is.count; table = is.table; whole = is.whole; slots = is.slots })
