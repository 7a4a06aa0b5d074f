-- The state after each call.
use Rattle.std.proofs.Common.{◌≡◌, ◌≢◌, ℕ, zero, suc, ◌-◌, ◌<◌, ◌≤◌, Bool, true, false, cond, ltb, List, [], ◌∷◌, length, get_or, set, ◌⊎◌, inl, inr, refl, sym, ap, ◌∙◌, subst, arith}
use Rattle.std.specs.Prelude.{◌^◌, ◌↔◌, ⊤, Option, Some, None, Result, Ok, Err}
use Rattle.std.proofs.lemmas.Bool.{cases_lt}
use Rattle.std.proofs.lemmas.Bool.Decides.{nat_tests}
use Rattle.std.proofs.lemmas.List.{set_past}
use Rattle.uc_oper.specs.Operation.{Operation}
use Rattle.uc_bytes.specs.declared.write.Write.{Write}
use Rattle.uc_batch.specs.Rising.{IsRising}
use Rattle.uc_batch.specs.WriteLog.{WriteLog}
use Rattle.uc_version_state.specs.declared.stretch.Stretch.{Stretch}
use Rattle.uc_version_state.specs.declared.event.Event.{Event}
use Rattle.uc_version_state.specs.declared.event.Event.TheVariants as event
use Rattle.uc_version_state.specs.declared.feed_error.FeedError.{FeedError}
use Rattle.uc_compact.specs.Inputs.{Compaction, Stand}
use Rattle.uc_version_state.specs.Versions.{Stored, ids_of}
use Rattle.uc_version_state.specs.Installs.{Install, MayInstall, installed}
use Rattle.uc_version_state.specs.Feeds.{feed_refusal, MayFeed}
use Rattle.uc_version_state.specs.Snapshots.{kept, released}
use Rattle.uc_version_state.specs.Picks.{picked}
use Rattle.uc_version_state.specs.Histories.{MayHappen, after, Known, known_after}
use Rattle.uc_version.specs.declared.held_stretch.TheConstants.{MOST_CLAIMS}
use Rattle.uc_version_compact.specs.declared.claim_error.ClaimError.{ClaimError}
use Rattle.uc_version_compact.specs.declared.install_error.InstallError.TheVariants.{IdsSpent}
use Rattle.uc_version.specs.Owners.{Owner, IsOwner, is_busy}
use Rattle.uc_version.specs.Picking.{candidates_of}
use Rattle.uc_version.specs.Claiming.{Claim, free_number, claim_refusal, claim_of, with_claim, is_held, without_claim}
use Rattle.uc_version.specs.Installing.{stretch_of, claimed_runs, compaction_of, IdLeft, MayReplace, after_install, install_of}
use Rattle.uc_version.specs.AtOnce.{install_at, after_compaction}
use Rattle.uc_version.specs.Feeding.{after_feed, after_keep, after_release}
use Rattle.uc_version.proofs.CompactedNow.{free}
use Rattle.uc_query_workers.specs.declared.ask_error.AskError.{AskError}
use Rattle.uc_query_workers.specs.Asking.{ask_refusal, answers_of}
use Rattle.uc_query_read.specs.declared.query.Query.{Query}
use Rattle.uc_query_read.specs.Answers.{is_protected}
use Rattle.uc_query.specs.declared.call.Call.{Call}
use Rattle.uc_query.specs.declared.call.Call.TheVariants as call
use Rattle.uc_query.specs.declared.reply.Reply.{Reply}
use Rattle.uc_query.specs.declared.reply.Reply.TheVariants.{Refused, Installed, NotInstalled, NoClaim, NameHeld, Compacted, Picked, Reported, Answers, NotFed, NotReleased}
use Rattle.uc_query.specs.Names.{State, AreHeld, with_name}
use Rattle.uc_query.specs.Reports.{report_of}
use Rattle.uc_query.specs.Turns.{Turn, Rises, replied, has_id, claimed, compacted, claimed_unless, claim_turn, install_turn, abandon_turn, compact_turn, ask_turn, feed_turn, keep_turn, release_turn, turn_of}
use Rattle.uc_query.specs.Answered.{known_then}
use Rattle.uc_query.proofs.NamesHeld.{not_free, held_beside, all_still, named_more, is_named, named_back, named_installed, held_compacted, held_fed, held_beneath}
use Rattle.uc_query.proofs.Keeping.{protected_is_kept}

-- what is known of owners
pub record OwnersStay (m : Operation) : Type 0 where
  pub claimed_stays : (o : Owner) (s : Stretch) → IsOwner o → claim_refusal o s ≡ None → IsOwner (with_claim o (claim_of o s) s)
  pub back_stays : (o : Owner) (c : Claim) → IsOwner o → is_held o c ≡ true → IsOwner (without_claim o c)
  pub installed_stays : (o : Owner) (c : Claim) (made : Compaction) → IsOwner o → is_held o c ≡ true → Stand made.inputs made.keeps →
      MayReplace o.version (stretch_of o c) made → IsOwner (after_install m o c made)
  pub is_held_then : (o : Owner) (s : Stretch) → IsOwner o → claim_refusal o s ≡ None → is_held (with_claim o (claim_of o s) s) (claim_of o s) ≡ true
  pub stand : (o : Owner) (c : Claim) → IsOwner o → is_held o c ≡ true →
      Stand (compaction_of o.version (stretch_of o c)).inputs (compaction_of o.version (stretch_of o c)).keeps
  pub may : (o : Owner) (c : Claim) → IsOwner o → is_held o c ≡ true → IdLeft o.version →
      MayReplace o.version (stretch_of o c) (compaction_of o.version (stretch_of o c))
  pub event_may : (o : Owner) (c : Claim) (made : Compaction) → IsOwner o → is_held o c ≡ true → Stand made.inputs made.keeps →
      MayReplace o.version (stretch_of o c) made → MayInstall m o.version (install_of m o.version (stretch_of o c) made)
  pub event_after : (o : Owner) (c : Claim) (made : Compaction) → IsOwner o → is_held o c ≡ true → Stand made.inputs made.keeps →
      MayReplace o.version (stretch_of o c) made → (after_install m o c made).version ≡ installed (install_of m o.version (stretch_of o c) made) o.version
  pub compaction_stays : (o : Owner) (s : Stretch) → IsOwner o → claim_refusal o s ≡ None → IdLeft o.version → IsOwner (after_compaction m o s)
  pub compaction_may : (o : Owner) (s : Stretch) → IsOwner o → claim_refusal o s ≡ None → IdLeft o.version → MayInstall m o.version (install_at m o.version s)
  pub fed_may : (v : Stored) (ws : List Write) → IsRising 0 ws → (feed_refusal v ws ≡ None) ↔ MayFeed v ws
  pub fed_stays : (o : Owner) (ws : List Write) → IsOwner o → MayFeed o.version ws → IsOwner (after_feed ws o)
  pub kept_stays : (o : Owner) → IsOwner o → IsOwner (after_keep o)
  pub let_go_stays : (o : Owner) (seq : ℕ) → IsOwner o → IsOwner (after_release seq o)

-- a version that stays, or that an event follows; what is known after the call's reply is what is known after that
abbrev pub Moves : Operation → Call → Reply → Stored → Stored → Type 0
Moves m x reply v w =
    ((w ≡ v) × ((k : Known) → known_then k x reply ≡ k))
    ⊎ ((e : Event) × MayHappen m v e × (w ≡ after v e) × ((k : Known) → known_then k x reply ≡ known_after k e))

-- what a call's turn leaves of a state
pub record Steps (m : Operation) (s : State) (x : Call) (turn : Turn) : Type 0 where
  pub owner : IsOwner turn.state.owner
  pub held : AreHeld turn.state.owner turn.state.names
  pub version : Moves m x turn.reply s.owner.version turn.state.owner.version

abbrev pub StepsIfOk : Operation → State → Call → Result Turn AskError → Type 0
StepsIfOk m s x (Ok turn) = Steps m s x turn
StepsIfOk m s x (Err error) = ⊤

-- an id is left
left_if : (n : ℕ) → ltb n (2 ^ 64 - 1) ≡ true → n ≢ 2 ^ 64 - 1
left_if n e same = let lt : n < 2 ^ 64 - 1 = grind (arith, nat_tests) in omega (arith, lt, same)

-- a name that stands for a claim is one of those that there are
found_below : (names : List (Option Claim)) (i : ℕ) (c : Claim) → get_or names i None ≡ Some c → i < length names
found_below [] i c e = absurd cc
found_below (x ∷ xs) zero c e = omega arith
found_below (x ∷ xs) (suc i) c e = let lt = found_below xs i c e in omega (arith, lt)

module _ (m : Operation) (owners : OwnersStay m) (s : State) (is_owner : IsOwner s.owner) (are : AreHeld s.owner s.names) where
  stays : (x : Call) (reply : Reply) → ((k : Known) → known_then k x reply ≡ k) → Steps m s x (replied s reply)
  stays x reply same = record { owner = is_owner; held = are; version = inl (refl, same) }

  -- what a held claim's install leaves
  module _ (o : Owner) (o_is : IsOwner o) (c : Claim) (held : is_held o c ≡ true) (id : has_id o.version ≡ true) where
    abbrev made : Compaction
    made = compaction_of o.version (stretch_of o c)

    may_replace : MayReplace o.version (stretch_of o c) made
    may_replace = owners.may o c o_is held (left_if o.version.next_id id)

    owner_then : IsOwner (compacted m o c)
    owner_then = owners.installed_stays o c made o_is held (owners.stand o c o_is held) may_replace

    version_then : (x : Call) (reply : Reply) → ((k : Known) → known_then k x reply ≡ k) → Moves m x reply o.version (compacted m o c).version
    version_then x reply same = inr (
      event.Installed (install_of m o.version (stretch_of o c) made),
      owners.event_may o c made o_is held (owners.stand o c o_is held) may_replace,
      owners.event_after o c made o_is held (owners.stand o c o_is held) may_replace,
      same,
    )

  claimed_names : (name : ℕ) (stretch : Stretch) → get_or s.names name None ≡ None → claim_refusal s.owner stretch ≡ None →
      (name < MOST_CLAIMS) ⊎ (MOST_CLAIMS ≤ name) → AreHeld (claimed s.owner stretch) (set s.names name (Some (claim_of s.owner stretch)))
  claimed_names name stretch empty fine (inl room) = named_more s.owner s.names are name room stretch empty (owners.is_held_then s.owner stretch is_owner fine)
  claimed_names name stretch empty fine (inr past) =
      subst (AreHeld (claimed s.owner stretch)) (sym (set_past s.names name (Some (claim_of s.owner stretch)) (let e = are.count in omega (arith, e, past))))
      (record {
        count = are.count;
        held = all_still s.owner (claimed s.owner stretch) s.names (λ d some h. held_beside s.owner d (free_number s.owner.claims) _ h (not_free s.owner d (free_number s.owner.claims) h (free s.owner.claims))) are.held;
        apart = are.apart;
      })

  claims_on : (name : ℕ) (stretch : Stretch) → get_or s.names name None ≡ None → (refusal : Option ClaimError) → claim_refusal s.owner stretch ≡ refusal → Steps m s (call.Claim name stretch) (claimed_unless s name stretch refusal)
  claims_on name stretch empty (Some error) e = stays (call.Claim name stretch) (Refused error) (λ k. refl)
  claims_on name stretch empty None e = record {
    owner = owners.claimed_stays s.owner stretch is_owner e;
    held = claimed_names name stretch empty e (cases_lt name MOST_CLAIMS);
    version = inl (refl, λ k. refl);
  }

  claim_steps : (name : ℕ) (stretch : Stretch) (found : Option Claim) → get_or s.names name None ≡ found → Steps m s (call.Claim name stretch) (claim_turn s name stretch found)
  claim_steps name stretch (Some c) e = stays (call.Claim name stretch) (NameHeld name) (λ k. refl)
  claim_steps name stretch None e = claims_on name stretch e (claim_refusal s.owner stretch) refl

  room_of : (name : ℕ) (c : Claim) → get_or s.names name None ≡ Some c → name < MOST_CLAIMS
  room_of name c e = let lt = found_below s.names name c e in let count = are.count in omega (arith, lt, count)

  installs_on : (name : ℕ) (c : Claim) → get_or s.names name None ≡ Some c → (b : Bool) → has_id s.owner.version ≡ b →
      Steps m s (call.Install name)
      (cond b (record { reply = Installed s.owner.version.next_id; state = with_name s (compacted m s.owner c) name None }) (replied s (NotInstalled IdsSpent)))
  installs_on name c e false id = stays (call.Install name) (NotInstalled IdsSpent) (λ k. refl)
  installs_on name c e true id =
      let room = room_of name c e in
      let held = is_named s.owner s.names are name room c e in
      record {
        owner = owner_then s.owner is_owner c held id;
        held = named_installed s.owner s.names are name room c e m;
        version = version_then s.owner is_owner c held id (call.Install name) (Installed s.owner.version.next_id) (λ k. refl);
      }

  version_if : (b : Bool) → b ≡ true → (one other : Turn) → (cond b one other).state.owner.version ≡ one.state.owner.version
  version_if true e one other = refl
  version_if false e one other = absurd cc

  -- an install under a name replaces the runs that this name claimed
  pub install_replaces : (name : ℕ) (c : Claim) → get_or s.names name None ≡ Some c → has_id s.owner.version ≡ true →
      (i : Install) × (i.ids ≡ ids_of (claimed_runs s.owner c)) × MayInstall m s.owner.version i × ((install_turn m s name (get_or s.names name None)).state.owner.version ≡ installed i s.owner.version)
  install_replaces name c here id =
      let held = is_named s.owner s.names are name (room_of name c here) c here in
      let may = may_replace s.owner is_owner c held id in
      let stand = owners.stand s.owner c is_owner held in (
        install_of m s.owner.version (stretch_of s.owner c) (made s.owner is_owner c held id),
        refl,
        owners.event_may s.owner c (made s.owner is_owner c held id) is_owner held stand may,
        ap (λ (found : Option Claim). (install_turn m s name found).state.owner.version) here
            ∙ version_if (has_id s.owner.version) id _ _
            ∙ owners.event_after s.owner c (made s.owner is_owner c held id) is_owner held stand may,
      )

  install_steps : (name : ℕ) (found : Option Claim) → get_or s.names name None ≡ found → Steps m s (call.Install name) (install_turn m s name found)
  install_steps name None e = stays (call.Install name) (NoClaim name) (λ k. refl)
  install_steps name (Some c) e = installs_on name c e (has_id s.owner.version) refl

  abandon_steps : (name : ℕ) (found : Option Claim) → get_or s.names name None ≡ found → Steps m s (call.Abandon name) (abandon_turn s name found)
  abandon_steps name None e = stays (call.Abandon name) (NoClaim name) (λ k. refl)
  abandon_steps name (Some c) e =
      let room = room_of name c e in
      record {
        owner = owners.back_stays s.owner c is_owner (is_named s.owner s.names are name room c e);
        held = named_back s.owner s.names are name room c e;
        version = inl (refl, λ k. refl);
      }

  compacts_on : (stretch : Stretch) → claim_refusal s.owner stretch ≡ None → (b : Bool) → has_id s.owner.version ≡ b →
      Steps m s (call.Compact stretch)
      (cond b (record { reply = Compacted s.owner.version.next_id; state = record s { owner = after_compaction m s.owner stretch } }) (replied s (NotInstalled IdsSpent)))
  compacts_on stretch e false id = stays (call.Compact stretch) (NotInstalled IdsSpent) (λ k. refl)
  compacts_on stretch e true id =
      let left = left_if s.owner.version.next_id id in
      record {
        owner = owners.compaction_stays s.owner stretch is_owner e left;
        held = held_compacted m s.owner stretch s.names are;
        version = inr (event.Installed (install_at m s.owner.version stretch), owners.compaction_may s.owner stretch is_owner e left, refl, λ k. refl);
      }

  compact_steps : (stretch : Stretch) (refusal : Option ClaimError) → claim_refusal s.owner stretch ≡ refusal → Steps m s (call.Compact stretch) (compact_turn m s stretch refusal)
  compact_steps stretch (Some error) e = stays (call.Compact stretch) (Refused error) (λ k. refl)
  compact_steps stretch None e = compacts_on stretch e (has_id s.owner.version) refl

  ask_steps : (queries : List Query) (workers piece : ℕ) (refusal : Option AskError) → StepsIfOk m s (call.Ask queries workers piece) (ask_turn m s queries refusal)
  ask_steps queries workers piece (Some error) = tt
  ask_steps queries workers piece None = stays (call.Ask queries workers piece) (Answers (answers_of m s.owner.version queries)) (λ k. refl)

  feed_steps : (writes : WriteLog) → IsRising 0 writes.list → (refusal : Option FeedError) → feed_refusal s.owner.version writes.list ≡ refusal →
      Steps m s (call.Feed writes) (feed_turn s writes.list refusal)
  feed_steps writes rising (Some error) e = stays (call.Feed writes) (NotFed error) (λ k. refl)
  feed_steps writes rising None e =
      let may = (owners.fed_may s.owner.version writes.list rising).0 e in
      record {
        owner = owners.fed_stays s.owner writes.list is_owner may;
        held = held_fed writes.list s.owner s.names are;
        version = inr (event.Flushed writes.list, may, refl, λ k. refl);
      }

  keep_steps : Steps m s call.Keep (keep_turn s)
  keep_steps = record {
    owner = owners.kept_stays s.owner is_owner;
    held = held_beneath s.owner (kept s.owner.version) s.names are;
    version = inr (event.Kept, tt, refl, λ k. refl);
  }

  release_steps : (seq : ℕ) (b : Bool) → is_protected s.owner.version.keeps seq ≡ b → Steps m s (call.Release seq) (release_turn s seq b)
  release_steps seq false e = stays (call.Release seq) (NotReleased seq) (λ k. refl)
  release_steps seq true e = record {
    owner = owners.let_go_stays s.owner seq is_owner;
    held = held_beneath s.owner (released seq s.owner.version) s.names are;
    version = inr (event.Released seq, protected_is_kept seq s.owner.version.keeps e, refl, λ k. refl);
  }

  pub steps : (x : Call) → Rises x → StepsIfOk m s x (turn_of m s x)
  steps (call.Claim name stretch) rises = claim_steps name stretch (get_or s.names name None) refl
  steps (call.Install name) rises = install_steps name (get_or s.names name None) refl
  steps (call.Abandon name) rises = abandon_steps name (get_or s.names name None) refl
  steps (call.Compact stretch) rises = compact_steps stretch (claim_refusal s.owner stretch) refl
  steps call.Pick rises = stays call.Pick (Picked (picked s.owner.options (candidates_of s.owner.version (is_busy s.owner)))) (λ k. refl)
  steps call.Report rises = stays call.Report (Reported (report_of s.owner.version)) (λ k. refl)
  steps (call.Ask queries workers piece) rises = ask_steps queries workers piece (ask_refusal workers piece)
  steps (call.Feed writes) rises = feed_steps writes rises (feed_refusal s.owner.version writes.list) refl
  steps call.Keep rises = keep_steps
  steps (call.Release seq) rises = release_steps seq (is_protected s.owner.version.keeps seq) refl
