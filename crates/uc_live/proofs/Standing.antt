-- Stores that stand for writes: what happens to them, and what they answer.
use Rattle.std.proofs.Common.{◌≡◌, ℕ, ◌+◌, ◌≤◌, length, true, false, Bool, List, [], ◌∷◌, ◌++◌, Contains, inl, inr, ⊎_elim, fold, refl, sym, ap, ◌∙◌, subst, append_assoc, arith}
use Rattle.std.specs.Prelude.{None, Option, if◌then◌else◌}
use Rattle.std.specs.List.{AllByRecursion, flat_map}
use Rattle.std.proofs.lemmas.List.{append-nil}
use Rattle.uc_oper.specs.Operation.{Operation, IsLawful}
use Rattle.uc_oper.specs.Composition.{applied}
use Rattle.uc_bytes.specs.declared.write.Write.{Write}
use Rattle.uc_batch.specs.Rising.{IsRising, last_of}
use Rattle.uc_batch.proofs.Rises.{last_of-append}
use Rattle.uc_model.specs.Meaning.{effect_on, value_of}
use Rattle.uc_model.proofs.MeaningLaws.{effect_gives, effect_continues}
use Rattle.uc_model.proofs.Members.{contains_nothing}
use Rattle.uc_run_entry.specs.Run.{Contents}
use Rattle.uc_compact.specs.Inputs.{writes_of}
use Rattle.uc_compact.specs.Reading.{IsReadAt}
use Rattle.uc_version_state.specs.Versions.{Stored, IsVersion, contents_of, writes_in}
use Rattle.uc_version_state.specs.Feeds.{fed, MayFeed}
use Rattle.uc_version_state.specs.Snapshots.{released}
use Rattle.uc_version_state.specs.declared.event.Event.{Event}
use Rattle.uc_version_state.specs.declared.event.Event.TheVariants.{Installed, Flushed, Kept, Released}
use Rattle.uc_version_state.specs.Histories.{History, MayHappen, MayFollow, IsLegal, after, version_after, writes_brought, writes_given}
use Rattle.uc_version_state.proofs.Along.{version_stays}
use Rattle.uc_version_state.proofs.Replacing as replacing
use Rattle.uc_version_state.proofs.Memtables.{last_above}
use Rattle.uc_version_state.proofs.Placing.{FlushesAreRuns, FlushesKeepEffects, effects_fed}
use Rattle.uc_version_state.proofs.Snapped.{among_kept, among_released}
use Rattle.uc_live.specs.Lives as lives
use Rattle.uc_live.specs.Lives.{Live}
use Rattle.uc_live.specs.Going.{GoesOn}
use Rattle.uc_live.specs.Snapshots.{TakesSnapshot, with_snapshot, without_one, is_among, without_snapshot}
use Rattle.uc_live.specs.Coming.{HasTaken}
use Rattle.uc_live.specs.Standing.{ReadsAs, StandsFor}

-- rising writes are no more than the sequence numbers that they span
rising_span : (last : ℕ) (ws : List Write) → IsRising last ws → last + length ws ≤ last_of last ws
rising_span last [] rising = omega (arith)
rising_span last (w ∷ ws) rising = let up = rising_span w.seq ws rising.2 in let above = rising.0 in omega (arith, up, above)

-- no sequence number is between the newest run and memtables that have as many writes as there are sequence numbers above the run
pub newest_ends : (v : Stored) (newest : Contents) (older : List Contents) (gathered : List Write) → IsVersion v → IsRising v.last gathered →
    contents_of v.runs ≡ newest ∷ older → newest.high + length gathered ≡ last_of v.last gathered → newest.high ≡ v.last
newest_ends v newest older gathered version rising runs span =
    let below = (subst (λ (cs : List Contents). AllByRecursion (λ (r : Contents). r.high ≤ v.last) cs) runs version.below).0 in
    let up = rising_span v.last gathered rising in
    omega (arith, below, up, span)

last_brought : (v : Stored) (e : Event) → (after v e).last ≡ last_of v.last (writes_brought e)
last_brought v (Installed i) = refl
last_brought v (Flushed ws) = refl
last_brought v Kept = refl
last_brought v (Released seq) = refl

module _ (m : Operation) where
  -- ---- how they begin

  pub stands_taken : (l : Live) (ws : List Write) → ((h : History) → IsLegal m h → IsVersion (version_after h)) →
      ((h : History) (key : List ℕ) (at : ℕ) → IsLegal m h → IsReadAt (version_after h).keeps (version_after h).last at → value_of m (writes_in (version_after h)) key at ≡ value_of m (writes_given h) key at) →
      ((h : History) → IsLegal m h → last_of 0 (writes_given h) ≡ (version_after h).last) → HasTaken m l ws → StandsFor m l ws
  stands_taken l ws version values last taken =
      let h = taken.history in
      record {
        older = writes_given h;
        reads = subst (λ (v : Stored). ReadsAs m v (writes_given h)) (sym taken.version) (record {
          version = version h taken.legal;
          last = last h taken.legal;
          values = λ key at. values h key at taken.legal;
        });
        writes = taken.writes;
      }

  -- ---- the runs of another store

  no_keep : (keeps : List ℕ) (last at : ℕ) → keeps ≡ [] → IsReadAt keeps last at → last ≤ at
  no_keep keeps last at none read =
      ⊎_elim (λ (there : Contains [] at). absurd (contains_nothing at there)) (λ (le : last ≤ at). le) (subst (λ (ks : List ℕ). IsReadAt ks last at) none read)

  -- the older writes of a store, by its runs alone
  pub stands_older : (l new : Live) (ws : List Write) (stands : StandsFor m l ws) → IsVersion new.version → new.version.keeps ≡ [] → new.gathered ≡ [] →
      contents_of new.version.runs ≡ contents_of l.version.runs → new.version.last ≡ l.version.last → StandsFor m new stands.older
  stands_older l new ws stands version keeps none_new runs last = record {
    older = stands.older;
    reads = record {
      version = version;
      last = stands.reads.last ∙ sym last;
      values = λ key at read.
          ap (λ (cs : List Contents). value_of m (writes_of cs) key at) runs
          ∙ stands.reads.values key at (inr (subst (λ n. n ≤ at) last (no_keep new.version.keeps new.version.last at keeps read)));
    };
    writes = ap (λ (us : List Write). stands.older ++ us) none_new ∙ append-nil stands.older;
  }

  pub stands_opened : (l new : Live) (ws : List Write) → StandsFor m l ws → l.gathered ≡ [] → IsVersion new.version → new.version.keeps ≡ [] → new.gathered ≡ [] →
      contents_of new.version.runs ≡ contents_of l.version.runs → new.version.last ≡ l.version.last → StandsFor m new ws
  stands_opened l new ws stands none version keeps none_new runs last =
      subst (λ (us : List Write). StandsFor m new us)
      (sym (append-nil stands.older) ∙ ap (λ (us : List Write). stands.older ++ us) (sym none) ∙ stands.writes)
      (stands_older l new ws stands version keeps none_new runs last)

  -- ---- what happens to them

  module _ (laws : IsLawful m) (is_run : FlushesAreRuns) (keeps_effects : FlushesKeepEffects m) where
    -- more writes after writes that give the same value
    continued : (ws vs more : List Write) (key : List ℕ) (at : ℕ) → value_of m ws key at ≡ value_of m vs key at → value_of m (ws ++ more) key at ≡ value_of m (vs ++ more) key at
    continued ws vs more key at same =
        effect_continues m laws None ws more key at
        ∙ ap (applied m (effect_on m more key at)) same
        ∙ sym (effect_continues m laws None vs more key at)

    fed_value : (v : Stored) (ws : List Write) (key : List ℕ) (at : ℕ) → MayFeed v ws → value_of m (writes_in (fed ws v)) key at ≡ value_of m (writes_in v ++ ws) key at
    fed_value v ws key at may =
        sym (effect_gives m laws None (writes_in (fed ws v)) key at)
        ∙ ap (λ e. applied m e None) (effects_fed is_run v ws may.rising m laws keeps_effects key at)
        ∙ effect_gives m laws None (writes_in v ++ ws) key at

    nothing_brought : (vs : List Write) (key : List ℕ) (at : ℕ) → value_of m vs key at ≡ value_of m (vs ++ []) key at
    nothing_brought vs key at = ap (λ (us : List Write). value_of m us key at) (sym (append-nil vs))

    values_on : (v : Stored) (e : Event) (vs : List Write) → MayHappen m v e → ReadsAs m v vs → (key : List ℕ) (at : ℕ) → IsReadAt (after v e).keeps (after v e).last at →
        value_of m (writes_in (after v e)) key at ≡ value_of m (vs ++ writes_brought e) key at
    values_on v (Installed i) vs may reads key at read =
        replacing.value_stays m laws v i reads.version may key at read ∙ reads.values key at read ∙ nothing_brought vs key at
    values_on v (Flushed ws) vs may reads key at read =
        fed_value v ws key at may
        ∙ continued (writes_in v) vs ws key at (reads.values key at
        (⊎_elim (λ (kept : Contains v.keeps at). inl kept) (λ (le : last_of v.last ws ≤ at). inr (let up = last_above v.last ws may.rising in omega (arith, le, up))) read))
    values_on v Kept vs may reads key at read =
        reads.values key at
        (⊎_elim (λ has. ⊎_elim (λ (kept : Contains v.keeps at). inl kept) (λ (e : at ≡ v.last). inr (omega (arith, e))) (among_kept v.last v.keeps at has)) (λ (le : v.last ≤ at). inr le) read)
        ∙ nothing_brought vs key at
    values_on v (Released seq) vs may reads key at read =
        reads.values key at (⊎_elim (λ has. inl (among_released seq v.keeps at has)) (λ (le : v.last ≤ at). inr le) read) ∙ nothing_brought vs key at

    reads_on : (v : Stored) (e : Event) (vs : List Write) → MayHappen m v e → ReadsAs m v vs → ReadsAs m (after v e) (vs ++ writes_brought e)
    reads_on v e vs may reads = record {
      version = version_stays is_run m laws v e reads.version may;
      last = last_of-append 0 vs (writes_brought e) ∙ ap (λ n. last_of n (writes_brought e)) reads.last ∙ sym (last_brought v e);
      values = values_on v e vs may reads;
    }

    reads_along : (v : Stored) (es : List Event) (vs : List Write) → MayFollow m v es → ReadsAs m v vs → ReadsAs m (fold after v es) (vs ++ flat_map writes_brought es)
    reads_along v [] vs may reads = subst (ReadsAs m v) (sym (append-nil vs)) reads
    reads_along v (e ∷ es) vs may reads =
        subst (ReadsAs m (fold after (after v e) es)) (append_assoc vs (writes_brought e) (flat_map writes_brought es))
        (reads_along (after v e) es (vs ++ writes_brought e) may.1 (reads_on v e vs may.0 reads))

    -- events happened
    stands_then : (old new : Live) (before ws : List Write) (events : List Event) → StandsFor m old before → MayFollow m old.version events → new.version ≡ fold after old.version events →
        flat_map writes_brought events ++ new.gathered ≡ old.gathered ++ ws → StandsFor m new (before ++ ws)
    stands_then old new before ws events stands follow version writes =
        let more = flat_map writes_brought events in
        record {
          older = stands.older ++ more;
          reads = subst (λ (v : Stored). ReadsAs m v (stands.older ++ more)) (sym version) (reads_along old.version events stands.older follow stands.reads);
          writes =
              append_assoc stands.older more new.gathered
              ∙ ap (λ (us : List Write). stands.older ++ us) writes
              ∙ sym (append_assoc stands.older old.gathered ws)
              ∙ ap (λ (us : List Write). us ++ ws) stands.writes;
        }

    pub stands_on : (old new : Live) (before ws : List Write) → StandsFor m old before → GoesOn m old new ws → StandsFor m new (before ++ ws)
    stands_on old new before ws stands on = stands_then old new before ws on.0.events stands on.0.follow on.0.version on.0.writes

    -- no write came
    same_writes : (l : Live) (ws : List Write) → StandsFor m l (ws ++ []) → StandsFor m l ws
    same_writes l ws stands = subst (λ (us : List Write). StandsFor m l us) (append-nil ws) stands

    pub stands_snapshot : (old new : Live) (before : List Write) (seq : ℕ) → StandsFor m old before → TakesSnapshot m old new seq → StandsFor m new before
    stands_snapshot old new before seq stands takes =
        let flushed = takes.flushed in
        let until = same_writes flushed before (stands_on old flushed before [] stands takes.goes_on) in
        let with = stands_then flushed (with_snapshot flushed) before [] (Kept ∷ []) until (tt, tt) refl (sym (append-nil flushed.gathered)) in
        subst (λ (l : Live). StandsFor m l before) (sym takes.after) (same_writes (with_snapshot flushed) before with)

    released_or_not : (l : Live) (before : List Write) (seq : ℕ) (rest : List ℕ) (b : Bool) → StandsFor m l before → Contains l.version.keeps seq →
        StandsFor m (record l { version = if b then l.version else released seq l.version; snapshots = rest }) before
    released_or_not l before seq rest true stands there = record { older = stands.older; reads = stands.reads; writes = stands.writes }
    released_or_not l before seq rest false stands there =
        let new = record l { version = released seq l.version; snapshots = rest } in
        same_writes new before (stands_then l new before [] (Released seq ∷ []) stands (there, tt) refl (sym (append-nil l.gathered)))

    pub stands_release : (l : Live) (before : List Write) (seq : ℕ) → StandsFor m l before → Contains l.version.keeps seq → StandsFor m (without_snapshot seq l) before
    stands_release l before seq stands there =
        let rest = without_one seq l.snapshots in
        released_or_not l before seq rest (is_among seq rest) stands there

  -- ---- what they answer

  pub last_stands : (l : Live) (ws : List Write) → StandsFor m l ws → lives.last l ≡ last_of 0 ws
  last_stands l ws stands =
      ap (λ n. last_of n l.gathered) (sym stands.reads.last)
      ∙ sym (last_of-append 0 stands.older l.gathered)
      ∙ ap (λ (us : List Write). last_of 0 us) stands.writes

  module _ (continues : (older newer : List Write) (key : List ℕ) (at : ℕ) → value_of m (older ++ newer) key at ≡ applied m (effect_on m newer key at) (value_of m older key at)) where
    -- a key's value at the last sequence
    pub value_there : (l : Live) (ws : List Write) (key : List ℕ) (at : ℕ) → StandsFor m l ws → l.version.last ≤ at → value_of m (lives.writes_of l) key at ≡ value_of m ws key at
    value_there l ws key at stands le =
        continues (writes_in l.version) l.gathered key at
        ∙ ap (λ (value : Option (List ℕ)). applied m (effect_on m l.gathered key at) value) (stands.reads.values key at (inr le))
        ∙ sym (continues stands.older l.gathered key at)
        ∙ ap (λ (us : List Write). value_of m us key at) stands.writes

    pub value_stands : (l : Live) (ws : List Write) (key : List ℕ) → StandsFor m l ws → IsRising l.version.last l.gathered →
        value_of m (lives.writes_of l) key (lives.last l) ≡ value_of m ws key (last_of 0 ws)
    value_stands l ws key stands rising =
        value_there l ws key (lives.last l) stands (last_above l.version.last l.gathered rising)
        ∙ ap (λ (at : ℕ). value_of m ws key at) (last_stands l ws stands)
