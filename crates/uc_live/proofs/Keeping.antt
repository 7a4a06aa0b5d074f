-- The snapshots of a live store and the keeps of its version are the same sequences.
use Rattle.std.proofs.Common.{◌≡◌, ◌≢◌, ◌⊎◌, inl, inr, ⊎_elim, ℕ, zero, suc, ◌<◌, Bool, true, false, cond, eqb, not, ◌||◌, List, [], ◌∷◌, ◌++◌, length, take, ◌+◌, ◌-◌, get_or, length-append, Contains, refl, sym, ap, ◌∙◌, subst, arith}
use Rattle.std.specs.Prelude.{◌↔◌, Option, remove, if◌then◌else◌}
use Rattle.std.specs.List.{AllWithin}
use Rattle.std.proofs.Math.Seq.{take-append_seam}
use Rattle.std.proofs.lemmas.Bool.Decides.{nat_tests}
use Rattle.std.proofs.lemmas.List.Elements.{Contains-push, Contains-push_cases, Contains-append_left}
use Rattle.uc_batch.specs.Rising.{IsRising}
use Rattle.uc_model.proofs.Members.{contains_first, contains_later, contains_cases, contains_nothing}
use Rattle.uc_version_state.specs.Versions.{Stored}
use Rattle.uc_version_state.specs.Snapshots.{with_keep, without_keep, released}
use Rattle.uc_version_state.proofs.Snapped.{among_kept, among_released}
use Rattle.uc_version.specs.declared.held_stretch.HeldStretch.{HeldStretch}
use Rattle.uc_live.specs.Lives.{Live}
use Rattle.uc_live.specs.HeldLives.{IsLive}
use Rattle.uc_live.specs.Snapshots.{without_one, is_among, without_snapshot}
use Rattle.uc_live.specs.declared.live_store.LiveStore.TheInside.{Inside}

same_number : (a b : ℕ) → eqb a b ≡ true → a ≡ b
same_number a b e = grind (arith, nat_tests)

other_number : (a b : ℕ) → eqb a b ≡ false → a ≢ b
other_number a b e same = grind (arith, nat_tests)

-- what was pushed is popped
pub pushed_popped : (old pushed popped : List ℕ) (y n : ℕ) → pushed ≡ old ++ y ∷ [] → n ≡ length pushed → popped ≡ take (n - 1) pushed → popped ≡ old
pushed_popped old pushed popped y n is count rest =
    let all : length pushed ≡ length old + 1 = ap (λ (ss : List ℕ). length ss) is ∙ length-append old (y ∷ []) in
    let less : n - 1 ≡ length old = omega (arith, all, count) in
    rest ∙ ap (λ (k : ℕ). take k pushed) less ∙ ap (λ (ss : List ℕ). take (length old) ss) is ∙ take-append_seam old (y ∷ [])

module _ (seq : ℕ) where
  -- ---- a sequence among others

  next_there : (s : ℕ) (seqs : List ℕ) (b : Bool) → eqb s seq ≡ b → (is_among seq seqs ≡ true → Contains seqs seq) → (b || is_among seq seqs) ≡ true → Contains (s ∷ seqs) seq
  next_there s seqs true e rest is = contains_first s seq seqs (same_number s seq e)
  next_there s seqs false e rest is = contains_later s seq seqs (rest is)

  pub stands_there : (seqs : List ℕ) → is_among seq seqs ≡ true → Contains seqs seq
  stands_there [] is = absurd cc
  stands_there (s ∷ seqs) is = next_there s seqs (eqb s seq) refl (stands_there seqs) is

  next_among : (s : ℕ) (seqs : List ℕ) (b : Bool) → eqb s seq ≡ b → (Contains seqs seq → is_among seq seqs ≡ true) → Contains (s ∷ seqs) seq → (b || is_among seq seqs) ≡ true
  next_among s seqs true e rest there = refl
  next_among s seqs false e rest there = ⊎_elim (λ (same : s ≡ seq). absurd (other_number s seq e same)) (λ later. rest later) (contains_cases s seq seqs there)

  pub is_there : (seqs : List ℕ) → Contains seqs seq → is_among seq seqs ≡ true
  is_there [] there = absurd (contains_nothing seq there)
  is_there (s ∷ seqs) there = next_among s seqs (eqb s seq) refl (is_there seqs) there

  pub stands_not : (seqs : List ℕ) → is_among seq seqs ≡ false → Contains seqs seq → ⊥
  stands_not seqs is there = let too = is_there seqs there in absurd cc

  -- ---- the first of one, taken out

  next_without : (s : ℕ) (seqs : List ℕ) (b : Bool) → eqb s seq ≡ b → (is_among seq seqs ≡ false → without_one seq seqs ≡ seqs) → (b || is_among seq seqs) ≡ false → cond b seqs (s ∷ without_one seq seqs) ≡ s ∷ seqs
  next_without s seqs true e rest is = absurd cc
  next_without s seqs false e rest is = ap (λ (ss : List ℕ). s ∷ ss) (rest is)

  pub without_none : (seqs : List ℕ) → is_among seq seqs ≡ false → without_one seq seqs ≡ seqs
  without_none [] is = refl
  without_none (s ∷ seqs) is = next_without s seqs (eqb s seq) refl (without_none seqs) is

  pub left_alone : (seqs left : List ℕ) → left ≡ without_one seq seqs → is_among seq seqs ≡ false → left ≡ seqs
  left_alone seqs left rest is = rest ∙ without_none seqs is

  -- whether another one is left
  pub is_left : (seqs left read : List ℕ) (b : Bool) → read ≡ left → left ≡ without_one seq seqs → b ≡ is_among seq read → is_among seq (without_one seq seqs) ≡ b
  is_left seqs left read b same rest is = ap (λ (ss : List ℕ). is_among seq ss) (sym rest) ∙ ap (λ (ss : List ℕ). is_among seq ss) (sym same) ∙ sym is

  -- none of them passes a test
  pub not_within : (seqs : List ℕ) → AllWithin (λ s. eqb s seq ≡ false) seqs 0 (length seqs) → is_among seq seqs ≡ false
  not_within [] none = refl
  not_within (s ∷ seqs) none = ap (λ (b : Bool). b || is_among seq seqs) (none 0 s (omega arith) (omega arith)) ∙ not_within seqs (λ k d from upto. none (suc k) d (omega arith) (omega arith))

  -- the one at a place is the first
  pub removed_first : (seqs : List ℕ) (place : ℕ) → place < length seqs → ((d : ℕ) → eqb (get_or seqs place d) seq ≡ true) → AllWithin (λ s. eqb s seq ≡ false) seqs 0 place → remove seqs place ≡ without_one seq seqs
  removed_first [] place within here before = absurd (omega (arith, within))
  removed_first (s ∷ seqs) zero within here before = ap (λ (b : Bool). cond b seqs (s ∷ without_one seq seqs)) (sym (here s))
  removed_first (s ∷ seqs) (suc place) within here before =
      ap (λ (ss : List ℕ). s ∷ ss) (removed_first seqs place (omega (arith, within)) here (λ k d from upto. before (suc k) d (omega arith) (omega (arith, upto))))
      ∙ ap (λ (b : Bool). cond b seqs (s ∷ without_one seq seqs)) (sym (before 0 s (omega arith) (omega arith)))

  pub among_rest : (seqs : List ℕ) (other : ℕ) → Contains (without_one seq seqs) other → Contains seqs other
  among_rest [] other there = there
  among_rest (s ∷ seqs) other there = by_test (λ later. among_rest seqs other later) (eqb s seq) there
    where
      by_test : (Contains (without_one seq seqs) other → Contains seqs other) → (b : Bool) → Contains (cond b seqs (s ∷ without_one seq seqs)) other → Contains (s ∷ seqs) other
      by_test rest true has = contains_later s other seqs has
      by_test rest false has = ⊎_elim (λ (same : s ≡ other). contains_first s other seqs same) (λ later. contains_later s other seqs (rest later)) (contains_cases s other (without_one seq seqs) has)

  pub others_stay : (seqs : List ℕ) (other : ℕ) → other ≢ seq → Contains seqs other → Contains (without_one seq seqs) other
  others_stay [] other differs there = there
  others_stay (s ∷ seqs) other differs there = by_test (λ later. others_stay seqs other differs later) (eqb s seq) refl (contains_cases s other seqs there)
    where
      by_test : (Contains seqs other → Contains (without_one seq seqs) other) → (b : Bool) → eqb s seq ≡ b → (s ≡ other) ⊎ Contains seqs other → Contains (cond b seqs (s ∷ without_one seq seqs)) other
      by_test rest true e (inl same) = absurd (differs (sym same ∙ same_number s seq e))
      by_test rest true e (inr later) = later
      by_test rest false e (inl same) = contains_first s other (without_one seq seqs) same
      by_test rest false e (inr later) = contains_later s other (without_one seq seqs) (rest later)

  -- ---- keeps without one

  kept_others : (keeps : List ℕ) (other : ℕ) → other ≢ seq → Contains keeps other → Contains (without_keep seq keeps) other
  kept_others [] other differs there = there
  kept_others (k ∷ ks) other differs there = by_test (λ later. kept_others ks other differs later) (eqb k seq) refl (contains_cases k other ks there)
    where
      by_test : (Contains ks other → Contains (without_keep seq ks) other) → (b : Bool) → eqb k seq ≡ b → (k ≡ other) ⊎ Contains ks other → Contains (cond (not b) (k ∷ without_keep seq ks) (without_keep seq ks)) other
      by_test rest true e (inl same) = absurd (differs (sym same ∙ same_number k seq e))
      by_test rest true e (inr later) = rest later
      by_test rest false e (inl same) = contains_first k other (without_keep seq ks) same
      by_test rest false e (inr later) = contains_later k other (without_keep seq ks) (rest later)

  released_away : (keeps : List ℕ) → Contains (without_keep seq keeps) seq → ⊥
  released_away [] there = contains_nothing seq there
  released_away (k ∷ ks) there = by_test (λ later. released_away ks later) (eqb k seq) refl there
    where
      by_test : (Contains (without_keep seq ks) seq → ⊥) → (b : Bool) → eqb k seq ≡ b → Contains (cond (not b) (k ∷ without_keep seq ks) (without_keep seq ks)) seq → ⊥
      by_test rest true e has = rest has
      by_test rest false e has = ⊎_elim (λ (same : k ≡ seq). other_number k seq e same) rest (contains_cases k seq (without_keep seq ks) has)

  -- ---- both

  module _ (seqs keeps : List ℕ) (alike : (other : ℕ) → Contains seqs other ↔ Contains keeps other) where
    still_among : (other : ℕ) (b : Bool) → eqb other seq ≡ b → is_among seq (without_one seq seqs) ≡ true → Contains seqs other → Contains (without_one seq seqs) other
    still_among other true e more there = subst (λ (n : ℕ). Contains (without_one seq seqs) n) (sym (same_number other seq e)) (stands_there (without_one seq seqs) more)
    still_among other false e more there = others_stay seqs other (other_number other seq e) there

    -- one of them was taken out, and another is there
    pub alike_still : is_among seq (without_one seq seqs) ≡ true → (other : ℕ) → Contains (without_one seq seqs) other ↔ Contains keeps other
    alike_still more other =
        ((λ has. (alike other).0 (among_rest seqs other has)), (λ has. still_among other (eqb other seq) refl more ((alike other).1 has)))

    -- the last one was taken out
    pub alike_released : is_among seq (without_one seq seqs) ≡ false → (other : ℕ) → Contains (without_one seq seqs) other ↔ Contains (without_keep seq keeps) other
    alike_released none other = (
      (λ has. kept_others keeps other (λ same. stands_not (without_one seq seqs) none (subst (λ (n : ℕ). Contains (without_one seq seqs) n) same has)) ((alike other).0 (among_rest seqs other has))),
      (λ has. others_stay seqs other (λ same. released_away keeps (subst (λ (n : ℕ). Contains (without_keep seq keeps) n) same has)) ((alike other).1 (among_released seq keeps other has))),
    )

    kept_still : (other : ℕ) → Contains keeps other → Contains (with_keep seq keeps) other
    kept_still other has = by_test (is_among seq keeps)
      where
        by_test : (b : Bool) → Contains (cond b keeps (keeps ++ seq ∷ [])) other
        by_test true = has
        by_test false = Contains-append_left keeps (seq ∷ []) other has

    kept_now : Contains (with_keep seq keeps) seq
    kept_now = by_test (is_among seq keeps) refl
      where
        by_test : (b : Bool) → is_among seq keeps ≡ b → Contains (cond b keeps (keeps ++ seq ∷ [])) seq
        by_test true is = stands_there keeps is
        by_test false is = Contains-push keeps seq

    -- one came
    pub alike_kept : (other : ℕ) → Contains (seqs ++ seq ∷ []) other ↔ Contains (with_keep seq keeps) other
    alike_kept other = (
      (λ has. ⊎_elim (λ (before : Contains seqs other). kept_still other ((alike other).0 before)) (λ (same : seq ≡ other). subst (λ (n : ℕ). Contains (with_keep seq keeps) n) same kept_now) (Contains-push_cases seqs seq other has)),
      (λ has. ⊎_elim (λ (before : Contains keeps other). Contains-append_left seqs (seq ∷ []) other ((alike other).1 before)) (λ (same : other ≡ seq). subst (λ (n : ℕ). Contains (seqs ++ seq ∷ []) n) (sym same) (Contains-push seqs seq)) (among_kept seq keeps other has)),
    )

-- ---- the store without a snapshot

pub live_released : (l now : Live) (v : Stored) (claims : List (Option HeldStretch)) (seq : ℕ) (rest : List ℕ) → l ≡ now → v ≡ released seq l.version → claims ≡ l.claims → rest ≡ without_one seq l.snapshots → is_among seq (without_one seq l.snapshots) ≡ false →
    record l { version = v; snapshots = rest; claims = claims } ≡ without_snapshot seq now
live_released l now v claims seq rest same version stay is none =
    ap (λ (u : Stored). record l { version = u; snapshots = rest; claims = claims }) version
    ∙ ap (λ (cs : List (Option HeldStretch)). record l { version = released seq l.version; snapshots = rest; claims = cs }) stay
    ∙ ap (λ (ss : List ℕ). record l { version = released seq l.version; snapshots = ss }) is
    ∙ ap (λ (b : Bool). record l { version = if b then l.version else released seq l.version; snapshots = without_one seq l.snapshots }) (sym none)
    ∙ ap (without_snapshot seq) same

pub live_still : (l now : Live) (seq : ℕ) (rest : List ℕ) → l ≡ now → rest ≡ without_one seq l.snapshots → is_among seq (without_one seq l.snapshots) ≡ true →
    record l { snapshots = rest } ≡ without_snapshot seq now
live_still l now seq rest same is more =
    ap (λ (ss : List ℕ). record l { snapshots = ss }) is
    ∙ ap (λ (b : Bool). record l { version = if b then l.version else released seq l.version; snapshots = without_one seq l.snapshots }) (sym more)
    ∙ ap (without_snapshot seq) same

pub live_same_snapshots : (l now : Live) (rest : List ℕ) → l ≡ now → rest ≡ l.snapshots → record l { snapshots = rest } ≡ now
live_same_snapshots l now rest same is = ap (λ (ss : List ℕ). record l { snapshots = ss }) is ∙ same

module _ {O : Type 0} (i : Inside O) (is : IsLive i) where
  -- other keeps and the snapshots of another one
  pub live_with : (j : Inside O) (v : Stored) → v.limit ≡ i.owned.version.limit → v.last ≡ i.owned.version.last → ((seq : ℕ) → Contains j.snapshots.items seq ↔ Contains v.keeps seq) →
      IsLive (record i { owned = record i.owned { version = v }; snapshots = j.snapshots })
  live_with j v limit last alike = record {
    options_good = is.options_good;
    options_are = is.options_are;
    whole = limit ∙ is.whole;
    small = is.small;
    rising = subst (λ (n : ℕ). IsRising n (i.active.shown ++ i.active.waiting)) (sym last) is.rising;
    leaves = is.leaves;
    taken = alike;
  }

  pub live_same : (j : Inside O) → j.snapshots.items ≡ i.snapshots.items → IsLive (record i { snapshots = j.snapshots })
  live_same j same = live_with j i.owned.version refl refl (λ seq. subst (λ (seqs : List ℕ). Contains seqs seq ↔ Contains i.owned.version.keeps seq) (sym same) (is.taken seq))
