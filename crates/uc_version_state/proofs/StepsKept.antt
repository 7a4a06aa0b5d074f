-- Invariants of the machine, which every step keeps.
use Rattle.std.proofs.Common.{◌≡◌, ◌≢◌, ℕ, zero, suc, ◌+◌, ◌<◌, ◌≤◌, Bool, true, false, cond, eqb, eq-eqb, List, [], ◌∷◌, ◌++◌, ⊎_elim, Contains, length, get_or, set, take, replicate, fold, refl, sym, ap, ◌∙◌, subst, arith}
use Rattle.std.specs.Prelude.{⊤}
use Rattle.std.specs.List.{AllByRecursion}
use Rattle.std.proofs.lemmas.Bool.{cases_eq, cases_lt, eqb-true}
use Rattle.std.proofs.lemmas.List.{length-map, length-set, length-replicate, get_or_past, get_or-set_same, get_or-set_other, get_or-replicate, take_more, take_all}
use Rattle.std.proofs.lemmas.List.Sums.{sum_by-set}
use Rattle.std.proofs.lemmas.List.Folds.{sum_by-replicate}
use Rattle.uc_oper.specs.Operation.{Operation, IsLawful}
use Rattle.uc_claims.specs.Claims.{times}
use Rattle.uc_claims.specs.Holding.{without}
use Rattle.uc_claims.specs.declared.table.TheConstants.{MOST_SLOTS}
use Rattle.uc_claims.proofs.Times.{times-append, times-cons, one_same, one_other, times-from_Contains, times-without_other, times-without_same}
use Rattle.uc_compact.specs.Output.{output_of}
use Rattle.uc_version_state.specs.Versions.{PlacedRun, Stored, IsVersion, ids_of, slots_of}
use Rattle.uc_version_state.specs.Openings.{Opening, opened}
use Rattle.uc_version_state.specs.Installs.{Install, MayInstall, MayReplace, part_of, standing, behind, replaced, terms_of}
use Rattle.uc_version_state.specs.declared.event.Event.{Event}
use Rattle.uc_version_state.specs.declared.event.Event.TheVariants.{Installed, Flushed, Kept, Released}
use Rattle.uc_version_state.specs.Histories.{MayHappen, after, IsLegal, version_after}
use Rattle.uc_version_state.proofs.Along.{version_stays}
use Rattle.uc_version_state.proofs.Placing.{FlushesAreRuns}
use Rattle.uc_version_state.proofs.Growing.{follow-append, after-append}
use Rattle.uc_version_state.proofs.Found.{first_is, count_is}
use Rattle.uc_version_state.specs.Machine.{Phase, Idle, Taking, Taken, Checked, Giving, Machine, Action, Pin, Take, Check, Publish, Abandon, Give, present, version_at, phase_of, slots_held, IsMadeFor, MayAct, still_stand, compaction_for, giving, taking, enters, happens, tried, after_action}
use Rattle.uc_version_state.specs.Courses.{Step, Acts, Flush, Keep, Release, MayStep, after_step, started, MayCome}
use Rattle.uc_version_state.proofs.Places.{Stands, stands_on, stands_fed, stands_kept, stands_released}
use Rattle.uc_version_state.proofs.Noted.{IsNoted, slot_below, noted_on, noted_at, found, standing_noted}
use Rattle.uc_version_state.proofs.Counted.{held_times, all_times, one_of, two_of}

-- what holds of a compactor in a phase
abbrev pub Holds : Stored → Phase → Type 0
Holds v Idle = ⊤
Holds v (Taking noted taken) = IsNoted v noted × (taken < length noted)
Holds v (Taken noted) = IsNoted v noted
Holds v (Checked noted) = IsNoted v noted × Stands v noted
Holds v (Giving left) = ⊤

-- Invariant between any two steps. A word is the number of times that its slot is held, which is at most one.
pub record Keeps (m : Operation) (s : Machine) : Type 0 where
  pub legal : IsLegal m s.history
  pub opens : IsVersion (opened s.history.opening)
  pub version : IsVersion (present s)
  pub a_word_each : length s.words ≡ MOST_SLOTS
  pub counted : (k : ℕ) → get_or s.words k 0 ≡ all_times k s.phases
  pub small : (k : ℕ) → get_or s.words k 0 ≤ 1
  pub each : (c : ℕ) → Holds (present s) (phase_of c s)

-- ---- words and phases

holds_giving : (v : Stored) (slots : List ℕ) → Holds v (giving slots)
holds_giving v [] = tt
holds_giving v (slot ∷ slots) = tt

held_giving : (slots : List ℕ) → slots_held (giving slots) ≡ slots
held_giving [] = refl
held_giving (slot ∷ slots) = refl

-- a compactor's phase after a step of one
phase_after : (P : Phase → Type 0) (phases : List Phase) (c d : ℕ) (new : Phase) → c < length phases → P new → (d ≢ c → P (get_or phases d Idle)) → P (get_or (set phases c new) d Idle)
phase_after P phases c d new lt here other =
    ⊎_elim
    (λ (e : d ≡ c). subst P (sym (ap (λ i. get_or (set phases c new) i Idle) e ∙ get_or-set_same phases c new Idle lt)) here)
    (λ (ne : d ≡ c → ⊥). subst P (sym (get_or-set_other phases c d new Idle ne)) (other ne))
    (cases_eq d c)

word_there : (words : List ℕ) (k : ℕ) → 0 < get_or words k 0 → k < length words
word_there words k some =
    ⊎_elim (λ (lt : k < length words). lt) (λ (le : length words ≤ k). let e = get_or_past words k 0 le in absurd (omega (arith, e, some))) (cases_lt k (length words))

small_set : (words : List ℕ) (slot word k : ℕ) → slot < length words → word ≤ 1 → get_or words k 0 ≤ 1 → get_or (set words slot word) k 0 ≤ 1
small_set words slot word k lt le small =
    ⊎_elim
    (λ (e : k ≡ slot). let same : get_or (set words slot word) k 0 ≡ word = ap (λ i. get_or (set words slot word) i 0) e ∙ get_or-set_same words slot word 0 lt in omega (arith, same, le))
    (λ (ne : k ≡ slot → ⊥). let same = get_or-set_other words slot k word 0 ne in omega (arith, same, small))
    (cases_eq k slot)

slot_at : (P : ℕ → Type 0) (slots : List ℕ) (i : ℕ) → AllByRecursion P slots → i < length slots → P (get_or slots i 0)
slot_at P [] i all lt = absurd (omega (arith, lt))
slot_at P (x ∷ xs) zero all lt = all.0
slot_at P (x ∷ xs) (suc i) all lt = slot_at P xs i all.1 (omega (arith, lt))

module _ (m : Operation) (s : Machine) (keeps : Keeps m s) (c : ℕ) (lt : c < length s.phases) where
  -- a step that leaves the history as it is
  moved : (old new : Phase) (words : List ℕ) → phase_of c s ≡ old → length words ≡ MOST_SLOTS →
      ((k : ℕ) → get_or words k 0 + held_times k old ≡ get_or s.words k 0 + held_times k new) → ((k : ℕ) → get_or words k 0 ≤ 1) →
      Holds (present s) new → Keeps m (record s { words = words; phases = set s.phases c new })
  moved old new words is count balance small holds = record {
    legal = keeps.legal;
    opens = keeps.opens;
    version = keeps.version;
    a_word_each = count;
    counted = λ k.
        let e = sum_by-set (held_times k) s.phases c new Idle lt in
        let was : held_times k (get_or s.phases c Idle) ≡ held_times k old = ap (held_times k) is in
        let so_far = keeps.counted k in
        let b = balance k in
        omega (arith, e, was, so_far, b);
    small = small;
    each = λ d. phase_after (Holds (present s)) s.phases c d new lt holds (λ ne. keeps.each d);
  }

  -- one that changes no word
  stays : (old new : Phase) → phase_of c s ≡ old → ((k : ℕ) → held_times k old ≡ held_times k new) → Holds (present s) new → Keeps m (enters c new s)
  stays old new is same holds = moved old new s.words is keeps.a_word_each (λ k. let e = same k in omega (arith, e)) keeps.small holds

  gives_all : (old : Phase) → phase_of c s ≡ old → (slots : List ℕ) → slots_held old ≡ slots → Keeps m (enters c (giving slots) s)
  gives_all old is slots held =
      stays old (giving slots) is (λ k. ap (times k) (held ∙ sym (held_giving slots))) (holds_giving (present s) slots)

  -- ---- a word

  held_taking : (noted : List PlacedRun) (taken : ℕ) (b : Bool) → eqb taken (length noted) ≡ b → slots_held (cond b (Taken noted) (Taking noted taken)) ≡ take taken (slots_of noted)
  held_taking noted taken true e =
      let all = eqb-true taken (length noted) e in
      let count = length-map noted (λ (p : PlacedRun). p.slot) in
      sym (take_all taken (slots_of noted) (omega (arith, all, count)))
  held_taking noted taken false e = refl

  holds_taking : (noted : List PlacedRun) (taken : ℕ) (b : Bool) → eqb taken (length noted) ≡ b → IsNoted (present s) noted → taken ≤ length noted → Holds (present s) (cond b (Taken noted) (Taking noted taken))
  holds_taking noted taken true e is le = is
  holds_taking noted taken false e is le = (is, less)
    where
      less : taken < length noted
      less =
          ⊎_elim (λ (same : taken ≡ length noted). let yes = eq-eqb taken (length noted) same in absurd (let no : false ≡ true = sym e ∙ yes in cc))
          (λ (ne : taken ≡ length noted → ⊥). omega (arith, ne, le)) (cases_eq taken (length noted))

  abbrev next_slot : List PlacedRun → ℕ → ℕ
  next_slot noted taken = get_or (slots_of noted) taken 0

  tries : (noted : List PlacedRun) (taken : ℕ) → phase_of c s ≡ Taking noted taken → Keeps m (tried c noted taken s)
  tries noted taken is = by_word (eqb (get_or s.words (next_slot noted taken) 0) 0) refl
    where
      holds : IsNoted (present s) noted × (taken < length noted)
      holds = subst (Holds (present s)) is (keeps.each c)

      one_more : taken < length (slots_of noted)
      one_more = let count = length-map noted (λ (p : PlacedRun). p.slot) in let lt = holds.1 in omega (arith, count, lt)

      there : (next_slot noted taken) < length s.words
      there =
          let below = slot_at (λ x. x < MOST_SLOTS) (slots_of noted) taken (slot_below (present s) noted holds.0.known) one_more in
          let count = keeps.a_word_each in
          omega (arith, below, count)

      with_slot : slots_held (taking noted (taken + 1)) ≡ take taken (slots_of noted) ++ (next_slot noted taken) ∷ []
      with_slot = held_taking noted (taken + 1) (eqb (taken + 1) (length noted)) refl ∙ take_more (slots_of noted) taken 0 one_more

      balance : get_or s.words (next_slot noted taken) 0 ≡ 0 → (k : ℕ) → get_or (set s.words (next_slot noted taken) 1) k 0 + times k (take taken (slots_of noted)) ≡ get_or s.words k 0 + held_times k (taking noted (taken + 1))
      balance free k =
          let more : held_times k (taking noted (taken + 1)) ≡ times k (take taken (slots_of noted)) + times k ((next_slot noted taken) ∷ []) = ap (times k) with_slot ∙ times-append k (take taken (slots_of noted)) ((next_slot noted taken) ∷ []) in
          let one = times-cons k (next_slot noted taken) [] in
          ⊎_elim
          (λ (e : k ≡ (next_slot noted taken)).
          let now : get_or (set s.words (next_slot noted taken) 1) k 0 ≡ 1 = ap (λ i. get_or (set s.words (next_slot noted taken) 1) i 0) e ∙ get_or-set_same s.words (next_slot noted taken) 1 0 there in
          let was : get_or s.words k 0 ≡ 0 = ap (λ i. get_or s.words i 0) e ∙ free in
          let here = one_same (next_slot noted taken) k (sym e) in
          omega (arith, more, one, now, was, here))
          (λ (ne : k ≡ (next_slot noted taken) → ⊥).
          let same = get_or-set_other s.words (next_slot noted taken) k 1 0 ne in
          let here = one_other (next_slot noted taken) k (λ e. ne (sym e)) in
          omega (arith, more, one, same, here))
          (cases_eq k (next_slot noted taken))

      by_word : (b : Bool) → eqb (get_or s.words (next_slot noted taken) 0) 0 ≡ b →
          Keeps m (cond b (record (enters c (taking noted (taken + 1)) s) { words = set s.words (next_slot noted taken) 1 }) (enters c (giving (take taken (slots_of noted))) s))
      by_word false e = gives_all (Taking noted taken) is (take taken (slots_of noted)) refl
      by_word true e =
          moved (Taking noted taken) (taking noted (taken + 1)) (set s.words (next_slot noted taken) 1) is (length-set s.words (next_slot noted taken) 1 ∙ keeps.a_word_each) (balance (eqb-true (get_or s.words (next_slot noted taken) 0) 0 e))
          (λ k. small_set s.words (next_slot noted taken) 1 k there (omega arith) (keeps.small k))
          (holds_taking noted (taken + 1) (eqb (taken + 1) (length noted)) refl holds.0 (let lt = holds.1 in omega (arith, lt)))

  gives : (left : List ℕ) (slot : ℕ) → phase_of c s ≡ Giving left → Contains left slot →
      Keeps m (record (enters c (giving (without (slot ∷ []) left)) s) { words = set s.words slot 0 })
  gives left slot is has =
      moved (Giving left) (giving (without (slot ∷ []) left)) (set s.words slot 0) is (length-set s.words slot 0 ∙ keeps.a_word_each) balance
      (λ k. small_set s.words slot 0 k there (omega arith) (keeps.small k)) (holds_giving (present s) (without (slot ∷ []) left))
    where
      mine : (k : ℕ) → times k left ≤ get_or s.words k 0
      mine k =
          let all = one_of k s.phases c in
          let own : held_times k (get_or s.phases c Idle) ≡ times k left = ap (held_times k) is in
          let e = keeps.counted k in
          omega (arith, all, own, e)

      some : 0 < times slot left
      some = times-from_Contains slot left has

      there : slot < length s.words
      there = word_there s.words slot (let le = mine slot in let lt = some in omega (arith, le, lt))

      balance : (k : ℕ) → get_or (set s.words slot 0) k 0 + times k left ≡ get_or s.words k 0 + held_times k (giving (without (slot ∷ []) left))
      balance k =
          ⊎_elim
          (λ (e : k ≡ slot). subst (λ i. get_or (set s.words slot 0) i 0 + times i left ≡ get_or s.words i 0 + held_times i (giving (without (slot ∷ []) left))) (sym e)
          (let now = get_or-set_same s.words slot 0 0 there in
          let none : held_times slot (giving (without (slot ∷ []) left)) ≡ 0 = ap (times slot) (held_giving (without (slot ∷ []) left)) ∙ times-without_same slot left in
          let le = mine slot in
          let one = keeps.small slot in
          let lt = some in
          omega (arith, now, none, le, one, lt)))
          (λ (ne : k ≡ slot → ⊥).
          let same = get_or-set_other s.words slot k 0 0 ne in
          let kept : held_times k (giving (without (slot ∷ []) left)) ≡ times k left = ap (times k) (held_giving (without (slot ∷ []) left)) ∙ times-without_other k slot left ne in
          omega (arith, same, kept))
          (cases_eq k slot)

-- ---- an install

module _ (m : Operation) (v : Stored) (is_version : IsVersion v) (noted : List PlacedRun) (is : IsNoted v noted) (stands : Stands v noted) (i : Install) (made : IsMadeFor m v noted i) where
  at : standing i.ids v.runs ≡ noted
  at = ap (λ (ids : List ℕ). standing ids v.runs) made.ids ∙ standing_noted v noted is_version is stands

  pub may_install : MayInstall m v i
  may_install = record {
    two = subst (λ (ids : List ℕ). 2 ≤ length ids) (sym made.ids) (let n = length-map noted (λ (p : PlacedRun). p.id) in let t = is.two in omega (arith, n, t));
    neighbours = ap ids_of at ∙ sym made.ids;
    keeps_rise = made.keeps_rise;
    may = subst (λ (ps : List PlacedRun). MayReplace v (behind i.ids v.runs) (terms_of (compaction_for ps i))) (sym at) made.may;
    output_made = made.output_made ∙ ap (λ (ps : List PlacedRun). output_of m (compaction_for ps i)) (sym at);
  }

  some : 0 < length noted
  some = let t = is.two in omega (arith, t)

  are : i.ids ≡ ids_of (part_of stands.first (length noted) v.runs)
  are = made.ids ∙ ap ids_of (sym stands.there)

  is_replaced : after v (Installed i) ≡ replaced stands.first (length noted) i.output v
  is_replaced =
      ap (λ n. replaced n (length i.ids) i.output v) (first_is v is_version i.ids stands.first (length noted) some stands.within are)
      ∙ ap (λ n. replaced stands.first n i.output v) (count_is v is_version i.ids stands.first (length noted) some stands.within are)

  -- what another compactor noted is untouched
  pub stands_beside : (other : List PlacedRun) → IsNoted v other → Stands v other → ((k : ℕ) → times k (slots_of noted) + times k (slots_of other) ≤ 1) → Stands (after v (Installed i)) other
  stands_beside other is_other other_stands once =
      subst (λ (w : Stored). Stands w other) (sym is_replaced)
      (stands_on v stands.first (length noted) some stands.within i.output other (let t = is_other.two in omega (arith, t)) other_stands
      (λ k. subst (λ (ps : List PlacedRun). times k (slots_of ps) + times k (slots_of other) ≤ 1) (sym stands.there) (once k)))

-- ---- an event

-- what holds of a compactor holds on, if its runs stand on where it checked them
holds_on : (m : Operation) (v : Stored) (e : Event) (p : Phase) → Holds v p → ((noted : List PlacedRun) → p ≡ Checked noted → IsNoted v noted → Stands v noted → Stands (after v e) noted) → Holds (after v e) p
holds_on m v e Idle holds stand = tt
holds_on m v e (Taking noted taken) holds stand = (noted_on m v e noted holds.0, holds.1)
holds_on m v e (Taken noted) holds stand = noted_on m v e noted holds
holds_on m v e (Checked noted) holds stand = (noted_on m v e noted holds.0, stand noted refl holds.0 holds.1)
holds_on m v e (Giving left) holds stand = tt

-- ---- every step

module _ (is_run : FlushesAreRuns) (m : Operation) (laws : IsLawful m) where
  module _ (s : Machine) (keeps : Keeps m s) (e : Event) (may : MayHappen m (present s) e) where
    grown : version_after (happens e s).history ≡ after (present s) e
    grown = after-append (opened s.history.opening) s.history.events e

    -- a step with an event, that changes no word
    happened : (phases : List Phase) → ((k : ℕ) → all_times k phases ≡ all_times k s.phases) → ((d : ℕ) → Holds (after (present s) e) (get_or phases d Idle)) →
        Keeps m (happens e (record s { phases = phases }))
    happened phases counted each = record {
      legal = record { opens = keeps.legal.opens; follow = follow-append m (opened s.history.opening) s.history.events e keeps.legal.follow may };
      opens = keeps.opens;
      version = subst IsVersion (sym grown) (version_stays is_run m laws (present s) e keeps.version may);
      a_word_each = keeps.a_word_each;
      counted = λ k. keeps.counted k ∙ sym (counted k);
      small = keeps.small;
      each = λ d. subst (λ (w : Stored). Holds w (get_or phases d Idle)) (sym grown) (each d);
    }

    -- one that leaves noted runs where they stand, or moves them together
    happens_beside : ((noted : List PlacedRun) → Stands (present s) noted → Stands (after (present s) e) noted) → Keeps m (happens e s)
    happens_beside stand =
        happened s.phases (λ k. refl) (λ d. holds_on m (present s) e (phase_of d s) (keeps.each d) (λ noted checked is stands. stand noted stands))

  module _ (s : Machine) (keeps : Keeps m s) (c : ℕ) (lt : c < length s.phases) where
    publishes : (noted : List PlacedRun) (i : Install) → phase_of c s ≡ Checked noted → IsMadeFor m (present s) noted i → Keeps m (after_action c s (Checked noted) (Publish i))
    publishes noted i is made =
        happened s keeps (Installed i) may (set s.phases c (giving (slots_of noted)))
        (λ k.
        let e = sum_by-set (held_times k) s.phases c (giving (slots_of noted)) Idle lt in
        let was : held_times k (get_or s.phases c Idle) ≡ times k (slots_of noted) = ap (held_times k) is in
        let now : held_times k (giving (slots_of noted)) ≡ times k (slots_of noted) = ap (times k) (held_giving (slots_of noted)) in
        omega (arith, e, was, now))
        (λ d.
        phase_after (Holds (after (present s) (Installed i))) s.phases c d (giving (slots_of noted)) lt (holds_giving (after (present s) (Installed i)) (slots_of noted))
        (λ ne. holds_on m (present s) (Installed i) (phase_of d s) (keeps.each d)
        (λ other checked is_other stands.
        stands_beside m (present s) keeps.version noted holds.0 holds.1 i made other is_other stands
        (λ k. subst (λ (p : Phase). times k (slots_of noted) + held_times k p ≤ 1) checked (once d ne k)))))
      where
        holds : IsNoted (present s) noted × Stands (present s) noted
        holds = subst (Holds (present s)) is (keeps.each c)

        may : MayInstall m (present s) i
        may = may_install m (present s) keeps.version noted holds.0 holds.1 i made

        once : (d : ℕ) → d ≢ c → (k : ℕ) → times k (slots_of noted) + held_times k (phase_of d s) ≤ 1
        once d ne k =
            let both = two_of k s.phases c d ne in
            let own : held_times k (get_or s.phases c Idle) ≡ times k (slots_of noted) = ap (held_times k) is in
            let e = keeps.counted k in
            let le = keeps.small k in
            omega (arith, both, own, e, le)

    checks : (noted : List PlacedRun) → phase_of c s ≡ Taken noted → (b : Bool) → still_stand noted (present s) ≡ b → Keeps m (enters c (cond b (Checked noted) (giving (slots_of noted))) s)
    checks noted is true e =
        let noted_here : IsNoted (present s) noted = subst (Holds (present s)) is (keeps.each c) in
        stays m s keeps c lt (Taken noted) (Checked noted) is (λ k. refl) (noted_here, found (present s) noted noted_here e)
    checks noted is false e = gives_all m s keeps c lt (Taken noted) is (slots_of noted) refl

    acts : (phase : Phase) (action : Action) → phase_of c s ≡ phase → MayAct m s phase action → Keeps m (after_action c s phase action)
    acts Idle (Pin seen first count) is may =
        let noted = noted_at m is_run laws s.history keeps.legal keeps.opens seen first count may in
        stays m s keeps c lt Idle (Taking (part_of first count (version_at seen s.history).runs) 0) is (λ k. refl) (noted, let two = noted.two in omega (arith, two))
    acts (Taking noted taken) Take is may = tries m s keeps c lt noted taken is
    acts (Taken noted) Check is may = checks noted is (still_stand noted (present s)) refl
    acts (Taken noted) Abandon is may = gives_all m s keeps c lt (Taken noted) is (slots_of noted) refl
    acts (Checked noted) (Publish i) is may = publishes noted i is may
    acts (Checked noted) Abandon is may = gives_all m s keeps c lt (Checked noted) is (slots_of noted) refl
    acts (Giving left) (Give slot) is may = gives m s keeps c lt left slot is may
    acts _ _ is may = absurd may

  pub keeps_on : (s : Machine) (step : Step) → Keeps m s → MayStep m s step → Keeps m (after_step s step)
  keeps_on s (Acts c action) keeps may = acts s keeps c may.0 (phase_of c s) action refl may.1
  keeps_on s (Flush ws) keeps may = happens_beside s keeps (Flushed ws) may (stands_fed (present s) ws)
  keeps_on s Keep keeps may = happens_beside s keeps Kept may (stands_kept (present s))
  keeps_on s (Release seq) keeps may = happens_beside s keeps (Released seq) may (stands_released seq (present s))

  pub keeps_along : (s : Machine) (steps : List Step) → Keeps m s → MayCome m s steps → Keeps m (fold after_step s steps)
  keeps_along s [] keeps come = keeps
  keeps_along s (step ∷ steps) keeps come = keeps_along (after_step s step) steps (keeps_on s step keeps come.0) come.1

-- ---- the start

idle_at : (n c : ℕ) → get_or (replicate n Idle) c Idle ≡ Idle
idle_at n c =
    ⊎_elim (λ (lt : c < n). get_or-replicate n c Idle Idle lt)
    (λ (le : n ≤ c). get_or_past (replicate n Idle) c Idle (let e = length-replicate n Idle in omega (arith, e, le))) (cases_lt c n)

free_at : (word n k : ℕ) → word ≡ 0 → get_or (replicate n word) k 0 ≡ 0
free_at word n k none =
    ⊎_elim (λ (lt : k < n). get_or-replicate n k word 0 lt ∙ none)
    (λ (le : n ≤ k). get_or_past (replicate n word) k 0 (let e = length-replicate n word in omega (arith, e, le))) (cases_lt k n)

pub keeps_first : (m : Operation) (o : Opening) (compactors : ℕ) → IsLegal m (record { opening = o; events = [] }) → IsVersion (opened o) → Keeps m (started o compactors)
keeps_first m o compactors legal opens = record {
  legal = legal;
  opens = opens;
  version = opens;
  a_word_each = length-replicate {A = ℕ} MOST_SLOTS 0;
  counted = λ k. let free = free_at 0 MOST_SLOTS k refl in let none = sum_by-replicate (held_times k) compactors Idle in omega (arith, free, none);
  small = λ k. let free = free_at 0 MOST_SLOTS k refl in omega (arith, free);
  each = λ c. subst (Holds (opened o)) (sym (idle_at compactors c)) tt;
}
