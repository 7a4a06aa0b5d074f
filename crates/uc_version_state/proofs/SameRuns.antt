-- Runs keep their ids, slots and contents until they are replaced.
use Rattle.std.proofs.Common.{◌≡◌, ℕ, ◌+◌, ◌<◌, ◌≤◌, List, [], ◌∷◌, ◌++◌, Contains, ◌⊎◌, inl, inr, ⊎_elim, length, take, drop, fold, refl, sym, ap, ◌∙◌, subst, arith}
use Rattle.std.proofs.lemmas.List.Elements.{Contains-append_cases}
use Rattle.uc_model.proofs.Members.{contains_first, contains_later, contains_cases}
use Rattle.uc_oper.specs.Operation.{Operation, IsLawful}
use Rattle.uc_claims.specs.Claims.{times}
use Rattle.uc_claims.proofs.Times.{times-distinct, times-cons, one_same, Contains-from_times}
use Rattle.uc_bytes.specs.declared.write.Write.{Write}
use Rattle.uc_run.specs.Flush.{flushed}
use Rattle.uc_version_state.specs.Versions.{PlacedRun, Stored, IsVersion, ids_of, slots_of}
use Rattle.uc_version_state.specs.Flushes.{least_free, with_run, flushed_onto}
use Rattle.uc_version_state.specs.Feeds.{memtables_in}
use Rattle.uc_version_state.specs.Openings.{opened}
use Rattle.uc_version_state.specs.Installs.{part_of, slot_of, place_in, inputs_in, older_in}
use Rattle.uc_version_state.specs.declared.event.Event.{Event}
use Rattle.uc_version_state.specs.declared.event.Event.TheVariants.{Installed, Flushed, Kept, Released}
use Rattle.uc_version_state.specs.Histories.{MayHappen, after, ids_replaced, History, MayFollow, IsLegal, version_after}
use Rattle.uc_version_state.proofs.Once.{times_of_all}
use Rattle.uc_version_state.proofs.Parts.{in_parts}
use Rattle.uc_version_state.proofs.Placing.{FlushesAreRuns}
use Rattle.uc_version_state.proofs.Along.{versions_stay}

-- ---- lists

in_front : {X : Type 0} → (x : X) (xs ys : List X) → Contains xs x → Contains (xs ++ ys) x
in_front x [] ys has = absurd (omega (arith, has.1))
in_front x (z ∷ zs) ys has = ⊎_elim (λ (e : z ≡ x). contains_first z x (zs ++ ys) e) (λ (later : Contains zs x). contains_later z x (zs ++ ys) (in_front x zs ys later)) (contains_cases z x zs has)

in_back : {X : Type 0} → (x : X) (xs ys : List X) → Contains ys x → Contains (xs ++ ys) x
in_back x [] ys has = has
in_back x (z ∷ zs) ys has = contains_later z x (zs ++ ys) (in_back x zs ys has)

-- a run of a list has its id among those of the list
has_id : (ps : List PlacedRun) (p : PlacedRun) → Contains ps p → 0 < times p.id (ids_of ps)
has_id [] p has = absurd (omega (arith, has.1))
has_id (q ∷ qs) p has =
    let e = times-cons p.id q.id (ids_of qs) in
    ⊎_elim (λ (same : q ≡ p). let one = one_same q.id p.id (ap (λ (r : PlacedRun). r.id) same) in omega (arith, e, one))
    (λ (later : Contains qs p). let rest = has_id qs p later in omega (arith, e, rest))
    (contains_cases q p qs has)

-- of runs whose ids stand once each, two with one id are the same
pub one_run : (ps : List PlacedRun) (p q : PlacedRun) → ((k : ℕ) → times k (ids_of ps) ≤ 1) → Contains ps p → Contains ps q → p.id ≡ q.id → p ≡ q
one_run [] p q once has_p has_q same = absurd (omega (arith, has_p.1))
one_run (r ∷ rs) p q once has_p has_q same =
    by_cases (contains_cases r p rs has_p) (contains_cases r q rs has_q)
    (λ a b. one_run rs p q (λ k. let le = once k in let e = times-cons k r.id (ids_of rs) in omega (arith, le, e)) a b same)
  where
    twice : (x y : PlacedRun) → r ≡ x → Contains rs y → x.id ≡ y.id → ⊥
    twice x y here later id =
        let le = once y.id in
        let e = times-cons y.id r.id (ids_of rs) in
        let one = one_same r.id y.id (ap (λ (z : PlacedRun). z.id) here ∙ id) in
        let rest = has_id rs y later in
        omega (arith, le, e, one, rest)

    by_cases : (r ≡ p) ⊎ Contains rs p → (r ≡ q) ⊎ Contains rs q → (Contains rs p → Contains rs q → p ≡ q) → p ≡ q
    by_cases (inl a) (inl b) later = sym a ∙ b
    by_cases (inl a) (inr b) later = absurd (twice p q a b same)
    by_cases (inr a) (inl b) later = absurd (twice q p b a (sym same))
    by_cases (inr a) (inr b) later = later a b

-- ---- one event

-- runs of three parts
stands_in : (v : Stored) (first count : ℕ) (p : PlacedRun) → Contains v.runs p → Contains (take first v.runs) p ⊎ (Contains (part_of first count v.runs) p ⊎ Contains (drop (first + count) v.runs) p)
stands_in v first count p has =
    ⊎_elim (λ (a : Contains (take first v.runs) p). inl a)
    (λ (b : Contains (part_of first count v.runs ++ drop (first + count) v.runs) p). inr (Contains-append_cases (part_of first count v.runs) (drop (first + count) v.runs) p b))
    (Contains-append_cases (take first v.runs) (part_of first count v.runs ++ drop (first + count) v.runs) p
    (subst (λ (ps : List PlacedRun). Contains ps p) (sym (in_parts first count v.runs)) has))

of_front : (v : Stored) (first count : ℕ) (p : PlacedRun) → Contains (take first v.runs) p → Contains v.runs p
of_front v first count p has =
    subst (λ (ps : List PlacedRun). Contains ps p) (in_parts first count v.runs) (in_front p (take first v.runs) (part_of first count v.runs ++ drop (first + count) v.runs) has)

of_back : (v : Stored) (first count : ℕ) (p : PlacedRun) → Contains (drop (first + count) v.runs) p → Contains v.runs p
of_back v first count p has =
    subst (λ (ps : List PlacedRun). Contains ps p) (in_parts first count v.runs)
    (in_back p (take first v.runs) (part_of first count v.runs ++ drop (first + count) v.runs) (in_back p (part_of first count v.runs) (drop (first + count) v.runs) has))

-- the next id never falls
pub ids_rise : (v : Stored) (e : Event) → v.next_id ≤ (after v e).next_id
ids_rise v (Installed i) = omega arith
ids_rise v (Flushed ws) = omega arith
ids_rise v Kept = omega arith
ids_rise v (Released seq) = omega arith

-- runs that are flushed come before those that are there
stays_behind : (id : ℕ) (runs : List PlacedRun) (ps : List (List Write)) (p : PlacedRun) → Contains runs p → Contains (flushed_onto id runs ps) p
stays_behind id runs [] p has = has
stays_behind id runs (part ∷ ps) p has =
    stays_behind (id + 1) (with_run id runs (flushed part)) ps p (contains_later (record { id = id; slot = least_free (slots_of runs); run = flushed part }) p runs has)

-- and have ids of their own
was_behind : (id : ℕ) (runs : List PlacedRun) (ps : List (List Write)) (p : PlacedRun) → Contains (flushed_onto id runs ps) p → p.id < id → Contains runs p
was_behind id runs [] p has old = has
was_behind id runs (part ∷ ps) p has old =
    let new : PlacedRun = record { id = id; slot = least_free (slots_of runs); run = flushed part } in
    ⊎_elim (λ (same : new ≡ p). let e = ap (λ (q : PlacedRun). q.id) same in absurd (omega (arith, old, e))) (λ (b : Contains runs p). b)
    (contains_cases new p runs (was_behind (id + 1) (with_run id runs (flushed part)) ps p has (omega (arith, old))))

module _ (m : Operation) where
  -- a run that isn't replaced stays
  pub stays : (v : Stored) (e : Event) (p : PlacedRun) → MayHappen m v e → Contains v.runs p → (Contains (ids_replaced e) p.id → ⊥) → Contains (after v e).runs p
  stays v (Installed i) p may has kept =
      ⊎_elim (λ (a : Contains (take first v.runs) p). in_front p (take first v.runs) (new ∷ older_in i v) a)
      (λ (rest : Contains (inputs_in i v) p ⊎ Contains (older_in i v) p).
      ⊎_elim (λ (b : Contains (inputs_in i v) p). absurd (kept (subst (λ (ids : List ℕ). Contains ids p.id) may.neighbours (id_in (inputs_in i v) p b))))
      (λ (c : Contains (older_in i v) p). in_back p (take first v.runs) (new ∷ older_in i v) (contains_later new p (older_in i v) c)) rest)
      (stands_in v first (length i.ids) p has)
    where
      first : ℕ
      first = place_in i v

      new : PlacedRun
      new = record { id = v.next_id; slot = slot_of (inputs_in i v); run = i.output }

      id_in : (ps : List PlacedRun) (q : PlacedRun) → Contains ps q → Contains (ids_of ps) q.id
      id_in ps q there = Contains-from_times q.id (ids_of ps) (has_id ps q there)
  stays v (Flushed ws) p may has kept = stays_behind v.next_id v.runs (memtables_in v ws) p has
  stays v Kept p may has kept = has
  stays v (Released seq) p may has kept = has

  -- a run was there before, or has an id that wasn't given yet
  pub was_there : (v : Stored) (e : Event) (p : PlacedRun) → Contains (after v e).runs p → p.id < v.next_id → Contains v.runs p
  was_there v (Installed i) p has old =
      ⊎_elim (λ (a : Contains (take (place_in i v) v.runs) p). of_front v (place_in i v) (length i.ids) p a)
      (λ (rest : Contains (new ∷ older_in i v) p).
      ⊎_elim (λ (same : new ≡ p). let e = ap (λ (q : PlacedRun). q.id) same in absurd (omega (arith, old, e)))
      (λ (b : Contains (older_in i v) p). of_back v (place_in i v) (length i.ids) p b)
      (contains_cases new p (older_in i v) rest))
      (Contains-append_cases (take (place_in i v) v.runs) (new ∷ older_in i v) p has)
    where
      new : PlacedRun
      new = record { id = v.next_id; slot = slot_of (inputs_in i v); run = i.output }
  was_there v (Flushed ws) p has old = was_behind v.next_id v.runs (memtables_in v ws) p has old
  was_there v Kept p has old = has
  was_there v (Released seq) p has old = has

  -- ---- some events

  pub were_there : (v : Stored) (es : List Event) (p : PlacedRun) → Contains (fold after v es).runs p → p.id < v.next_id → Contains v.runs p
  were_there v [] p has old = has
  were_there v (e ∷ es) p has old = was_there v e p (were_there (after v e) es p has (let up = ids_rise v e in omega (arith, old, up))) old

  -- a beginning of events that may follow
  pub follow-front : (v : Stored) (es fs : List Event) → MayFollow m v (es ++ fs) → MayFollow m v es
  follow-front v [] fs may = tt
  follow-front v (e ∷ es) fs may = (may.0, follow-front (after v e) es fs may.1)

  pub fold-behind : (v : Stored) (es fs : List Event) → fold after v (es ++ fs) ≡ fold after (fold after v es) fs
  fold-behind v [] fs = refl
  fold-behind v (e ∷ es) fs = fold-behind (after v e) es fs

  pub begins : (h : History) (fs : List Event) → IsLegal m (record h { events = h.events ++ fs }) → IsLegal m h
  begins h fs legal = record { opens = legal.opens; follow = follow-front (opened h.opening) h.events fs legal.follow }

  -- ---- along two histories of which one begins with the other

  module _ (is_run : FlushesAreRuns) (laws : IsLawful m) (h : History) (fs : List Event) (legal : IsLegal m (record h { events = h.events ++ fs })) (opens : IsVersion (opened h.opening)) where
    is_version : IsVersion (version_after h)
    is_version = versions_stay is_run m laws (opened h.opening) h.events opens (begins h fs legal).follow

    pub same_run : (p q : PlacedRun) → Contains (version_after h).runs p → Contains (version_after (record h { events = h.events ++ fs })).runs q → p.id ≡ q.id → p ≡ q
    same_run p q has_p has_q same =
        let v = version_after h in
        let given = times_of_all (λ id. id < v.next_id) (ids_of v.runs) is_version.ids_given p.id (has_id v.runs p has_p) in
        let later = subst (λ (w : Stored). Contains w.runs q) (fold-behind (opened h.opening) h.events fs) has_q in
        one_run v.runs p q (λ k. times-distinct (ids_of v.runs) is_version.ids_apart k) has_p (were_there v fs q later (omega (arith, given, same))) same
