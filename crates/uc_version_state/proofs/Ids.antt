-- No id is given twice along a history, and no run is replaced twice.
use Rattle.std.proofs.Common.{◌≡◌, ℕ, zero, suc, ◌+◌, ◌<◌, ◌≤◌, List, [], ◌∷◌, length, ◌⊎◌, inl, inr, ⊎_elim, refl, ap, arith}
use Rattle.std.specs.List.{flat_map}
use Rattle.uc_oper.specs.Operation.{Operation, IsLawful}
use Rattle.uc_claims.specs.Claims.{times}
use Rattle.uc_claims.specs.Holding.{AreDistinct}
use Rattle.uc_claims.proofs.Times.{times-append, times-distinct}
use Rattle.uc_bytes.specs.declared.write.Write.{Write}
use Rattle.uc_run.specs.Flush.{flushed}
use Rattle.uc_version_state.specs.Versions.{PlacedRun, Stored, IsVersion, ids_of}
use Rattle.uc_version_state.specs.Openings.{opened}
use Rattle.uc_version_state.specs.Installs.{inputs_in}
use Rattle.uc_version_state.specs.declared.event.Event.{Event}
use Rattle.uc_version_state.specs.declared.event.Event.TheVariants.{Installed, Flushed, Kept, Released}
use Rattle.uc_version_state.specs.Flushes.{with_run, flushed_onto}
use Rattle.uc_version_state.specs.Feeds.{memtables_in}
use Rattle.uc_version_state.specs.Histories.{MayHappen, after, ids_replaced, History, MayFollow, IsLegal, numbers_from, ids_given, ids_given_from, all_ids_given, all_ids_replaced}
use Rattle.uc_version_state.proofs.Once.{distinct-from_times, times_of_all, alone}
use Rattle.uc_version_state.proofs.Installed.{times_before, times_after}
use Rattle.uc_version_state.proofs.Placing.{FlushesAreRuns}
use Rattle.uc_version_state.proofs.Along.{version_stays}

-- numbers in turn stand once each
numbers_above : (first count k : ℕ) → 0 < times k (numbers_from first count) → (first ≤ k) × (k < first + count)
numbers_above first zero k some = absurd (omega (arith, some))
numbers_above first (suc count) k some =
    ⊎_elim
    (λ (same : (first ≡ k) × (times k (first ∷ []) ≡ 1)). let e = same.0 in (omega (arith, e), omega (arith, e)))
    (λ (other : times k (first ∷ []) ≡ 0). let rest = numbers_above (first + 1) count k (omega (arith, some, other, times-append k (first ∷ []) (numbers_from (first + 1) count))) in let low = rest.0 in let high = rest.1 in (omega (arith, low), omega (arith, high)))
    (alone k first)

numbers_once : (first count k : ℕ) → times k (numbers_from first count) ≤ 1
numbers_once first zero k = omega arith
numbers_once first (suc count) k =
    let both = times-append k (first ∷ []) (numbers_from (first + 1) count) in
    let rest = numbers_once (first + 1) count k in
    ⊎_elim
    (λ (same : (first ≡ k) × (times k (first ∷ []) ≡ 1)). let one = same.1 in let e = same.0 in
    ⊎_elim (λ (none : times k (numbers_from (first + 1) count) ≡ 0). omega (arith, both, one, none)) (λ (some : 0 < times k (numbers_from (first + 1) count)). let low = (numbers_above (first + 1) count k some).0 in absurd (omega (arith, low, e))) (none_or_some (times k (numbers_from (first + 1) count))))
    (λ (other : times k (first ∷ []) ≡ 0). omega (arith, both, other, rest))
    (alone k first)
  where
    none_or_some : (n : ℕ) → (n ≡ 0) ⊎ (0 < n)
    none_or_some zero = inl refl
    none_or_some (suc n) = inr (omega arith)

-- the ids of flushed runs are numbers in turn
ids_flushed : (k id : ℕ) (runs : List PlacedRun) (ps : List (List Write)) → times k (ids_of (flushed_onto id runs ps)) ≡ times k (numbers_from id (length ps)) + times k (ids_of runs)
ids_flushed k id runs [] = omega arith
ids_flushed k id runs (p ∷ ps) =
    let rest = ids_flushed k (id + 1) (with_run id runs (flushed p)) ps in
    let more = times-append k (id ∷ []) (ids_of runs) in
    let all = times-append k (id ∷ []) (numbers_from (id + 1) (length ps)) in
    omega (arith, rest, more, all)

module _ (is_run : FlushesAreRuns) (m : Operation) (laws : IsLawful m) (k : ℕ) where
  -- how often the id stands among a version's runs
  abbrev here : Stored → ℕ
  here v = times k (ids_of v.runs)

  once_here : (v : Stored) → IsVersion v → here v ≤ 1
  once_here v is_version = times-distinct (ids_of v.runs) is_version.ids_apart k

  given_here : (v : Stored) → IsVersion v → 0 < here v → k < v.next_id
  given_here v is_version some = times_of_all (λ id. id < v.next_id) (ids_of v.runs) is_version.ids_given k some

  -- what an event does to an id
  record Moves (v : Stored) (e : Event) : Type 0 where
    there : times k (ids_replaced e) ≤ here v
    gone : 0 < times k (ids_replaced e) → here (after v e) ≡ 0
    from : 0 < here (after v e) → (0 < here v) ⊎ (v.next_id ≤ k)
    up : v.next_id ≤ (after v e).next_id
    once : times k (ids_given v e) ≤ 1
    new : 0 < times k (ids_given v e) → (v.next_id ≤ k) × (k < (after v e).next_id)

  moved : (v : Stored) (e : Event) → IsVersion v → MayHappen m v e → Moves v e
  moved v (Installed i) is_version may =
      let before = times_before m laws v i is_version may (λ p. p.id) k in
      let later = times_after m laws v i is_version may (λ p. p.id) k in
      let at_most = once_here v is_version in
      let inputs : times k (ids_of (inputs_in i v)) ≡ times k i.ids = ap (times k) may.neighbours in
      record {
        there = omega (arith, before, inputs);
        gone = λ some. ⊎_elim
            (λ (same : (v.next_id ≡ k) × (times k (v.next_id ∷ []) ≡ 1)). let lt = given_here v is_version (omega (arith, before, inputs, some)) in let e = same.0 in absurd (omega (arith, lt, e)))
            (λ (other : times k (v.next_id ∷ []) ≡ 0). omega (arith, before, later, at_most, inputs, some, other))
            (alone k v.next_id);
        from = λ some. ⊎_elim
            (λ (same : (v.next_id ≡ k) × (times k (v.next_id ∷ []) ≡ 1)). let e = same.0 in inr (omega (arith, e)))
            (λ (other : times k (v.next_id ∷ []) ≡ 0). inl (omega (arith, before, later, some, other)))
            (alone k v.next_id);
        up = omega arith;
        once = ⊎_elim
            (λ (same : (v.next_id ≡ k) × (times k (v.next_id ∷ []) ≡ 1)). let e = same.1 in omega (arith, e))
            (λ (other : times k (v.next_id ∷ []) ≡ 0). omega (arith, other))
            (alone k v.next_id);
        new = λ some. ⊎_elim
            (λ (same : (v.next_id ≡ k) × (times k (v.next_id ∷ []) ≡ 1)). let e = same.0 in (omega (arith, e), omega (arith, e)))
            (λ (other : times k (v.next_id ∷ []) ≡ 0). absurd (omega (arith, some, other)))
            (alone k v.next_id);
      }
  moved v (Flushed ws) is_version may =
      let count = length (memtables_in v ws) in
      let ids = ids_flushed k v.next_id v.runs (memtables_in v ws) in
      let once = numbers_once v.next_id count k in
      record {
        there = omega arith;
        gone = λ some. absurd (omega (arith, some));
        from = λ some. some_of (here v) (times k (numbers_from v.next_id count)) (omega (arith, some, ids)) (λ new. (numbers_above v.next_id count k new).0);
        up = omega arith;
        once = once;
        new = λ some. numbers_above v.next_id count k some;
      }
    where
      some_of : (n r : ℕ) → 0 < r + n → (0 < r → v.next_id ≤ k) → (0 < n) ⊎ (v.next_id ≤ k)
      some_of (suc n) r some above = inl (omega arith)
      some_of zero r some above = inr (above (omega (arith, some)))
  moved v Kept is_version may = record {
    there = omega arith;
    gone = λ some. absurd (omega (arith, some));
    from = λ some. inl some;
    up = omega arith;
    once = omega arith;
    new = λ some. absurd (omega (arith, some));
  }
  moved v (Released seq) is_version may = record {
    there = omega arith;
    gone = λ some. absurd (omega (arith, some));
    from = λ some. inl some;
    up = omega arith;
    once = omega arith;
    new = λ some. absurd (omega (arith, some));
  }

  record ReplacedOnce (v : Stored) (es : List Event) : Type 0 where
    once : times k (flat_map ids_replaced es) ≤ 1
    from : 0 < times k (flat_map ids_replaced es) → (0 < here v) ⊎ (v.next_id ≤ k)

  joined_once : (v : Stored) (e : Event) (es : List Event) → IsVersion v → Moves v e → ReplacedOnce (after v e) es → ReplacedOnce v (e ∷ es)
  joined_once v e es is_version step rest = record {
    once = by_count (times k (ids_replaced e)) refl;
    from = λ some. by_place (times k (ids_replaced e)) refl some;
  }
    where
      both : times k (flat_map ids_replaced (e ∷ es)) ≡ times k (ids_replaced e) + times k (flat_map ids_replaced es)
      both = times-append k (ids_replaced e) (flat_map ids_replaced es)

      none_after : 0 < times k (ids_replaced e) → 0 < times k (flat_map ids_replaced es) → ⊥
      none_after some more =
          let there = step.there in
          let gone = step.gone some in
          let up = step.up in
          let lt = given_here v is_version (omega (arith, some, there)) in
          ⊎_elim (λ (h : 0 < here (after v e)). omega (arith, h, gone)) (λ (h : (after v e).next_id ≤ k). omega (arith, h, up, lt)) (rest.from more)

      count_after : (n r : ℕ) → times k (flat_map ids_replaced es) ≡ n → times k (ids_replaced e) ≡ suc r → n ≡ 0
      count_after zero r en er = refl
      count_after (suc n) r en er = absurd (none_after (omega (arith, er)) (omega (arith, en)))

      by_count : (r : ℕ) → times k (ids_replaced e) ≡ r → times k (flat_map ids_replaced (e ∷ es)) ≤ 1
      by_count zero er = let le = rest.once in omega (arith, both, er, le)
      by_count (suc r) er =
          let none = count_after (times k (flat_map ids_replaced es)) r refl er in
          let there = step.there in
          let at_most = once_here v is_version in
          omega (arith, both, none, there, at_most)

      by_place : (r : ℕ) → times k (ids_replaced e) ≡ r → 0 < times k (flat_map ids_replaced (e ∷ es)) → (0 < here v) ⊎ (v.next_id ≤ k)
      by_place (suc r) er some = let there = step.there in inl (omega (arith, er, there))
      by_place zero er some =
          ⊎_elim step.from (λ (h : (after v e).next_id ≤ k). let up = step.up in inr (omega (arith, h, up))) (rest.from (omega (arith, both, er, some)))

  replaced_once : (v : Stored) (es : List Event) → IsVersion v → MayFollow m v es → ReplacedOnce v es
  replaced_once v [] is_version may = record { once = omega arith; from = λ some. absurd (omega (arith, some)) }
  replaced_once v (e ∷ es) is_version may =
      joined_once v e es is_version (moved v e is_version may.0) (replaced_once (after v e) es (version_stays is_run m laws v e is_version may.0) may.1)

  record GivenOnce (v : Stored) (es : List Event) : Type 0 where
    once : times k (ids_given_from v es) ≤ 1
    above : 0 < times k (ids_given_from v es) → v.next_id ≤ k

  more_given : (v : Stored) (e : Event) (es : List Event) → Moves v e → GivenOnce (after v e) es → GivenOnce v (e ∷ es)
  more_given v e es step rest = record {
    once = by_count (times k (ids_given v e)) (times k (ids_given_from (after v e) es)) refl refl;
    above = λ some. by_place (times k (ids_given v e)) refl some;
  }
    where
      both : times k (ids_given_from v (e ∷ es)) ≡ times k (ids_given v e) + times k (ids_given_from (after v e) es)
      both = times-append k (ids_given v e) (ids_given_from (after v e) es)

      by_count : (n r : ℕ) → times k (ids_given v e) ≡ n → times k (ids_given_from (after v e) es) ≡ r → times k (ids_given_from v (e ∷ es)) ≤ 1
      by_count zero r en er = let le = rest.once in omega (arith, both, en, le)
      by_count (suc n) zero en er = let le = step.once in omega (arith, both, er, le)
      by_count (suc n) (suc r) en er = let new = step.new (omega (arith, en)) in let lt = new.1 in let le = rest.above (omega (arith, er)) in absurd (omega (arith, lt, le))

      by_place : (n : ℕ) → times k (ids_given v e) ≡ n → 0 < times k (ids_given_from v (e ∷ es)) → v.next_id ≤ k
      by_place zero en some = let le = rest.above (omega (arith, both, en, some)) in let up = step.up in omega (arith, le, up)
      by_place (suc n) en some = let new = step.new (omega (arith, en)) in new.0

  given_once : (v : Stored) (es : List Event) → IsVersion v → MayFollow m v es → GivenOnce v es
  given_once v [] is_version may = record { once = omega arith; above = λ some. absurd (omega (arith, some)) }
  given_once v (e ∷ es) is_version may =
      more_given v e es (moved v e is_version may.0) (given_once (after v e) es (version_stays is_run m laws v e is_version may.0) may.1)

  all_given_once : (h : History) → IsLegal m h → IsVersion (opened h.opening) → times k (all_ids_given h) ≤ 1
  all_given_once h legal opens = by_count (here (opened h.opening)) (times k (ids_given_from (opened h.opening) h.events)) refl refl
    where
      both : times k (all_ids_given h) ≡ here (opened h.opening) + times k (ids_given_from (opened h.opening) h.events)
      both = times-append k (ids_of (opened h.opening).runs) (ids_given_from (opened h.opening) h.events)

      since : GivenOnce (opened h.opening) h.events
      since = given_once (opened h.opening) h.events opens legal.follow

      by_count : (n r : ℕ) → here (opened h.opening) ≡ n → times k (ids_given_from (opened h.opening) h.events) ≡ r → times k (all_ids_given h) ≤ 1
      by_count zero r en er = let le = since.once in omega (arith, both, en, le)
      by_count (suc n) zero en er = let le = once_here (opened h.opening) opens in omega (arith, both, er, le)
      by_count (suc n) (suc r) en er = let lt = given_here (opened h.opening) opens (omega (arith, en)) in let le = since.above (omega (arith, er)) in absurd (omega (arith, lt, le))

module _ (is_run : FlushesAreRuns) (m : Operation) (laws : IsLawful m) (h : History) (legal : IsLegal m h) (opens : IsVersion (opened h.opening)) where
  pub given_are_apart : AreDistinct (all_ids_given h)
  given_are_apart = distinct-from_times (all_ids_given h) (λ k. all_given_once is_run m laws k h legal opens)

  pub replaced_are_apart : AreDistinct (all_ids_replaced h)
  replaced_are_apart = distinct-from_times (all_ids_replaced h) (λ k. (replaced_once is_run m laws k (opened h.opening) h.events opens legal.follow).once)
