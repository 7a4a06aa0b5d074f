-- No run comes after a stretch that ended with the oldest run, nor after the rest of it in a later version: new runs come in front,
-- an install puts one run in place of others, and no id is given again. So from the stretch's newest run on, if that is there,
-- there are no more runs than the stretch had.
use Rattle.std.proofs.Common.{◌≡◌, ℕ, zero, suc, ◌+◌, ◌<◌, ◌≤◌, Bool, true, false, cond, eqb, List, [], ◌∷◌, ◌++◌, length, length-append, take, drop, map, fold, refl, ◌∙◌, arith}
use Rattle.std.specs.Prelude.{⊤}
use Rattle.std.proofs.lemmas.Bool.{eqb-true}
use Rattle.std.proofs.lemmas.Bool.Decides.{nat_tests}
use Rattle.std.proofs.lemmas.List.{length-take-le, length-drop, length-map, drop_all}
use Rattle.uc_oper.specs.Operation.{Operation}
use Rattle.uc_claims.specs.Claims.{times}
use Rattle.uc_claims.proofs.Times.{times-cons, times-distinct, one_same}
use Rattle.uc_run_entry.specs.Run.{Contents}
use Rattle.uc_run.specs.Flush.{flushed}
use Rattle.uc_version_state.specs.declared.stretch.Stretch.{Stretch}
use Rattle.uc_version_state.specs.Versions.{PlacedRun, Stored, IsVersion, ids_of}
use Rattle.uc_version_state.specs.Flushes.{with_run, placed_onto}
use Rattle.uc_version_state.specs.Feeds.{memtables_in}
use Rattle.uc_version_state.specs.Installs.{NothingBelow, terms_of, slot_of, part_of, newest_id, place_of, place_in, inputs_in, behind}
use Rattle.uc_version_state.specs.declared.event.Event.{Event}
use Rattle.uc_version_state.specs.declared.event.Event.TheVariants.{Installed, Flushed, Kept, Released}
use Rattle.uc_version_state.specs.Histories.{MayHappen, MayFollow, after}
use Rattle.uc_version_state.proofs.Once.{times_of_all}
use Rattle.uc_version_state.proofs.Found.{place_within, part_count}
use Rattle.uc_version_state.proofs.SameRuns.{ids_rise}
use Rattle.uc_version_compact.specs.Compacting.{runs_at, compaction_at}
use Rattle.uc_version_compact.proofs.PartSlots.{part_length}

-- from a run with this id on there are at most `most` runs, wherever it is
abbrev pub AreAtMostFrom : ℕ → ℕ → List PlacedRun → Type 0
AreAtMostFrom id most [] = ⊤
AreAtMostFrom id most (p ∷ ps) = (p.id ≡ id → length ps < most) × AreAtMostFrom id most ps

-- ---- lists

most_in_rest : (id most n : ℕ) (runs : List PlacedRun) → AreAtMostFrom id most runs → AreAtMostFrom id most (drop n runs)
most_in_rest id most zero runs h = h
most_in_rest id most (suc n) [] h = tt
most_in_rest id most (suc n) (p ∷ ps) h = most_in_rest id most n ps h.1

-- runs with other ids come in front
most_placed : (id most next : ℕ) (older : List PlacedRun) (runs : List Contents) → id < next → AreAtMostFrom id most older → AreAtMostFrom id most (placed_onto next older runs)
most_placed id most next older [] lt h = h
most_placed id most next older (run ∷ runs) lt h =
    most_placed id most (next + 1) (with_run next older run) runs (omega (arith, lt)) ((λ same. absurd (omega (arith, same, lt))), h)

-- a run that comes where others were makes no more of them
no_longer : (new : PlacedRun) (first n : ℕ) (runs : List PlacedRun) → first < n → n ≤ length runs → length (take first runs ++ new ∷ drop n runs) ≤ length runs
no_longer new first n runs some within =
    let all = length-append (take first runs) (new ∷ drop n runs) in
    let front = length-take-le first runs (omega (arith, some, within)) in
    let rest = length-drop n runs in
    omega (arith, all, front, rest, some, within)

most_replaced : (id most : ℕ) (new : PlacedRun) (first n : ℕ) (runs : List PlacedRun) → (new.id ≡ id → ⊥) → first < n → n ≤ length runs → AreAtMostFrom id most runs →
    AreAtMostFrom id most (take first runs ++ new ∷ drop n runs)
most_replaced id most new first n [] other some within h = absurd (omega (arith, some, within))
most_replaced id most new zero n (p ∷ ps) other some within h = ((λ same. absurd (other same)), most_in_rest id most n (p ∷ ps) h)
most_replaced id most new (suc first) zero (p ∷ ps) other some within h = absurd (omega (arith, some))
most_replaced id most new (suc first) (suc n) (p ∷ ps) other some within h = (
  (λ same. let le = no_longer new first n ps (omega (arith, some)) (omega (arith, within)) in let lt = h.0 same in omega (arith, le, lt)),
  most_replaced id most new first n ps other (omega (arith, some)) (omega (arith, within)) h.1,
)

-- the list ends at most `most` places from the first run with this id on, or from its own end
all_within : (id most : ℕ) (runs : List PlacedRun) → AreAtMostFrom id most runs → length runs ≤ place_of id runs + most
all_within id most [] h = omega arith
all_within id most (p ∷ ps) h = by_test (eqb p.id id) refl (all_within id most ps h.1)
  where
    by_test : (b : Bool) → eqb p.id id ≡ b → length ps ≤ place_of id ps + most → suc (length ps) ≤ cond b 0 (suc (place_of id ps)) + most
    by_test true e rest = let lt = h.0 (eqb-true p.id id e) in omega (arith, lt)
    by_test false e rest = omega (arith, rest)

-- ---- at first

most_of_few : (id most : ℕ) (runs : List PlacedRun) → length runs ≤ most → AreAtMostFrom id most runs
most_of_few id most [] le = tt
most_of_few id most (p ∷ ps) le = ((λ same. omega (arith, le)), most_of_few id most ps (omega (arith, le)))

newest_there : (runs : List PlacedRun) (first count : ℕ) → 0 < count → first + count ≤ length runs → 0 < times (newest_id (ids_of (part_of first count runs))) (ids_of runs)
newest_there [] first count some within = absurd (omega (arith, some, within))
newest_there (p ∷ ps) zero zero some within = absurd (omega (arith, some))
newest_there (p ∷ ps) zero (suc count) some within = let e = times-cons p.id p.id (ids_of ps) in let one = one_same p.id p.id refl in omega (arith, e, one)
newest_there (p ∷ ps) (suc first) count some within =
    let e = times-cons (newest_id (ids_of (part_of first count ps))) p.id (ids_of ps) in
    let rest = newest_there ps first count some (omega (arith, within)) in
    omega (arith, e, rest)

most_at_first : (runs : List PlacedRun) (first count : ℕ) → 0 < count → first + count ≡ length runs → ((k : ℕ) → times k (ids_of runs) ≤ 1) →
    AreAtMostFrom (newest_id (ids_of (part_of first count runs))) count runs
most_at_first [] first count some ends once = tt
most_at_first (p ∷ ps) zero count some ends once = most_of_few (newest_id (ids_of (take count (p ∷ ps)))) count (p ∷ ps) (omega (arith, ends))
most_at_first (p ∷ ps) (suc first) count some ends once = (
  (λ same. absurd (twice same)),
  most_at_first ps first count some (omega (arith, ends)) (λ k. let le = once k in let e = times-cons k p.id (ids_of ps) in omega (arith, le, e)),
)
  where
    newest : ℕ
    newest = newest_id (ids_of (part_of first count ps))

    twice : p.id ≡ newest → ⊥
    twice same =
        let le = once newest in
        let e = times-cons newest p.id (ids_of ps) in
        let one = one_same p.id newest same in
        let there = newest_there ps first count some (omega (arith, ends)) in
        omega (arith, le, e, one, there)

-- ---- events

module _ (m : Operation) (id most : ℕ) where
  most_stays : (v : Stored) (e : Event) → MayHappen m v e → id < v.next_id → AreAtMostFrom id most v.runs → AreAtMostFrom id most (after v e).runs
  most_stays v (Installed i) may lt h =
      let within = part_count v.runs (place_in i v) i.ids (place_within (newest_id i.ids) v.runs) may.neighbours in
      let two = may.two in
      most_replaced id most (record { id = v.next_id; slot = slot_of (inputs_in i v); run = i.output }) (place_in i v) (place_in i v + length i.ids) v.runs
      (λ same. omega (arith, same, lt)) (omega (arith, two)) within h
  most_stays v (Flushed ws) may lt h = most_placed id most v.next_id v.runs (map flushed (memtables_in v ws)) lt h
  most_stays v Kept may lt h = h
  most_stays v (Released seq) may lt h = h

  most_along : (v : Stored) (es : List Event) → MayFollow m v es → id < v.next_id → AreAtMostFrom id most v.runs → AreAtMostFrom id most (fold after v es).runs
  most_along v [] may lt h = h
  most_along v (e ∷ es) may lt h =
      most_along (after v e) es may.1 (let up = ids_rise v e in omega (arith, lt, up)) (most_stays v e may.0 lt h)

module _ (m : Operation) (v : Stored) (is_version : IsVersion v) (s : Stretch) (some : 0 < s.count) (within : s.first + s.count ≤ length v.runs)
    (es : List Event) (follow : MayFollow m v es) where
  abbrev later : Stored
  later = fold after v es

  abbrev ids : List ℕ
  ids = ids_of (runs_at v s)

  most_later : s.first + s.count ≡ length v.runs → AreAtMostFrom (newest_id ids) s.count later.runs
  most_later ends =
      most_along m (newest_id ids) s.count v es follow
      (times_of_all (λ id. id < v.next_id) (ids_of v.runs) is_version.ids_given (newest_id ids) (newest_there v.runs s.first s.count some within))
      (most_at_first v.runs s.first s.count some ends (λ k. times-distinct (ids_of v.runs) is_version.ids_apart k))

  pub oldest_last : NothingBelow (behind ids later.runs) (terms_of (compaction_at v s))
  oldest_last flag =
      let ends : s.first + s.count ≡ length v.runs = grind (arith, nat_tests) in
      let count : length ids ≡ s.count = length-map (runs_at v s) (λ (p : PlacedRun). p.id) ∙ part_length v.runs s.first s.count within in
      let le = all_within (newest_id ids) s.count later.runs (most_later ends) in
      drop_all (place_of (newest_id ids) later.runs + length ids) later.runs (omega (arith, count, le))
