-- A stretch of runs stays where another one, apart from it, is replaced by a run, and where runs come before all others.
use Rattle.std.proofs.Common.{◌≡◌, ℕ, zero, suc, ◌+◌, ◌-◌, ◌<◌, ◌≤◌, List, [], ◌∷◌, ◌++◌, length, get_or, take, drop, ◌⊎◌, inl, inr, ⊎_elim, refl, sym, ap, ◌∙◌, subst, arith}
use Rattle.std.proofs.lemmas.Bool.{cases_lt}
use Rattle.std.proofs.lemmas.List.{length-append, length-take-le, length-drop, take-append-drop, take-append-le, drop-append-le, drop-drop}
use Rattle.std.proofs.Math.Seq.{drop-append-add}
use Rattle.uc_claims.specs.Claims.{times}
use Rattle.uc_claims.proofs.Times.{times-append, times-from_Contains}
use Rattle.uc_bytes.specs.declared.write.Write.{Write}
use Rattle.uc_run_entry.specs.Run.{Contents}
use Rattle.uc_run.specs.Flush.{flushed}
use Rattle.uc_version_state.specs.Versions.{PlacedRun, Stored, slots_of}
use Rattle.uc_version_state.specs.Flushes.{with_run, flushed_onto}
use Rattle.uc_version_state.specs.Feeds.{memtables_in, fed}
use Rattle.uc_version_state.specs.Snapshots.{kept, released}
use Rattle.uc_version_state.specs.Installs.{part_of, slot_of, replaced}
use Rattle.uc_version_state.proofs.Placing.{count_flushed}

-- runs that are neighbours in a version, in order, from a place on
pub record Stands (v : Stored) (noted : List PlacedRun) : Type 0 where
  pub first : ℕ
  pub within : first + length noted ≤ length v.runs
  pub there : part_of first (length noted) v.runs ≡ noted

-- a run of a stretch has its slot among the stretch's
slot_in : (runs : List PlacedRun) (first count p : ℕ) (d : PlacedRun) → first ≤ p → p < first + count → p < length runs → 0 < times (get_or runs p d).slot (slots_of (part_of first count runs))
slot_in [] first count p d le lt room = absurd (omega (arith, room))
slot_in (r ∷ rs) zero zero p d le lt room = absurd (omega (arith, lt))
slot_in (r ∷ rs) zero (suc count) zero d le lt room = times-from_Contains r.slot (r.slot ∷ slots_of (take count rs)) (0, omega arith, refl)
slot_in (r ∷ rs) zero (suc count) (suc p) d le lt room =
    let x = (get_or rs p d).slot in
    let e = times-append x (r.slot ∷ []) (slots_of (take count rs)) in
    let rest = slot_in rs zero count p d (omega arith) (omega (arith, lt)) (omega (arith, room)) in
    omega (arith, e, rest)
slot_in (r ∷ rs) (suc first) count zero d le lt room = absurd (omega (arith, le))
slot_in (r ∷ rs) (suc first) count (suc p) d le lt room = slot_in rs first count p d (omega (arith, le)) (omega (arith, lt)) (omega (arith, room))

some_run : (runs : List PlacedRun) (p : ℕ) → p < length runs → PlacedRun
some_run [] p lt = absurd (omega (arith, lt))
some_run (r ∷ rs) p lt = r

-- two stretches that share no slot don't overlap
lie_apart : (runs : List PlacedRun) (f n g k : ℕ) → 0 < n → f + n ≤ length runs → 0 < k → g + k ≤ length runs →
    ((x : ℕ) → times x (slots_of (part_of f n runs)) + times x (slots_of (part_of g k runs)) ≤ 1) → (g + k ≤ f) ⊎ (f + n ≤ g)
lie_apart runs f n g k some_n f_within some_k g_within once =
    ⊎_elim
    (λ (before : f < g + k).
    ⊎_elim
    (λ (behind : g < f + n). absurd (by_place before behind (cases_lt g f)))
    (λ (le : f + n ≤ g). inr le) (cases_lt g (f + n)))
    (λ (le : g + k ≤ f). inl le) (cases_lt f (g + k))
  where
    both_in : (p : ℕ) → g ≤ p → p < g + k → f ≤ p → p < f + n → ⊥
    both_in p ga gb ha hb =
        let room : p < length runs = omega (arith, gb, g_within) in
        let d = some_run runs p room in
        let one = slot_in runs g k p d ga gb room in
        let other = slot_in runs f n p d ha hb room in
        let le = once (get_or runs p d).slot in
        omega (arith, one, other, le)

    by_place : f < g + k → g < f + n → (g < f) ⊎ (f ≤ g) → ⊥
    by_place before behind (inl lt) = both_in f (omega (arith, lt)) before (omega arith) (omega (arith, some_n))
    by_place before behind (inr le) = both_in g (omega arith) (omega (arith, some_k)) le behind

part_front : (xs ys : List PlacedRun) (first count : ℕ) → first + count ≤ length xs → part_of first count (xs ++ ys) ≡ part_of first count xs
part_front xs ys first count within =
    ap (take count) (drop-append-le first xs ys (omega (arith, within)))
    ∙ take-append-le count (drop first xs) ys (let e = length-drop first xs in omega (arith, e, within))

module _ (v : Stored) (f n : ℕ) (some : 0 < n) (f_within : f + n ≤ length v.runs) (run : Contents) where
  abbrev v' : Stored
  v' = replaced f n run v

  abbrev new : PlacedRun
  new = record { id = v.next_id; slot = slot_of (part_of f n v.runs); run = run }

  front_length : length (take f v.runs) ≡ f
  front_length = length-take-le f v.runs (omega (arith, f_within))

  length_after : length v'.runs + n ≡ length v.runs + 1
  length_after =
      let a = length-append (take f v.runs) (new ∷ drop (f + n) v.runs) in
      let b = length-drop (f + n) v.runs in
      let l = front_length in
      omega (arith, a, b, l, f_within)

  part_before : (first count : ℕ) → first + count ≤ f → part_of first count v'.runs ≡ part_of first count v.runs
  part_before first count le =
      part_front (take f v.runs) (new ∷ drop (f + n) v.runs) first count (let l = front_length in omega (arith, l, le))
      ∙ sym (part_front (take f v.runs) (drop f v.runs) first count (let l = front_length in omega (arith, l, le)))
      ∙ ap (part_of first count) (take-append-drop f v.runs)

  drop_behind : (i : ℕ) → drop (f + (1 + i)) v'.runs ≡ drop (f + n + i) v.runs
  drop_behind i =
      ap (λ k. drop (k + (1 + i)) v'.runs) (sym front_length)
      ∙ drop-append-add (take f v.runs) (new ∷ drop (f + n) v.runs) (1 + i)
      ∙ ap (λ k. drop k (new ∷ drop (f + n) v.runs)) (next i)
      ∙ drop-drop i (f + n) v.runs
    where
      next : (k : ℕ) → 1 + k ≡ suc k
      next k = omega arith

  part_after : (first count : ℕ) → f + n ≤ first → part_of (f + (1 + (first - (f + n)))) count v'.runs ≡ part_of first count v.runs
  part_after first count le =
      ap (take count) (drop_behind (first - (f + n))) ∙ ap (λ k. part_of k count v.runs) (back first le)
    where
      back : (g : ℕ) → f + n ≤ g → f + n + (g - (f + n)) ≡ g
      back g l = omega (arith, l)

  pub stands_on : (noted : List PlacedRun) → 0 < length noted → Stands v noted →
      ((x : ℕ) → times x (slots_of (part_of f n v.runs)) + times x (slots_of noted) ≤ 1) → Stands v' noted
  stands_on noted some_noted stands once =
      ⊎_elim
      (λ (le : stands.first + length noted ≤ f). record {
        first = stands.first;
        within = let l = length_after in omega (arith, l, le, some, f_within);
        there = part_before stands.first (length noted) le ∙ stands.there;
      })
      (λ (le : f + n ≤ stands.first). record {
        first = f + (1 + (stands.first - (f + n)));
        within = let l = length_after in let w = stands.within in omega (arith, l, le, w, some);
        there = part_after stands.first (length noted) le ∙ stands.there;
      })
      (lie_apart v.runs f n stands.first (length noted) some f_within some_noted stands.within
      (λ x. subst (λ (ps : List PlacedRun). times x (slots_of (part_of f n v.runs)) + times x (slots_of ps) ≤ 1) (sym stands.there) (once x)))

-- ---- runs that come before all others

-- neighbouring runs are `count` places further back
part_behind : (id : ℕ) (runs : List PlacedRun) (ps : List (List Write)) (first count : ℕ) → part_of (first + length ps) count (flushed_onto id runs ps) ≡ part_of first count runs
part_behind id runs [] first count = ap (λ n. part_of n count runs) (let e : first + 0 ≡ first = omega arith in e)
part_behind id runs (p ∷ ps) first count =
    ap (λ n. part_of n count (flushed_onto (id + 1) (with_run id runs (flushed p)) ps)) (let e : first + suc (length ps) ≡ suc first + length ps = omega arith in e)
    ∙ part_behind (id + 1) (with_run id runs (flushed p)) ps (suc first) count

pub stands_fed : (v : Stored) (ws : List Write) (noted : List PlacedRun) → Stands v noted → Stands (fed ws v) noted
stands_fed v ws noted stands = record {
  first = stands.first + length (memtables_in v ws);
  within = let count = count_flushed v.next_id v.runs (memtables_in v ws) in let w = stands.within in omega (arith, count, w);
  there = part_behind v.next_id v.runs (memtables_in v ws) stands.first (length noted) ∙ stands.there;
}

-- keeps move no run
pub stands_kept : (v : Stored) (noted : List PlacedRun) → Stands v noted → Stands (kept v) noted
stands_kept v noted stands = record { first = stands.first; within = stands.within; there = stands.there }

pub stands_released : (seq : ℕ) (v : Stored) (noted : List PlacedRun) → Stands v noted → Stands (released seq v) noted
stands_released seq v noted stands = record { first = stands.first; within = stands.within; there = stands.there }
