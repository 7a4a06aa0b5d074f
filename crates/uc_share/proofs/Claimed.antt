-- Runs that were claimed in a version stand in a later one as they were.
use Rattle.std.proofs.Common.{◌≡◌, ℕ, ◌+◌, ◌<◌, List, [], ◌∷◌, ◌++◌, Contains, ⊎_elim, length, take, drop, fold, refl, sym, ap, ◌∙◌, subst, arith}
use Rattle.std.specs.List.{AllByRecursion}
use mathlib.Core.List.{IsPrefix}
use Rattle.uc_oper.specs.Operation.{Operation}
use Rattle.uc_model.proofs.Members.{contains_first, contains_later, contains_cases}
use Rattle.uc_claims.proofs.Times.{times-distinct}
use Rattle.uc_version_state.specs.Versions.{PlacedRun, Stored, IsVersion, ids_of}
use Rattle.uc_version_state.specs.Installs.{part_of, place_of, newest_id, standing}
use Rattle.uc_version_state.specs.Refusals.{AreInPlace}
use Rattle.uc_version_state.specs.declared.event.Event.{Event}
use Rattle.uc_version_state.specs.Histories.{after}
use Rattle.uc_version_state.proofs.Parts.{in_parts, all-front, all-behind}
use Rattle.uc_version_state.proofs.SameRuns.{one_run, were_there}
use Rattle.uc_share.proofs.Behind.{after_joined}

all_from : {X : Type 0} (P : X → Type 0) (xs : List X) → ((x : X) → Contains xs x → P x) → AllByRecursion P xs
all_from P [] each = tt
all_from P (x ∷ xs) each = (each x (contains_first x x xs refl), all_from P xs (λ y has. each y (contains_later x y xs has)))

-- neighbouring runs are runs of the list
pub part_within : (runs : List PlacedRun) (first count : ℕ) → AllByRecursion (λ q. Contains runs q) (part_of first count runs)
part_within runs first count =
    let P : PlacedRun → Type 0 = λ q. Contains runs q in
    all-front P (part_of first count runs) (drop (first + count) runs)
    (all-behind P (take first runs) (part_of first count runs ++ drop (first + count) runs)
    (subst (λ (ps : List PlacedRun). AllByRecursion P ps) (sym (in_parts first count runs)) (all_from P runs (λ q has. has))))

id_below : (n : ℕ) (ps : List PlacedRun) (p : PlacedRun) → AllByRecursion (λ id. id < n) (ids_of ps) → Contains ps p → p.id < n
id_below n [] p all has = absurd (omega (arith, has.1))
id_below n (q ∷ qs) p all has =
    ⊎_elim (λ (e : q ≡ p). subst (λ (r : PlacedRun). r.id < n) e all.0) (λ (later : Contains qs p). id_below n qs p all.1 later) (contains_cases q p qs has)

kept : (m : Operation) (v : Stored) (es : List Event) (p q : PlacedRun) → IsVersion v → Contains v.runs p → Contains (fold after v es).runs q → q.id ≡ p.id → q ≡ p
kept m v es p q is has_p has_q same =
    let given = id_below v.next_id v.runs p is.ids_given has_p in
    sym (one_run v.runs p q (λ k. times-distinct (ids_of v.runs) is.ids_apart k) has_p (were_there m v es q has_q (omega (arith, given, same))) (sym same))

same_all : (m : Operation) (v : Stored) (es : List Event) (runs claimed : List PlacedRun) → IsVersion v → AllByRecursion (λ q. Contains (fold after v es).runs q) runs → AllByRecursion (λ p. Contains v.runs p) claimed → ids_of runs ≡ ids_of claimed → runs ≡ claimed
same_all m v es [] [] is there has e = refl
same_all m v es [] (p ∷ ps) is there has e = absurd (cc (e))
same_all m v es (q ∷ qs) [] is there has e = absurd (cc (e))
same_all m v es (q ∷ qs) (p ∷ ps) is there has e =
    let heads : q.id ≡ p.id = cc (e) in
    let tails : ids_of qs ≡ ids_of ps = cc (e) in
    let one : q ≡ p = kept m v es p q is has.0 there.0 heads in
    let rest : qs ≡ ps = same_all m v es qs ps is there.1 has.1 tails in
    cc (one, rest)

pub claimed_same : (m : Operation) (base : Stored) (seen now : List Event) (claimed : List PlacedRun) → IsVersion (fold after base seen) → IsPrefix seen now → AllByRecursion (λ run. Contains (fold after base seen).runs run) claimed → AreInPlace (fold after base now) (ids_of claimed) → standing (ids_of claimed) (fold after base now).runs ≡ claimed
claimed_same m base seen now claimed is pre has in_place =
    let now_is : fold after base now ≡ fold after (fold after base seen) pre.0 = ap (λ (es : List Event). fold after base es) (sym pre.1) ∙ after_joined base seen pre.0 in
    let runs = (fold after base now).runs in
    let there = part_within runs (place_of (newest_id (ids_of claimed)) runs) (length (ids_of claimed)) in
    same_all m (fold after base seen) pre.0 (standing (ids_of claimed) runs) claimed is
    (subst (λ (w : Stored). AllByRecursion (λ (q : PlacedRun). Contains w.runs q) (standing (ids_of claimed) runs)) now_is there) has in_place
