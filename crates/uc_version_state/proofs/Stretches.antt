-- The slots of stretches of a version: each stands once, and stretches that have no run in common have no slot in common.
use Rattle.std.proofs.Common.{◌≡◌, ℕ, ◌+◌, ◌-◌, ◌≤◌, List, ◌++◌, take, drop, ap, ◌∙◌, arith}
use Rattle.std.proofs.lemmas.List.{map-append, drop-drop}
use Rattle.uc_claims.specs.Claims.{times}
use Rattle.uc_claims.specs.Holding.{AreDistinct}
use Rattle.uc_claims.proofs.Times.{times-append, times-distinct}
use Rattle.uc_version_state.specs.Versions.{PlacedRun, Stored, IsVersion, slots_of}
use Rattle.uc_version_state.specs.Installs.{part_of}
use Rattle.uc_version_state.proofs.Once.{distinct-from_times}
use Rattle.uc_version_state.proofs.Parts.{in_parts}

slots-append : (k : ℕ) (ps qs : List PlacedRun) → times k (slots_of (ps ++ qs)) ≡ times k (slots_of ps) + times k (slots_of qs)
slots-append k ps qs = ap (times k) (map-append (λ (p : PlacedRun). p.slot) ps qs) ∙ times-append k (slots_of ps) (slots_of qs)

-- a stretch, and the runs after it
part-le : (k first count : ℕ) (ps : List PlacedRun) → times k (slots_of (part_of first count ps)) + times k (slots_of (drop (first + count) ps)) ≤ times k (slots_of ps)
part-le k first count ps =
    let all : times k (slots_of (take first ps ++ (part_of first count ps ++ drop (first + count) ps))) ≡ times k (slots_of ps) = ap (λ (qs : List PlacedRun). times k (slots_of qs)) (in_parts first count ps) in
    let front = slots-append k (take first ps) (part_of first count ps ++ drop (first + count) ps) in
    let behind = slots-append k (part_of first count ps) (drop (first + count) ps) in
    omega (arith, all, front, behind)

pub part_distinct : (v : Stored) → IsVersion v → (first count : ℕ) → AreDistinct (slots_of (part_of first count v.runs))
part_distinct v is_version first count =
    distinct-from_times (slots_of (part_of first count v.runs))
    (λ k. let le = times-distinct (slots_of v.runs) is_version.slots_apart k in let part = part-le k first count v.runs in omega (arith, le, part))

-- a stretch after another
behind-le : (k first count later more rest : ℕ) (ps : List PlacedRun) → first + count + rest ≡ later →
    times k (slots_of (part_of first count ps)) + times k (slots_of (part_of later more ps)) ≤ times k (slots_of ps)
behind-le k first count later more rest ps e =
    let here = part-le k first count ps in
    let there = part-le k rest more (drop (first + count) ps) in
    let same : times k (slots_of (part_of rest more (drop (first + count) ps))) ≡ times k (slots_of (part_of later more ps)) =
    ap (λ (qs : List PlacedRun). times k (slots_of (take more qs))) (drop-drop rest (first + count) ps) ∙ ap (λ n. times k (slots_of (part_of n more ps))) e in
    omega (arith, here, there, same)

pub parts_apart : (v : Stored) → IsVersion v → (first count later more k : ℕ) → first + count ≤ later →
    times k (slots_of (part_of first count v.runs)) + times k (slots_of (part_of later more v.runs)) ≤ 1
parts_apart v is_version first count later more k le =
    let rest = behind-le k first count later more (later - (first + count)) v.runs (omega (arith, le)) in
    let once = times-distinct (slots_of v.runs) is_version.slots_apart k in
    omega (arith, rest, once)
