-- A batch that is fed after a last sequence number which was read earlier is fed after the last sequence number at that time.
use Rattle.std.proofs.Common.{◌≡◌, ℕ, ◌+◌, ◌≤◌, List, [], ◌∷◌, ◌++◌, fold, length, refl, ap, sym, ◌∙◌, subst, arith}
use mathlib.Core.List.{IsPrefix}
use Rattle.uc_bytes.specs.declared.op.Op.{Op}
use Rattle.uc_bytes.specs.declared.write.Write.{Write}
use Rattle.uc_oper.specs.Operation.{Operation}
use Rattle.uc_batch.specs.Batch.{numbered}
use Rattle.uc_batch.specs.Rising.{IsRising}
use Rattle.uc_version_state.specs.Versions.{Stored}
use Rattle.uc_version_state.specs.Flushes.{memtables}
use Rattle.uc_version_state.specs.Feeds.{MayFeed}
use Rattle.uc_version_state.specs.Histories.{MayHappen, MayFollow, after}
use Rattle.uc_version_state.specs.declared.event.Event.{Event}
use Rattle.uc_version_state.specs.declared.event.Event.TheVariants.{Installed, Flushed, Kept, Released}
use Rattle.uc_version_state.proofs.Memtables.{last_above}
use Rattle.uc_share.specs.Installing.{EndsWith}
use Rattle.uc_share.proofs.Behind.{after_joined, follow_rest}
use Rattle.uc_share.proofs.Prefixes.{prefix_behind}
use Rattle.uc_store.specs.SharedBatches.{FeedsNext}

-- ---- the last sequence never falls

rises_once : (m : Operation) (v : Stored) (e : Event) → MayHappen m v e → v.last ≤ (after v e).last
rises_once m v (Installed i) may = omega arith
rises_once m v (Flushed ws) may = last_above v.last ws may.rising
rises_once m v Kept may = omega arith
rises_once m v (Released seq) may = omega arith

rises : (m : Operation) (v : Stored) (es : List Event) → MayFollow m v es → v.last ≤ (fold after v es).last
rises m v [] may = omega arith
rises m v (e ∷ es) may =
    let here = rises_once m v e may.0 in
    let rest = rises m (after v e) es may.1 in
    omega (arith, here, rest)

follow_front : (m : Operation) (v : Stored) (es fs : List Event) → MayFollow m v (es ++ fs) → MayFollow m v es
follow_front m v [] fs all = tt
follow_front m v (e ∷ es) fs all = (all.0, follow_front m (after v e) es fs all.1)

rises_behind : (m : Operation) (base : Stored) (seen before : List Event) → IsPrefix seen before → MayFollow m base before → (fold after base seen).last ≤ (fold after base before).last
rises_behind m base seen before front may =
    let follow : MayFollow m (fold after base seen) front.0 = follow_rest m base seen front.0 (subst (λ (es : List Event). MayFollow m base es) (sym front.1) may) in
    subst (λ (es : List Event). (fold after base seen).last ≤ (fold after base es).last) front.1
    (subst (λ (v : Stored). (fold after base seen).last ≤ v.last) (sym (after_joined base seen front.0)) (rises m (fold after base seen) front.0 follow))

-- ---- so the feed was made after the same one

same_numbers : (looked last : ℕ) (ops : List Op) → looked ≤ last → IsRising last (numbered (looked + 1) ops) → numbered (looked + 1) ops ≡ numbered (last + 1) ops
same_numbers looked last [] low rising = refl
same_numbers looked last (op ∷ ops) low rising =
    let above = rising.0 in
    ap (λ (n : ℕ). numbered (n + 1) (op ∷ ops)) (let e : looked ≡ last = omega (arith, low, above) in e)

pub feeds_next : (m : Operation) (base : Stored) (ops : List Op) (old seen new : List Event) (writes : List Write) (count : ℕ) →
    IsPrefix old seen → writes ≡ numbered ((fold after base seen).last + 1) ops → EndsWith seen (Flushed writes) new → MayFollow m base new →
    count ≡ length (memtables base.limit writes) → FeedsNext base ops old new count
feeds_next m base ops old seen new writes count front is ends may runs =
    let before : List Event = ends.0 in
    let all : MayFollow m base (before ++ Flushed writes ∷ []) = subst (λ (es : List Event). MayFollow m base es) ends.2 may in
    let feed : MayFeed (fold after base before) writes = (follow_rest m base before (Flushed writes ∷ []) all).0 in
    let low = rises_behind m base seen before ends.1 (follow_front m base before (Flushed writes ∷ []) all) in
    let last : ℕ = (fold after base before).last in
    let same : writes ≡ numbered (last + 1) ops =
    is ∙ same_numbers (fold after base seen).last last ops low (subst (λ (ws : List Write). IsRising last ws) is feed.rising) in
    record {
      before = before;
      behind = prefix_behind old seen before front ends.1;
      fed = ends.2 ∙ ap (λ (ws : List Write). before ++ Flushed ws ∷ []) same;
      runs = runs ∙ ap (λ (ws : List Write). length (memtables base.limit ws)) same;
    }
