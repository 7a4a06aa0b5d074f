-- All places of a search are after the fault, so a crash leaves no batch there whose mark is larger.
use Rattle.std.proofs.Common.{◌≡◌, ℕ, zero, suc, ◌+◌, ◌-◌, ◌*◌, ◌/◌, ◌≤◌, ◌<◌, Bool, true, false, List, [], ◌∷◌, ◌++◌, drop, Option, Some, None, inl, inr, refl, arith}
use Rattle.std.specs.Prelude.{if◌then◌else◌, nat_lt}
use Rattle.std.specs.List.{AllByRecursion}
use Rattle.uc_logrec.specs.Format.{room, header_place, stored_length}
use Rattle.uc_log_crash.specs.Marks.{Tells, AreTrue, AreOwn}
use Rattle.uc_log_crash.specs.Places.{has_another, next_place, chained, in_block, places_from, in_blocks, block_count, all_places, IsFirst}
use Rattle.uc_log_crash.proofs.Shown.{none_tells}

abbrev Above : ℕ → List ℕ → Type 0
Above low places = AllByRecursion (λ p. low ≤ p) places

above_both : (low : ℕ) (some others : List ℕ) → Above low some → Above low others → Above low (some ++ others)
above_both low [] others a b = b
above_both low (p ∷ ps) others a b = (a.0, above_both low ps others a.1 b)

onward_by : (b : Bool) (place len next : ℕ) → (if b then Some (place + 7 + len) else None) ≡ Some next → place < next
onward_by true place len next e =
    let same : place + 7 + len ≡ next = cc in
    omega (arith, same)
onward_by false place len next e = absurd cc

onward : (log : List ℕ) (place next : ℕ) → next_place log place ≡ Some next → place < next
unfolding next_place
onward log place next e = onward_by (has_another place (drop place log)) place (stored_length (drop place log)) next e

chained_above : (log : List ℕ) (n low place : ℕ) (next : Option ℕ) → next_place log place ≡ next → low ≤ place → ((k : ℕ) → low ≤ k → Above low (in_block n log k)) → Above low (chained (in_block n log) next)
chained_above log n low place None e le go = tt
chained_above log n low place (Some k) e le go =
    let later : place < k = onward log place k e in
    go k (omega (arith, le, later))

block_above : (n : ℕ) (log : List ℕ) (low place : ℕ) → low ≤ place → Above low (in_block n log place)
unfolding in_block
block_above zero log low place le = tt
block_above (suc n) log low place le = (le, chained_above log n low place (next_place log place) refl le (λ k above. block_above n log low k above))

blocks_above : (n : ℕ) (log : List ℕ) (low block : ℕ) → low ≤ 32768 * block → Above low (in_blocks n log block)
unfolding in_blocks
blocks_above zero log low block le = tt
blocks_above (suc n) log low block le = above_both low (places_from log (32768 * block)) (in_blocks n log (block + 1)) (block_above (room (32768 * block)) log low (32768 * block) le) (blocks_above n log low (block + 1) (omega (arith, le)))

header_after : (b : Bool) (from more : ℕ) → from ≤ (if b then from + more else from)
header_after true from more = omega arith
header_after false from more = omega arith

all_above : (log : List ℕ) (from : ℕ) → Above from (all_places log from)
all_above log from =
    let here = header_place from in
    let le : from ≤ here = header_after (nat_lt (room from) 7) from (room from) in
    above_both from (places_from log here) (in_blocks (block_count log - (here / 32768 + 1)) log (here / 32768 + 1))
    (block_above (room here) log from here le)
    (blocks_above (block_count log - (here / 32768 + 1)) log from (here / 32768 + 1) (omega (arith, le)))

none_first : (log : List ℕ) (end last : ℕ) (places : List ℕ) (found : Option ℕ) → ((p : ℕ) → end ≤ p → Tells log end last p → ⊥) → Above end places → IsFirst log end last places found → found ≡ None
none_first log end last [] found none above first = first
none_first log end last (p ∷ ps) found none above (inl here) = absurd (none p above.0 here.0)
none_first log end last (p ∷ ps) found none above (inr later) = none_first log end last ps found none above.1 later.1

pub nothing_is_told : (written shown : List ℕ) (synced last end : ℕ) (found : Option ℕ) → AreTrue written synced → AreOwn written synced last shown → synced ≤ end → IsFirst shown end last (all_places shown end) found → found ≡ None
nothing_is_told written shown synced last end found marks own le first =
    none_first shown end last (all_places shown end) found (λ p above told. none_tells written shown synced last end p marks own le above told) (all_above shown end) first
