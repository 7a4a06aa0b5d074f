-- The writes of memtables, one after the other.
use Rattle.std.proofs.Common.{◌≡◌, ◌≢◌, ℕ, ◌+◌, ◌-◌, ◌^◌, ◌<◌, List, [], ◌∷◌, ◌++◌, length, get_or, take, drop, max, min, length-append, refl, ap, sym, ◌∙◌, subst, arith}
use Rattle.std.specs.Prelude.{count_by}
use Rattle.std.proofs.lemmas.Grind.{flat_map-append}
use Rattle.std.proofs.lemmas.List.{append-nil, drop_more, take-append-drop, take_all, length-drop}
use Rattle.std.proofs.lemmas.List.Sums.{sum_by-append}
use Rattle.uc_bytes.specs.declared.write.Write.{Write}
use Rattle.uc_batch.specs.Rising.{IsRising, last_of}
use Rattle.uc_batch.proofs.Rises.{last_of-append}
use Rattle.uc_run.specs.Size.{memtable_size, write_size}
use Rattle.uc_memtable.specs.Frozen.{all_of}
use Rattle.uc_memtable.specs.Labels.{deletes_range}
use Rattle.uc_memtable.proofs.RisingParts.{rising_front, rising_back, rising_alone, last_greater}

pub all_of-append : (ms ns : List (List Write)) → all_of (ms ++ ns) ≡ all_of ms ++ all_of ns
all_of-append ms ns = flat_map-append (λ (ws : List Write). ws) ms ns

pub all_of-push : (ms : List (List Write)) (ws : List Write) → all_of (ms ++ ws ∷ []) ≡ all_of ms ++ ws
all_of-push ms ws = all_of-append ms (ws ∷ []) ∙ ap (λ (us : List Write). all_of ms ++ us) (append-nil ws)

pub all_of-split : (ms : List (List Write)) (i : ℕ) → all_of ms ≡ all_of (take i ms) ++ all_of (drop i ms)
all_of-split ms i = ap all_of (sym (take-append-drop i ms)) ∙ all_of-append (take i ms) (drop i ms)

-- those from a place on
pub all_from : (ms : List (List Write)) (i : ℕ) → take (length ms - i) (drop i ms) ≡ drop i ms
all_from ms i = let long : length (drop i ms) ≡ length ms - i = length-drop i ms in take_all (length ms - i) (drop i ms) (omega (arith, long))

pub rising_from : (ms : List (List Write)) (i : ℕ) → IsRising 0 (all_of ms) → IsRising 0 (all_of (take (length ms - i) (drop i ms)))
rising_from ms i h =
    subst (λ (ns : List (List Write)). IsRising 0 (all_of ns)) (sym (all_from ms i))
    (rising_alone 0 (all_of (take i ms)) (all_of (drop i ms)) (subst (IsRising 0) (all_of-split ms i) h))

-- the one at a place rises after those before it
pub rising_at : (ms : List (List Write)) (i : ℕ) (ws : List Write) → i < length ms → ws ≡ get_or ms i ws → IsRising 0 (all_of ms) → IsRising (last_of 0 (all_of (take i ms))) ws
rising_at ms i ws lt e h =
    let rest : drop i ms ≡ ws ∷ drop (i + 1) ms = drop_more ms i ws lt ∙ ap (λ (us : List Write). us ∷ drop (i + 1) ms) (sym e) in
    let behind = rising_back 0 (all_of (take i ms)) (all_of (drop i ms)) (subst (IsRising 0) (all_of-split ms i) h) in
    rising_front (last_of 0 (all_of (take i ms))) ws (all_of (drop (i + 1) ms))
    (subst (λ (ns : List (List Write)). IsRising (last_of 0 (all_of (take i ms))) (all_of ns)) rest behind)

-- ---- their totals

last_some : (n m : ℕ) (ws : List Write) → ws ≢ [] → last_of n ws ≡ last_of m ws
last_some n m [] some = absurd (some refl)
last_some n m (w ∷ ws) some = refl

size-append : (ws vs : List Write) → memtable_size (ws ++ vs) ≡ min (memtable_size ws + memtable_size vs) (2 ^ 64 - 1)
size-append ws vs = let sum = sum_by-append write_size ws vs in omega (arith, sum)

-- totals of memtables, over plain data
pub record Told (ws : List Write) (len size last ranges : ℕ) : Type 0 where
  pub rising : IsRising 0 ws
  pub len_counted : len ≡ length ws
  pub size_counted : size ≡ memtable_size ws
  pub last_counted : last ≡ last_of 0 ws
  pub ranges_counted : ranges ≡ count_by deletes_range ws

pub told_more : (ws vs : List Write) (len size last ranges : ℕ) → Told ws len size last ranges → vs ≢ [] → IsRising 0 (ws ++ vs)
    → Told (ws ++ vs) (len + length vs) (min (size + memtable_size vs) (2 ^ 64 - 1)) (last_of 0 vs) (ranges + count_by deletes_range vs)
told_more ws vs len size last ranges told some rising = record {
  rising = rising;
  len_counted = ap (λ n. n + length vs) told.len_counted ∙ sym (length-append ws vs);
  size_counted = ap (λ n. min (n + memtable_size vs) (2 ^ 64 - 1)) told.size_counted ∙ sym (size-append ws vs);
  last_counted = last_some 0 (last_of 0 ws) vs some ∙ sym (last_of-append 0 ws vs);
  ranges_counted = ap (λ n. n + count_by deletes_range vs) told.ranges_counted ∙ sym (sum_by-append _ ws vs);
}

-- totals of both parts
pub told_both : (ws vs : List Write) (len size last ranges len' size' last' ranges' : ℕ) → Told ws len size last ranges → Told vs len' size' last' ranges' → IsRising 0 (ws ++ vs)
    → Told (ws ++ vs) (len + len') (min (size + size') (2 ^ 64 - 1)) (max last last') (ranges + ranges')
told_both ws vs len size last ranges len' size' last' ranges' told told' rising = record {
  rising = rising;
  len_counted = ap (λ n. n + len') told.len_counted ∙ ap (λ n. length ws + n) told'.len_counted ∙ sym (length-append ws vs);
  size_counted = ap (λ n. min (n + size') (2 ^ 64 - 1)) told.size_counted ∙ ap (λ n. min (memtable_size ws + n) (2 ^ 64 - 1)) told'.size_counted ∙ sym (size-append ws vs);
  last_counted = ap (λ n. max n last') told.last_counted ∙ ap (λ n. max (last_of 0 ws) n) told'.last_counted ∙ last_greater ws vs rising;
  ranges_counted = ap (λ n. n + ranges') told.ranges_counted ∙ ap (λ n. count_by deletes_range ws + n) told'.ranges_counted ∙ sym (sum_by-append _ ws vs);
}
