-- Writes of which the first are shown, and one more of them.
use Rattle.std.proofs.Common.{◌≡◌, ℕ, zero, suc, ◌+◌, ◌<◌, ◌≤◌, ◌^◌, Bool, true, false, cond, List, [], ◌∷◌, ◌++◌, length, take, drop, map, refl, ap, sym, ◌∙◌, arith}
use Rattle.std.specs.Prelude.{count_by, ◌≢◌, ◌↔◌, IsTrue}
use Rattle.std.proofs.Math.Dec.{ltb}
use Rattle.std.proofs.lemmas.Bool.{ltb-true, ltb-false}
use Rattle.std.proofs.lemmas.List.{take-append-drop, take-append-le, drop-append-le, take_all, drop_all, length-drop, length-take-le, length_push, map_push, take-map, take-take}
use Rattle.std.proofs.lemmas.List.Sums.{sum_by_push}
use Rattle.uc_bytes.specs.declared.write.Write.{Write}
use Rattle.uc_batch.specs.Rising.{IsRising, last_of}
use Rattle.uc_run.specs.Size.{memtable_size}
use Rattle.uc_memtable.specs.Gathering.{Gathering}
use Rattle.uc_memtable.specs.Labels.{write_label, deletes_range}
use Rattle.uc_memtable.specs.HeldWrites.{IsGathered}
use Rattle.uc_memtable.specs.declared.active_memtable.ActiveMemtable.TheInside.{Inside}

-- writes of which the first `n` are shown
abbrev pub cut_at : ℕ → List Write → Gathering
cut_at n ws = record { shown = take n ws; waiting = drop n ws }

pair : List Write → List Write → Gathering
pair a b = record { shown = a; waiting = b }

pub cut-more : (n : ℕ) (ws : List Write) (w : Write) → n ≤ length ws → cut_at n (ws ++ w ∷ []) ≡ record { shown = take n ws; waiting = drop n ws ++ w ∷ [] }
unfolding pair
cut-more n ws w le = ap (λ (a : List Write). pair a (drop n (ws ++ w ∷ []))) (take-append-le n ws (w ∷ []) le) ∙ ap (pair (take n ws)) (drop-append-le n ws (w ∷ []) le)

pub cut-all : (n : ℕ) (ws : List Write) → cut_at (length ws) ws ≡ record { shown = take n ws ++ drop n ws; waiting = [] }
unfolding pair
cut-all n ws = ap (λ (a : List Write). pair a (drop (length ws) ws)) (take_all (length ws) ws (omega arith) ∙ sym (take-append-drop n ws)) ∙ ap (pair (take n ws ++ drop n ws)) (drop_all (length ws) ws (omega arith))

pub cut-first : (n : ℕ) (ws : List Write) → n ≤ length ws → cut_at n (take n ws) ≡ record { shown = take n ws; waiting = [] }
unfolding pair
cut-first n ws le =
    let long : length (take n ws) ≡ n = length-take-le n ws le in
    ap (λ (a : List Write). pair a (drop n (take n ws))) (take_all n (take n ws) (omega arith)) ∙ ap (pair (take n ws)) (drop_all n (take n ws) (omega arith))

pub rising-more : (last : ℕ) (ws : List Write) (w : Write) → IsRising last ws → last_of last ws < w.seq → w.seq < 2 ^ 56 → IsRising last (ws ++ w ∷ [])
rising-more last [] w rising above below = (above, below, tt)
rising-more last (x ∷ ws) w rising above below = (rising.0, rising.1, rising-more x.seq ws w rising.2 above below)

pub rising-first : (last : ℕ) (ws : List Write) (n : ℕ) → IsRising last ws → IsRising last (take n ws)
rising-first last [] zero rising = tt
rising-first last [] (suc n) rising = tt
rising-first last (w ∷ ws) zero rising = tt
rising-first last (w ∷ ws) (suc n) rising = (rising.0, rising.1, rising-first w.seq ws n rising.2)

one_more : (b : Bool) (n : ℕ) → n + cond b 1 0 ≡ cond b (n + 1) n
one_more true n = refl
one_more false n = omega arith

pub ranges-more : (ws : List Write) (w : Write) → count_by deletes_range (ws ++ w ∷ []) ≡ cond (deletes_range w) (count_by deletes_range ws + 1) (count_by deletes_range ws)
ranges-more ws w = sum_by_push (λ (v : Write). cond (deletes_range v) 1 0) ws w ∙ one_more (deletes_range w) (count_by deletes_range ws)

-- what such a memtable holds, over plain data
pub record Held (writes : List Write) (labels : List ℕ) (shown size last ranges all : ℕ) : Type 0 where
  pub within : shown ≤ length writes
  pub rising : IsRising 0 writes
  pub labelled : labels ≡ map write_label writes
  pub size_counted : size ≡ memtable_size (take shown writes)
  pub last_counted : last ≡ last_of 0 (take shown writes)
  pub ranges_counted : ranges ≡ count_by deletes_range (take shown writes)
  pub all_counted : all ≡ count_by deletes_range writes

pub held_more : (writes : List Write) (labels : List ℕ) (shown size last ranges all more : ℕ) (w : Write) → Held writes labels shown size last ranges all → last_of 0 writes < w.seq → w.seq < 2 ^ 56 → more ≡ cond (deletes_range w) (all + 1) all → Held (writes ++ w ∷ []) (labels ++ write_label w ∷ []) shown size last ranges more
held_more writes labels shown size last ranges all more w held above below e =
    let same : take shown (writes ++ w ∷ []) ≡ take shown writes = take-append-le shown writes (w ∷ []) held.within in
    let long : length (writes ++ w ∷ []) ≡ length writes + 1 = length_push writes w in
    record {
      within = omega (arith, held.within, long);
      rising = rising-more 0 writes w held.rising above below;
      labelled = ap (λ (ls : List ℕ). ls ++ write_label w ∷ []) held.labelled ∙ sym (map_push write_label writes w);
      size_counted = held.size_counted ∙ ap memtable_size (sym same);
      last_counted = held.last_counted ∙ ap (last_of 0) (sym same);
      ranges_counted = held.ranges_counted ∙ ap (count_by deletes_range) (sym same);
      all_counted = e ∙ ap (λ (n : ℕ). cond (deletes_range w) (n + 1) n) held.all_counted ∙ sym (ranges-more writes w);
    }

pub held_first : (writes : List Write) (labels : List ℕ) (shown size last ranges all : ℕ) → Held writes labels shown size last ranges all → Held (take shown writes) (take shown labels) shown size last ranges ranges
held_first writes labels shown size last ranges all held =
    let long : length (take shown writes) ≡ shown = length-take-le shown writes held.within in
    let again : take shown (take shown writes) ≡ take shown writes = take-take shown shown writes (omega arith) in
    record {
      within = omega (arith, long);
      rising = rising-first 0 writes shown held.rising;
      labelled = ap (take shown) held.labelled ∙ take-map write_label shown writes;
      size_counted = held.size_counted ∙ ap memtable_size (sym again);
      last_counted = held.last_counted ∙ ap (last_of 0) (sym again);
      ranges_counted = held.ranges_counted ∙ ap (count_by deletes_range) (sym again);
      all_counted = held.ranges_counted;
    }

-- what a memtable holds
pub held_of : (m : Inside) → IsGathered m → Held m.writes m.chains m.shown m.size m.last m.ranges m.all_ranges
held_of m is = record {
  within = is.within;
  rising = is.rising;
  labelled = is.labelled;
  size_counted = is.size_counted;
  last_counted = is.last_counted;
  ranges_counted = is.ranges_counted;
  all_counted = is.all_ranges_counted;
}

-- where nothing is some, there is nothing
pub none_waits : (ws : List Write) → (ws ≢ [] → ⊥) → ws ≡ []
none_waits [] h = refl
none_waits (w ∷ ws) h = absurd (h (λ (e : w ∷ ws ≡ []). absurd cc))

-- the number of shown writes decides whether some are only prepared
module _ (n : ℕ) (ws waiting : List Write) (dropped : drop n ws ≡ waiting) where
  some_wait : (b : Bool) → ltb n (length ws) ≡ b → waiting ≢ [] → b ≡ true
  some_wait true e some = refl
  some_wait false e some = absurd (some (sym dropped ∙ drop_all n ws (ltb-false n (length ws) e)))

  none_wait : ltb n (length ws) ≡ true → waiting ≢ []
  none_wait shown none =
      let less = ltb-true n (length ws) shown in
      let count = length-drop n ws in
      let zero : length (drop n ws) ≡ 0 = ap (λ (us : List Write). length us) (dropped ∙ none) in
      omega (arith, less, count, zero)

  pub waits_if : IsTrue (ltb n (length ws)) ↔ (waiting ≢ [])
  waits_if = (none_wait, some_wait (ltb n (length ws)) refl)
