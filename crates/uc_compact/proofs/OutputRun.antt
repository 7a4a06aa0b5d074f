-- The output of a compaction is a run.
use Rattle.std.proofs.Common.{◌≡◌, ◌≢◌, ℕ, zero, suc, ◌<◌, ◌≤◌, Bool, true, false, cond, ltb, List, [], ◌∷◌, ◌++◌, Contains, length, map, fold, filter, refl, sym, ap, ◌∙◌, subst, arith}
use Rattle.std.specs.Prelude.{◌&&◌, ◌^◌, Option, Some, None, filter_map}
use Rattle.std.specs.List.{AllByRecursion, flat_map, cons_option}
use Rattle.std.specs.List.Sorted.{IsStrictlySortedBy}
use Rattle.std.specs.declared.cmp.Ordering.{Ordering}
use Rattle.std.specs.declared.cmp.Ordering.TheVariants.{Less}
use Rattle.std.specs.Ordering.{nat_cmp, flip_args, ordering_then, is_lt, is_le}
use Rattle.std.specs.BTreeSet.{insert_key}
use Rattle.std.proofs.lemmas.Bool.{false≢true}
use Rattle.std.proofs.lemmas.Bool.Decides.{nat_tests}
use Rattle.std.proofs.lemmas.Cmp.{nat_list_cmp_total, nat_cmp_total, back_total, tied_itself}
use Rattle.uc_bytes.specs.Bytes.{bytes_cmp, same_bytes}
use Rattle.uc_oper.specs.Operation.{Operation}
use Rattle.uc_run_entry.specs.declared.entry.Entry.{Entry}
use Rattle.uc_run_entry.specs.Fragment.{Fragment}
use Rattle.uc_run_entry.specs.Order.{entry_cmp, IsFalling, AreInOrder}
use Rattle.uc_run_entry.specs.Run.{Contents, IsRun, IsWithin, IsWhole, covers}
use Rattle.uc_run_entry.specs.Lookup.{is_passing}
use Rattle.uc_run_entry.proofs.Points.{PointsFall}
use Rattle.uc_run_entry.specs.Cutting.{RangeOf, Piece, spans, fragment_over, pieces, cut_points, fragments_of}
use Rattle.uc_run_entry.proofs.Pieces.{in_order, seqs_fall}
use Rattle.uc_run_entry.proofs.Sets.{all-insert_key, sorted_set}
use Rattle.uc_compact.specs.Stripes.{Stripe, is_in, stripes}
use Rattle.uc_compact.specs.Inputs.{Compaction, AreRuns, AreNewestFirst, Stand, high_of, low_of, points_of, ranges_over, ranges_of, keeping_of}
use Rattle.uc_compact.specs.Output.{greatest, newest_point, point_kept, keys_of, points_kept, seq_kept, seqs_kept, fragment_kept, fragments_kept, output_of}
use Rattle.uc_compact.proofs.NestedLists.{all-append, all-map, all-mapped, all-filter, all-flat_map, all-passed}
use Rattle.uc_compact.proofs.Effects.{seqs_of, HoldsWithin, all_points, all_fragments}
use Rattle.uc_compact.proofs.Choosing.{Falls, greatest_first}
use Rattle.uc_compact.proofs.Across.{falls_from, falling_from, points_in, points_fall, points_apart, seqs_in}
use Rattle.uc_compact.proofs.Parted.{FallsBy, made_falls, stripes_fall}
use Rattle.uc_compact.proofs.Kept.{point_facts, point_inside, group, group_keys, seq_facts, seq_inside, filter_falls, all_seqs_fall, over_is}

-- ---- the range of sequences

pub low_least : (runs : List Contents) → AreRuns runs → AreNewestFirst runs → AllByRecursion (λ r. low_of runs ≤ r.low) runs
low_least [] are order = tt
low_least (r ∷ []) are order = (omega arith, tt)
low_least (r ∷ q ∷ runs) are order =
    let rest : AllByRecursion (λ t. low_of (q ∷ runs) ≤ t.low) (q ∷ runs) = low_least (q ∷ runs) are.1 order.1 in
    let first : low_of (q ∷ runs) ≤ q.low = rest.0 in
    let within : q.low ≤ q.high = are.1.0.range in
    let below : q.high < r.low = order.0.0 in
    (omega (arith, first, within, below), rest)

pub high_greatest : (runs : List Contents) → AreRuns runs → AreNewestFirst runs → AllByRecursion (λ r. r.high ≤ high_of runs) runs
high_greatest [] are order = tt
high_greatest (r ∷ runs) are order =
    let within : r.low ≤ r.high = are.0.range in
    (omega arith, all-map (λ (t : Contents). t.high < r.low) (λ t. t.high ≤ r.high) (λ t lt. omega (arith, lt, within)) runs order.0)

pub low_from_one : (runs : List Contents) → AreRuns runs → runs ≢ [] → 1 ≤ low_of runs
low_from_one [] are some = absurd (some refl)
low_from_one (r ∷ []) are some = are.0.from_one
low_from_one (r ∷ q ∷ runs) are some = low_from_one (q ∷ runs) are.1 (λ e. absurd cc)

pub low_below_high : (runs : List Contents) → AreRuns runs → AreNewestFirst runs → runs ≢ [] → low_of runs ≤ high_of runs
low_below_high [] are order some = absurd (some refl)
low_below_high (r ∷ runs) are order some =
    let low : AllByRecursion (λ t. low_of (r ∷ runs) ≤ t.low) (r ∷ runs) = low_least (r ∷ runs) are order in
    let first : low_of (r ∷ runs) ≤ r.low = low.0 in
    let within : r.low ≤ r.high = are.0.range in
    omega (arith, first, within)

pub high_below : (runs : List Contents) → AreRuns runs → runs ≢ [] → high_of runs < 2 ^ 56
high_below [] are some = absurd (some refl)
high_below (r ∷ runs) are some = are.0.below

all_both : {X : Type 0} (P Q R : X → Type 0) → ((x : X) → P x → Q x → R x) → (xs : List X) → AllByRecursion P xs → AllByRecursion Q xs → AllByRecursion R xs
all_both P Q R f [] h k = tt
all_both P Q R f (x ∷ xs) h k = (f x h.0 k.0, all_both P Q R f xs h.1 k.1)

-- every run's sequences are of the range
pub all_within : (runs : List Contents) → AreRuns runs → AreNewestFirst runs → AllByRecursion (HoldsWithin (IsWithin (low_of runs) (high_of runs))) runs
all_within runs are order =
    all_both (λ (r : Contents). low_of runs ≤ r.low) (λ r. r.high ≤ high_of runs) (HoldsWithin (IsWithin (low_of runs) (high_of runs)))
    (λ r low high n within. (let a : r.low ≤ n = within.0 in omega (arith, low, a), let b : n ≤ r.high = within.1 in omega (arith, high, b)))
    runs (low_least runs are order) (high_greatest runs are order)

-- ---- what holds of all holds of the greatest

pub greatest_holds : (P : ℕ → Type 0) (ns : List ℕ) → Falls ns → AllByRecursion P ns → ltb 0 (greatest ns) ≡ true → P (greatest ns)
greatest_holds P [] falls h some = absurd cc
greatest_holds P (n ∷ ns) falls h some = subst P (sym (greatest_first n ns falls.0)) h.0

pub seqs_of_fall : (ps : List Entry) → PointsFall ps → Falls (map (λ (p : Entry). p.seq) ps)
seqs_of_fall [] h = tt
seqs_of_fall (p ∷ ps) h = (all-mapped (λ (q : Entry). q.seq) (λ n. n < p.seq) ps h.0, seqs_of_fall ps h.1)

-- what passes a narrower test passes
narrow_first : {X : Type 0} (P : X → Type 0) (wide narrow : X → Bool) (x : X) (xs : List X) (a b : Bool) → wide x ≡ a → narrow x ≡ b → (narrow x ≡ true → wide x ≡ true) → AllByRecursion P (cond a (x ∷ filter wide xs) (filter wide xs)) → (AllByRecursion P (filter wide xs) → AllByRecursion P (filter narrow xs)) → AllByRecursion P (cond b (x ∷ filter narrow xs) (filter narrow xs))
narrow_first P wide narrow x xs true true e f sub h rest = (h.0, rest h.1)
narrow_first P wide narrow x xs true false e f sub h rest = rest h.1
narrow_first P wide narrow x xs false true e f sub h rest = absurd (false≢true (sym e ∙ sub f))
narrow_first P wide narrow x xs false false e f sub h rest = rest h

all-narrow : {X : Type 0} (P : X → Type 0) (wide narrow : X → Bool) → ((x : X) → narrow x ≡ true → wide x ≡ true) → (xs : List X) → AllByRecursion P (filter wide xs) → AllByRecursion P (filter narrow xs)
all-narrow P wide narrow sub [] h = tt
all-narrow P wide narrow sub (x ∷ xs) h = narrow_first P wide narrow x xs (wide x) (narrow x) refl refl (sub x) h (all-narrow P wide narrow sub xs)

-- ---- order

module _ {X : Type 0} (cmp : X → X → Ordering) where
  pub sorted-append : (xs ys : List X) → IsStrictlySortedBy cmp xs → IsStrictlySortedBy cmp ys → AllByRecursion (λ x. AllByRecursion (λ y. cmp x y ≡ Less) ys) xs → IsStrictlySortedBy cmp (xs ++ ys)
  unfolding IsStrictlySortedBy
  sorted-append [] ys h k less = k
  sorted-append (x ∷ xs) ys h k less = (all-append (λ y. cmp x y ≡ Less) xs ys h.0 less.0, sorted-append xs ys h.1 k less.1)

number_less : (a b : ℕ) → a < b → nat_cmp a b ≡ Less
number_less a b lt = grind (arith, nat_tests)

of_one_key : (key : List ℕ) (p q : Entry) → p.key ≡ key → q.key ≡ key → q.seq < p.seq → entry_cmp p q ≡ Less
of_one_key key p q e f lt =
    ap (λ (k : List ℕ). ordering_then (bytes_cmp k q.key) (nat_cmp q.seq p.seq)) (e ∙ sym f)
    ∙ ap (λ o. ordering_then o (nat_cmp q.seq p.seq)) (tied_itself nat_list_cmp_total q.key)
    ∙ number_less q.seq p.seq lt

of_two_keys : (k l : List ℕ) (p q : Entry) → p.key ≡ k → q.key ≡ l → bytes_cmp k l ≡ Less → entry_cmp p q ≡ Less
of_two_keys k l p q e f less =
    ap (λ (x : List ℕ). ordering_then (bytes_cmp x q.key) (nat_cmp q.seq p.seq)) e
    ∙ ap (λ (x : List ℕ). ordering_then (bytes_cmp k x) (nat_cmp q.seq p.seq)) f
    ∙ ap (λ o. ordering_then o (nat_cmp q.seq p.seq)) less

one_key_sorted : (make : Stripe → Option Entry) (inside : (s : Stripe) (x : Entry) → make s ≡ Some x → is_in s x.seq ≡ true) (key : List ℕ) (ps : List Entry) → FallsBy (λ (p : Entry). p.seq) make inside ps → AllByRecursion (λ (p : Entry). p.key ≡ key) ps → IsStrictlySortedBy entry_cmp ps
unfolding IsStrictlySortedBy
one_key_sorted make inside key [] h keys = tt
one_key_sorted make inside key (p ∷ ps) h keys =
    (all_both (λ (q : Entry). q.seq < p.seq) (λ q. q.key ≡ key) (λ q. entry_cmp p q ≡ Less) (λ q lt e. of_one_key key p q keys.0 e lt) ps h.0 keys.1, one_key_sorted make inside key ps h.1 keys.1)

module _ (group : List ℕ → List Entry) (keyed : (key : List ℕ) → AllByRecursion (λ (p : Entry). p.key ≡ key) (group key)) (sorted : (key : List ℕ) → IsStrictlySortedBy entry_cmp (group key)) where
  later_groups : (key : List ℕ) (p : Entry) → p.key ≡ key → (ks : List (List ℕ)) → AllByRecursion (λ l. bytes_cmp key l ≡ Less) ks → AllByRecursion (λ q. entry_cmp p q ≡ Less) (flat_map group ks)
  later_groups key p e [] h = tt
  later_groups key p e (l ∷ ls) h = all-append (λ q. entry_cmp p q ≡ Less) (group l) (flat_map group ls) (all-map (λ (q : Entry). q.key ≡ l) (λ q. entry_cmp p q ≡ Less) (λ q f. of_two_keys key l p q e f h.0) (group l) (keyed l)) (later_groups key p e ls h.1)

  pub groups_sorted : (ks : List (List ℕ)) → IsStrictlySortedBy bytes_cmp ks → IsStrictlySortedBy entry_cmp (flat_map group ks)
  unfolding IsStrictlySortedBy
  groups_sorted [] h = tt
  groups_sorted (k ∷ ks) h = sorted-append entry_cmp (group k) (flat_map group ks) (sorted k) (groups_sorted ks h.1) (all-map (λ (p : Entry). p.key ≡ k) (λ p. AllByRecursion (λ q. entry_cmp p q ≡ Less) (flat_map group ks)) (λ p e. later_groups k p e ks h.0) (group k) (keyed k))

-- ---- fragments

-- what holds of the ranges' sequences holds of the fragments'
all-fold : (P : ℕ → Type 0) (acc ks : List ℕ) → AllByRecursion P acc → AllByRecursion P ks → AllByRecursion P (fold (insert_key (flip_args nat_cmp)) acc ks)
all-fold P acc [] h k = h
all-fold P acc (n ∷ ns) h k = all-fold P (insert_key (flip_args nat_cmp) acc n) ns (all-insert_key (flip_args nat_cmp) (back_total nat_cmp_total) P n acc k.0 h) k.1

all-pieces : (P : ℕ → Type 0) (ranges : List RangeOf) → AllByRecursion (λ r. P r.seq) ranges → (ps : List Piece) → AllByRecursion (λ (f : Fragment). AllByRecursion P f.seqs) (map (fragment_over ranges) ps)
all-pieces P ranges h [] = tt
all-pieces P ranges h (p ∷ ps) = (all-fold P [] (map (λ (r : RangeOf). r.seq) (filter (spans p) ranges)) tt (all-mapped (λ (r : RangeOf). r.seq) P (filter (spans p) ranges) (all-filter (λ (r : RangeOf). P r.seq) (spans p) ranges h)), all-pieces P ranges h ps)

pub all-cut : (P : ℕ → Type 0) (ranges : List RangeOf) → AllByRecursion (λ r. P r.seq) ranges → AllByRecursion (λ (f : Fragment). AllByRecursion P f.seqs) (fragments_of ranges)
all-cut P ranges h = all-filter (λ (f : Fragment). AllByRecursion P f.seqs) (λ (f : Fragment). ltb 0 (length f.seqs)) (map (fragment_over ranges) (pieces (cut_points ranges))) (all-pieces P ranges h (pieces (cut_points ranges)))

all-ranges : (P : ℕ → Type 0) (fs : List Fragment) → AllByRecursion (λ (f : Fragment). AllByRecursion P f.seqs) fs → AllByRecursion (λ (r : RangeOf). P r.seq) (flat_map ranges_over fs)
all-ranges P fs h = all-flat_map ranges_over (λ (r : RangeOf). P r.seq) fs (all-map (λ (f : Fragment). AllByRecursion P f.seqs) (λ f. AllByRecursion (λ (r : RangeOf). P r.seq) (ranges_over f)) (λ f k. all-mapped (λ seq. record { begin = f.begin; end = f.end; seq = seq }) (λ (r : RangeOf). P r.seq) f.seqs k) fs h)

-- fragments of which some are left out, and whose ends stay, stay in order
module _ (change : Fragment → Fragment) (begins : (f : Fragment) → (change f).begin ≡ f.begin) (ends : (f : Fragment) → (change f).end ≡ f.end) (test : Fragment → Bool) where
  order_kept : (f : Fragment) (kept : List Fragment) (b : Bool) → is_lt (bytes_cmp f.begin f.end) ≡ true → AllByRecursion (λ g. is_le (bytes_cmp f.end g.begin) ≡ true) kept → AreInOrder kept → AreInOrder (cond b (f ∷ kept) kept)
  order_kept f kept true lt le h = (lt, le, h)
  order_kept f kept false lt le h = h

  all_changed : (end : List ℕ) (fs : List Fragment) → AllByRecursion (λ (g : Fragment). is_le (bytes_cmp end g.begin) ≡ true) fs → AllByRecursion (λ (g : Fragment). is_le (bytes_cmp end g.begin) ≡ true) (map change fs)
  all_changed end [] h = tt
  all_changed end (f ∷ fs) h = (ap (λ (x : List ℕ). is_le (bytes_cmp end x)) (begins f) ∙ h.0, all_changed end fs h.1)

  pub order_stays : (fs : List Fragment) → AreInOrder fs → AreInOrder (filter test (map change fs))
  order_stays [] h = tt
  order_stays (f ∷ fs) h =
      order_kept (change f) (filter test (map change fs)) (test (change f))
      (ap (λ (x : List ℕ). is_lt (bytes_cmp x (change f).end)) (begins f) ∙ ap (λ (x : List ℕ). is_lt (bytes_cmp f.begin x)) (ends f) ∙ h.0)
      (all-filter (λ (g : Fragment). is_le (bytes_cmp (change f).end g.begin) ≡ true) test (map change fs) (all_changed (change f).end fs (subst (λ (x : List ℕ). AllByRecursion (λ (g : Fragment). is_le (bytes_cmp x g.begin) ≡ true) fs) (sym (ends f)) h.1)))
      (order_stays fs h.2)

-- what holds of all sequences of the fragments over a key
unflat_first : (P : ℕ → Type 0) (key : List ℕ) (f : Fragment) (rest : List ℕ) (b : Bool) (more : List Fragment) → covers f key ≡ b → AllByRecursion P (flat_map (λ (g : Fragment). g.seqs) (cond b (f ∷ more) more)) → ((covers f key ≡ true → AllByRecursion P f.seqs) × AllByRecursion P (flat_map (λ (g : Fragment). g.seqs) more))
unflat_first P key f rest true more e h = ((λ _. front f.seqs h), back f.seqs h)
  where
    front : (ns : List ℕ) → AllByRecursion P (ns ++ flat_map (λ (g : Fragment). g.seqs) more) → AllByRecursion P ns
    front [] k = tt
    front (n ∷ ns) k = (k.0, front ns k.1)

    back : (ns : List ℕ) → AllByRecursion P (ns ++ flat_map (λ (g : Fragment). g.seqs) more) → AllByRecursion P (flat_map (λ (g : Fragment). g.seqs) more)
    back [] k = k
    back (n ∷ ns) k = back ns k.1
unflat_first P key f rest false more e h = ((λ t. absurd (false≢true (sym e ∙ t))), h)

pub unflat : (P : ℕ → Type 0) (key : List ℕ) (fs : List Fragment) → AllByRecursion P (flat_map (λ (g : Fragment). g.seqs) (filter (λ g. covers g key) fs)) → AllByRecursion (λ (f : Fragment). covers f key ≡ true → AllByRecursion P f.seqs) fs
unflat P key [] h = tt
unflat P key (f ∷ fs) h =
    let parts : (covers f key ≡ true → AllByRecursion P f.seqs) × AllByRecursion P (flat_map (λ (g : Fragment). g.seqs) (filter (λ g. covers g key) fs)) = unflat_first P key f [] (covers f key) (filter (λ g. covers g key) fs) refl h in
    (parts.0, unflat P key fs parts.1)

not_contained : (seq : ℕ) (ns : List ℕ) → AllByRecursion (λ n. n ≡ seq → ⊥) ns → ¬ Contains ns seq
not_contained seq [] h (i, lt, e) = omega (arith, lt)
not_contained seq (n ∷ ns) h (zero, lt, e) = h.0 e
not_contained seq (n ∷ ns) h (suc i, lt, e) = not_contained seq ns h.1 (i, omega (arith, lt), e)

-- ---- the output

module _ (m : Operation) (c : Compaction) (are : AreRuns c.inputs) (stand : Stand c.inputs c.keeps) where
  abbrev low : ℕ
  low = low_of c.inputs

  abbrev high : ℕ
  high = high_of c.inputs

  points_within_stripe : (key : List ℕ) (s : Stripe) (P : ℕ → Type 0) → AllByRecursion (λ (p : Entry). P p.seq) (points_in key (is_in s) c.inputs) → ltb 0 (newest_point c key s) ≡ true → P (newest_point c key s)
  points_within_stripe key s P h some =
      greatest_holds P (map (λ (p : Entry). p.seq) (points_in key (is_in s) c.inputs)) (seqs_of_fall (points_in key (is_in s) c.inputs) (points_fall key (is_in s) c.inputs are stand.newest_first)) (all-mapped (λ (p : Entry). p.seq) P (points_in key (is_in s) c.inputs) h) some

  each_point : (key : List ℕ) (P : ℕ → Type 0) → ((s : Stripe) → AllByRecursion (λ (p : Entry). P p.seq) (points_in key (is_in s) c.inputs)) → (us : List Stripe) → AllByRecursion (λ (p : Entry). P p.seq) (filter_map (point_kept m c key) us)
  each_point key P h [] = tt
  each_point key P h (s ∷ us) = put (point_kept m c key s) refl (each_point key P h us)
    where
      put : (o : Option Entry) → point_kept m c key s ≡ o → AllByRecursion (λ (p : Entry). P p.seq) (filter_map (point_kept m c key) us) → AllByRecursion (λ (p : Entry). P p.seq) (cons_option o (filter_map (point_kept m c key) us))
      put None e rest = rest
      put (Some x) e rest =
          let facts : (x.key ≡ key) × (x.seq ≡ newest_point c key s) × (ltb 0 (newest_point c key s) ≡ true) = point_facts m c are stand key s x e in
          (subst P (sym facts.1) (points_within_stripe key s P (h s) facts.2), rest)

  within_points : (key : List ℕ) (s : Stripe) → AllByRecursion (λ (p : Entry). IsWithin low high p.seq) (points_in key (is_in s) c.inputs)
  within_points key s = all-filter (λ (p : Entry). IsWithin low high p.seq) (is_passing key (is_in s)) (points_of c.inputs) (all_points (IsWithin low high) c.inputs are (all_within c.inputs are stand.newest_first))

  all_points_within : (ks : List (List ℕ)) → AllByRecursion (λ (p : Entry). IsWithin low high p.seq) (flat_map (group m c are stand) ks)
  all_points_within [] = tt
  all_points_within (k ∷ ks) = all-append (λ (p : Entry). IsWithin low high p.seq) (group m c are stand k) (flat_map (group m c are stand) ks) (each_point k (IsWithin low high) (within_points k) (stripes c.keeps)) (all_points_within ks)

  group_sorted : (key : List ℕ) → IsStrictlySortedBy entry_cmp (group m c are stand key)
  group_sorted key =
      one_key_sorted (point_kept m c key) (point_inside m c are stand key) key (group m c are stand key)
      (made_falls (λ (p : Entry). p.seq) (point_kept m c key) (point_inside m c are stand key) (stripes c.keeps) (stripes_fall c.keeps stand.keeps_rise))
      (group_keys m c are stand key)

  points_sorted : IsStrictlySortedBy entry_cmp (points_kept m c)
  points_sorted = groups_sorted (group m c are stand) (group_keys m c are stand) group_sorted (keys_of c) (sorted_set bytes_cmp nat_list_cmp_total (map (λ (p : Entry). p.key) (points_of c.inputs)))

  -- sequences that are kept are some of those that there are
  each_seq : (P : ℕ → Type 0) (ns : List ℕ) → Falls ns → AllByRecursion P ns → (us : List Stripe) → AllByRecursion P (filter_map (seq_kept (keeping_of c) ns) us)
  each_seq P ns falls h [] = tt
  each_seq P ns falls h (s ∷ us) = put (seq_kept (keeping_of c) ns s) refl (each_seq P ns falls h us)
    where
      put : (o : Option ℕ) → seq_kept (keeping_of c) ns s ≡ o → AllByRecursion P (filter_map (seq_kept (keeping_of c) ns) us) → AllByRecursion P (cons_option o (filter_map (seq_kept (keeping_of c) ns) us))
      put None e rest = rest
      put (Some x) e rest =
          let facts : (x ≡ greatest (filter (is_in s) ns)) × (ltb 0 (greatest (filter (is_in s) ns)) ≡ true) = seq_facts m c are stand ns s x e in
          (subst P (sym facts.0) (greatest_holds P (filter (is_in s) ns) (filter_falls m c are stand (is_in s) ns falls) (all-filter P (is_in s) ns h) facts.1), rest)

  by_falls : (ns : List ℕ) (falls : Falls ns) (ks : List ℕ) → FallsBy (λ (n : ℕ). n) (seq_kept (keeping_of c) ns) (seq_inside m c are stand ns falls) ks → Falls ks
  by_falls ns falls [] h = tt
  by_falls ns falls (k ∷ ks) h = (h.0, by_falls ns falls ks h.1)

  pub kept_fall : (ns : List ℕ) → Falls ns → Falls (seqs_kept (keeping_of c) ns)
  kept_fall ns falls = by_falls ns falls (seqs_kept (keeping_of c) ns) (made_falls (λ (n : ℕ). n) (seq_kept (keeping_of c) ns) (seq_inside m c are stand ns falls) (stripes c.keeps) (stripes_fall c.keeps stand.keeps_rise))

  abbrev cut : List Fragment
  cut = fragments_of (ranges_of c.inputs)

  pub cut_within : AllByRecursion (λ (f : Fragment). AllByRecursion (IsWithin low high) f.seqs) cut
  cut_within = all-cut (IsWithin low high) (ranges_of c.inputs) (all-ranges (IsWithin low high) (flat_map (λ (r : Contents). r.fragments) c.inputs) (all_fragments (IsWithin low high) c.inputs are (all_within c.inputs are stand.newest_first)))

  some_of : (ns : List ℕ) → ltb 0 (length ns) ≡ true → ns ≢ []
  some_of [] e = absurd cc
  some_of (n ∷ ns) e = λ none. absurd cc

  whole_kept : (f : Fragment) (kept : List Fragment) (b : Bool) → ltb 0 (length (seqs_kept (keeping_of c) f.seqs)) ≡ b → Falls f.seqs → AllByRecursion (IsWithin low high) f.seqs → AllByRecursion (IsWhole low high) kept → AllByRecursion (IsWhole low high) (cond b (fragment_kept (keeping_of c) f ∷ kept) kept)
  whole_kept f kept true e falls within rest = ((some_of (seqs_kept (keeping_of c) f.seqs) e, falling_from (seqs_kept (keeping_of c) f.seqs) (kept_fall f.seqs falls), each_seq (IsWithin low high) f.seqs falls within (stripes c.keeps)), rest)
  whole_kept f kept false e falls within rest = rest

  all_whole : (fs : List Fragment) → AllByRecursion (λ (f : Fragment). IsFalling f.seqs) fs → AllByRecursion (λ (f : Fragment). AllByRecursion (IsWithin low high) f.seqs) fs → AllByRecursion (IsWhole low high) (filter (λ (f : Fragment). ltb 0 (length f.seqs)) (map (fragment_kept (keeping_of c)) fs))
  all_whole [] falls within = tt
  all_whole (f ∷ fs) falls within = whole_kept f (filter (λ (g : Fragment). ltb 0 (length g.seqs)) (map (fragment_kept (keeping_of c)) fs)) (ltb 0 (length (seqs_kept (keeping_of c) f.seqs))) refl (falls_from f.seqs falls.0) within.0 (all_whole fs falls.1 within.1)

  -- no point has the sequence of a range deletion over its key
  abbrev IsApartFrom : List ℕ → ℕ → Type 0
  IsApartFrom key seq = AllByRecursion (λ n. n ≡ seq → ⊥) (seqs_of key c.inputs)

  passes_all : (key : List ℕ) (s : Stripe) (p : Entry) → is_passing key (is_in s) p ≡ true → is_passing key (λ _. true) p ≡ true
  passes_all key s p e = second (is_in s p.seq) (same_bytes p.key key) e
    where
      second : (a b : Bool) → (a && b) ≡ true → b ≡ true
      second true b f = f
      second false b f = absurd cc

  apart_points : (key : List ℕ) (s : Stripe) → AllByRecursion (λ (p : Entry). IsApartFrom key p.seq) (points_in key (is_in s) c.inputs)
  apart_points key s =
      all-narrow (λ (p : Entry). IsApartFrom key p.seq) (is_passing key (λ _. true)) (is_passing key (is_in s)) (passes_all key s) (points_of c.inputs)
      (all-map (λ (p : Entry). AllByRecursion (λ n. n ≡ p.seq → ⊥) (seqs_in key (λ _. true) c.inputs)) (λ p. IsApartFrom key p.seq) (λ p h. subst (λ (ns : List ℕ). AllByRecursion (λ n. n ≡ p.seq → ⊥) ns) (all-passed (seqs_of key c.inputs)) h) (points_in key (λ _. true) c.inputs) (points_apart key (λ _. true) c.inputs are stand.newest_first))

  apart_key : (key : List ℕ) (p : Entry) → p.key ≡ key → IsApartFrom key p.seq → AllByRecursion (λ (f : Fragment). covers f p.key ≡ true → ¬ Contains f.seqs p.seq) (fragments_kept c)
  apart_key key p e apart =
      subst (λ (k : List ℕ). AllByRecursion (λ (f : Fragment). covers f k ≡ true → ¬ Contains f.seqs p.seq) (fragments_kept c)) (sym e)
      (all-map (λ (f : Fragment). covers f key ≡ true → AllByRecursion (λ n. n ≡ p.seq → ⊥) f.seqs) (λ f. covers f key ≡ true → ¬ Contains f.seqs p.seq) (λ f h here. not_contained p.seq f.seqs (h here)) (fragments_kept c)
      (unflat (λ n. n ≡ p.seq → ⊥) key (fragments_kept c) (subst (λ (ns : List ℕ). AllByRecursion (λ n. n ≡ p.seq → ⊥) ns) (sym (over_is m c are stand key)) (each_seq (λ n. n ≡ p.seq → ⊥) (seqs_of key c.inputs) (all_seqs_fall m c are stand key) apart (stripes c.keeps)))))

  group_apart : (key : List ℕ) → AllByRecursion (λ (p : Entry). AllByRecursion (λ (f : Fragment). covers f p.key ≡ true → ¬ Contains f.seqs p.seq) (fragments_kept c)) (group m c are stand key)
  group_apart key = all_both (λ (p : Entry). p.key ≡ key) (λ p. IsApartFrom key p.seq) (λ p. AllByRecursion (λ (f : Fragment). covers f p.key ≡ true → ¬ Contains f.seqs p.seq) (fragments_kept c)) (λ p e apart. apart_key key p e apart) (group m c are stand key) (group_keys m c are stand key) (each_point key (IsApartFrom key) (apart_points key) (stripes c.keeps))

  all_apart : (ks : List (List ℕ)) → AllByRecursion (λ (p : Entry). AllByRecursion (λ (f : Fragment). covers f p.key ≡ true → ¬ Contains f.seqs p.seq) (fragments_kept c)) (flat_map (group m c are stand) ks)
  all_apart [] = tt
  all_apart (k ∷ ks) = all-append (λ (p : Entry). AllByRecursion (λ (f : Fragment). covers f p.key ≡ true → ¬ Contains f.seqs p.seq) (fragments_kept c)) (group m c are stand k) (flat_map (group m c are stand) ks) (group_apart k) (all_apart ks)

  pub output_is_run : IsRun (output_of m c).low (output_of m c).high (output_of m c).points (output_of m c).fragments
  output_is_run = record {
    from_one = low_from_one c.inputs are stand.some;
    range = low_below_high c.inputs are stand.newest_first stand.some;
    below = high_below c.inputs are stand.some;
    points_sorted = points_sorted;
    fragments_sorted = order_stays (fragment_kept (keeping_of c)) (λ f. refl) (λ f. refl) (λ (f : Fragment). ltb 0 (length f.seqs)) cut (in_order (ranges_of c.inputs));
    whole = all_whole cut (seqs_fall (ranges_of c.inputs)) cut_within;
    points_within = all_points_within (keys_of c);
    apart = all_apart (keys_of c);
  }
