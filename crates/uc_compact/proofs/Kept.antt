-- The effect on a key that a stripe finds in a compaction's output.
use Rattle.std.proofs.Common.{◌≡◌, ℕ, ◌<◌, Bool, true, false, cond, ltb, List, [], ◌∷◌, ◌++◌, length, map, fold, filter, refl, sym, ap, ◌∙◌, subst, arith}
use Rattle.std.specs.Prelude.{◌&&◌, Option, Some, None, option_map, filter_map}
use Rattle.std.specs.List.{AllByRecursion, flat_map, cons_option}
use Rattle.std.specs.List.Sorted.{IsStrictlySortedBy}
use Rattle.std.specs.declared.cmp.Ordering.{Ordering}
use Rattle.std.specs.declared.cmp.Ordering.TheVariants.{Less, Equal, Greater}
use Rattle.std.specs.Ordering.{nat_cmp, flip_args, is_le, match_ordering}
use Rattle.std.specs.BTreeSet.{insert_key}
use Rattle.std.specs.Cmp.Lexicographic.{bytes_decides}
use Rattle.std.proofs.lemmas.Bool.{false≢true}
use Rattle.std.proofs.lemmas.Bool.Decides.{nat_tests}
use Rattle.std.proofs.lemmas.Cmp.{nat_list_cmp_total, tied_itself}
use Rattle.std.proofs.lemmas.List.{append-nil, append_assoc}
use Rattle.std.proofs.lemmas.List.Elements.{filter-append}
use Rattle.std.proofs.lemmas.Map.Lookups.{exact_bytes}
use Rattle.uc_bytes.specs.Bytes.{bytes_cmp, same_bytes}
use Rattle.uc_oper.specs.Operation.{Operation}
use Rattle.uc_run_entry.specs.declared.entry.Entry.{Entry}
use Rattle.uc_run_entry.specs.declared.entry.What.{What}
use Rattle.uc_run_entry.specs.Fragment.{Fragment}
use Rattle.uc_run_entry.specs.Order.{AreInOrder}
use Rattle.uc_run_entry.specs.Run.{Contents, covers}
use Rattle.uc_run_entry.specs.Lookup.{is_passing}
use Rattle.uc_run_entry.proofs.Points.{PointsFall, all_pass}
use Rattle.uc_run_entry.proofs.Covers.{none_behind}
use Rattle.uc_run_entry.specs.Cutting.{RangeOf, range_covers, falling, fragments_of}
use Rattle.uc_run_entry.proofs.Pieces.{in_order}
use Rattle.uc_run_entry.proofs.SeqsOver.{seqs_over_key}
use Rattle.uc_run_entry.proofs.Sets.{all_back, sorted_set}
use Rattle.uc_compact.specs.Stripes.{Stripe, is_in, stripes, is_bottom}
use Rattle.uc_compact.specs.Inputs.{Compaction, AreRuns, Stand, points_of, ranges_over, ranges_of, keeping_of}
use Rattle.uc_compact.specs.Output.{greatest, newest_point, newest_range, effect_in, what_kept, point_kept, keys_of, points_kept, seq_kept, seqs_kept, fragment_kept, fragments_kept}
use Rattle.uc_compact.proofs.NestedLists.{all-map, all-mapped, all-filter, all-passed}
use Rattle.uc_compact.proofs.Effects.{seqs_of}
use Rattle.uc_compact.proofs.Choosing.{Falls, greatest_first}
use Rattle.uc_compact.proofs.Across.{points_in, points_fall, seqs_fall}
use Rattle.uc_compact.proofs.Parted.{IsOwn, each_own, stripes_fall}

-- ---- the greatest of what passes a test passes it

positive_first : (n : ℕ) (ns : List ℕ) → AllByRecursion (λ k. k < n) ns → (test : ℕ → Bool) → test n ≡ true → test (greatest (n ∷ ns)) ≡ true
positive_first n ns below test e = ap test (greatest_first n ns below) ∙ e

pub greatest_passes : (test : ℕ → Bool) (ns : List ℕ) → Falls ns → AllByRecursion (λ n. test n ≡ true) ns → ltb 0 (greatest ns) ≡ true → test (greatest ns) ≡ true
greatest_passes test [] falls pass some = absurd cc
greatest_passes test (n ∷ ns) falls pass some = positive_first n ns falls.0 test pass.0

-- ---- sequences of range deletions

-- those of one fragment
module _ (key : List ℕ) (test : ℕ → Bool) (begin end : List ℕ) where
  abbrev range : ℕ → RangeOf
  range seq = record { begin = begin; end = end; seq = seq }

  abbrev passes : RangeOf → Bool
  passes r = test r.seq && range_covers r key

  one_range : (seq : ℕ) (rs : List RangeOf) (kept : List ℕ) (a : Bool) → map (λ (r : RangeOf). r.seq) rs ≡ kept → map (λ (r : RangeOf). r.seq) (cond (a && true) (range seq ∷ rs) rs) ≡ cond a (seq ∷ kept) kept
  one_range seq rs kept true e = ap (λ (ns : List ℕ). seq ∷ ns) e
  one_range seq rs kept false e = e

  no_range : (seq : ℕ) (rs : List RangeOf) (a : Bool) → rs ≡ [] → cond (a && false) (range seq ∷ rs) rs ≡ []
  no_range seq rs true e = e
  no_range seq rs false e = e

  ranges_by : (seqs : List ℕ) (b : Bool) → range_covers (range 0) key ≡ b → map (λ (r : RangeOf). r.seq) (filter passes (map range seqs)) ≡ cond b (filter test seqs) []
  ranges_by [] true e = refl
  ranges_by [] false e = refl
  ranges_by (seq ∷ seqs) true e =
      ap (λ c. map (λ (r : RangeOf). r.seq) (cond (test seq && c) (range seq ∷ filter passes (map range seqs)) (filter passes (map range seqs)))) e
      ∙ one_range seq (filter passes (map range seqs)) (filter test seqs) (test seq) (ranges_by seqs true e)
  ranges_by (seq ∷ seqs) false e =
      ap (λ c. map (λ (r : RangeOf). r.seq) (cond (test seq && c) (range seq ∷ filter passes (map range seqs)) (filter passes (map range seqs)))) e
      ∙ ap (map (λ (r : RangeOf). r.seq)) (no_range seq (filter passes (map range seqs)) (test seq) (none seqs))
    where
      none : (ns : List ℕ) → filter passes (map range ns) ≡ []
      none [] = refl
      none (n ∷ ns) = ap (λ c. cond (test n && c) (range n ∷ filter passes (map range ns)) (filter passes (map range ns))) e ∙ no_range n (filter passes (map range ns)) (test n) (none ns)

map-append : {A B : Type 0} (f : A → B) (xs ys : List A) → map f (xs ++ ys) ≡ map f xs ++ map f ys
map-append f [] ys = refl
map-append f (x ∷ xs) ys = ap (λ zs. f x ∷ zs) (map-append f xs ys)

pub ranges_seqs : (key : List ℕ) (test : ℕ → Bool) (fs : List Fragment) → map (λ (r : RangeOf). r.seq) (filter (λ (r : RangeOf). test r.seq && range_covers r key) (flat_map ranges_over fs)) ≡ filter test (flat_map (λ (f : Fragment). f.seqs) (filter (λ f. covers f key) fs))
ranges_seqs key test [] = refl
ranges_seqs key test (f ∷ fs) =
    ap (map (λ (r : RangeOf). r.seq)) (filter-append (λ (r : RangeOf). test r.seq && range_covers r key) (ranges_over f) (flat_map ranges_over fs))
    ∙ map-append (λ (r : RangeOf). r.seq) (filter (λ (r : RangeOf). test r.seq && range_covers r key) (ranges_over f)) (filter (λ (r : RangeOf). test r.seq && range_covers r key) (flat_map ranges_over fs))
    ∙ ap (λ (ns : List ℕ). ns ++ map (λ (r : RangeOf). r.seq) (filter (λ (r : RangeOf). test r.seq && range_covers r key) (flat_map ranges_over fs))) (ranges_by key test f.begin f.end f.seqs (covers f key) refl)
    ∙ ap (λ (ns : List ℕ). cond (covers f key) (filter test f.seqs) [] ++ ns) (ranges_seqs key test fs)
    ∙ put (covers f key)
  where
    put : (b : Bool) → cond b (filter test f.seqs) [] ++ filter test (flat_map (λ (f : Fragment). f.seqs) (filter (λ f. covers f key) fs)) ≡ filter test (flat_map (λ (f : Fragment). f.seqs) (cond b (f ∷ filter (λ f. covers f key) fs) (filter (λ f. covers f key) fs)))
    put true = sym (filter-append test f.seqs (flat_map (λ (f : Fragment). f.seqs) (filter (λ f. covers f key) fs)))
    put false = refl

-- sequences that fall already stay as they are
greater_number : (a b : ℕ) → b < a → nat_cmp a b ≡ Greater
greater_number a b lt = grind (arith, nat_tests)

put_behind : (k n : ℕ) (ks others : List ℕ) (o : Ordering) → o ≡ Greater → others ≡ ks ++ n ∷ [] → match_ordering o (n ∷ k ∷ ks) (k ∷ ks) (k ∷ others) ≡ k ∷ (ks ++ n ∷ [])
put_behind k n ks others Greater e rest = ap (λ (xs : List ℕ). k ∷ xs) rest
put_behind k n ks others Less e rest = absurd cc
put_behind k n ks others Equal e rest = absurd cc

behind_all : (acc : List ℕ) (n : ℕ) → AllByRecursion (λ k. n < k) acc → insert_key (flip_args nat_cmp) acc n ≡ acc ++ n ∷ []
behind_all [] n h = refl
behind_all (k ∷ ks) n h = put_behind k n ks (insert_key (flip_args nat_cmp) ks n) (nat_cmp k n) (greater_number k n h.0) (behind_all ks n h.1)

all_behind_all : (acc : List ℕ) (n : ℕ) (ns : List ℕ) → Falls (acc ++ n ∷ ns) → AllByRecursion (λ k. n < k) acc
all_behind_all [] n ns h = tt
all_behind_all (k ∷ ks) n ns h = (middle ks h.0, all_behind_all ks n ns h.1)
  where
    middle : (xs : List ℕ) → AllByRecursion (λ l. l < k) (xs ++ n ∷ ns) → n < k
    middle [] g = g.0
    middle (x ∷ xs) g = middle xs g.1

falling_on : (acc ns : List ℕ) → Falls (acc ++ ns) → fold (insert_key (flip_args nat_cmp)) acc ns ≡ acc ++ ns
falling_on acc [] h = sym (append-nil acc)
falling_on acc (n ∷ ns) h =
    ap (λ (a : List ℕ). fold (insert_key (flip_args nat_cmp)) a ns) (behind_all acc n (all_behind_all acc n ns h))
    ∙ falling_on (acc ++ n ∷ []) ns (subst Falls (sym (append_assoc acc (n ∷ []) ns)) h)
    ∙ append_assoc acc (n ∷ []) ns

pub falling_is : (ns : List ℕ) → Falls ns → falling ns ≡ ns
falling_is ns h = falling_on [] ns h

-- ---- keys, each once

module _ (key : List ℕ) (test : Entry → Bool) (group : List ℕ → List Entry) (part : List Entry) (others : (k : List ℕ) → same_bytes k key ≡ false → filter test (group k) ≡ []) (here : filter test (group key) ≡ part) where
  less_other : (k l : List ℕ) → k ≡ key → bytes_cmp k l ≡ Less → (b : Bool) → same_bytes l key ≡ b → same_bytes l key ≡ false
  less_other k l same less false e = e
  less_other k l same less true e =
      let tied : bytes_cmp k k ≡ Less = subst (λ (x : List ℕ). bytes_cmp k x ≡ Less) ((bytes_decides l key).0 e ∙ sym same) less in
      let t = tied_itself nat_list_cmp_total k in
      cc

  none_same : (k : List ℕ) (ks : List (List ℕ)) → k ≡ key → AllByRecursion (λ l. bytes_cmp k l ≡ Less) ks → AllByRecursion (λ l. same_bytes l key ≡ false) ks
  none_same k [] same less = tt
  none_same k (l ∷ ls) same less = (less_other k l same less.0 (same_bytes l key) refl, none_same k ls same less.1)

  none_found : (ks : List (List ℕ)) → AllByRecursion (λ l. same_bytes l key ≡ false) ks → filter test (flat_map group ks) ≡ []
  none_found [] h = refl
  none_found (k ∷ ks) h = filter-append test (group k) (flat_map group ks) ∙ ap (λ (ps : List Entry). ps ++ filter test (flat_map group ks)) (others k h.0) ∙ none_found ks h.1

  found_by : (k : List ℕ) (ks : List (List ℕ)) (b : Bool) → same_bytes k key ≡ b → AllByRecursion (λ l. bytes_cmp k l ≡ Less) ks → (b ≡ false → filter test (flat_map group ks) ≡ part) → filter test (group k ++ flat_map group ks) ≡ part
  found_by k ks true e less rest =
      let same : k ≡ key = (bytes_decides k key).0 e in
      filter-append test (group k) (flat_map group ks)
      ∙ ap (λ (ps : List Entry). filter test (group k) ++ ps) (none_found ks (none_same k ks same less))
      ∙ append-nil (filter test (group k))
      ∙ ap (λ (l : List ℕ). filter test (group l)) same
      ∙ here
  found_by k ks false e less rest =
      filter-append test (group k) (flat_map group ks)
      ∙ ap (λ (ps : List Entry). ps ++ filter test (flat_map group ks)) (others k e)
      ∙ rest refl

  pub found_once : (ks : List (List ℕ)) → IsStrictlySortedBy bytes_cmp ks → (AllByRecursion (λ l. same_bytes l key ≡ false) ks → part ≡ []) → filter test (flat_map group ks) ≡ part
  unfolding IsStrictlySortedBy
  found_once [] sorted missing = sym (missing tt)
  found_once (k ∷ ks) sorted missing = found_by k ks (same_bytes k key) refl sorted.0 (λ e. found_once ks sorted.1 (λ none. missing (e, none)))

-- ---- what is kept

module _ (m : Operation) (c : Compaction) (are : AreRuns c.inputs) (stand : Stand c.inputs c.keeps) where
  abbrev ss : List Stripe
  ss = stripes c.keeps

  -- points
  point_is : (key : List ℕ) (s : Stripe) (b : Bool) (what : Option What) (x : Entry) → ltb 0 (newest_point c key s) ≡ b → cond b (option_map (λ (w : What). record { key = key; seq = newest_point c key s; what = w }) what) None ≡ Some x → (x.key ≡ key) × (x.seq ≡ newest_point c key s) × (ltb 0 (newest_point c key s) ≡ true)
  point_is key s true (Some w) x e f = subst (λ (y : Option Entry). is_it y) f (refl, refl, e)
    where
      is_it : Option Entry → Type 0
      is_it None = Unit {0}
      is_it (Some y) = (y.key ≡ key) × (y.seq ≡ newest_point c key s) × (ltb 0 (newest_point c key s) ≡ true)
  point_is key s true None x e f = absurd cc
  point_is key s false what x e f = absurd cc

  pub newest_inside : (key : List ℕ) (s : Stripe) → ltb 0 (newest_point c key s) ≡ true → is_in s (newest_point c key s) ≡ true
  newest_inside key s some =
      greatest_passes (is_in s) (map (λ (p : Entry). p.seq) (points_in key (is_in s) c.inputs)) (mapped_fall (points_in key (is_in s) c.inputs) (points_fall key (is_in s) c.inputs are stand.newest_first))
      (all-mapped (λ (p : Entry). p.seq) (λ n. is_in s n ≡ true) (points_in key (is_in s) c.inputs) (all-map (λ p. is_passing key (is_in s) p ≡ true) (λ (p : Entry). is_in s p.seq ≡ true) (λ p e. first_of (is_in s p.seq) (same_bytes p.key key) e) (points_in key (is_in s) c.inputs) (all_pass (is_passing key (is_in s)) (points_of c.inputs))))
      some
    where
      mapped_fall : (ps : List Entry) → PointsFall ps → Falls (map (λ (p : Entry). p.seq) ps)
      mapped_fall [] h = tt
      mapped_fall (p ∷ ps) h = (all-mapped (λ (q : Entry). q.seq) (λ n. n < p.seq) ps h.0, mapped_fall ps h.1)

      first_of : (a b : Bool) → (a && b) ≡ true → a ≡ true
      first_of true b e = refl
      first_of false b e = absurd cc

  abbrev what_of_stripe : List ℕ → Stripe → Option What
  what_of_stripe key s = what_kept m (is_bottom (keeping_of c) s) (effect_in m c key s) (ltb (newest_point c key s) (newest_range c key s))

  pub point_facts : (key : List ℕ) (s : Stripe) (x : Entry) → point_kept m c key s ≡ Some x → (x.key ≡ key) × (x.seq ≡ newest_point c key s) × (ltb 0 (newest_point c key s) ≡ true)
  point_facts key s x e = point_is key s (ltb 0 (newest_point c key s)) (what_of_stripe key s) x refl e

  pub point_inside : (key : List ℕ) (s : Stripe) (x : Entry) → point_kept m c key s ≡ Some x → is_in s x.seq ≡ true
  point_inside key s x e =
      let facts : (x.key ≡ key) × (x.seq ≡ newest_point c key s) × (ltb 0 (newest_point c key s) ≡ true) = point_facts key s x e in
      ap (is_in s) facts.1 ∙ newest_inside key s facts.2

  abbrev pub group : List ℕ → List Entry
  group key = filter_map (point_kept m c key) (stripes c.keeps)

  keys_put : (key : List ℕ) (s : Stripe) (rest : List Entry) (o : Option Entry) → point_kept m c key s ≡ o → AllByRecursion (λ (p : Entry). p.key ≡ key) rest → AllByRecursion (λ (p : Entry). p.key ≡ key) (cons_option o rest)
  keys_put key s rest None e h = h
  keys_put key s rest (Some x) e h = ((point_facts key s x e).0, h)

  keys_in : (key : List ℕ) (us : List Stripe) → AllByRecursion (λ (p : Entry). p.key ≡ key) (filter_map (point_kept m c key) us)
  keys_in key [] = tt
  keys_in key (s ∷ us) = keys_put key s (filter_map (point_kept m c key) us) (point_kept m c key s) refl (keys_in key us)

  pub group_keys : (key : List ℕ) → AllByRecursion (λ (p : Entry). p.key ≡ key) (group key)
  group_keys key = keys_in key (stripes c.keeps)

  module _ (key : List ℕ) (test : ℕ → Bool) where
    same_key : (ps : List Entry) → AllByRecursion (λ (p : Entry). p.key ≡ key) ps → filter (is_passing key test) ps ≡ filter (λ (p : Entry). test p.seq) ps
    same_key [] h = refl
    same_key (p ∷ ps) h =
        ap (λ b. cond (test p.seq && b) (p ∷ filter (is_passing key test) ps) (filter (is_passing key test) ps)) ((bytes_decides p.key key).1 h.0)
        ∙ kept (test p.seq)
        ∙ ap (λ (qs : List Entry). cond (test p.seq) (p ∷ qs) qs) (same_key ps h.1)
      where
        kept : (b : Bool) → cond (b && true) (p ∷ filter (is_passing key test) ps) (filter (is_passing key test) ps) ≡ cond b (p ∷ filter (is_passing key test) ps) (filter (is_passing key test) ps)
        kept true = refl
        kept false = refl

    other_key : (k : List ℕ) → same_bytes k key ≡ false → (ps : List Entry) → AllByRecursion (λ (p : Entry). p.key ≡ k) ps → filter (is_passing key test) ps ≡ []
    other_key k e [] h = refl
    other_key k e (p ∷ ps) h =
        ap (λ b. cond (test p.seq && b) (p ∷ filter (is_passing key test) ps) (filter (is_passing key test) ps)) (ap (λ (l : List ℕ). same_bytes l key) h.0 ∙ e)
        ∙ kept (test p.seq)
        ∙ other_key k e ps h.1
      where
        kept : (b : Bool) → cond (b && false) (p ∷ filter (is_passing key test) ps) (filter (is_passing key test) ps) ≡ filter (is_passing key test) ps
        kept true = refl
        kept false = refl

    not_named : (ps : List Entry) → AllByRecursion (λ (l : List ℕ). same_bytes l key ≡ false) (map (λ (p : Entry). p.key) ps) → filter (is_passing key test) ps ≡ []
    not_named [] h = refl
    not_named (p ∷ ps) h = ap (λ b. cond (test p.seq && b) (p ∷ filter (is_passing key test) ps) (filter (is_passing key test) ps)) h.0 ∙ kept (test p.seq) ∙ not_named ps h.1
      where
        kept : (b : Bool) → cond (b && false) (p ∷ filter (is_passing key test) ps) (filter (is_passing key test) ps) ≡ filter (is_passing key test) ps
        kept true = refl
        kept false = refl

  -- the keys that aren't among those kept aren't named by the inputs
  not_among : (key : List ℕ) → AllByRecursion (λ l. same_bytes l key ≡ false) (keys_of c) → AllByRecursion (λ (l : List ℕ). same_bytes l key ≡ false) (map (λ (p : Entry). p.key) (points_of c.inputs))
  not_among key h = all_back bytes_cmp exact_bytes (λ l. same_bytes l key ≡ false) (map (λ (p : Entry). p.key) (points_of c.inputs)) h

  no_point : (key : List ℕ) (s : Stripe) → AllByRecursion (λ l. same_bytes l key ≡ false) (keys_of c) → point_kept m c key s ≡ None
  no_point key s h =
      ap (λ (ps : List Entry). cond (ltb 0 (greatest (map (λ (p : Entry). p.seq) ps))) (option_map (λ (w : What). record { key = key; seq = greatest (map (λ (p : Entry). p.seq) ps); what = w }) (what_kept m (is_bottom (keeping_of c) s) (effect_in m c key s) (ltb (greatest (map (λ (p : Entry). p.seq) ps)) (newest_range c key s)))) None) (not_named key (is_in s) (points_of c.inputs) (not_among key h))

  pub points_found : (key : List ℕ) → AllByRecursion (λ s. filter (is_passing key (is_in s)) (points_kept m c) ≡ cons_option (point_kept m c key s) []) (stripes c.keeps)
  points_found key = all-map (IsOwn (λ (p : Entry). p.seq) (point_kept m c key) (point_inside key) (group key)) (λ s. filter (is_passing key (is_in s)) (points_kept m c) ≡ cons_option (point_kept m c key s) []) found (stripes c.keeps) (each_own (λ (p : Entry). p.seq) (point_kept m c key) (point_inside key) (stripes c.keeps) (stripes_fall c.keeps stand.keeps_rise))
    where
      found : (s : Stripe) → IsOwn (λ (p : Entry). p.seq) (point_kept m c key) (point_inside key) (group key) s → filter (is_passing key (is_in s)) (points_kept m c) ≡ cons_option (point_kept m c key s) []
      found s own =
          found_once key (is_passing key (is_in s)) group (cons_option (point_kept m c key s) [])
          (λ k e. other_key key (is_in s) k e (group k) (group_keys k))
          (same_key key (is_in s) (group key) (group_keys key) ∙ own)
          (keys_of c) (sorted_set bytes_cmp nat_list_cmp_total (map (λ (p : Entry). p.key) (points_of c.inputs)))
          (λ none. ap (λ (o : Option Entry). cons_option o []) (no_point key s none))

  -- sequences
  seq_is : (ns : List ℕ) (s : Stripe) (bottom b : Bool) (x : ℕ) → ltb 0 (greatest (filter (is_in s) ns)) ≡ b → cond bottom None (cond b (Some (greatest (filter (is_in s) ns))) None) ≡ Some x → (x ≡ greatest (filter (is_in s) ns)) × (ltb 0 (greatest (filter (is_in s) ns)) ≡ true)
  seq_is ns s false true x e f = subst (λ (y : Option ℕ). is_it y) f (refl, e)
    where
      is_it : Option ℕ → Type 0
      is_it None = Unit {0}
      is_it (Some y) = (y ≡ greatest (filter (is_in s) ns)) × (ltb 0 (greatest (filter (is_in s) ns)) ≡ true)
  seq_is ns s false false x e f = absurd cc
  seq_is ns s true b x e f = absurd cc

  pub seq_facts : (ns : List ℕ) (s : Stripe) (x : ℕ) → seq_kept (keeping_of c) ns s ≡ Some x → (x ≡ greatest (filter (is_in s) ns)) × (ltb 0 (greatest (filter (is_in s) ns)) ≡ true)
  seq_facts ns s x e = seq_is ns s (is_bottom (keeping_of c) s) (ltb 0 (greatest (filter (is_in s) ns))) x refl e

  falls_put : (n : ℕ) (kept : List ℕ) (b : Bool) → AllByRecursion (λ k. k < n) kept → Falls kept → Falls (cond b (n ∷ kept) kept)
  falls_put n kept true below h = (below, h)
  falls_put n kept false below h = h

  pub filter_falls : (test : ℕ → Bool) (ns : List ℕ) → Falls ns → Falls (filter test ns)
  filter_falls test [] h = tt
  filter_falls test (n ∷ ns) h = falls_put n (filter test ns) (test n) (all-filter (λ k. k < n) test ns h.0) (filter_falls test ns h.1)

  pub seq_inside : (ns : List ℕ) → Falls ns → (s : Stripe) (x : ℕ) → seq_kept (keeping_of c) ns s ≡ Some x → is_in s x ≡ true
  seq_inside ns falls s x e =
      let facts : (x ≡ greatest (filter (is_in s) ns)) × (ltb 0 (greatest (filter (is_in s) ns)) ≡ true) = seq_facts ns s x e in
      ap (is_in s) facts.0 ∙ greatest_passes (is_in s) (filter (is_in s) ns) (filter_falls (is_in s) ns falls) (all_pass (is_in s) ns) facts.1

  pub seqs_found : (ns : List ℕ) → Falls ns → AllByRecursion (λ s. filter (is_in s) (seqs_kept (keeping_of c) ns) ≡ cons_option (seq_kept (keeping_of c) ns s) []) (stripes c.keeps)
  seqs_found ns falls = each_own (λ (n : ℕ). n) (seq_kept (keeping_of c) ns) (seq_inside ns falls) (stripes c.keeps) (stripes_fall c.keeps stand.keeps_rise)

  -- fragments
  abbrev cut : List Fragment
  cut = fragments_of (ranges_of c.inputs)

  no_seqs : (ns : List ℕ) → ltb 0 (length ns) ≡ false → ns ≡ []
  no_seqs [] e = refl
  no_seqs (n ∷ ns) e =
      let l : 0 < length (n ∷ ns) = omega arith in
      let t : ltb 0 (length (n ∷ ns)) ≡ true = grind (arith, nat_tests) in
      absurd (false≢true (sym e ∙ t))

  module _ (key : List ℕ) where
    abbrev over_kept : List Fragment → List ℕ
    over_kept fs = flat_map (λ (f : Fragment). f.seqs) (filter (λ f. covers f key) (filter (λ (f : Fragment). ltb 0 (length f.seqs)) (map (fragment_kept (keeping_of c)) fs)))

    abbrev kept_over : List Fragment → List ℕ
    kept_over fs = flat_map (λ (f : Fragment). seqs_kept (keeping_of c) f.seqs) (filter (λ f. covers f key) fs)

    one_kept : (f : Fragment) (fs : List Fragment) (a b : Bool) → ltb 0 (length (seqs_kept (keeping_of c) f.seqs)) ≡ a → covers f key ≡ b → over_kept fs ≡ kept_over fs →
        flat_map (λ (f : Fragment). f.seqs) (filter (λ f. covers f key) (cond a (fragment_kept (keeping_of c) f ∷ filter (λ (f : Fragment). ltb 0 (length f.seqs)) (map (fragment_kept (keeping_of c)) fs)) (filter (λ (f : Fragment). ltb 0 (length f.seqs)) (map (fragment_kept (keeping_of c)) fs))))
        ≡ flat_map (λ (f : Fragment). seqs_kept (keeping_of c) f.seqs) (cond b (f ∷ filter (λ f. covers f key) fs) (filter (λ f. covers f key) fs))
    one_kept f fs true true e g rest =
        ap (λ b. flat_map (λ (f : Fragment). f.seqs) (cond b (fragment_kept (keeping_of c) f ∷ filter (λ f. covers f key) (filter (λ (f : Fragment). ltb 0 (length f.seqs)) (map (fragment_kept (keeping_of c)) fs))) (filter (λ f. covers f key) (filter (λ (f : Fragment). ltb 0 (length f.seqs)) (map (fragment_kept (keeping_of c)) fs))))) g
        ∙ ap (λ (ns : List ℕ). seqs_kept (keeping_of c) f.seqs ++ ns) rest
    one_kept f fs true false e g rest =
        ap (λ b. flat_map (λ (f : Fragment). f.seqs) (cond b (fragment_kept (keeping_of c) f ∷ filter (λ f. covers f key) (filter (λ (f : Fragment). ltb 0 (length f.seqs)) (map (fragment_kept (keeping_of c)) fs))) (filter (λ f. covers f key) (filter (λ (f : Fragment). ltb 0 (length f.seqs)) (map (fragment_kept (keeping_of c)) fs))))) g
        ∙ rest
    one_kept f fs false true e g rest = rest ∙ ap (λ (ns : List ℕ). ns ++ kept_over fs) (sym (no_seqs (seqs_kept (keeping_of c) f.seqs) e))
    one_kept f fs false false e g rest = rest

    all_kept : (fs : List Fragment) → over_kept fs ≡ kept_over fs
    all_kept [] = refl
    all_kept (f ∷ fs) = one_kept f fs (ltb 0 (length (seqs_kept (keeping_of c) f.seqs))) (covers f key) refl refl (all_kept fs)

    none_kept : (us : List Stripe) → filter_map (seq_kept (keeping_of c) []) us ≡ []
    none_kept [] = refl
    none_kept (s ∷ us) = ap (λ (o : Option ℕ). cons_option o (filter_map (seq_kept (keeping_of c) []) us)) (none (is_bottom (keeping_of c) s)) ∙ none_kept us
      where
        none : (b : Bool) → cond b None (cond (ltb 0 (greatest [])) (Some (greatest [])) None) ≡ None
        none true = refl
        none false = refl

    -- one fragment at the most covers the key
    sole_by : (f : Fragment) (fs : List Fragment) (b : Bool) → covers f key ≡ b → AllByRecursion (λ g. is_le (bytes_cmp f.end g.begin) ≡ true) fs → kept_over fs ≡ seqs_kept (keeping_of c) (flat_map (λ (f : Fragment). f.seqs) (filter (λ f. covers f key) fs)) → flat_map (λ (f : Fragment). seqs_kept (keeping_of c) f.seqs) (cond b (f ∷ filter (λ f. covers f key) fs) (filter (λ f. covers f key) fs)) ≡ seqs_kept (keeping_of c) (flat_map (λ (f : Fragment). f.seqs) (cond b (f ∷ filter (λ f. covers f key) fs) (filter (λ f. covers f key) fs)))
    sole_by f fs false e le rest = rest
    sole_by f fs true e le rest =
        let none : filter (λ f. covers f key) fs ≡ [] = none_behind key f fs e le in
        ap (λ (gs : List Fragment). flat_map (λ (f : Fragment). seqs_kept (keeping_of c) f.seqs) (f ∷ gs)) none
        ∙ append-nil (seqs_kept (keeping_of c) f.seqs)
        ∙ ap (seqs_kept (keeping_of c)) (sym (append-nil f.seqs))
        ∙ ap (λ (gs : List Fragment). seqs_kept (keeping_of c) (flat_map (λ (f : Fragment). f.seqs) (f ∷ gs))) (sym none)

    sole : (fs : List Fragment) → AreInOrder fs → kept_over fs ≡ seqs_kept (keeping_of c) (flat_map (λ (f : Fragment). f.seqs) (filter (λ f. covers f key) fs))
    sole [] order = sym (none_kept (stripes c.keeps))
    sole (f ∷ fs) order = sole_by f fs (covers f key) refl order.1 (sole fs order.2)

    pub all_seqs_fall : Falls (seqs_of key c.inputs)
    all_seqs_fall = subst Falls (all-passed (seqs_of key c.inputs)) (seqs_fall key (λ _. true) c.inputs are stand.newest_first)

    -- the sequences over the key in the pieces are those of the inputs
    pub cut_seqs : flat_map (λ (f : Fragment). f.seqs) (filter (λ f. covers f key) (fragments_of (ranges_of c.inputs))) ≡ seqs_of key c.inputs
    cut_seqs =
        seqs_over_key key (ranges_of c.inputs)
        ∙ ap falling (ranges_seqs key (λ _. true) (flat_map (λ (r : Contents). r.fragments) c.inputs) ∙ all-passed (seqs_of key c.inputs))
        ∙ falling_is (seqs_of key c.inputs) all_seqs_fall

    pub over_is : flat_map (λ (f : Fragment). f.seqs) (filter (λ f. covers f key) (fragments_kept c)) ≡ seqs_kept (keeping_of c) (seqs_of key c.inputs)
    over_is = all_kept cut ∙ sole cut (in_order (ranges_of c.inputs)) ∙ ap (seqs_kept (keeping_of c)) cut_seqs

    -- in a stripe, one sequence at the most
    pub cover_found : AllByRecursion (λ s. filter (is_in s) (flat_map (λ (f : Fragment). f.seqs) (filter (λ f. covers f key) (fragments_kept c))) ≡ cons_option (seq_kept (keeping_of c) (seqs_of key c.inputs) s) []) (stripes c.keeps)
    cover_found = all-map (λ s. filter (is_in s) (seqs_kept (keeping_of c) (seqs_of key c.inputs)) ≡ cons_option (seq_kept (keeping_of c) (seqs_of key c.inputs) s) []) (λ s. filter (is_in s) (flat_map (λ (f : Fragment). f.seqs) (filter (λ f. covers f key) (fragments_kept c))) ≡ cons_option (seq_kept (keeping_of c) (seqs_of key c.inputs) s) []) (λ s e. ap (filter (is_in s)) over_is ∙ e) (stripes c.keeps) (seqs_found (seqs_of key c.inputs) all_seqs_fall)
