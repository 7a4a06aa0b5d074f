-- The kept part of the points that are left, from the newest stripe on that has any of them.
use Rattle.std.proofs.Common.{◌≡◌, ℕ, ◌<◌, ◌≤◌, Bool, true, false, cond, leb, ltb, List, [], ◌∷◌, ◌++◌, length, map, take, drop, filter, ◌-◌, refl, sym, ap, ◌∙◌, subst, arith}
use Rattle.std.specs.Prelude.{Option, Some, None, option_map, filter_map}
use Rattle.std.specs.List.{AllByRecursion, cons_option, slice_get}
use Rattle.std.specs.List.Sorted.{IsStrictlySortedBy}
use Rattle.std.specs.declared.cmp.Ordering.TheVariants.{Less}
use Rattle.std.specs.Ordering.{nat_cmp}
use Rattle.std.proofs.lemmas.Bool.Decides.{nat_tests}
use Rattle.std.proofs.lemmas.List.{append-nil, append_assoc, take_rest}
use mathlib.Core.List.{IsPrefix}
use Rattle.uc_oper.specs.Operation.{Operation}
use Rattle.uc_run_entry.specs.declared.entry.Entry.{Entry}
use Rattle.uc_run_entry.specs.declared.entry.What.{What}
use Rattle.uc_run_entry.specs.Order.{IsFalling}
use Rattle.uc_run_entry.specs.Lookup.{above_newest}
use Rattle.uc_compact.specs.Stripes.{Stripe, Keeping, is_in, is_bottom, stripes, stripe_of}
use Rattle.uc_compact.specs.Output.{greatest, what_kept, seq_kept, seqs_kept}
use Rattle.uc_compact.specs.Choice.{point_for, points_for, PointsFall}
use Rattle.uc_compact.proofs.NestedLists.{all-map, all-mapped}
use Rattle.uc_compact.proofs.Parted.{Rise}
use Rattle.uc_compact.proofs.Choosing.{greatest_first}
use Rattle.uc_compact.proofs.StripeSteps.{continues, begins_below, none_in, still_in, left_below, fewer}

pub none_left : {X : Type 0} (xs : List X) → slice_get xs 0 ≡ None → xs ≡ []
none_left [] e = refl
none_left (x ∷ xs) e = absurd cc

pub same_first : {X : Type 0} (x y : X) → Some x ≡ Some y → x ≡ y
same_first x y e = cc

pub less_number : (a b : ℕ) → nat_cmp a b ≡ Less → a < b
less_number a b e = grind (arith, nat_tests)

at_most : (a b : ℕ) → a < b → a ≤ b
at_most a b lt = omega (arith, lt)

positive : (n : ℕ) → 0 < n → ltb 0 n ≡ true
positive n lt = grind (arith, nat_tests)

-- what was pushed stands before what is to come
pub pushed_none : {X : Type 0} (kept rest more whole : List X) (o : Option X) → rest ≡ cons_option o more → o ≡ None → kept ++ rest ≡ whole → kept ++ more ≡ whole
pushed_none {X} kept rest more whole o e none so_far = ap (λ (xs : List X). kept ++ xs) (sym (e ∙ ap (λ (p : Option X). cons_option p more) none)) ∙ so_far

pub pushed_some : {X : Type 0} (kept rest more whole : List X) (o : Option X) (x : X) → rest ≡ cons_option o more → o ≡ Some x → kept ++ rest ≡ whole → (kept ++ x ∷ []) ++ more ≡ whole
pushed_some {X} kept rest more whole o x e some so_far = append_assoc kept (x ∷ []) more ∙ ap (λ (xs : List X). kept ++ xs) (sym (e ∙ ap (λ (p : Option X). cons_option p more) some)) ∙ so_far

pub pushed : {X : Type 0} (kept rest more whole : List X) (o : Option X) → rest ≡ cons_option o more → kept ++ rest ≡ whole → (kept ++ cons_option o []) ++ more ≡ whole
pushed {X} kept rest more whole None e so_far = ap (λ (xs : List X). xs ++ more) (append-nil kept) ∙ pushed_none kept rest more whole None e refl so_far
pushed kept rest more whole (Some x) e so_far = pushed_some kept rest more whole (Some x) x e refl so_far

-- what a list began with it begins with still
pub begins_still : {X : Type 0} (start kept more grown : List X) → IsPrefix start kept → grown ≡ kept ++ more → IsPrefix start grown
begins_still start kept more grown begins made =
    (begins.0 ++ more, sym (append_assoc start begins.0 more) ∙ ap (λ xs. xs ++ more) begins.1 ∙ sym made)

-- ---- sequences

module _ (k : Keeping) where
  seq_none : (xs : List ℕ) (s : Stripe) → filter (is_in s) xs ≡ [] → seq_kept k xs s ≡ None
  seq_none xs s e = ap (λ ns. cond (is_bottom k s) None (cond (ltb 0 (greatest ns)) (Some (greatest ns)) None)) e ∙ by (is_bottom k s)
    where
      by : (b : Bool) → cond b None (cond (ltb 0 (greatest [])) (Some (greatest [])) None) ≡ None
      by true = refl
      by false = refl

  below_first : (n : ℕ) (ns : List ℕ) → IsFalling (n ∷ ns) → AllByRecursion (λ x. x ≤ n) (n ∷ ns)
  unfolding IsStrictlySortedBy
  below_first n ns h = (omega arith, all-map (λ x. nat_cmp x n ≡ Less) (λ x. x ≤ n) (λ x e. at_most x n (less_number x n e)) ns h.0)

  pub seq_step : Rise k.keeps → (rest : List ℕ) (n : ℕ) → slice_get rest 0 ≡ Some n → IsFalling rest → (s : Stripe) → s ≡ stripe_of k.keeps n →
      seqs_kept k rest ≡ cons_option (seq_kept k rest s) (seqs_kept k (filter (λ x. leb x s.above) rest))
  seq_step rise [] n first fall s is = absurd cc
  seq_step rise (m ∷ ns) n first fall s is =
      let same : n ≡ m = cc in
      let is_m : s ≡ stripe_of k.keeps m = is ∙ ap (stripe_of k.keeps) same in
      subst (λ (t : Stripe). seqs_kept k (m ∷ ns) ≡ cons_option (seq_kept k (m ∷ ns) t) (seqs_kept k (filter (λ x. leb x t.above) (m ∷ ns)))) (sym is_m) (step (stripe_of k.keeps m) refl)
    where
      step : (t : Stripe) → t ≡ stripe_of k.keeps m → seqs_kept k (m ∷ ns) ≡ cons_option (seq_kept k (m ∷ ns) (stripe_of k.keeps m)) (seqs_kept k (filter (λ x. leb x (stripe_of k.keeps m).above) (m ∷ ns)))
      step t e =
          let a : ℕ = (stripe_of k.keeps m).above in
          continues (seq_kept k (m ∷ ns)) (seq_kept k (filter (λ x. leb x a) (m ∷ ns))) m
          (λ u le. seq_none (m ∷ ns) u (none_in (λ x. x) u (m ∷ ns) (all-map (λ x. x ≤ m) (λ x. x ≤ u.above) (λ x up. omega (arith, le, up)) (m ∷ ns) (below_first m ns fall))))
          k.keeps rise
          (λ u le. seq_none (filter (λ x. leb x a) (m ∷ ns)) u (none_in (λ x. x) u (filter (λ x. leb x a) (m ∷ ns)) (all-map (λ x. x ≤ a) (λ x. x ≤ u.above) (λ x up. omega (arith, le, up)) (filter (λ x. leb x a) (m ∷ ns)) (left_below (λ x. x) a (m ∷ ns)))))
          (λ u le. ap (λ xs. cond (is_bottom k u) None (cond (ltb 0 (greatest xs)) (Some (greatest xs)) None)) (sym (still_in (λ x. x) u a le (m ∷ ns))))

pub first_above : (keeps : List ℕ) (n : ℕ) (s : Stripe) → 0 < n → s ≡ stripe_of keeps n → s.above < n
first_above keeps n s some is = subst (λ (t : Stripe). t.above < n) (sym is) (begins_below n 0 keeps some)

pub seqs_fewer : (keeps rest : List ℕ) (n : ℕ) → slice_get rest 0 ≡ Some n → AllByRecursion (λ x. 0 < x) rest → (s : Stripe) → s ≡ stripe_of keeps n → length (filter (λ x. leb x s.above) rest) < length rest
seqs_fewer keeps [] n first some s is = absurd cc
seqs_fewer keeps (m ∷ ns) n first some s is =
    let same : n ≡ m = cc in
    fewer (λ x. x) s.above m ns (first_above keeps m s some.0 (is ∙ ap (stripe_of keeps) same))

-- the greatest is the first one
pub newest_is : (own : List ℕ) (bottom : Bool) (o : Option ℕ) → IsFalling own → AllByRecursion (λ n. 0 < n) own → o ≡ slice_get own 0 → o ≡ cond (ltb 0 (greatest own)) (Some (greatest own)) None
unfolding IsStrictlySortedBy
newest_is [] bottom o fall some e = e
newest_is (n ∷ ns) bottom o fall some e =
    let first : greatest (n ∷ ns) ≡ n = greatest_first n ns (all-map (λ x. nat_cmp x n ≡ Less) (λ x. x < n) (λ x lt. less_number x n lt) ns fall.0) in
    e ∙ sym (ap (λ g. cond (ltb 0 g) (Some g) None) first ∙ ap (λ b. cond b (Some n) None) (positive n some.0))

pub cleared_is : (seq : ℕ) (ns : List ℕ) (n : ℕ) → IsFalling ns → slice_get ns 0 ≡ Some n → ltb seq n ≡ ltb seq (greatest ns)
unfolding IsStrictlySortedBy
cleared_is seq [] n fall e = absurd cc
cleared_is seq (k ∷ ns) n fall e =
    let same : n ≡ k = cc in
    let first : greatest (k ∷ ns) ≡ k = greatest_first k ns (all-map (λ x. nat_cmp x k ≡ Less) (λ x. x < k) (λ x lt. less_number x k lt) ns fall.0) in
    ap (ltb seq) (same ∙ sym first)

-- ---- points

points_below_first : (p : Entry) (ps : List Entry) → PointsFall (p ∷ ps) → AllByRecursion (λ q. q.seq < p.seq) ps
unfolding IsStrictlySortedBy
points_below_first p ps h = all-map (λ q. nat_cmp q.seq p.seq ≡ Less) (λ q. q.seq < p.seq) (λ q e. less_number q.seq p.seq e) ps h.0

module _ (m : Operation) (key : List ℕ) where
  pub point_none : (bottom : Bool) (ps : List Entry) (ns : List ℕ) → ps ≡ [] → point_for m bottom key ps ns ≡ None
  point_none bottom ps ns e = ap (λ (qs : List Entry). point_for m bottom key qs ns) e

  abbrev pub stood : ℕ → Option What → Option Entry
  stood seq what = option_map (λ (w : What). record { key = key; seq = seq; what = w }) what

  -- the point that stands for points has the sequence of the first
  pub point_is : (bottom : Bool) (ps : List Entry) (ns : List ℕ) (p : Entry) → slice_get ps 0 ≡ Some p → PointsFall ps → AllByRecursion (λ q. 0 < q.seq) ps →
      stood p.seq (what_kept m bottom (above_newest m ps ns) (ltb p.seq (greatest ns))) ≡ point_for m bottom key ps ns
  point_is bottom [] ns p first fall some = absurd cc
  point_is bottom (q ∷ ps) ns p first fall some =
      let same : p ≡ q = cc in
      let top : greatest (map (λ x. x.seq) (q ∷ ps)) ≡ q.seq = greatest_first q.seq (map (λ x. x.seq) ps) (all-mapped (λ x. x.seq) (λ n. n < q.seq) ps (points_below_first q ps fall)) in
      ap (λ (x : Entry). stood x.seq (what_kept m bottom (above_newest m (q ∷ ps) ns) (ltb x.seq (greatest ns)))) same
      ∙ ap (λ b. cond b (stood q.seq (what_kept m bottom (above_newest m (q ∷ ps) ns) (ltb q.seq (greatest ns)))) None) (sym (positive q.seq some.0))
      ∙ ap (λ g. cond (ltb 0 g) (stood g (what_kept m bottom (above_newest m (q ∷ ps) ns) (ltb g (greatest ns)))) None) (sym top)

  module _ (k : Keeping) (seqs : List ℕ) where
    abbrev made : List Entry → Stripe → Option Entry
    made ps s = point_for m (is_bottom k s) key (filter (λ p. is_in s p.seq) ps) (filter (is_in s) seqs)

    step_at : Rise k.keeps → (p : Entry) (ps : List Entry) → PointsFall (p ∷ ps) →
        points_for m k key (p ∷ ps) seqs ≡ cons_option (made (p ∷ ps) (stripe_of k.keeps p.seq)) (points_for m k key (filter (λ q. leb q.seq (stripe_of k.keeps p.seq).above) (p ∷ ps)) seqs)
    step_at rise p ps fall =
        let a : ℕ = (stripe_of k.keeps p.seq).above in
        continues (made (p ∷ ps)) (made (filter (λ q. leb q.seq a) (p ∷ ps))) p.seq
        (λ u le. point_none (is_bottom k u) (filter (λ q. is_in u q.seq) (p ∷ ps)) (filter (is_in u) seqs) (none_in (λ q. q.seq) u (p ∷ ps) (le, all-map (λ q. q.seq < p.seq) (λ q. q.seq ≤ u.above) (λ q up. omega (arith, le, up)) ps (points_below_first p ps fall))))
        k.keeps rise
        (λ u le. point_none (is_bottom k u) (filter (λ q. is_in u q.seq) (filter (λ q. leb q.seq a) (p ∷ ps))) (filter (is_in u) seqs) (none_in (λ q. q.seq) u (filter (λ q. leb q.seq a) (p ∷ ps)) (all-map (λ q. q.seq ≤ a) (λ q. q.seq ≤ u.above) (λ q up. omega (arith, le, up)) (filter (λ q. leb q.seq a) (p ∷ ps)) (left_below (λ q. q.seq) a (p ∷ ps)))))
        (λ u le. ap (λ (qs : List Entry). point_for m (is_bottom k u) key qs (filter (is_in u) seqs)) (sym (still_in (λ q. q.seq) u a le (p ∷ ps))))

    pub point_step : Rise k.keeps → (ps : List Entry) (p : Entry) → slice_get ps 0 ≡ Some p → PointsFall ps → (s : Stripe) → s ≡ stripe_of k.keeps p.seq →
        points_for m k key ps seqs ≡ cons_option (made ps s) (points_for m k key (filter (λ q. leb q.seq s.above) ps) seqs)
    point_step rise [] p first fall s is = absurd cc
    point_step rise (q ∷ ps) p first fall s is =
        let same : p ≡ q = cc in
        let is_q : s ≡ stripe_of k.keeps q.seq = is ∙ ap (λ (x : Entry). stripe_of k.keeps x.seq) same in
        subst (λ (t : Stripe). points_for m k key (q ∷ ps) seqs ≡ cons_option (made (q ∷ ps) t) (points_for m k key (filter (λ x. leb x.seq t.above) (q ∷ ps)) seqs)) (sym is_q) (step_at rise q ps fall)

    nothing_made : (ss : List Stripe) → filter_map (made []) ss ≡ []
    nothing_made [] = refl
    nothing_made (s ∷ ss) = nothing_made ss

    pub nothing_left : points_for m k key [] seqs ≡ []
    nothing_left = nothing_made (stripes k.keeps)

pub points_fewer : (keeps : List ℕ) (ps : List Entry) (p : Entry) → slice_get ps 0 ≡ Some p → AllByRecursion (λ q. 0 < q.seq) ps → (s : Stripe) → s ≡ stripe_of keeps p.seq → length (filter (λ q. leb q.seq s.above) ps) < length ps
points_fewer keeps [] p first some s is = absurd cc
points_fewer keeps (q ∷ ps) p first some s is =
    let same : p ≡ q = cc in
    fewer (λ x. x.seq) s.above q ps (first_above keeps q.seq s some.0 (is ∙ ap (λ (x : Entry). stripe_of keeps x.seq) same))

no_seqs_made : (k : Keeping) (ss : List Stripe) → filter_map (seq_kept k []) ss ≡ []
no_seqs_made k [] = refl
no_seqs_made k (s ∷ ss) = ap (λ (o : Option ℕ). cons_option o (filter_map (seq_kept k []) ss)) (seq_none k [] s refl) ∙ no_seqs_made k ss

pub no_seqs_left : (k : Keeping) → seqs_kept k [] ≡ []
no_seqs_left k = no_seqs_made k (stripes k.keeps)

pub kept_of_own : (k : Keeping) (rest : List ℕ) (s : Stripe) (own : List ℕ) (b : Bool) (o : Option ℕ) → own ≡ filter (is_in s) rest → is_bottom k s ≡ b → o ≡ cond b None (cond (ltb 0 (greatest own)) (Some (greatest own)) None) → seq_kept k rest s ≡ o
kept_of_own k rest s own b o is bottom e = ap (λ c. cond c None (cond (ltb 0 (greatest (filter (is_in s) rest))) (Some (greatest (filter (is_in s) rest))) None)) bottom ∙ ap (λ ns. cond b None (cond (ltb 0 (greatest ns)) (Some (greatest ns)) None)) (sym is) ∙ sym e

-- where nothing is to come
pub append-none : {X : Type 0} (kept rest whole : List X) → rest ≡ [] → kept ++ rest ≡ whole → kept ≡ whole
append-none {X} kept rest whole none so_far = sym (append-nil kept) ∙ ap (λ (xs : List X). kept ++ xs) (sym none) ∙ so_far

-- what is left is a part of the list
module _ (ps : List Entry) (count : ℕ) where
  pub left_is : (more : List Entry) → drop count ps ≡ more → take (length ps - count) (drop count ps) ≡ more
  left_is more e = take_rest ps count ∙ e

  pub left_fewer : (keeps : List ℕ) (p : Entry) → slice_get ps 0 ≡ Some p → AllByRecursion (λ q. 0 < q.seq) ps → (s : Stripe) → s ≡ stripe_of keeps p.seq →
      drop count ps ≡ filter (λ q. leb q.seq s.above) ps → length (take (length ps - count) (drop count ps)) < length ps
  left_fewer keeps p first some s is e =
      let less : length (filter (λ q. leb q.seq s.above) ps) < length ps = points_fewer keeps ps p first some s is in
      let left : length (take (length ps - count) (drop count ps)) ≡ length (filter (λ q. leb q.seq s.above) ps) = ap length (left_is (filter (λ q. leb q.seq s.above) ps) e) in
      omega (arith, less, left)

pub same_point : (m : Operation) (key : List ℕ) {a b : Bool} {ps qs : List Entry} {ns ks : List ℕ} → a ≡ b → ps ≡ qs → ns ≡ ks → point_for m a key ps ns ≡ point_for m b key qs ks
same_point m key {a} {b} {ps} {qs} {ns} {ks} bottom points seqs =
    ap (λ c. point_for m c key ps ns) bottom
    ∙ ap (λ (rs : List Entry). point_for m b key rs ns) points
    ∙ ap (point_for m b key qs) seqs
