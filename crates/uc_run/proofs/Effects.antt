-- The plain list of the run that rising writes are flushed to does what the writes do.
use Rattle.std.proofs.Common.{◌≡◌, ℕ, ◌<◌, Bool, true, false, cond, leb, List, [], ◌∷◌, ◌++◌, map, fold, filter, refl, sym, ap, ◌∙◌, subst, arith}
use Rattle.std.specs.Prelude.{◌≢◌, ◌&&◌}
use Rattle.std.specs.List.{AllByRecursion, flat_map, cons_option}
use Rattle.std.specs.List.Sorted.{IsPermutation}
use Rattle.std.specs.declared.cmp.Ordering.TheVariants.{Less}
use Rattle.std.specs.Ordering.{nat_cmp, flip_args, match_ordering}
use Rattle.std.specs.BTreeSet.{insert_key}
use Rattle.std.proofs.lemmas.Bool.Decides.{nat_tests}
use Rattle.std.proofs.lemmas.List.{append-nil, append_assoc, map-append}
use Rattle.std.proofs.lemmas.List.Elements.{filter-append}
use Rattle.std.proofs.lemmas.List.Sorted.{IsPermutation-refl, IsPermutation-cons, IsPermutation-trans, IsPermutation-sym, IsPermutation-middle, IsPermutation-to_front, IsPermutation-append, IsPermutation-map}
use Rattle.std.proofs.lemmas.Map.Keys.{sorted_head}
use Rattle.uc_oper.specs.Operation.{Operation}
use Rattle.uc_oper.specs.declared.effect.Effect.TheVariants.{Keep}
use Rattle.uc_bytes.specs.declared.op.Op.{Op}
use Rattle.uc_bytes.specs.declared.op.Op.TheVariants.{Put, Delete, Merge, DeleteRange}
use Rattle.uc_bytes.specs.declared.write.Write.{Write}
use Rattle.uc_batch.specs.Rising.{IsRising, last_of}
use Rattle.uc_model.specs.Meaning.{is_seen, effect_in_turn, effect_on}
use Rattle.uc_run_entry.specs.declared.entry.Entry.{Entry}
use Rattle.uc_run_entry.specs.Order.{IsFalling}
use Rattle.uc_run_entry.specs.Run.{IsRun, IsWhole, covers}
use Rattle.uc_run_entry.specs.PlainList.{point_write, by_seq}
use Rattle.uc_run_entry.specs.Lookup.{points_effect, is_visible, seqs_over, above_newest, effect_found}
use Rattle.uc_run_entry.proofs.BySeq.{Rises, all_map, by_seq_is}
use Rattle.uc_run_entry.proofs.Points.{turn-backwards, PointsFall, all-filtered, passing_fall, by_seq-points, seen_points}
use Rattle.uc_run_entry.proofs.Covers.{Clears, covers_fall}
use Rattle.uc_run_entry.proofs.Lookup.{above}
use Rattle.uc_run_entry.specs.Cutting.{RangeOf, range_covers, falling, fragments_of}
use Rattle.uc_run.specs.Flush.{point_of, range_of, points_in, ranges_in, by_key, first_of, flushed}
use Rattle.uc_run.proofs.ByKey.{all-by_key, passed-by_key}
use Rattle.uc_run.proofs.Parts.{all_ranges, above_last, rises, IsApartFrom, are_apart}

-- ---- a list from its end

abbrev turned : {X : Type 0} → List X → List X
turned {X} [] = []
turned {X} (x ∷ xs) = turned xs ++ x ∷ []

moved-turned : {X : Type 0} (xs : List X) → IsPermutation xs (turned xs)
moved-turned [] = IsPermutation-refl []
moved-turned (x ∷ xs) =
    IsPermutation-trans (x ∷ xs) (x ∷ turned xs) (turned xs ++ x ∷ [])
    (IsPermutation-cons x xs (turned xs) (moved-turned xs))
    (IsPermutation-sym (turned xs ++ x ∷ []) (x ∷ turned xs) (IsPermutation-to_front (turned xs) x))

all_and_one : {X : Type 0} (P : X → Type 0) (xs : List X) (x : X) → AllByRecursion P xs → P x → AllByRecursion P (xs ++ x ∷ [])
all_and_one P [] x h here = (here, tt)
all_and_one P (y ∷ ys) x h here = (h.0, all_and_one P ys x h.1 here)

all-turned : {X : Type 0} (P : X → Type 0) (xs : List X) → AllByRecursion P xs → AllByRecursion P (turned xs)
all-turned P [] h = tt
all-turned P (x ∷ xs) h = all_and_one P (turned xs) x (all-turned P xs h.1) h.0

map-turned : {X Y : Type 0} (f : X → Y) (xs : List X) → map f (turned xs) ≡ turned (map f xs)
map-turned f [] = refl
map-turned f (x ∷ xs) = map-append f (turned xs) (x ∷ []) ∙ ap (λ ys. ys ++ f x ∷ []) (map-turned f xs)

one_kept : {X : Type 0} (x : X) (xs : List X) (b : Bool) → turned xs ++ cond b (x ∷ []) [] ≡ turned (cond b (x ∷ xs) xs)
one_kept x xs true = refl
one_kept x xs false = append-nil (turned xs)

filter-turned : {X : Type 0} (test : X → Bool) (xs : List X) → filter test (turned xs) ≡ turned (filter test xs)
filter-turned test [] = refl
filter-turned test (x ∷ xs) =
    filter-append test (turned xs) (x ∷ [])
    ∙ ap (λ ys. ys ++ cond (test x) (x ∷ []) []) (filter-turned test xs)
    ∙ one_kept x (filter test xs) (test x)

-- ---- numbers that rise, and the same as `falling` has them

abbrev Up : List ℕ → Type 0
Up [] = Unit {0}
Up (n ∷ ns) = AllByRecursion (λ k. n < k) ns × Up ns

abbrev IsAbove : ℕ → List ℕ → Type 0
IsAbove n [] = Unit {0}
IsAbove n (x ∷ xs) = x < n

put_in_front : (n : ℕ) (acc : List ℕ) → IsAbove n acc → insert_key (flip_args nat_cmp) acc n ≡ n ∷ acc
put_in_front n [] more = refl
put_in_front n (x ∷ xs) more =
    let lt : x < n = more in
    let less : nat_cmp x n ≡ Less = grind (arith, nat_tests) in
    ap (λ o. match_ordering o (n ∷ x ∷ xs) (x ∷ xs) (x ∷ insert_key (flip_args nat_cmp) xs n)) less

fold-up : (ns acc : List ℕ) → Up ns → AllByRecursion (λ n. IsAbove n acc) ns → fold (insert_key (flip_args nat_cmp)) acc ns ≡ turned ns ++ acc
fold-up [] acc up onto = refl
fold-up (n ∷ ns) acc up onto =
    ap (λ (xs : List ℕ). fold (insert_key (flip_args nat_cmp)) xs ns) (put_in_front n acc onto.0)
    ∙ fold-up ns (n ∷ acc) up.1 up.0
    ∙ sym (append_assoc (turned ns) (n ∷ []) acc)

above_nothing : (ns : List ℕ) → AllByRecursion (λ n. IsAbove n []) ns
above_nothing [] = tt
above_nothing (n ∷ ns) = (tt, above_nothing ns)

falling_turned : (ns : List ℕ) → Up ns → falling ns ≡ turned ns
falling_turned ns up = fold-up ns [] up (above_nothing ns) ∙ append-nil (turned ns)

-- ---- the sequences of ranges rise

abbrev seqs : List RangeOf → List ℕ
seqs rs = map (λ (r : RangeOf). r.seq) rs

all_seqs : (P : ℕ → Type 0) (rs : List RangeOf) → AllByRecursion (λ (r : RangeOf). P r.seq) rs → AllByRecursion P (seqs rs)
all_seqs P [] h = tt
all_seqs P (r ∷ rs) h = (h.0, all_seqs P rs h.1)

kept_seqs : (P : ℕ → Type 0) (r : RangeOf) (kept : List RangeOf) (b : Bool) → P r.seq → AllByRecursion P (seqs kept) → AllByRecursion P (seqs (cond b (r ∷ kept) kept))
kept_seqs P r kept true here h = (here, h)
kept_seqs P r kept false here h = h

seqs-filter : (P : ℕ → Type 0) (test : RangeOf → Bool) (rs : List RangeOf) → AllByRecursion P (seqs rs) → AllByRecursion P (seqs (filter test rs))
seqs-filter P test [] h = tt
seqs-filter P test (r ∷ rs) h = kept_seqs P r (filter test rs) (test r) h.0 (seqs-filter P test rs h.1)

kept_up : (r : RangeOf) (kept : List RangeOf) (b : Bool) → AllByRecursion (λ k. r.seq < k) (seqs kept) → Up (seqs kept) → Up (seqs (cond b (r ∷ kept) kept))
kept_up r kept true more h = (more, h)
kept_up r kept false more h = h

up-filter : (test : RangeOf → Bool) (rs : List RangeOf) → Up (seqs rs) → Up (seqs (filter test rs))
up-filter test [] h = tt
up-filter test (r ∷ rs) h = kept_up r (filter test rs) (test r) (seqs-filter (λ k. r.seq < k) test rs h.0) (up-filter test rs h.1)

up_first : (seq : ℕ) (o : Op) (rs : List RangeOf) → AllByRecursion (λ k. seq < k) (seqs rs) → Up (seqs rs) → Up (seqs (cons_option (range_of seq o) rs))
up_first seq (Put key value) rs more h = h
up_first seq (Delete key) rs more h = h
up_first seq (Merge key operand) rs more h = h
up_first seq (DeleteRange begin end) rs more h = (more, h)

ranges_up : (last : ℕ) (ws : List Write) → IsRising last ws → Up (seqs (ranges_in ws))
ranges_up last [] h = tt
ranges_up last (w ∷ ws) h = up_first w.seq w.op (ranges_in ws) (all_seqs (λ k. w.seq < k) (ranges_in ws) (all_ranges (λ k. w.seq < k) ws (above_last w.seq ws h.2))) (ranges_up w.seq ws h.2)

-- ---- writes that rise, without some

all_kept : (P : Write → Type 0) (w : Write) (kept : List Write) (b : Bool) → P w → AllByRecursion P kept → AllByRecursion P (cond b (w ∷ kept) kept)
all_kept P w kept true here h = (here, h)
all_kept P w kept false here h = h

rises_kept : (w : Write) (kept : List Write) (b : Bool) → AllByRecursion (λ (v : Write). w.seq < v.seq) kept → Rises kept → Rises (cond b (w ∷ kept) kept)
rises_kept w kept true more h = (more, h)
rises_kept w kept false more h = h

rises-filter : (test : Write → Bool) (ws : List Write) → Rises ws → Rises (filter test ws)
rises-filter test [] h = tt
rises-filter test (w ∷ ws) h = rises_kept w (filter test ws) (test w) (all-filtered (λ (v : Write). w.seq < v.seq) test ws h.0) (rises-filter test ws h.1)

-- ---- the writes that a read sees are its points and its ranges

abbrev range_write : RangeOf → Write
range_write r = record { seq = r.seq; op = DeleteRange r.begin r.end }

abbrev write : ℕ → Op → Write
write seq o = record { seq = seq; op = o }

point_among : (w : Write) (all points ranges : List Write) (b : Bool) → IsPermutation (points ++ ranges) all → IsPermutation (cond b (w ∷ points) points ++ ranges) (cond b (w ∷ all) all)
point_among w all points ranges true h = IsPermutation-cons w (points ++ ranges) all h
point_among w all points ranges false h = h

range_among : (w : Write) (all points ranges : List Write) (b : Bool) → IsPermutation (points ++ ranges) all → IsPermutation (points ++ cond b (w ∷ ranges) ranges) (cond b (w ∷ all) all)
range_among w all points ranges true h = IsPermutation-trans (points ++ w ∷ ranges) (w ∷ (points ++ ranges)) (w ∷ all) (IsPermutation-middle points w ranges) (IsPermutation-cons w (points ++ ranges) all h)
range_among w all points ranges false h = h

all_clear : (rs : List RangeOf) → AllByRecursion Clears (map range_write rs)
all_clear [] = tt
all_clear (r ∷ rs) = (refl, all_clear rs)

all_apart : (p : Entry) (rs : List RangeOf) → IsApartFrom rs p → AllByRecursion (λ (w : Write). w.seq ≢ p.seq) (map range_write rs)
all_apart p [] h = tt
all_apart p (r ∷ rs) h = (h.0, all_apart p rs h.1)

all_mapped : (P : ℕ → Type 0) (ws : List Write) → AllByRecursion (λ (w : Write). P w.seq) ws → AllByRecursion P (map (λ (w : Write). w.seq) ws)
all_mapped P [] h = tt
all_mapped P (w ∷ ws) h = (h.0, all_mapped P ws h.1)

module _ (key : List ℕ) (at : ℕ) where
  abbrev seen : List Write → List Write
  seen ws = filter (is_seen key at) ws

  abbrev seen_ranges : List RangeOf → List Write
  seen_ranges rs = seen (map range_write rs)

  split_first : (seq : ℕ) (o : Op) (ws : List Write) → IsPermutation (seen (map point_write (points_in ws)) ++ seen_ranges (ranges_in ws)) (seen ws) → IsPermutation (seen (map point_write (cons_option (point_of seq o) (points_in ws))) ++ seen_ranges (cons_option (range_of seq o) (ranges_in ws))) (seen (write seq o ∷ ws))
  split_first seq (Put named value) ws h = point_among (write seq (Put named value)) (seen ws) (seen (map point_write (points_in ws))) (seen_ranges (ranges_in ws)) (is_seen key at (write seq (Put named value))) h
  split_first seq (Delete named) ws h = point_among (write seq (Delete named)) (seen ws) (seen (map point_write (points_in ws))) (seen_ranges (ranges_in ws)) (is_seen key at (write seq (Delete named))) h
  split_first seq (Merge named operand) ws h = point_among (write seq (Merge named operand)) (seen ws) (seen (map point_write (points_in ws))) (seen_ranges (ranges_in ws)) (is_seen key at (write seq (Merge named operand))) h
  split_first seq (DeleteRange begin end) ws h = range_among (write seq (DeleteRange begin end)) (seen ws) (seen (map point_write (points_in ws))) (seen_ranges (ranges_in ws)) (is_seen key at (write seq (DeleteRange begin end))) h

  split : (ws : List Write) → IsPermutation (seen (map point_write (points_in ws)) ++ seen_ranges (ranges_in ws)) (seen ws)
  split [] = IsPermutation-refl []
  split (w ∷ ws) = split_first w.seq w.op ws (split ws)

  -- the points by key, and the ranges, the newest first
  abbrev points : List Write → List Entry
  points ws = filter (is_visible key at) (by_key (points_in ws))

  abbrev clearing : List Write → List Write
  clearing ws = turned (seen_ranges (ranges_in ws))

  moved : (ws : List Write) → IsPermutation (map point_write (points ws) ++ clearing ws) (seen ws)
  moved ws =
      IsPermutation-trans (map point_write (points ws) ++ clearing ws) (seen (map point_write (points_in ws)) ++ seen_ranges (ranges_in ws)) (seen ws)
      (IsPermutation-append (map point_write (points ws)) (seen (map point_write (points_in ws))) (clearing ws) (seen_ranges (ranges_in ws))
      (subst (IsPermutation (map point_write (points ws))) (sym (seen_points key (λ seq. leb seq at) (points_in ws)))
      (IsPermutation-map point_write (points ws) (filter (is_visible key at) (points_in ws))
      (IsPermutation-sym (filter (is_visible key at) (points_in ws)) (points ws) (passed-by_key (is_visible key at) (points_in ws)))))
      (IsPermutation-sym (seen_ranges (ranges_in ws)) (clearing ws) (moved-turned (seen_ranges (ranges_in ws)))))
      (split ws)

  in_order : (ws : List Write) → IsRising 0 ws → by_seq (map point_write (points ws) ++ clearing ws) ≡ seen ws
  in_order ws rising = by_seq_is (map point_write (points ws) ++ clearing ws) (seen ws) (rises-filter (is_seen key at) ws (rises 0 ws rising)) (moved ws)

  -- ---- the sequences of the ranges are those of the fragments

  abbrev up_to : List ℕ → List ℕ
  up_to ns = filter (λ n. leb n at) ns

  abbrev over : List RangeOf → List RangeOf
  over rs = filter (λ r. range_covers r key) rs

  seqs_first : (r : RangeOf) (ws : List Write) (rs : List RangeOf) (a b : Bool) → leb r.seq at ≡ a → map (λ (w : Write). w.seq) ws ≡ up_to (seqs rs) → map (λ (w : Write). w.seq) (cond (a && b) (range_write r ∷ ws) ws) ≡ up_to (seqs (cond b (r ∷ rs) rs))
  seqs_first r ws rs true true e h = ap (λ (ns : List ℕ). r.seq ∷ ns) h ∙ ap (λ b. cond b (r.seq ∷ up_to (seqs rs)) (up_to (seqs rs))) (sym e)
  seqs_first r ws rs false true e h = h ∙ ap (λ b. cond b (r.seq ∷ up_to (seqs rs)) (up_to (seqs rs))) (sym e)
  seqs_first r ws rs true false e h = h
  seqs_first r ws rs false false e h = h

  seqs_seen : (rs : List RangeOf) → map (λ (w : Write). w.seq) (seen_ranges rs) ≡ up_to (seqs (over rs))
  seqs_seen [] = refl
  seqs_seen (r ∷ rs) = seqs_first r (seen_ranges rs) (over rs) (leb r.seq at) (range_covers r key) refl (seqs_seen rs)

  clearing_seqs : (ws : List Write) → IsRising 0 ws → map (λ (w : Write). w.seq) (clearing ws) ≡ up_to (falling (seqs (over (ranges_in ws))))
  clearing_seqs ws rising =
      map-turned (λ (w : Write). w.seq) (seen_ranges (ranges_in ws))
      ∙ ap (λ (ns : List ℕ). turned ns) (seqs_seen (ranges_in ws))
      ∙ sym (filter-turned (λ n. leb n at) (seqs (over (ranges_in ws))))
      ∙ ap up_to (sym (falling_turned (seqs (over (ranges_in ws))) (up-filter (λ r. range_covers r key) (ranges_in ws) (ranges_up 0 ws rising))))

  -- ---- points, with the newest of the clearing writes

  less_number : (a b : ℕ) → nat_cmp a b ≡ Less → a < b
  less_number a b e = grind (arith, nat_tests)

  all_below : (newest : ℕ) (older : List ℕ) → AllByRecursion (λ n. nat_cmp n newest ≡ Less) older → AllByRecursion (λ n. n < newest) older
  all_below newest [] h = tt
  all_below newest (n ∷ ns) h = (less_number n newest h.0, all_below newest ns h.1)

  alone : (m : Operation) (ps : List Entry) (cs : List Write) → PointsFall ps → map (λ (w : Write). w.seq) cs ≡ [] → effect_in_turn m (by_seq (map point_write ps ++ cs)) ≡ points_effect m Keep ps
  alone m ps [] falls e =
      ap (λ (ws : List Write). effect_in_turn m (by_seq ws)) (append-nil (map point_write ps))
      ∙ ap (effect_in_turn m) (by_seq-points ps falls)
      ∙ turn-backwards m Keep ps
  alone m ps (w ∷ ws) falls e = absurd cc

  module _ (m : Operation) (ws : List Write) (rising : IsRising 0 ws) (falls : PointsFall (points ws)) where
    apart : (newest : ℕ) (older : List ℕ) → map (λ (w : Write). w.seq) (clearing ws) ≡ newest ∷ older → AllByRecursion (λ (p : Entry). p.seq ≡ newest → ⊥) (points ws)
    apart newest older e =
        all_map (IsApartFrom (ranges_in ws)) (λ (p : Entry). p.seq ≡ newest → ⊥)
        (λ p others same. (subst (AllByRecursion (λ n. n ≢ p.seq)) e (all_mapped (λ n. n ≢ p.seq) (clearing ws)
        (all-turned (λ (w : Write). w.seq ≢ p.seq) (seen_ranges (ranges_in ws)) (all-filtered (λ (w : Write). w.seq ≢ p.seq) (is_seen key at) (map range_write (ranges_in ws)) (all_apart p (ranges_in ws) others))))).0 (sym same))
        (points ws) (all-filtered (IsApartFrom (ranges_in ws)) (is_visible key at) (by_key (points_in ws)) (all-by_key (IsApartFrom (ranges_in ws)) (points_in ws) (are_apart 0 ws rising)))

    clears : AllByRecursion Clears (clearing ws)
    clears = all-turned Clears (seen_ranges (ranges_in ws)) (all-filtered Clears (is_seen key at) (map range_write (ranges_in ws)) (all_clear (ranges_in ws)))

    by_newest : (ns : List ℕ) → map (λ (w : Write). w.seq) (clearing ws) ≡ ns → IsFalling ns → effect_in_turn m (by_seq (map point_write (points ws) ++ clearing ws)) ≡ above_newest m (points ws) ns
    by_newest [] e order = alone m (points ws) (clearing ws) falls e
    by_newest (newest ∷ older) e order =
        above m (points ws) falls (clearing ws) newest older e (all_below newest older (sorted_head (flip_args nat_cmp) newest older order)) clears (apart newest older e)

  -- what a lookup in the run finds is what the writes do
  pub flushed_effect : (m : Operation) (ws : List Write) → IsRising 0 ws → IsRun (first_of ws) (last_of 0 ws) (by_key (points_in ws)) (fragments_of (ranges_in ws)) → flat_map (λ f. f.seqs) (filter (λ f. covers f key) (fragments_of (ranges_in ws))) ≡ falling (seqs (over (ranges_in ws))) → effect_found m (flushed ws) key at ≡ effect_on m ws key at
  flushed_effect m ws rising is_run seqs_are =
      let order : IsFalling (seqs_over (flushed ws) key at) = covers_fall key (λ seq. leb seq at) (fragments_of (ranges_in ws)) is_run.fragments_sorted (all_map (IsWhole (first_of ws) (last_of 0 ws)) (λ f. IsFalling f.seqs) (λ f whole. whole.1) (fragments_of (ranges_in ws)) is_run.whole) in
      sym (by_newest m ws rising (passing_fall key (λ seq. leb seq at) (by_key (points_in ws)) is_run.points_sorted) (seqs_over (flushed ws) key at) (clearing_seqs ws rising ∙ ap up_to (sym seqs_are)) order)
      ∙ ap (effect_in_turn m) (in_order ws rising)
