-- The points of a key, the newest first, and the writes that they make, oldest first.
use Rattle.std.proofs.Common.{◌≡◌, ℕ, ◌<◌, Bool, true, false, cond, List, [], ◌∷◌, ◌++◌, map, fold, filter, refl, sym, ap, ◌∙◌, arith}
use Rattle.std.specs.Prelude.{◌&&◌}
use Rattle.std.specs.List.{AllByRecursion}
use Rattle.std.specs.List.Sorted.{IsPermutation, IsStrictlySortedBy}
use Rattle.std.specs.declared.cmp.Ordering.TheVariants.{Less, Equal}
use Rattle.std.specs.Ordering.{nat_cmp, ordering_then}
use Rattle.std.specs.Cmp.Lexicographic.{same_text}
use Rattle.std.proofs.lemmas.Bool.Decides.{nat_tests}
use Rattle.std.proofs.lemmas.Cmp.{nat_list_cmp_total, tied_itself}
use Rattle.std.proofs.lemmas.List.Kept.{IsStrictlySortedBy-filter}
use Rattle.std.proofs.lemmas.List.Sorted.{IsPermutation-refl, IsPermutation-cons, IsPermutation-trans, IsPermutation-sym, IsPermutation-to_front}
use Rattle.uc_bytes.specs.Bytes.{bytes_cmp, same_bytes}
use Rattle.uc_oper.specs.Operation.{Operation}
use Rattle.uc_oper.specs.Composition.{composed}
use Rattle.uc_oper.specs.declared.effect.Effect.{Effect}
use Rattle.uc_bytes.specs.declared.write.Write.{Write}
use Rattle.uc_model.specs.Meaning.{touches_key, effect_of}
use Rattle.uc_run_entry.specs.declared.entry.Entry.{Entry}
use Rattle.uc_run_entry.specs.declared.entry.What.{What}
use Rattle.uc_run_entry.specs.declared.entry.What.TheVariants.{Put, Delete, Merge}
use Rattle.uc_run_entry.specs.Order.{entry_cmp}
use Rattle.uc_run_entry.specs.PlainList.{op_of, point_write, by_seq}
use Rattle.uc_run_entry.specs.Lookup.{what_effect, points_effect, is_passing}
use Rattle.uc_run_entry.proofs.BySeq.{Rises, all_map, by_seq_is}

-- ---- the writes of points, oldest first

abbrev pub backwards : List Entry → List Write
backwards [] = []
backwards (p ∷ ps) = backwards ps ++ point_write p ∷ []

pub moved-backwards : (ps : List Entry) → IsPermutation (map point_write ps) (backwards ps)
moved-backwards [] = IsPermutation-refl []
moved-backwards (p ∷ ps) =
    IsPermutation-trans (point_write p ∷ map point_write ps) (point_write p ∷ backwards ps) (backwards ps ++ point_write p ∷ [])
    (IsPermutation-cons (point_write p) (map point_write ps) (backwards ps) (moved-backwards ps))
    (IsPermutation-sym (backwards ps ++ point_write p ∷ []) (point_write p ∷ backwards ps) (IsPermutation-to_front (backwards ps) (point_write p)))

pub fold_on : {A X : Type 0} (f : A → X → A) (a : A) (xs ys : List X) → fold f a (xs ++ ys) ≡ fold f (fold f a xs) ys
fold_on f a [] ys = refl
fold_on f a (x ∷ xs) ys = fold_on f (f a x) xs ys

what-effect : (key : List ℕ) (what : What) → effect_of (op_of key what) ≡ what_effect what
what-effect key (Put value) = refl
what-effect key Delete = refl
what-effect key (Merge operand) = refl

-- they do in turn what the points do
pub turn-backwards : (m : Operation) (before : Effect) (ps : List Entry) → fold (λ effect w. composed m effect (effect_of w.op)) before (backwards ps) ≡ points_effect m before ps
turn-backwards m before [] = refl
turn-backwards m before (p ∷ ps) =
    fold_on (λ (effect : Effect) (w : Write). composed m effect (effect_of w.op)) before (backwards ps) (point_write p ∷ [])
    ∙ ap (λ (effect : Effect). composed m effect (effect_of (op_of p.key p.what))) (turn-backwards m before ps)
    ∙ ap (λ (effect : Effect). composed m (points_effect m before ps) effect) (what-effect p.key p.what)

-- ---- points of one key

-- each sequence is above those after it
abbrev pub PointsFall : List Entry → Type 0
PointsFall [] = Unit {0}
PointsFall (p ∷ ps) = AllByRecursion (λ q. q.seq < p.seq) ps × PointsFall ps

all-append_one : {X : Type 0} (P : X → Type 0) (xs : List X) (x : X) → AllByRecursion P xs → P x → AllByRecursion P (xs ++ x ∷ [])
all-append_one P [] x h p = (p, tt)
all-append_one P (y ∷ ys) x h p = (h.0, all-append_one P ys x h.1 p)

rises-append_one : (ws : List Write) (w : Write) → Rises ws → AllByRecursion (λ v. v.seq < w.seq) ws → Rises (ws ++ w ∷ [])
rises-append_one [] w r below = (tt, tt)
rises-append_one (v ∷ vs) w r below = (all-append_one (λ u. v.seq < u.seq) vs w r.0 below.0, rises-append_one vs w r.1 below.1)

all-backwards : (n : ℕ) (ps : List Entry) → AllByRecursion (λ q. q.seq < n) ps → AllByRecursion (λ (w : Write). w.seq < n) (backwards ps)
all-backwards n [] h = tt
all-backwards n (p ∷ ps) h = all-append_one (λ (w : Write). w.seq < n) (backwards ps) (point_write p) (all-backwards n ps h.1) h.0

pub rises-backwards : (ps : List Entry) → PointsFall ps → Rises (backwards ps)
rises-backwards [] h = tt
rises-backwards (p ∷ ps) h = rises-append_one (backwards ps) (point_write p) (rises-backwards ps h.1) (all-backwards p.seq ps h.0)

pub by_seq-points : (ps : List Entry) → PointsFall ps → by_seq (map point_write ps) ≡ backwards ps
by_seq-points ps h = by_seq_is (map point_write ps) (backwards ps) (rises-backwards ps h) (moved-backwards ps)

kept_fall : (test : Entry → Bool) (p : Entry) (kept : List Entry) (b : Bool) → AllByRecursion (λ q. q.seq < p.seq) kept → PointsFall kept → PointsFall (cond b (p ∷ kept) kept)
kept_fall test p kept true below h = (below, h)
kept_fall test p kept false below h = h

kept_all : {X : Type 0} (P : X → Type 0) (x : X) (kept : List X) (b : Bool) → P x → AllByRecursion P kept → AllByRecursion P (cond b (x ∷ kept) kept)
kept_all P x kept true p h = (p, h)
kept_all P x kept false p h = h

pub all-filtered : {X : Type 0} (P : X → Type 0) (test : X → Bool) (xs : List X) → AllByRecursion P xs → AllByRecursion P (filter test xs)
all-filtered P test [] h = tt
all-filtered P test (x ∷ xs) h = kept_all P x (filter test xs) (test x) h.0 (all-filtered P test xs h.1)

pub PointsFall-filter : (test : Entry → Bool) (ps : List Entry) → PointsFall ps → PointsFall (filter test ps)
PointsFall-filter test [] h = tt
PointsFall-filter test (p ∷ ps) h = kept_fall test p (filter test ps) (test p) (all-filtered (λ q. q.seq < p.seq) test ps h.0) (PointsFall-filter test ps h.1)

passed : {X : Type 0} (test : X → Bool) (x : X) (kept : List X) (b : Bool) → test x ≡ b → AllByRecursion (λ y. test y ≡ true) kept → AllByRecursion (λ y. test y ≡ true) (cond b (x ∷ kept) kept)
passed test x kept true e h = (e, h)
passed test x kept false e h = h

pub all_pass : {X : Type 0} (test : X → Bool) (xs : List X) → AllByRecursion (λ x. test x ≡ true) (filter test xs)
all_pass test [] = tt
all_pass test (x ∷ xs) = passed test x (filter test xs) (test x) refl (all_pass test xs)

less_than : (a b : ℕ) → nat_cmp a b ≡ Less → a < b
less_than a b e = grind (arith, nat_tests)

below_by : (key : List ℕ) (p q : Entry) → p.key ≡ key → q.key ≡ key → entry_cmp p q ≡ Less → q.seq < p.seq
below_by key p q e f less =
    let tied : bytes_cmp p.key q.key ≡ Equal = ap (λ k. bytes_cmp p.key k) (f ∙ sym e) ∙ tied_itself nat_list_cmp_total p.key in
    less_than q.seq p.seq (sym (ap (λ o. ordering_then o (nat_cmp q.seq p.seq)) tied) ∙ less)

all_below_by : (key : List ℕ) (p : Entry) (ps : List Entry) → p.key ≡ key → AllByRecursion (λ q. q.key ≡ key) ps → AllByRecursion (λ q. entry_cmp p q ≡ Less) ps → AllByRecursion (λ q. q.seq < p.seq) ps
all_below_by key p [] e same less = tt
all_below_by key p (q ∷ qs) e same less = (below_by key p q e same.0 less.0, all_below_by key p qs e same.1 less.1)

one_key_falls : (key : List ℕ) (ps : List Entry) → AllByRecursion (λ q. q.key ≡ key) ps → IsStrictlySortedBy entry_cmp ps → PointsFall ps
unfolding IsStrictlySortedBy
one_key_falls key [] same sorted = tt
one_key_falls key (p ∷ ps) same sorted = (all_below_by key p ps same.0 same.1 sorted.0, one_key_falls key ps same.1 sorted.1)

and_true : (a b : Bool) → (a && b) ≡ true → b ≡ true
and_true true b e = e
and_true false b e = absurd cc

pub key_of_passing : (key : List ℕ) (test : ℕ → Bool) (p : Entry) → is_passing key test p ≡ true → p.key ≡ key
key_of_passing key test p e = same_text p.key key (sym (and_true (test p.seq) (same_bytes p.key key) e))

-- the points of a key fall
pub passing_fall : (key : List ℕ) (test : ℕ → Bool) (ps : List Entry) → IsStrictlySortedBy entry_cmp ps → PointsFall (filter (is_passing key test) ps)
passing_fall key test ps sorted =
    one_key_falls key (filter (is_passing key test) ps)
    (all_map (λ p. is_passing key test p ≡ true) (λ p. p.key ≡ key) (key_of_passing key test) (filter (is_passing key test) ps) (all_pass (is_passing key test) ps))
    (IsStrictlySortedBy-filter entry_cmp (is_passing key test) ps sorted)

-- ---- a read sees the writes of visible points

touched : (key named : List ℕ) (what : What) → touches_key key (op_of named what) ≡ same_bytes named key
touched key named (Put value) = refl
touched key named Delete = refl
touched key named (Merge operand) = refl

kept_write : (p : Entry) (ps : List Entry) (b : Bool) → cond b (point_write p ∷ map point_write ps) (map point_write ps) ≡ map point_write (cond b (p ∷ ps) ps)
kept_write p ps true = refl
kept_write p ps false = refl

pub seen_points : (key : List ℕ) (test : ℕ → Bool) (ps : List Entry) → filter (λ (w : Write). test w.seq && touches_key key w.op) (map point_write ps) ≡ map point_write (filter (is_passing key test) ps)
seen_points key test [] = refl
seen_points key test (p ∷ ps) =
    ap (λ (ws : List Write). cond (test p.seq && touches_key key (op_of p.key p.what)) (point_write p ∷ ws) ws) (seen_points key test ps)
    ∙ ap (λ b. cond (test p.seq && b) (point_write p ∷ map point_write (filter (is_passing key test) ps)) (map point_write (filter (is_passing key test) ps))) (touched key p.key p.what)
    ∙ kept_write p (filter (is_passing key test) ps) (is_passing key test p)

-- a test of sequences passes the same points as it does writes
pub filter-points : (test : ℕ → Bool) (ps : List Entry) → filter (λ (w : Write). test w.seq) (map point_write ps) ≡ map point_write (filter (λ (p : Entry). test p.seq) ps)
filter-points test [] = refl
filter-points test (p ∷ ps) = ap (λ (ws : List Write). cond (test p.seq) (point_write p ∷ ws) ws) (filter-points test ps) ∙ kept_write p (filter (λ (q : Entry). test q.seq) ps) (test p.seq)
