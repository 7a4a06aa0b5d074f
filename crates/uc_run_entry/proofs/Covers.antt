-- The range deletions over a key, as a read sees them.
use Rattle.std.proofs.Common.{◌≡◌, ℕ, suc, arith, Bool, true, false, cond, List, [], ◌∷◌, ◌++◌, Contains, map, filter, refl, sym, ap, ◌∙◌, subst}
use Rattle.std.specs.Prelude.{◌&&◌, None}
use Rattle.std.specs.List.{AllByRecursion, flat_map}
use Rattle.std.proofs.lemmas.List.{append-nil}
use Rattle.std.specs.List.Sorted.{IsStrictlySortedBy}
use Rattle.std.specs.declared.cmp.Ordering.{Ordering}
use Rattle.std.specs.declared.cmp.Ordering.TheVariants.{Less, Equal, Greater}
use Rattle.std.specs.Ordering.{is_lt, is_le, nat_cmp, flip_args}
use Rattle.std.proofs.lemmas.Cmp.{nat_list_cmp_total, tied_itself}
use Rattle.std.proofs.lemmas.Map.Lookups.{exact_bytes}
use Rattle.std.proofs.lemmas.List.Elements.{filter-append}
use Rattle.std.proofs.lemmas.List.Kept.{IsStrictlySortedBy-filter}
use Rattle.uc_bytes.specs.Bytes.{bytes_cmp}
use Rattle.uc_oper.specs.declared.effect.Effect.TheVariants.{Set}
use Rattle.uc_bytes.specs.declared.op.Op.TheVariants as op
use Rattle.uc_bytes.specs.declared.write.Write.{Write}
use Rattle.uc_model.specs.Meaning.{touches_key, effect_of}
use Rattle.uc_run_entry.specs.Fragment.{Fragment}
use Rattle.uc_run_entry.specs.Order.{IsFalling, AreInOrder}
use Rattle.uc_run_entry.specs.Run.{covers}
use Rattle.uc_run_entry.specs.PlainList.{fragment_writes}
use Rattle.uc_run_entry.proofs.Points.{all-filtered}

-- a write whose sequence passes a test, and which touches the key
abbrev pub is_touching : List ℕ → (ℕ → Bool) → Write → Bool
is_touching key test w = test w.seq && touches_key key w.op

-- the writes of fragments that pass
abbrev pub seen_covers : List ℕ → (ℕ → Bool) → List Fragment → List Write
seen_covers key test fs = filter (is_touching key test) (flat_map fragment_writes fs)

-- their sequences are those over the key
abbrev pub covers_seqs : List ℕ → (ℕ → Bool) → List Fragment → List ℕ
covers_seqs key test fs = filter (λ seq. test seq) (flat_map (λ f. f.seqs) (filter (λ f. covers f key) fs))

map-append : {A B : Type 0} (f : A → B) (xs ys : List A) → map f (xs ++ ys) ≡ map f xs ++ map f ys
map-append f [] ys = refl
map-append f (x ∷ xs) ys = ap (λ zs. f x ∷ zs) (map-append f xs ys)

module _ (key : List ℕ) (test : ℕ → Bool) (begin end : List ℕ) where
  abbrev cover : ℕ → Write
  cover seq = record { seq = seq; op = op.DeleteRange begin end }

  abbrev over : Bool
  over = is_le (bytes_cmp begin key) && is_lt (bytes_cmp key end)

  one_seq : (seq : ℕ) (ws : List Write) (kept : List ℕ) (b : Bool) → map (λ (w : Write). w.seq) ws ≡ kept → map (λ (w : Write). w.seq) (cond (b && true) (cover seq ∷ ws) ws) ≡ cond b (seq ∷ kept) kept
  one_seq seq ws kept true e = ap (λ (ns : List ℕ). seq ∷ ns) e
  one_seq seq ws kept false e = e

  no_seq : (seq : ℕ) (ws : List Write) (b : Bool) → ws ≡ [] → cond (b && false) (cover seq ∷ ws) ws ≡ []
  no_seq seq ws true e = e
  no_seq seq ws false e = e

  -- the fragment covers the key
  seqs_seen : (seqs : List ℕ) → over ≡ true → map (λ (w : Write). w.seq) (filter (is_touching key test) (map cover seqs)) ≡ filter (λ seq. test seq) seqs
  seqs_seen [] e = refl
  seqs_seen (seq ∷ seqs) e =
      ap (λ b. map (λ (w : Write). w.seq) (cond (test seq && b) (cover seq ∷ filter (is_touching key test) (map cover seqs)) (filter (is_touching key test) (map cover seqs)))) e
      ∙ one_seq seq (filter (is_touching key test) (map cover seqs)) (filter (λ seq. test seq) seqs) (test seq) (seqs_seen seqs e)

  -- it doesn't
  none_seen : (seqs : List ℕ) → over ≡ false → filter (is_touching key test) (map cover seqs) ≡ []
  none_seen [] e = refl
  none_seen (seq ∷ seqs) e =
      ap (λ b. cond (test seq && b) (cover seq ∷ filter (is_touching key test) (map cover seqs)) (filter (is_touching key test) (map cover seqs))) e
      ∙ no_seq seq (filter (is_touching key test) (map cover seqs)) (test seq) (none_seen seqs e)

module _ (key : List ℕ) (test : ℕ → Bool) where
  abbrev seqs_by : Fragment → List Fragment → Bool → List ℕ
  seqs_by f fs b = filter (λ seq. test seq) (flat_map (λ (g : Fragment). g.seqs) (cond b (f ∷ filter (λ g. covers g key) fs) (filter (λ g. covers g key) fs)))

  first_seqs : (f : Fragment) (fs : List Fragment) (b : Bool) → covers f key ≡ b → map (λ (w : Write). w.seq) (seen_covers key test fs) ≡ covers_seqs key test fs → map (λ (w : Write). w.seq) (filter (is_touching key test) (fragment_writes f) ++ seen_covers key test fs) ≡ seqs_by f fs b
  first_seqs f fs true e rest =
      map-append (λ (w : Write). w.seq) (filter (is_touching key test) (fragment_writes f)) (seen_covers key test fs)
      ∙ ap (λ (ns : List ℕ). ns ++ map (λ (w : Write). w.seq) (seen_covers key test fs)) (seqs_seen key test f.begin f.end f.seqs e)
      ∙ ap (λ (ns : List ℕ). filter (λ seq. test seq) f.seqs ++ ns) rest
      ∙ sym (filter-append (λ seq. test seq) f.seqs (flat_map (λ (g : Fragment). g.seqs) (filter (λ g. covers g key) fs)))
  first_seqs f fs false e rest = ap (λ (ws : List Write). map (λ (w : Write). w.seq) (ws ++ seen_covers key test fs)) (none_seen key test f.begin f.end f.seqs e) ∙ rest

  pub seqs_of_covers : (fs : List Fragment) → map (λ (w : Write). w.seq) (seen_covers key test fs) ≡ covers_seqs key test fs
  seqs_of_covers [] = refl
  seqs_of_covers (f ∷ fs) =
      ap (map (λ (w : Write). w.seq)) (filter-append (is_touching key test) (fragment_writes f) (flat_map fragment_writes fs))
      ∙ first_seqs f fs (covers f key) refl (seqs_of_covers fs)

-- each clears its key
pub all_append : {X : Type 0} (P : X → Type 0) (xs ys : List X) → AllByRecursion P xs → AllByRecursion P ys → AllByRecursion P (xs ++ ys)
all_append P [] ys h k = k
all_append P (x ∷ xs) ys h k = (h.0, all_append P xs ys h.1 k)

abbrev pub Clears : Write → Type 0
Clears w = effect_of w.op ≡ Set None

fragment_clears : (begin end : List ℕ) (seqs : List ℕ) → AllByRecursion Clears (map (cover [] (λ n. true) begin end) seqs)
fragment_clears begin end [] = tt
fragment_clears begin end (seq ∷ seqs) = (refl, fragment_clears begin end seqs)

all_clear : (fs : List Fragment) → AllByRecursion Clears (flat_map fragment_writes fs)
all_clear [] = tt
all_clear (f ∷ fs) = all_append Clears (fragment_writes f) (flat_map fragment_writes fs) (fragment_clears f.begin f.end f.seqs) (all_clear fs)

pub covers_clear : (key : List ℕ) (test : ℕ → Bool) (fs : List Fragment) → AllByRecursion Clears (seen_covers key test fs)
covers_clear key test fs = all-filtered Clears (is_touching key test) (flat_map fragment_writes fs) (all_clear fs)

-- ---- one fragment at the most covers a key

no_less_itself : (x : List ℕ) → bytes_cmp x x ≡ Less → ⊥
no_less_itself x e = let t = tied_itself nat_list_cmp_total x in cc

pub before_begin : (key end begin : List ℕ) (o p q : Ordering) → bytes_cmp key end ≡ o → bytes_cmp end begin ≡ p → bytes_cmp begin key ≡ q → is_lt o ≡ true → is_le p ≡ true → (b : Bool) → (is_le q && b) ≡ false
before_begin key end begin Less Less Less e f g lt le b = absurd (let loop : bytes_cmp key key ≡ Less = nat_list_cmp_total.trans key begin key (nat_list_cmp_total.trans key end begin e f) g in no_less_itself key loop)
before_begin key end begin Less Less Equal e f g lt le b =
    absurd (no_less_itself key (subst (λ (k : List ℕ). bytes_cmp key k ≡ Less) (exact_bytes begin key g) (nat_list_cmp_total.trans key end begin e f)))
before_begin key end begin Less Equal Less e f g lt le b =
    absurd (no_less_itself key (nat_list_cmp_total.trans key begin key (subst (λ (k : List ℕ). bytes_cmp key k ≡ Less) (exact_bytes end begin f) e) g))
before_begin key end begin Less Equal Equal e f g lt le b =
    absurd (no_less_itself key (subst (λ (k : List ℕ). bytes_cmp key k ≡ Less) (exact_bytes end begin f ∙ exact_bytes begin key g) e))
before_begin key end begin Less p Greater e f g lt le b = refl
before_begin key end begin Less Greater q e f g lt le b = absurd cc
before_begin key end begin Equal p q e f g lt le b = absurd cc
before_begin key end begin Greater p q e f g lt le b = absurd cc

and_second : (a b : Bool) → (a && b) ≡ true → b ≡ true
and_second true b e = e
and_second false b e = absurd cc

not_behind : (key : List ℕ) (f g : Fragment) → covers f key ≡ true → is_le (bytes_cmp f.end g.begin) ≡ true → covers g key ≡ false
not_behind key f g e le =
    before_begin key f.end g.begin (bytes_cmp key f.end) (bytes_cmp f.end g.begin) (bytes_cmp g.begin key) refl refl refl (and_second (is_le (bytes_cmp f.begin key)) (is_lt (bytes_cmp key f.end)) e) le (is_lt (bytes_cmp key g.end))

pub none_behind : (key : List ℕ) (f : Fragment) (fs : List Fragment) → covers f key ≡ true → AllByRecursion (λ g. is_le (bytes_cmp f.end g.begin) ≡ true) fs → filter (λ g. covers g key) fs ≡ []
none_behind key f [] e le = refl
none_behind key f (g ∷ gs) e le = ap (λ b. cond b (g ∷ filter (λ h. covers h key) gs) (filter (λ h. covers h key) gs)) (not_behind key f g e le.0) ∙ none_behind key f gs e le.1

module _ (key : List ℕ) (test : ℕ → Bool) where
  abbrev visible : List ℕ → List ℕ
  visible seqs = filter (λ seq. test seq) seqs

  alone : (f : Fragment) (fs : List Fragment) → covers f key ≡ true → AllByRecursion (λ g. is_le (bytes_cmp f.end g.begin) ≡ true) fs → visible (flat_map (λ (g : Fragment). g.seqs) (f ∷ filter (λ g. covers g key) fs)) ≡ visible f.seqs
  alone f fs e le = ap (λ (gs : List Fragment). visible (flat_map (λ (g : Fragment). g.seqs) (f ∷ gs))) (none_behind key f fs e le) ∙ ap visible (append-nil f.seqs)

  falling_by : (f : Fragment) (fs : List Fragment) (b : Bool) → covers f key ≡ b → AllByRecursion (λ g. is_le (bytes_cmp f.end g.begin) ≡ true) fs → IsFalling f.seqs → IsFalling (covers_seqs key test fs) → IsFalling (seqs_by key test f fs b)
  falling_by f fs true e le here rest = subst IsFalling (sym (alone f fs e le)) (IsStrictlySortedBy-filter (flip_args nat_cmp) (λ seq. test seq) f.seqs here)
  falling_by f fs false e le here rest = rest

  -- the sequences over a key fall
  pub covers_fall : (fs : List Fragment) → AreInOrder fs → AllByRecursion (λ f. IsFalling f.seqs) fs → IsFalling (covers_seqs key test fs)
  unfolding IsStrictlySortedBy
  covers_fall [] order falls = tt
  covers_fall (f ∷ fs) order falls = falling_by f fs (covers f key) refl order.1 falls.0 (covers_fall fs order.2 falls.1)

  -- what no fragment over the key has isn't among them
  abbrev Missing : ℕ → List ℕ → Type 0
  Missing seq seqs = AllByRecursion (λ n. n ≡ seq → ⊥) seqs

  missing_all : (seq : ℕ) (seqs : List ℕ) → ¬ Contains seqs seq → Missing seq seqs
  missing_all seq [] none = tt
  missing_all seq (n ∷ ns) none = ((λ e. none (0, omega arith, e)), missing_all seq ns (λ c. none (suc c.0, omega (arith, c.1), c.2)))

  missing_by : (seq : ℕ) (f : Fragment) (fs : List Fragment) (b : Bool) → covers f key ≡ b → AllByRecursion (λ g. is_le (bytes_cmp f.end g.begin) ≡ true) fs → (covers f key ≡ true → ¬ Contains f.seqs seq) → Missing seq (covers_seqs key test fs) → Missing seq (seqs_by key test f fs b)
  missing_by seq f fs true e le here rest = subst (Missing seq) (sym (alone f fs e le)) (all-filtered (λ n. n ≡ seq → ⊥) (λ n. test n) f.seqs (missing_all seq f.seqs (here e)))
  missing_by seq f fs false e le here rest = rest

  pub missing_over : (seq : ℕ) (fs : List Fragment) → AreInOrder fs → AllByRecursion (λ f. covers f key ≡ true → ¬ Contains f.seqs seq) fs → Missing seq (covers_seqs key test fs)
  missing_over seq [] order apart = tt
  missing_over seq (f ∷ fs) order apart = missing_by seq f fs (covers f key) refl order.1 apart.0 (missing_over seq fs order.2 apart.1)
