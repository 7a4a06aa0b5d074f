-- The point and the sequence that stand for a stripe do what its points and range deletions do.
use Rattle.std.proofs.Common.{◌≡◌, ◌≢◌, ℕ, ◌<◌, Bool, true, false, cond, ltb, List, [], ◌∷◌, map, fold, filter, refl, sym, ap, ◌∙◌, subst, arith}
use Rattle.std.specs.Prelude.{max, Option, Some, None, option_map}
use Rattle.std.specs.List.{AllByRecursion, cons_option}
use Rattle.std.proofs.lemmas.Bool.Decides.{nat_tests}
use Rattle.uc_oper.specs.Operation.{Operation}
use Rattle.uc_oper.specs.Composition.{composed, applied}
use Rattle.uc_oper.specs.declared.effect.Effect.{Effect}
use Rattle.uc_oper.specs.declared.effect.Effect.TheVariants.{Keep, Fold, Set}
use Rattle.uc_run_entry.specs.declared.entry.Entry.{Entry}
use Rattle.uc_run_entry.specs.declared.entry.What.{What}
use Rattle.uc_run_entry.specs.declared.entry.What.TheVariants.{Put, Delete, Merge}
use Rattle.uc_run_entry.specs.Lookup.{what_effect, points_effect, above_newest}
use Rattle.uc_run_entry.proofs.Points.{PointsFall}
use Rattle.uc_compact.specs.Output.{greatest, what_of}
use Rattle.uc_compact.proofs.NestedLists.{all-map, all-mapped}
use Rattle.uc_compact.proofs.Effects.{none_above}

-- ---- the greatest of sequences that fall is the first

-- each sequence is above those after it
abbrev pub Falls : List ℕ → Type 0
Falls [] = Unit {0}
Falls (n ∷ ns) = AllByRecursion (λ k. k < n) ns × Falls ns

max_stays : (n k : ℕ) → k < n → max n k ≡ n
max_stays n k lt = omega (arith, lt)

max_zero : (n : ℕ) → max 0 n ≡ n
max_zero n = omega arith

fold-max_stays : (n : ℕ) (ns : List ℕ) → AllByRecursion (λ k. k < n) ns → fold max n ns ≡ n
fold-max_stays n [] h = refl
fold-max_stays n (k ∷ ks) h = ap (λ l. fold max l ks) (max_stays n k h.0) ∙ fold-max_stays n ks h.1

pub greatest_first : (n : ℕ) (ns : List ℕ) → AllByRecursion (λ k. k < n) ns → greatest (n ∷ ns) ≡ n
greatest_first n ns h = ap (λ l. fold max l ns) (max_zero n) ∙ fold-max_stays n ns h

-- ---- effects that points leave

module _ (m : Operation) where
  -- an effect that a point ends isn't to keep
  ends : (before : Effect) (what : What) → composed m before (what_effect what) ≢ Keep
  ends before (Put value) e = absurd cc
  ends before Delete e = absurd cc
  ends Keep (Merge operand) e = absurd cc
  ends (Fold x) (Merge operand) e = absurd cc
  ends (Set v) (Merge operand) e = absurd cc

  set_on : (v : Option (List ℕ)) (what : What) → (w : Option (List ℕ)) × (composed m (Set v) (what_effect what) ≡ Set w)
  set_on v (Put value) = (Some value, refl)
  set_on v Delete = (None, refl)
  set_on None (Merge operand) = (Some (m.first operand), refl)
  set_on (Some b) (Merge operand) = (Some (m.join b operand), refl)

  -- points on no value set one, or none
  set_based : (ps : List Entry) → (v : Option (List ℕ)) × (points_effect m (Set None) ps ≡ Set v)
  set_based [] = (None, refl)
  set_based (p ∷ ps) =
      let rest : (v : Option (List ℕ)) × (points_effect m (Set None) ps ≡ Set v) = set_based ps in
      let next : (w : Option (List ℕ)) × (composed m (Set rest.0) (what_effect p.what) ≡ Set w) = set_on rest.0 p.what in
      (next.0, ap (λ (e : Effect). composed m e (what_effect p.what)) rest.1 ∙ next.1)

  module _ (key : List ℕ) where
    -- the point that is kept, where there is one
    abbrev pub kept_point : ℕ → Option What → List Entry
    kept_point seq what = cons_option (cond (ltb 0 seq) (option_map (λ (w : What). record { key = key; seq = seq; what = w }) what) None) []

    -- the sequence that is kept, where there is one
    abbrev pub kept_seq : ℕ → List ℕ
    kept_seq seq = filter (λ n. ltb 0 n) (seq ∷ [])

    abbrev Stand : Effect → ℕ → ℕ → Type 0
    Stand e g t = above_newest m (kept_point g (what_of e (ltb g t))) (kept_seq t) ≡ e

    by_test : (P : Bool → Type 0) (b c : Bool) → b ≡ c → P c → P b
    by_test P b c e p = subst P (sym e) p

    -- a point without a range deletion
    lone : (g : ℕ) → (e : Effect) → e ≢ Keep → above_newest m (cons_option (option_map (λ (w : What). record { key = key; seq = g; what = w }) (what_of e false)) []) [] ≡ e
    lone g Keep some = absurd (some refl)
    lone g (Fold x) some = refl
    lone g (Set None) some = refl
    lone g (Set (Some v)) some = refl

    -- a point above a range deletion
    topped : (g n : ℕ) (b : Bool) → ltb n g ≡ b → b ≡ true → (v : Option (List ℕ)) → above_newest m (cons_option (option_map (λ (w : What). record { key = key; seq = g; what = w }) (what_of (Set v) false)) []) (n ∷ []) ≡ Set v
    topped g n b e t None = ap (λ c. points_effect m (Set None) (cond c ((record { key = key; seq = g; what = Delete }) ∷ []) [])) (e ∙ t)
    topped g n b e t (Some v) = ap (λ c. points_effect m (Set None) (cond c ((record { key = key; seq = g; what = Put v }) ∷ []) [])) (e ∙ t)

    positive : (n : ℕ) → 0 < n → ltb 0 n ≡ true
    positive n lt = grind (arith, nat_tests)

    not_below : (g n : ℕ) → ltb g n ≡ false → (g ≡ n → ⊥) → ltb n g ≡ true
    not_below g n e differ = grind (arith, nat_tests)

    from_test : (g n : ℕ) → ltb g n ≡ true → g < n
    from_test g n e = grind (arith, nat_tests)

    both : (p : Entry) (ps : List Entry) (n : ℕ) (b : Bool) → ltb p.seq n ≡ b → PointsFall (p ∷ ps) → 0 < p.seq → 0 < n → (p.seq ≡ n → ⊥) → Stand (points_effect m (Set None) (filter (λ (q : Entry). ltb n q.seq) (p ∷ ps))) p.seq n
    both p ps n true e fall some there differ =
        let lt : p.seq < n = from_test p.seq n e in
        let none : filter (λ (q : Entry). ltb n q.seq) (p ∷ ps) ≡ [] = none_above n (p ∷ ps) (lt, all-map (λ (q : Entry). q.seq < p.seq) (λ q. q.seq < n) (λ q below. omega (arith, lt, below)) ps fall.0) in
        subst (λ (qs : List Entry). Stand (points_effect m (Set None) qs) p.seq n) (sym none) (gone (ltb p.seq n) (ltb 0 p.seq) (ltb 0 n) e (positive n there))
      where
        gone : (a b c : Bool) → a ≡ true → c ≡ true → above_newest m (cons_option (cond b (option_map (λ (w : What). record { key = key; seq = p.seq; what = w }) (what_of (Set None) a)) None) []) (cond c (n ∷ []) []) ≡ Set None
        gone true true true f h = refl
        gone true false true f h = refl
        gone true b false f h = absurd cc
        gone false b c f h = absurd cc
    both p ps n false e fall some there differ =
        let above : ltb n p.seq ≡ true = not_below p.seq n e differ in
        let based : (v : Option (List ℕ)) × (points_effect m (Set None) (filter (λ (q : Entry). ltb n q.seq) (p ∷ ps)) ≡ Set v) = set_based (filter (λ (q : Entry). ltb n q.seq) (p ∷ ps)) in
        subst (λ (effect : Effect). Stand effect p.seq n) (sym based.1) (stays (ltb p.seq n) (ltb 0 p.seq) (ltb 0 n) e (positive p.seq some) (positive n there) based.0 above)
      where
        stays : (a b c : Bool) → a ≡ false → b ≡ true → c ≡ true → (v : Option (List ℕ)) → ltb n p.seq ≡ true → above_newest m (cons_option (cond b (option_map (λ (w : What). record { key = key; seq = p.seq; what = w }) (what_of (Set v) a)) None) []) (cond c (n ∷ []) []) ≡ Set v
        stays false true true f g h v above = topped p.seq n (ltb n p.seq) refl above v
        stays true b c f g h v above = absurd cc
        stays a false c f g h v above = absurd cc
        stays a b false f g h v above = absurd cc

    -- sequences that writes may have
    abbrev pub Positive : List ℕ → Type 0
    Positive ns = AllByRecursion (λ n. 0 < n) ns

    abbrev seqs : List Entry → List ℕ
    seqs ps = map (λ (p : Entry). p.seq) ps

    first_seq : (p : Entry) (ps : List Entry) → PointsFall (p ∷ ps) → greatest (seqs (p ∷ ps)) ≡ p.seq
    first_seq p ps fall = greatest_first p.seq (seqs ps) (all-mapped (λ (q : Entry). q.seq) (λ n. n < p.seq) ps fall.0)

    pub stands : (ps : List Entry) (ns : List ℕ) → PointsFall ps → Falls ns → Positive (seqs ps) → Positive ns → AllByRecursion (λ n. AllByRecursion (λ p. p.seq ≡ n → ⊥) ps) ns →
        Stand (above_newest m ps ns) (greatest (seqs ps)) (greatest ns)
    stands [] [] fall falls some there apart = refl
    stands [] (n ∷ ns) fall falls some there apart =
        subst (λ t. Stand (Set None) 0 t) (sym (greatest_first n ns falls.0)) (kept (ltb 0 n) (positive n there.0))
      where
        kept : (b : Bool) → b ≡ true → above_newest m [] (cond b (n ∷ []) []) ≡ Set None
        kept true e = refl
        kept false e = absurd cc
    stands (p ∷ ps) [] fall falls some there apart =
        subst (λ g. Stand (above_newest m (p ∷ ps) []) g 0) (sym (first_seq p ps fall)) (alone (ltb p.seq 0) (ltb 0 p.seq) (none_below p.seq) (positive p.seq some.0))
      where
        none_below : (g : ℕ) → ltb g 0 ≡ false
        none_below g = grind (arith, nat_tests)

        alone : (a b : Bool) → a ≡ false → b ≡ true → above_newest m (cons_option (cond b (option_map (λ (w : What). record { key = key; seq = p.seq; what = w }) (what_of (above_newest m (p ∷ ps) []) a)) None) []) [] ≡ above_newest m (p ∷ ps) []
        alone false true e f = lone p.seq (above_newest m (p ∷ ps) []) (ends (points_effect m Keep ps) p.what)
        alone true b e f = absurd cc
        alone a false e f = absurd cc
    stands (p ∷ ps) (n ∷ ns) fall falls some there apart =
        subst (λ g. Stand (above_newest m (p ∷ ps) (n ∷ ns)) g (greatest (n ∷ ns))) (sym (first_seq p ps fall))
        (subst (λ t. Stand (above_newest m (p ∷ ps) (n ∷ ns)) p.seq t) (sym (greatest_first n ns falls.0))
        (both p ps n (ltb p.seq n) refl fall some.0 there.0 apart.0.0))

    -- where nothing stands below, the value made of none is the same
    abbrev StandAlone : Effect → ℕ → Type 0
    StandAlone e g = applied m (above_newest m (kept_point g (what_of (Set (applied m e None)) true)) []) None ≡ applied m e None

    value_stands : (g : ℕ) (b : Bool) → b ≡ true → (v : Option (List ℕ)) → applied m (above_newest m (cons_option (cond b (option_map (λ (w : What). record { key = key; seq = g; what = w }) (what_of (Set v) true)) None) []) []) None ≡ v
    value_stands g true e None = refl
    value_stands g true e (Some v) = refl
    value_stands g false e v = absurd cc

    pub stands_alone : (ps : List Entry) (ns : List ℕ) → PointsFall ps → Positive (seqs ps) → StandAlone (above_newest m ps ns) (greatest (seqs ps))
    stands_alone [] [] fall some = refl
    stands_alone [] (n ∷ ns) fall some = refl
    stands_alone (p ∷ ps) ns fall some =
        subst (λ g. StandAlone (above_newest m (p ∷ ps) ns) g) (sym (first_seq p ps fall)) (value_stands p.seq (ltb 0 p.seq) (positive p.seq some.0) (applied m (above_newest m (p ∷ ps) ns) None))
