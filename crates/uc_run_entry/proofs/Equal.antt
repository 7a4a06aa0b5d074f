-- Joined spans that give each fragment the same sequences are equal.
use Rattle.std.proofs.Common.{◌≡◌, ◌≢◌, ℕ, ◌<◌, ◌≤◌, Bool, true, false, IsTrue, cond, ltb, eqb, arith, List, [], ◌∷◌, length, get_or, map, filter, refl, sym, ap, ◌∙◌, subst}
use Rattle.std.specs.Prelude.{◌↔◌}
use Rattle.std.specs.List.{AllByRecursion}
use Rattle.std.proofs.lemmas.Bool.Decides.{nat_tests}
use lib.Pointwise.{pointwise, pointwise_decides}
use Rattle.uc_run_entry.specs.declared.span.Span.{Span}
use Rattle.uc_run_entry.specs.Spans.{IsWithin, stands_in, seqs_in, listed}
use Rattle.uc_run_entry.specs.Joined.{IsBehind, AreJoined}
use Rattle.uc_run_entry.proofs.Greatest.{seq_of}
use Rattle.uc_run_entry.proofs.Joins.{to_holds, stands_low, joined_stay}
use Rattle.uc_run_entry.proofs.Listed.{none_above, length-listed, listed_at}

pub equal_by : {X : Type 0} (E : X → X → Bool) → ((x y : X) → (E x y ≡ true → x ≡ y) × (x ≡ y → E x y ≡ true)) → (xs ys : List X) (r : Bool) → r ≡ pointwise E xs ys → IsTrue r ↔ (xs ≡ ys)
equal_by E decides xs ys r e =
    let all = pointwise_decides {E = E} decides xs ys in
    ((λ t. all.0 (sym e ∙ t)), (λ same. e ∙ all.1 same))

-- ---- outside a span, up to its end, all sequences are below its own

below_by : (f : ℕ) (s u : Span) (b : Bool) → eqb u.seq s.seq ≡ b → IsBehind s u → f ≤ s.end → u.first ≤ f → u.seq < s.seq
below_by f s u true e h le low =
    let same : u.seq ≡ s.seq = grind (arith, nat_tests) in
    let gap : s.end < u.first = h.1 same in
    absurd (omega (arith, gap, le, low))
below_by f s u false e h le low =
    let other : u.seq ≢ s.seq = λ same. grind (arith, nat_tests) in
    let no_more : u.seq ≤ s.seq = h.0 in
    omega arith

below_put : (f : ℕ) (s u : Span) (us : List Span) (b : Bool) → stands_in f u ≡ b → (stands_in f u ≡ true → u.seq < s.seq) → AllByRecursion (λ m. m < s.seq) (map seq_of us) → AllByRecursion (λ m. m < s.seq) (map seq_of (cond b (u ∷ us) us))
below_put f s u us true e here h = (here e, h)
below_put f s u us false e here h = h

all_below : (f : ℕ) (s : Span) (us : List Span) → f ≤ s.end → AllByRecursion (IsBehind s) us → AllByRecursion (λ m. m < s.seq) (seqs_in f us)
all_below f s [] le h = tt
all_below f s (u ∷ us) le h = below_put f s u (filter (stands_in f) us) (stands_in f u) refl (λ e. below_by f s u (eqb u.seq s.seq) refl h.0 le (stands_low f u e)) (all_below f s us le h.1)

outside : (f : ℕ) (s : Span) (ss : List Span) → stands_in f s ≡ false → f ≤ s.end → AreJoined (s ∷ ss) → AllByRecursion (λ m. m < s.seq) (seqs_in f (s ∷ ss))
outside f s ss e le h = subst (λ b. AllByRecursion (λ m. m < s.seq) (map seq_of (cond b (s ∷ filter (stands_in f) ss) (filter (stands_in f) ss)))) (sym e) (all_below f s ss le h.1)

before : (f : ℕ) (s : Span) → f < s.first → stands_in f s ≡ false
before f s l = grind (arith, nat_tests)

at_end : (s : Span) → stands_in s.end s ≡ false
at_end s = grind (arith, nat_tests)

-- ---- what the first span of one list says of the first of another

module _ (count : ℕ) (s t : Span) (ss ts : List Span) (joined : AreJoined (s ∷ ss)) (within : IsWithin count t) (same : (f : ℕ) → f < count → seqs_in f (s ∷ ss) ≡ seqs_in f (t ∷ ts)) where
  says : (P : ℕ → Type 0) (f : ℕ) → f < count → t.first ≤ f → f < t.end → AllByRecursion P (seqs_in f (s ∷ ss)) → P t.seq
  says P f l low high h = (to_holds P f (t ∷ ts) (subst (AllByRecursion P) (same f l) h)).0 low high

  seq_le : t.seq ≤ s.seq
  seq_le = says (λ m. m ≤ s.seq) t.first (omega (arith, within.0, within.1)) (omega arith) within.0 (none_above s ss t.first joined)

  first_by : (b : Bool) → ltb t.first s.first ≡ b → t.seq ≡ s.seq → s.first ≤ t.first
  first_by true e g =
      let l : t.first < s.first = grind (arith, nat_tests) in
      let less : t.seq < s.seq = says (λ m. m < s.seq) t.first (omega (arith, within.0, within.1)) (omega arith) within.0 (outside t.first s ss (before t.first s l) (omega (arith, l, joined.0)) joined) in
      absurd (omega (arith, less, g))
  first_by false e g = grind (arith, nat_tests)

  first_le : t.seq ≡ s.seq → s.first ≤ t.first
  first_le g = first_by (ltb t.first s.first) refl g

  end_by : (b : Bool) → ltb s.end t.end ≡ b → t.seq ≡ s.seq → t.first ≡ s.first → t.end ≤ s.end
  end_by true e g h =
      let l : s.end < t.end = grind (arith, nat_tests) in
      let less : t.seq < s.seq = says (λ m. m < s.seq) s.end (omega (arith, l, within.1)) (omega (arith, h, joined.0)) l (outside s.end s ss (at_end s) (omega arith) joined) in
      absurd (omega (arith, less, g))
  end_by false e g h = grind (arith, nat_tests)

  end_le : t.seq ≡ s.seq → t.first ≡ s.first → t.end ≤ s.end
  end_le g h = end_by (ltb s.end t.end) refl g h

same_span : (s t : Span) → s.seq ≡ t.seq → s.first ≡ t.first → s.end ≡ t.end → s ≡ t
same_span s t e f g =
    let one : Span = record { seq = t.seq; first = s.first; end = s.end } in
    let two : Span = record { seq = t.seq; first = t.first; end = s.end } in
    let a : s ≡ one = ap (λ n. record { seq = n; first = s.first; end = s.end }) e in
    let b : one ≡ two = ap (λ n. record { seq = t.seq; first = n; end = s.end }) f in
    let c : two ≡ t = ap (λ n. record { seq = t.seq; first = t.first; end = n }) g in
    a ∙ b ∙ c

same_heads : (count : ℕ) (s t : Span) (ss ts : List Span) → AreJoined (s ∷ ss) → AreJoined (t ∷ ts) → IsWithin count s → IsWithin count t → ((f : ℕ) → f < count → seqs_in f (s ∷ ss) ≡ seqs_in f (t ∷ ts)) → s ≡ t
same_heads count s t ss ts js jt ws wt same =
    let back : (f : ℕ) → f < count → seqs_in f (t ∷ ts) ≡ seqs_in f (s ∷ ss) = λ f l. sym (same f l) in
    let down : t.seq ≤ s.seq = seq_le count s t ss ts js wt same in
    let up : s.seq ≤ t.seq = seq_le count t s ts ss jt ws back in
    let e : s.seq ≡ t.seq = omega (arith, down, up) in
    let left : s.first ≤ t.first = first_le count s t ss ts js wt same (sym e) in
    let right : t.first ≤ s.first = first_le count t s ts ss jt ws back e in
    let f : s.first ≡ t.first = omega (arith, left, right) in
    let short : t.end ≤ s.end = end_le count s t ss ts js wt same (sym e) (sym f) in
    let long : s.end ≤ t.end = end_le count t s ts ss jt ws back e f in
    same_span s t e f (omega (arith, short, long))

same_tail : (n : ℕ) (xs ys : List ℕ) → n ∷ xs ≡ n ∷ ys → xs ≡ ys
same_tail n xs ys e = cc

same_rest : (s : Span) (ss ts : List Span) (b : Bool) → map seq_of (cond b (s ∷ ss) ss) ≡ map seq_of (cond b (s ∷ ts) ts) → map seq_of ss ≡ map seq_of ts
same_rest s ss ts true e = same_tail s.seq (map seq_of ss) (map seq_of ts) e
same_rest s ss ts false e = e

-- no spans and a span don't say the same
none_and_some : (count : ℕ) (t : Span) (ts : List Span) → IsWithin count t → ((f : ℕ) → f < count → [] ≡ seqs_in f (t ∷ ts)) → ⊥
none_and_some count t ts within same =
    (to_holds (λ _. ⊥) t.first (t ∷ ts) (subst (AllByRecursion (λ _. ⊥)) (same t.first (omega (arith, within.0, within.1))) tt)).0 (omega arith) within.0

pub same_spans : (count : ℕ) (a b : List Span) → AreJoined a → AreJoined b → AllByRecursion (IsWithin count) a → AllByRecursion (IsWithin count) b → ((f : ℕ) → f < count → seqs_in f a ≡ seqs_in f b) → a ≡ b
same_spans count [] [] ja jb wa wb same = refl
same_spans count [] (t ∷ ts) ja jb wa wb same = absurd (none_and_some count t ts wb.0 same)
same_spans count (s ∷ ss) [] ja jb wa wb same = absurd (none_and_some count s ss wa.0 (λ f l. sym (same f l)))
same_spans count (s ∷ ss) (t ∷ ts) ja jb wa wb same =
    let e : s ≡ t = same_heads count s t ss ts ja jb wa.0 wb.0 same in
    let again : (f : ℕ) → f < count → seqs_in f (s ∷ ss) ≡ seqs_in f (s ∷ ts) = λ f l. same f l ∙ ap (λ (u : Span). seqs_in f (u ∷ ts)) (sym e) in
    ap (λ (us : List Span). s ∷ us)
    (same_spans count ss ts ja.2 jb.2 wa.1 wb.1 (λ f l. same_rest s (filter (stands_in f) ss) (filter (stands_in f) ts) (stands_in f s) (again f l)))
    ∙ ap (λ (u : Span). u ∷ ts) e

-- so equal lists of fragments have equal spans, and the other way round
pub listed_alike : (m n : ℕ) (a b : List Span) → AreJoined a → AreJoined b → AllByRecursion (IsWithin m) a → AllByRecursion (IsWithin n) b → listed m a ≡ listed n b → (m ≡ n) × (a ≡ b)
listed_alike m n a b ja jb wa wb e =
    let same_count : m ≡ n = sym (length-listed m a) ∙ ap (λ (xss : List (List ℕ)). length xss) e ∙ length-listed n b in (
      same_count,
      same_spans m a b ja jb wa (subst (λ k. AllByRecursion (IsWithin k) b) (sym same_count) wb)
          (λ f l. sym (joined_stay f a ja) ∙ sym (listed_at m a f l) ∙ ap (λ (xss : List (List ℕ)). get_or xss f []) e ∙ listed_at n b f (subst (λ k. f < k) same_count l) ∙ joined_stay f b jb),
    )
