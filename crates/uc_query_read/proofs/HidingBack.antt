-- Keys before one that a newer run's range deletion hides have no value.
use Rattle.std.proofs.Common.{◌≡◌, ℕ, zero, suc, ◌+◌, Bool, true, false, cond, List, [], ◌∷◌, ◌++◌, get_or, take, filter, Option, Some, None, refl, sym, ap, ◌∙◌, subst, arith}
use Rattle.std.specs.Prelude.{◌==◌, nat_le, option_map}
use Rattle.std.specs.List.{AllByRecursion, flat_map, find, list_any}
use Rattle.std.specs.declared.cmp.Ordering.{Ordering}
use Rattle.std.specs.declared.cmp.Ordering.TheVariants.{Less, Equal, Greater}
use Rattle.std.specs.Ordering.{nat_cmp, ordering_then, is_lt, is_le}
use Rattle.std.specs.BTreeMap.Comparable.{le_lt_trans}
use Rattle.std.proofs.lemmas.Bool.{false≢true, lt-ltb}
use Rattle.std.proofs.lemmas.Cmp.{nat_list_cmp_total}
use Rattle.uc_bytes.specs.Bytes.{bytes_cmp, same_bytes}
use Rattle.uc_bytes.specs.declared.write.Write.{Write}
use Rattle.uc_oper.specs.Operation.{Operation}
use Rattle.uc_oper.specs.Composition.{applied, composed}
use Rattle.uc_oper.specs.declared.effect.Effect.{Effect}
use Rattle.uc_model.specs.Meaning.{effect_on, value_of}
use Rattle.uc_run_entry.specs.declared.entry.Entry.{Entry}
use Rattle.uc_run_entry.specs.Fragment.{Fragment}
use Rattle.uc_run_entry.specs.Lookup.{effect_found}
use Rattle.uc_run_entry.specs.PlainList.{plain_list}
use Rattle.uc_run_entry.specs.Run.{Contents, IsRun, covers}
use Rattle.uc_run.specs.BackCursors.{is_before, IsPreviousKey}
use Rattle.uc_run.specs.Cursors.{Standing}
use Rattle.uc_run.specs.Hiding.{hides}
use Rattle.uc_compact.proofs.Keys.{no_less_itself, lt_of, le_of_not, le_of_lt, le_trans}
use Rattle.uc_compact.proofs.NestedLists.{all-map}
use Rattle.uc_compact.specs.Inputs.{writes_of, points_of}
use Rattle.uc_query_read.specs.Back.{bound_at, later_of}
use Rattle.uc_query_read.specs.Dead.{AreDeadBelow, IsHiddenFrom}
use Rattle.uc_query_read.specs.Walks.{runs_of, IsOfRun}
use Rattle.uc_query_read.proofs.Hiding.{IsOther, all_cleared, any_first, any_later, both, differs, differs_back}
use Rattle.uc_query_read.proofs.Walking.{and_left, and_right, above}

-- ---- a key with a zero byte after it is the least above it

pub le_then_lt : (x p : List ℕ) → is_le (bytes_cmp x p) ≡ true → bytes_cmp x (p ++ 0 ∷ []) ≡ Less
le_then_lt [] [] e = refl
le_then_lt [] (p ∷ ps) e = refl
le_then_lt (x ∷ xs) [] e = absurd (false≢true e)
le_then_lt (x ∷ xs) (p ∷ ps) e = by (nat_cmp x p) e (le_then_lt xs ps)
  where
    by : (o : Ordering) → is_le (ordering_then o (bytes_cmp xs ps)) ≡ true → (is_le (bytes_cmp xs ps) ≡ true → bytes_cmp xs (ps ++ 0 ∷ []) ≡ Less) → ordering_then o (bytes_cmp xs (ps ++ 0 ∷ [])) ≡ Less
    by Less f rest = refl
    by Equal f rest = rest f
    by Greater f rest = absurd (false≢true f)

pub lt_then_le : (p key : List ℕ) → bytes_cmp p key ≡ Less → is_le (bytes_cmp (p ++ 0 ∷ []) key) ≡ true
lt_then_le [] [] e = absurd (cc)
lt_then_le [] (zero ∷ []) e = refl
lt_then_le [] (zero ∷ k ∷ ks) e = refl
lt_then_le [] (suc n ∷ ks) e =
    ap (λ b. is_le (ordering_then (cond b Less (cond (0 == suc n) Equal Greater)) (bytes_cmp [] ks))) (lt-ltb 0 (suc n) (omega arith))
lt_then_le (x ∷ xs) [] e = absurd (cc)
lt_then_le (x ∷ xs) (k ∷ ks) e = by (nat_cmp x k) e (lt_then_le xs ks)
  where
    by : (o : Ordering) → ordering_then o (bytes_cmp xs ks) ≡ Less → (bytes_cmp xs ks ≡ Less → is_le (bytes_cmp (xs ++ 0 ∷ []) ks) ≡ true) → is_le (ordering_then o (bytes_cmp (xs ++ 0 ∷ []) ks)) ≡ true
    by Less f rest = refl
    by Equal f rest = rest f
    by Greater f rest = absurd (cc)

-- ---- a fragment that hides a key hides those before it that it covers

module _ (key x begin : List ℕ) (at : ℕ) (from : is_le (bytes_cmp begin x) ≡ true) (before : bytes_cmp x key ≡ Less) where
  abbrev test : ℕ → Bool
  test seq = nat_le seq at

  abbrev seqs_over : List Fragment → List ℕ
  seqs_over fs = flat_map (λ f. f.seqs) (filter (λ f. covers f x) fs)

  covers_too : (f : Fragment) → covers f key ≡ true → f.begin ≡ begin → covers f x ≡ true
  covers_too f e same =
      both (is_le (bytes_cmp f.begin x)) (is_lt (bytes_cmp x f.end))
      (ap (λ (k : List ℕ). is_le (bytes_cmp k x)) same ∙ from)
      (ap is_lt (nat_list_cmp_total.trans x key f.end before (lt_of key f.end (and_right (is_le (bytes_cmp f.begin key)) (is_lt (bytes_cmp key f.end)) e))))

  here : (f : Fragment) (fs : List Fragment) → hides at key f ≡ true → f.begin ≡ begin → list_any test (seqs_over (f ∷ fs)) ≡ true
  here f fs e same =
      ap (λ b. list_any test (flat_map (λ (g : Fragment). g.seqs) (cond b (f ∷ filter (λ g. covers g x) fs) (filter (λ g. covers g x) fs))))
      (covers_too f (and_left (covers f key) (list_any test f.seqs) e) same)
      ∙ any_first test f.seqs (seqs_over fs) (and_right (covers f key) (list_any test f.seqs) e)

  later : (f : Fragment) (fs : List Fragment) (b : Bool) → list_any test (seqs_over fs) ≡ true → list_any test (flat_map (λ g. g.seqs) (cond b (f ∷ filter (λ g. covers g x) fs) (filter (λ g. covers g x) fs))) ≡ true
  later f fs true h = any_later test f.seqs (seqs_over fs) h
  later f fs false h = h

  seen_by : (f : Fragment) (fs : List Fragment) (b : Bool) → hides at key f ≡ b → option_map (λ g. g.begin) (cond b (Some f) (find (hides at key) fs)) ≡ Some begin → (option_map (λ g. g.begin) (find (hides at key) fs) ≡ Some begin → list_any test (seqs_over fs) ≡ true) → list_any test (seqs_over (f ∷ fs)) ≡ true
  seen_by f fs true e found rest = here f fs e (cc)
  seen_by f fs false e found rest = later f fs (covers f x) (rest found)

  seen_over : (fs : List Fragment) → option_map (λ g. g.begin) (find (hides at key) fs) ≡ Some begin → list_any test (seqs_over fs) ≡ true
  seen_over [] found = absurd (cc)
  seen_over (f ∷ fs) found = seen_by f fs (hides at key f) refl found (seen_over fs)

-- the hiding begins at or before the key
module _ (key begin : List ℕ) (at : ℕ) where
  begin_by : (f : Fragment) (fs : List Fragment) (b : Bool) → hides at key f ≡ b → option_map (λ g. g.begin) (cond b (Some f) (find (hides at key) fs)) ≡ Some begin → (option_map (λ g. g.begin) (find (hides at key) fs) ≡ Some begin → is_le (bytes_cmp begin key) ≡ true) → is_le (bytes_cmp begin key) ≡ true
  begin_by f fs true e found rest =
      let same : f.begin ≡ begin = cc in
      sym (ap (λ (k : List ℕ). is_le (bytes_cmp k key)) same)
      ∙ and_left (is_le (bytes_cmp f.begin key)) (is_lt (bytes_cmp key f.end)) (and_left (covers f key) (list_any (λ seq. nat_le seq at) f.seqs) e)
  begin_by f fs false e found rest = rest found

  begin_below : (fs : List Fragment) → option_map (λ g. g.begin) (find (hides at key) fs) ≡ Some begin → is_le (bytes_cmp begin key) ≡ true
  begin_below [] found = absurd (cc)
  begin_below (f ∷ fs) found = begin_by f fs (hides at key f) refl found (begin_below fs)

-- ---- none of the points up to the last one before the key is at these keys

module _ (m : Operation) (at : ℕ) (key x : List ℕ) (before : bytes_cmp x key ≡ Less) where
  not_at : (y : List ℕ) → is_lt (bytes_cmp y key) ≡ false → same_bytes y x ≡ false
  not_at y out = differs_back y x (by (is_le (bytes_cmp key y)) refl)
    where
      by : (b : Bool) → is_le (bytes_cmp key y) ≡ b → bytes_cmp x y ≡ Less
      by true e = above y x (not_le (is_le (bytes_cmp y x)) refl)
        where
          not_le : (b : Bool) → is_le (bytes_cmp y x) ≡ b → b ≡ false
          not_le true f = absurd (false≢true (sym out ∙ ap is_lt (le_lt_trans nat_list_cmp_total y x key f before)))
          not_le false f = refl
      by false e = absurd (false≢true (sym e ∙ le_of_not y key out))

  at_or_before : (last y : List ℕ) (b : Bool) → bytes_cmp last x ≡ Less → is_before (Some key) y ≡ b → (is_before (Some key) y ≡ true → is_le (bytes_cmp y last) ≡ true) → same_bytes y x ≡ false
  at_or_before last y true less e up = differs y x (le_lt_trans nat_list_cmp_total y last x (up e) less)
  at_or_before last y false less e up = not_at y e

  others : (points : List Entry) (last : Option (List ℕ)) → IsPreviousKey points (Some key) last → ((l : List ℕ) → last ≡ Some l → bytes_cmp l x ≡ Less) → AllByRecursion (IsOther m at x) points
  others points None previous less = all-map (λ (p : Entry). is_before (Some key) p.key ≡ false) (IsOther m at x) (λ p out. not_at p.key out) points previous
  others points (Some last) previous less =
      all-map (λ (p : Entry). is_before (Some key) p.key ≡ true → is_le (bytes_cmp p.key last) ≡ true) (IsOther m at x)
      (λ p up. at_or_before last p.key (is_before (Some key) p.key) (less last refl) refl up) points previous.greatest

-- ---- so they are dead

not_below : (x p : List ℕ) → is_lt (bytes_cmp x (p ++ 0 ∷ [])) ≡ false → bytes_cmp p x ≡ Less
not_below x p out = above x p (by (is_le (bytes_cmp x p)) refl)
  where
    by : (b : Bool) → is_le (bytes_cmp x p) ≡ b → b ≡ false
    by true e = absurd (false≢true (sym out ∙ ap is_lt (le_then_lt x p e)))
    by false e = refl

-- what isn't below the later of two bounds: it is at or after the first, and after the last key
record IsFrom (begin : List ℕ) (last : Option (List ℕ)) (x : List ℕ) : Type 0 where
  from : is_le (bytes_cmp begin x) ≡ true
  later : (l : List ℕ) → last ≡ Some l → bytes_cmp l x ≡ Less

from_none : (begin x : List ℕ) → is_lt (bytes_cmp x begin) ≡ false → IsFrom begin None x
from_none begin x out = record { from = le_of_not x begin out; later = λ l e. absurd (cc) }

from_by : (begin last x : List ℕ) (b : Bool) → is_lt (bytes_cmp last begin) ≡ b → is_lt (bytes_cmp x (bound_at (cond {A = List ℕ × Bool} b (begin, false) (last, true)).0 (cond {A = List ℕ × Bool} b (begin, false) (last, true)).1)) ≡ false → IsFrom begin (Some last) x
from_by begin last x true e out =
    let from = le_of_not x begin out in
    record {
      from = from;
      later = λ l same. let is : last ≡ l = cc in subst (λ (y : List ℕ). bytes_cmp y x ≡ Less) is (below_from last begin x (lt_of last begin e) from);
    }
  where
    below_from : (last begin x : List ℕ) → bytes_cmp last begin ≡ Less → is_le (bytes_cmp begin x) ≡ true → bytes_cmp last x ≡ Less
    below_from last begin x less le = above x last (by (is_le (bytes_cmp x last)) refl)
      where
        by : (b : Bool) → is_le (bytes_cmp x last) ≡ b → b ≡ false
        by true f = absurd (no_less_itself begin (le_lt_trans nat_list_cmp_total begin x begin le (le_lt_trans nat_list_cmp_total x last begin f less)))
        by false f = refl
from_by begin last x false e out =
    let less = not_below x last out in
    record {
      from = le_trans begin last x (le_of_not last begin e) (le_of_lt last x less);
      later = λ l same. let is : last ≡ l = cc in subst (λ (y : List ℕ). bytes_cmp y x ≡ Less) is less;
    }

from_later : (begin : List ℕ) (last : Option (List ℕ)) (x : List ℕ) → is_lt (bytes_cmp x (bound_at (later_of begin last).0 (later_of begin last).1)) ≡ false → IsFrom begin last x
from_later begin None x out = from_none begin x out
from_later begin (Some last) x out = from_by begin last x (is_lt (bytes_cmp last begin)) refl out

-- and the bound isn't above the key
below_by : (begin last key : List ℕ) (b : Bool) → is_le (bytes_cmp begin key) ≡ true → bytes_cmp last key ≡ Less → is_le (bytes_cmp (bound_at (cond {A = List ℕ × Bool} b (begin, false) (last, true)).0 (cond {A = List ℕ × Bool} b (begin, false) (last, true)).1) key) ≡ true
below_by begin last key true le less = le
below_by begin last key false le less = lt_then_le last key less

bound_below : (points : List Entry) (begin : List ℕ) (last : Option (List ℕ)) (key : List ℕ) → IsPreviousKey points (Some key) last → is_le (bytes_cmp begin key) ≡ true → is_le (bytes_cmp (bound_at (later_of begin last).0 (later_of begin last).1) key) ≡ true
bound_below points begin None key previous le = le
bound_below points begin (Some last) key previous le = below_by begin last key (is_lt (bytes_cmp last begin)) le (lt_of last key previous.below)

module _ (m : Operation)
    (law : (run : Contents) (key : List ℕ) (at : ℕ) → IsRun run.low run.high run.points run.fragments → effect_on m (plain_list run) key at ≡ effect_found m run key at)
    (parts : (older newer : List Write) (key : List ℕ) (at : ℕ) → effect_on m (older ++ newer) key at ≡ composed m (effect_on m older key at) (effect_on m newer key at))
    (gives : (writes : List Write) (key : List ℕ) (at : ℕ) → applied m (effect_on m writes key at) None ≡ value_of m writes key at)
    (cursors : List Standing) (key : List ℕ) (at place : ℕ) (begin : List ℕ) (hidden : IsHiddenFrom cursors key at place begin)
    (last : Option (List ℕ)) (previous : IsPreviousKey (points_of (runs_of (take (place + 1) cursors))) (Some key) last) where
  one : place + 1 ≡ suc place
  one = omega arith

  abbrev any : Standing
  any = record { run = record { low = 0; high = 0; points = []; fragments = [] }; place = 0 }

  value_by : (x : List ℕ) → IsFrom begin last x → bytes_cmp x key ≡ Less → value_of m (writes_of (runs_of cursors)) x at ≡ None
  value_by x is before =
      let other = others m at key x before (points_of (runs_of (take (place + 1) cursors))) last previous is.later in
      sym (gives (writes_of (runs_of cursors)) x at)
      ∙ ap (λ (e : Effect). applied m e None)
      (all_cleared m at law parts x cursors place hidden.within (λ d. seen_over key x begin at is.from before (get_or cursors place d).run.fragments (hidden.hides d))
      (subst (λ n. AllByRecursion IsOfRun (take n cursors)) one hidden.are_runs)
      (subst (λ n. AllByRecursion (IsOther m at x) (points_of (runs_of (take n cursors)))) one other))

  pub found_dead : (bound : List ℕ × Bool) → bound ≡ later_of begin last → AreDeadBelow m (writes_of (runs_of cursors)) at key (bound_at bound.0 bound.1)
  found_dead bound is =
      subst (λ (b : List ℕ × Bool). AreDeadBelow m (writes_of (runs_of cursors)) at key (bound_at b.0 b.1)) (sym is) (record {
        below = bound_below (points_of (runs_of (take (place + 1) cursors))) begin last key previous (begin_below key begin at (get_or cursors place any).run.fragments (hidden.hides any));
        dead = λ x out before. value_by x (from_later begin last x out) before;
      })
