-- The fragment over a key hides it where one of its range deletions is seen.
use Rattle.std.proofs.Common.{◌≡◌, ℕ, Bool, true, false, cond, List, [], ◌∷◌, Some, None, filter, refl, sym, ap, ◌∙◌}
use Rattle.std.specs.Prelude.{◌&&◌, ◌||◌, is_some, nat_le}
use Rattle.std.specs.List.{find, list_any, slice_get}
use Rattle.uc_run_entry.specs.Fragment.{Fragment}
use Rattle.uc_run_entry.specs.Run.{covers}
use Rattle.uc_run.specs.Hiding.{hides}

-- ---- whether a fragment has a range deletion that is seen

module _ (at : ℕ) where
  abbrev pub seen : List ℕ → Bool
  seen seqs = list_any (λ seq. nat_le seq at) seqs

  some_by : (seq : ℕ) (kept : List ℕ) (rest b : Bool) → is_some (slice_get kept 0) ≡ rest → is_some (slice_get (cond b (seq ∷ kept) kept) 0) ≡ (b || rest)
  some_by seq kept rest true e = refl
  some_by seq kept rest false e = e

  -- one of them is seen exactly where there is a newest among those that are
  pub some_seen : (seqs : List ℕ) → is_some (slice_get (filter (λ seq. nat_le seq at) seqs) 0) ≡ seen seqs
  some_seen [] = refl
  some_seen (seq ∷ seqs) = some_by seq (filter (λ n. nat_le n at) seqs) (seen seqs) (nat_le seq at) (some_seen seqs)

-- ---- the first that passes two tests

module _ {X : Type 0} (p q : X → Bool) where
  find_by : (x : X) (xs : List X) (a b : Bool) → p x ≡ a → q x ≡ b → find (λ y. p y && q y) xs ≡ find q (filter p xs) → cond (a && b) (Some x) (find (λ y. p y && q y) xs) ≡ find q (cond a (x ∷ filter p xs) (filter p xs))
  find_by x xs true true e f rest = ap (λ c. cond c (Some x) (find q (filter p xs))) (sym f)
  find_by x xs true false e f rest = rest ∙ ap (λ c. cond c (Some x) (find q (filter p xs))) (sym f)
  find_by x xs false b e f rest = rest

  -- is the first that passes the second of those that pass the first
  pub find_both : (xs : List X) → find (λ y. p y && q y) xs ≡ find q (filter p xs)
  find_both [] = refl
  find_both (x ∷ xs) = find_by x xs (p x) (q x) refl refl (find_both xs)

module _ (at : ℕ) (key : List ℕ) where
  abbrev covering : List Fragment → List Fragment
  covering fs = filter (λ f. covers f key) fs

  hiding-covering : (fs : List Fragment) → find (hides at key) fs ≡ find (λ f. seen at f.seqs) (covering fs)
  hiding-covering fs = find_both (λ f. covers f key) (λ f. seen at f.seqs) fs

  -- where the same fragments are over the key, the same one hides it
  pub same_hiding : (over fs : List Fragment) → covering over ≡ covering fs → find (hides at key) over ≡ find (hides at key) fs
  same_hiding over fs same = hiding-covering over ∙ ap (find (λ f. seen at f.seqs)) same ∙ sym (hiding-covering fs)

  -- none is over it
  pub none_hides : (fs : List Fragment) → covering fs ≡ [] → find (hides at key) fs ≡ None
  none_hides fs none = hiding-covering fs ∙ ap (find (λ f. seen at f.seqs)) none

  -- one is
  pub one_hides : (fs : List Fragment) (f : Fragment) (b : Bool) → covering fs ≡ f ∷ [] → seen at f.seqs ≡ b → find (hides at key) fs ≡ cond b (Some f) None
  one_hides fs f b one e = hiding-covering fs ∙ ap (find (λ g. seen at g.seqs)) one ∙ ap (λ c. cond c (Some f) None) e
