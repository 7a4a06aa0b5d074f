-- Runs in three parts: those in front of a stretch, the stretch, and those after it.
use Rattle.std.proofs.Common.{◌≡◌, ◌≢◌, ℕ, ◌+◌, ◌<◌, List, [], ◌∷◌, ◌++◌, take, drop, refl, sym, ap, ◌∙◌}
use Rattle.std.specs.List.{AllByRecursion}
use Rattle.std.proofs.lemmas.List.{take-append-drop, append-nil, append_assoc, drop-drop}
use Rattle.uc_run_entry.specs.Run.{Contents}
use Rattle.uc_run_entry.specs.PlainList.{plain_list}
use Rattle.uc_bytes.specs.declared.write.Write.{Write}
use Rattle.uc_compact.specs.Inputs.{AreNewestFirst, low_of, high_of, writes_of}
use Rattle.uc_compact.proofs.NestedLists.{all-append}

pub in_parts : {X : Type 0} (n m : ℕ) (xs : List X) → take n xs ++ (take m (drop n xs) ++ drop (n + m) xs) ≡ xs
in_parts {X} n m xs =
    ap (λ (ys : List X). take n xs ++ (take m (drop n xs) ++ ys)) (sym (drop-drop m n xs))
    ∙ ap (λ (ys : List X). take n xs ++ ys) (take-append-drop m (drop n xs))
    ∙ take-append-drop n xs

pub writes-append : (xs ys : List Contents) → writes_of (xs ++ ys) ≡ writes_of ys ++ writes_of xs
writes-append [] ys = sym (append-nil (writes_of ys))
writes-append (x ∷ xs) ys =
    ap (λ (ws : List Write). ws ++ plain_list x) (writes-append xs ys) ∙ append_assoc (writes_of ys) (writes_of xs) (plain_list x)

pub all-front : {X : Type 0} (P : X → Type 0) (xs ys : List X) → AllByRecursion P (xs ++ ys) → AllByRecursion P xs
all-front P [] ys h = tt
all-front P (x ∷ xs) ys h = (h.0, all-front P xs ys h.1)

pub all-behind : {X : Type 0} (P : X → Type 0) (xs ys : List X) → AllByRecursion P (xs ++ ys) → AllByRecursion P ys
all-behind P [] ys h = h
all-behind P (x ∷ xs) ys h = all-behind P xs ys h.1

pub first-front : (xs ys : List Contents) → AreNewestFirst (xs ++ ys) → AreNewestFirst xs
first-front [] ys h = tt
first-front (x ∷ xs) ys h = (all-front (λ (r : Contents). r.high < x.low) xs ys h.0, first-front xs ys h.1)

pub first-behind : (xs ys : List Contents) → AreNewestFirst (xs ++ ys) → AreNewestFirst ys
first-behind [] ys h = h
first-behind (x ∷ xs) ys h = first-behind xs ys h.1

-- all of the one are above all of the others
pub apart : (xs ys : List Contents) → AreNewestFirst (xs ++ ys) → AllByRecursion (λ (x : Contents). AllByRecursion (λ (y : Contents). y.high < x.low) ys) xs
apart [] ys h = tt
apart (x ∷ xs) ys h = (all-behind (λ (r : Contents). r.high < x.low) xs ys h.0, apart xs ys h.1)

pub first-append : (xs ys : List Contents) → AreNewestFirst xs → AreNewestFirst ys → AllByRecursion (λ (x : Contents). AllByRecursion (λ (y : Contents). y.high < x.low) ys) xs → AreNewestFirst (xs ++ ys)
first-append [] ys h k below = k
first-append (x ∷ xs) ys h k below = (all-append (λ (r : Contents). r.high < x.low) xs ys h.0 below.0, first-append xs ys h.1 k below.1)

-- the oldest run's least sequence, and the newest's greatest, are those of some runs
pub of_oldest : (P : ℕ → Type 0) (xs : List Contents) → xs ≢ [] → AllByRecursion (λ (x : Contents). P x.low) xs → P (low_of xs)
of_oldest P [] some h = absurd (some refl)
of_oldest P (x ∷ []) some h = h.0
of_oldest P (x ∷ y ∷ xs) some h = of_oldest P (y ∷ xs) (λ e. absurd cc) h.1

pub of_newest : (P : ℕ → Type 0) (xs : List Contents) → xs ≢ [] → AllByRecursion (λ (x : Contents). P x.high) xs → P (high_of xs)
of_newest P [] some h = absurd (some refl)
of_newest P (x ∷ xs) some h = h.0
