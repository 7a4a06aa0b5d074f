-- Numbers that are spelled one after the other.
use Rattle.std.proofs.Common.{◌≡◌, ℕ, ◌+◌, ◌^◌, ◌<◌, List, [], ◌∷◌, ◌++◌, length, refl, sym, ap, subst, ◌∙◌, append_assoc, arith}
use Rattle.std.specs.List.{AllByRecursion}
use Rattle.std.proofs.ByRecursion.{All-append}
use Rattle.std.proofs.lemmas.List.{flat_map_more, length_push}
use Rattle.uc_run_points.specs.Numbers.{number_text}
use Rattle.uc_run_points.proofs.Unique.{numbers_apart}
use Rattle.uc_run_file.specs.Spelling.{numbers_text}

abbrev pub Below : ℕ → Type 0
Below n = n < 2 ^ 64

-- numbers of which some are read
pub record AreRead (bytes rest : List ℕ) (numbers : List ℕ) (count : ℕ) : Type 0 where
  pub many : length numbers ≡ count
  pub below : AllByRecursion Below numbers
  pub spelled : bytes ≡ numbers_text numbers ++ rest

pub none_read : (bytes numbers : List ℕ) → numbers ≡ [] → AreRead bytes bytes numbers 0
none_read bytes numbers none = subst (λ (ns : List ℕ). AreRead bytes bytes ns 0) (sym none) (record { many = refl; below = tt; spelled = refl })

pub numbers_pushed : (ns : List ℕ) (n : ℕ) → numbers_text (ns ++ n ∷ []) ≡ numbers_text ns ++ number_text n
numbers_pushed ns n = sym (flat_map_more number_text [] ns n)

pub one_read : (bytes rest after numbers more : List ℕ) (count n : ℕ) → AreRead bytes rest numbers count → n < 2 ^ 64 → rest ≡ number_text n ++ after → more ≡ numbers ++ n ∷ [] → AreRead bytes after more (count + 1)
one_read bytes rest after numbers more count n is fits e m =
    subst (λ (ns : List ℕ). AreRead bytes after ns (count + 1)) (sym m)
    (record {
      many = length_push numbers n ∙ ap (λ (k : ℕ). k + 1) is.many;
      below = All-append Below numbers (n ∷ []) is.below (fits, tt);
      spelled = is.spelled ∙ ap (λ (xs : List ℕ). numbers_text numbers ++ xs) e ∙ sym (append_assoc (numbers_text numbers) (number_text n) after) ∙ ap (λ (xs : List ℕ). xs ++ after) (sym (numbers_pushed numbers n));
    })

-- where more numbers are spelled than are read, one follows
pub follows : (ns others rest more : List ℕ) → AllByRecursion Below ns → AllByRecursion Below others → length ns < length others → numbers_text ns ++ rest ≡ numbers_text others ++ more → (n : ℕ) × (n < 2 ^ 64) × (after : List ℕ) × (rest ≡ number_text n ++ after)
follows [] [] rest more fits also lt e = absurd (omega (arith, lt))
follows [] (n ∷ others) rest more fits also lt e = (n, also.0, numbers_text others ++ more, e ∙ append_assoc (number_text n) (numbers_text others) more)
follows (m ∷ ns) [] rest more fits also lt e = absurd (omega (arith, lt))
follows (m ∷ ns) (n ∷ others) rest more fits also lt e =
    let both = numbers_apart m n (numbers_text ns ++ rest) (numbers_text others ++ more) fits.0 also.0 (sym (append_assoc (number_text m) (numbers_text ns) rest) ∙ e ∙ append_assoc (number_text n) (numbers_text others) more) in
    follows ns others rest more fits.1 also.1 (omega (arith, lt)) both.1

pub no_more : (bytes rest numbers others more : List ℕ) (count counter : ℕ) → AreRead bytes rest numbers counter → counter < count → length others ≡ count → AllByRecursion Below others → bytes ≡ numbers_text others ++ more
    → ((n : ℕ) (after : List ℕ) → n < 2 ^ 64 → rest ≡ number_text n ++ after → ⊥) → ⊥
no_more bytes rest numbers others more count counter is lt many below e none =
    let next = follows numbers others rest more is.below below (omega (arith, is.many, lt, many)) (sym is.spelled ∙ e) in
    none next.0 next.2 next.1 next.3

-- as many numbers, spelled at the front of the same bytes, are the same
pub numbers_alike : (ns others rest more : List ℕ) → AllByRecursion Below ns → AllByRecursion Below others → length ns ≡ length others → numbers_text ns ++ rest ≡ numbers_text others ++ more → (ns ≡ others) × (rest ≡ more)
numbers_alike [] [] rest more fits also many e = (refl, e)
numbers_alike [] (n ∷ others) rest more fits also many e = absurd (omega (arith, many))
numbers_alike (m ∷ ns) [] rest more fits also many e = absurd (omega (arith, many))
numbers_alike (m ∷ ns) (n ∷ others) rest more fits also many e =
    let both = numbers_apart m n (numbers_text ns ++ rest) (numbers_text others ++ more) fits.0 also.0 (sym (append_assoc (number_text m) (numbers_text ns) rest) ∙ e ∙ append_assoc (number_text n) (numbers_text others) more) in
    let rests = numbers_alike ns others rest more fits.1 also.1 (omega (arith, many)) both.1 in
    (ap (λ (x : ℕ). x ∷ ns) both.0 ∙ ap (λ (xs : List ℕ). n ∷ xs) rests.0, rests.1)
