-- Openings by the names that a folder lists find the files that are read.
use Rattle.std.proofs.Common.{◌≡◌, ℕ, ◌<◌, ◌≤◌, Bool, true, false, cond, eqb, eq-eqb, ◌&&◌, ◌||◌, ⊎_elim, List, [], ◌∷◌, refl, sym, ap, ◌∙◌, subst, arith}
use Rattle.std.specs.Prelude.{Option, Some, None, Result, Ok, Err, fold, max, min}
use Rattle.std.specs.List.{list_any}
use Rattle.std.proofs.lemmas.Bool.{cases_lt, eqb-true, and_parts, or_cases}
use Rattle.uc_folder.specs.declared.listing.Base.{Base}
use Rattle.uc_folder.specs.declared.listing.Listed.{Listed}
use Rattle.uc_folder.specs.declared.listing.Found.{Found}
use Rattle.uc_folder.specs.declared.listing.Missing.{Missing}
use Rattle.uc_folder.specs.Device.{Batch, Device, File, first_number, is_there, is_used, past_of}
use Rattle.uc_folder.specs.Listing.{base_in, log_in, is_listed, found_of, IsFoundIn, IsListing}
use Rattle.uc_folder.specs.Worlds.{IsReadable, is_intact, found}
use Rattle.uc_folder.proofs.Sound.{Sound}
use Rattle.uc_folder.proofs.Opening.{n, h, j, n_there, n_first, base_above, h_is, used_below}

-- no current log is before the base's
pub log_least : (base : ℕ) (logs : List Listed) → base ≤ log_in base logs
log_least base [] = omega arith
log_least base (l ∷ ls) = by_test (log_least (max base l.number) ls) (log_least base ls) l.is_used
  where
    by_test : max base l.number ≤ log_in (max base l.number) ls → base ≤ log_in base ls → (b : Bool) → base ≤ log_in (cond b (max base l.number) base) ls
    by_test le same true = omega (arith, le)
    by_test le same false = same

-- ---- the greatest number of a base

abbrev pub has_number : ℕ → List Base → Bool
has_number k bases = list_any (λ (b : Base). eqb b.number k) bases

abbrev pub greatest : ℕ → List Base → ℕ
greatest a bases = fold (λ most (b : Base). max most b.number) a bases

pub greatest_least : (a : ℕ) (bases : List Base) → a ≤ greatest a bases
greatest_least a [] = omega arith
greatest_least a (b ∷ bs) = let le = greatest_least (max a b.number) bs in omega (arith, le)

greatest_above : (a k : ℕ) (bases : List Base) → has_number k bases ≡ true → k ≤ greatest a bases
greatest_above a k [] e = absurd (cc)
greatest_above a k (b ∷ bs) e =
    ⊎_elim
    (λ (here : eqb b.number k ≡ true). let same = eqb-true b.number k here in let le = greatest_least (max a b.number) bs in omega (arith, same, le))
    (λ (there : has_number k bs ≡ true). greatest_above (max a b.number) k bs there)
    (or_cases (eqb b.number k) (has_number k bs) e)

or_left : (a b : Bool) → a ≡ true → (a || b) ≡ true
or_left true b e = refl
or_left false b e = absurd (cc)

or_right : (a b : Bool) → b ≡ true → (a || b) ≡ true
or_right true b e = refl
or_right false b e = e

greatest_most : (a m : ℕ) (bases : List Base) → a ≤ m → ((k : ℕ) → has_number k bases ≡ true → k ≤ m) → greatest a bases ≤ m
greatest_most a m [] le all = le
greatest_most a m (b ∷ bs) le all =
    let here = all b.number (or_left (eqb b.number b.number) (has_number b.number bs) (eq-eqb b.number b.number refl)) in
    greatest_most (max a b.number) m bs (omega (arith, le, here)) (λ k e. all k (or_right (eqb b.number k) (has_number k bs) e))

-- ---- the greatest number of a log that has a batch

abbrev has_used : ℕ → List Listed → Bool
has_used k logs = list_any (λ (l : Listed). eqb l.number k && l.is_used) logs

and_join : (a b : Bool) → a ≡ true → b ≡ true → (a && b) ≡ true
and_join true b e f = f
and_join false b e f = absurd (cc)

log_above : (a k : ℕ) (logs : List Listed) → has_used k logs ≡ true → k ≤ log_in a logs
log_above a k [] e = absurd (cc)
log_above a k (l ∷ ls) e =
    ⊎_elim
    (λ (here : (eqb l.number k && l.is_used) ≡ true).
    let both = and_parts (eqb l.number k) l.is_used here in
    let same = eqb-true l.number k both.0 in
    let le = log_least (max a l.number) ls in
    subst (λ b. k ≤ log_in (cond b (max a l.number) a) ls) (sym both.1) (omega (arith, same, le)))
    (λ (there : has_used k ls ≡ true). log_above (cond l.is_used (max a l.number) a) k ls there)
    (or_cases (eqb l.number k && l.is_used) (has_used k ls) e)

log_most : (a m : ℕ) (logs : List Listed) → a ≤ m → ((k : ℕ) → has_used k logs ≡ true → k ≤ m) → log_in a logs ≤ m
log_most a m [] le all = le
log_most a m (l ∷ ls) le all = by_test l.is_used refl (λ b. log_most b m ls) (λ k e. all k (or_right (eqb l.number k && l.is_used) (has_used k ls) e))
  where
    by_test : (b : Bool) → l.is_used ≡ b → ((a : ℕ) → a ≤ m → ((k : ℕ) → has_used k ls ≡ true → k ≤ m) → log_in a ls ≤ m) → ((k : ℕ) → has_used k ls ≡ true → k ≤ m) → log_in (cond b (max a l.number) a) ls ≤ m
    by_test true e rest others =
        let here = all l.number (or_left (eqb l.number l.number && l.is_used) (has_used l.number ls) (and_join (eqb l.number l.number) l.is_used (eq-eqb l.number l.number refl) e)) in
        rest (max a l.number) (omega (arith, le, here)) others
    by_test false e rest others = rest a le others

-- ---- openings

intact_there : (o : Option File) → is_intact o ≡ true → is_there o ≡ true
intact_there None e = absurd (cc)
intact_there (Some f) e = refl

module _ (d : Device) (log sure : ℕ) (parts : ℕ → List Batch) (firm : List Batch) (sound : Sound d log sure parts firm) (readable : IsReadable d) (bases : List Base) (logs : List Listed) (is : IsListing d bases logs) where
  abbrev n' : ℕ
  n' = n d log sure parts firm sound

  abbrev j' : ℕ
  j' = j d log sure parts firm sound

  base_is : base_in bases ≡ n'
  base_is =
      let first = n_first d log sure parts firm sound in
      let upper : base_in bases ≤ n' = greatest_most first_number n' bases first (λ k e. base_above d log sure parts firm sound k (sym (is.bases_are k) ∙ e)) in
      let lower : n' ≤ base_in bases =
      ⊎_elim (λ (e : n' ≡ first_number). let le = greatest_least first_number bases in omega (arith, e, le))
      (λ (there : is_there (d.bases n').now ≡ true). greatest_above first_number n' bases (is.bases_are n' ∙ there)) (n_there d log sure parts firm sound) in
      omega (arith, upper, lower)

  log_is : log_in n' logs ≡ j'
  log_is =
      let upper : log_in n' logs ≤ j' = log_most n' j' logs (omega arith) (λ k e. let le = used_below d log sure parts firm sound k (sym (is.used_are k) ∙ e) in omega (arith, le)) in
      let lower : j' ≤ log_in n' logs =
      let le = log_least n' logs in
      ⊎_elim (λ (e : h d log sure parts firm sound ≡ 0). omega (arith, e, le))
      (λ (used : is_used (d.logs (h d log sure parts firm sound)).now ≡ true).
      let above = log_above n' (h d log sure parts firm sound) logs (is.used_are (h d log sure parts firm sound) ∙ used) in omega (arith, above, le))
      (h_is d log sure parts firm sound) in
      omega (arith, upper, lower)

  all_is : log_in (base_in bases) logs ≡ j'
  all_is = ap (λ b. log_in b logs) base_is ∙ log_is

  pub found_is : found_of bases logs ≡ found d (found_of bases logs).least (found_of bases logs).top
  found_is =
      let f = found_of bases logs in
      let past : f.past ≡ past_of (d.bases n').now = is.pasts_are f.base ∙ ap (λ k. past_of (d.bases k).now) base_is in
      let there : f.is_there ≡ is_there (d.logs j').now = is.logs_are f.log ∙ ap (λ k. is_there (d.logs k).now) all_is in
      ap (λ b. record { base = b; past = f.past; least = f.least; log = f.log; is_there = f.is_there; top = f.top }) base_is
      ∙ (ap (λ p. record { base = n'; past = p; least = f.least; log = f.log; is_there = f.is_there; top = f.top }) past
      ∙ (ap (λ l. record { base = n'; past = past_of (d.bases n').now; least = f.least; log = l; is_there = f.is_there; top = f.top }) all_is
      ∙ ap (λ t. record { base = n'; past = past_of (d.bases n').now; least = f.least; log = j'; is_there = t; top = f.top }) there))

  -- no log is missing
  listed : (k : ℕ) → n' ≤ k → k ≤ j' → first_number < j' → is_listed k logs ≡ true
  listed k from to more =
      is.logs_are k
      ∙ ⊎_elim (λ (lt : k < j'). intact_there (d.logs k).now (readable.logs k from lt)) (λ (le : j' ≤ k). let e : j' ≡ k = omega (arith, le, to) in subst (λ i. is_there (d.logs i).now ≡ true) e (readable.last more)) (cases_lt k j')

  pub finds : (r : Result Found Missing) → IsFoundIn bases logs r → (f : Found) × (r ≡ Ok f) × (f ≡ found d f.least f.top)
  finds (Ok f) is_found = (f, refl, is_found.0 ∙ (found_is ∙ ap (λ (g : Found). found d g.least g.top) (sym is_found.0)))
  finds (Err m) is_found =
      let all = all_is in
      let base = base_is in
      let from = is_found.0 in
      let to = is_found.1 in
      let more = is_found.2 in
      let e = sym is_found.3 ∙ listed m.0 (omega (arith, base, from)) (omega (arith, all, to)) (omega (arith, all, more)) in
      absurd (let x : false ≡ true = e in cc)

-- ---- removals

abbrev pub greatest_log : ℕ → List Listed → ℕ
greatest_log a logs = fold (λ most (l : Listed). max most l.number) a logs

abbrev pub least_base : ℕ → List Base → ℕ
least_base a bases = fold (λ least (b : Base). min least b.number) a bases

abbrev pub least_log : ℕ → List Listed → ℕ
least_log a logs = fold (λ least (l : Listed). min least l.number) a logs

top_least : (a : ℕ) (logs : List Listed) → a ≤ greatest_log a logs
top_least a [] = omega arith
top_least a (l ∷ ls) = let le = top_least (max a l.number) ls in omega (arith, le)

pub top_above : (a k : ℕ) (logs : List Listed) → is_listed k logs ≡ true → k ≤ greatest_log a logs
top_above a k [] e = absurd (cc)
top_above a k (l ∷ ls) e =
    ⊎_elim
    (λ (here : eqb l.number k ≡ true). let same = eqb-true l.number k here in let le = top_least (max a l.number) ls in omega (arith, same, le))
    (λ (there : is_listed k ls ≡ true). top_above (max a l.number) k ls there)
    (or_cases (eqb l.number k) (is_listed k ls) e)

log_below : (a : ℕ) (logs : List Listed) → least_log a logs ≤ a
log_below a [] = omega arith
log_below a (l ∷ ls) = let le = log_below (min a l.number) ls in omega (arith, le)

base_below' : (a : ℕ) (bases : List Base) → least_base a bases ≤ a
base_below' a [] = omega arith
base_below' a (b ∷ bs) = let le = base_below' (min a b.number) bs in omega (arith, le)

pub least_of_logs : (a k : ℕ) (logs : List Listed) → is_listed k logs ≡ true → least_log a logs ≤ k
least_of_logs a k [] e = absurd (cc)
least_of_logs a k (l ∷ ls) e =
    ⊎_elim
    (λ (here : eqb l.number k ≡ true). let same = eqb-true l.number k here in let le = log_below (min a l.number) ls in omega (arith, same, le))
    (λ (there : is_listed k ls ≡ true). least_of_logs (min a l.number) k ls there)
    (or_cases (eqb l.number k) (is_listed k ls) e)

least_of_bases' : (a k : ℕ) (bases : List Base) → has_number k bases ≡ true → least_base a bases ≤ k
least_of_bases' a k [] e = absurd (cc)
least_of_bases' a k (b ∷ bs) e =
    ⊎_elim
    (λ (here : eqb b.number k ≡ true). let same = eqb-true b.number k here in let le = base_below' (min a b.number) bs in omega (arith, same, le))
    (λ (there : has_number k bs ≡ true). least_of_bases' (min a b.number) k bs there)
    (or_cases (eqb b.number k) (has_number k bs) e)

pub least_of_bases : (a k : ℕ) (bases : List Base) (logs : List Listed) → has_number k bases ≡ true → least_log (least_base a bases) logs ≤ k
least_of_bases a k bases logs e = let one = least_of_bases' a k bases e in let two = log_below (least_base a bases) logs in omega (arith, one, two)
