-- Opening finds a directory in which it may continue.
use Rattle.std.proofs.Common.{◌≡◌, ℕ, zero, suc, ◌<◌, ◌≤◌, Bool, true, false, cond, not, ◌&&◌, ◌||◌, eqb, eq-eqb, ltb, ◌⊎◌, inl, inr, ⊎_elim, List, [], ◌∷◌, ◌++◌, append_assoc, length, drop, refl, sym, ap, ◌∙◌, subst, arith}
use Rattle.std.specs.Prelude.{Option, Some, None, max}
use Rattle.std.specs.List.{AllByRecursion}
use Rattle.std.proofs.lemmas.List.Prefix.{front_rest}
use Rattle.std.proofs.lemmas.Bool.{and_parts, cases_eq, cases_lt, cases_Bool, ne_eqb, le-ltb, lt-ltb}
use Rattle.std.proofs.lemmas.List.{append-nil}
use Rattle.uc_folder.specs.Device.{Batch, Record, first_whole, are_whole, are_damaged, records_of, File, Device, first_number, content, past_of, is_there, is_used, is_cut, are_none, is_empty, highest, upto, after_base, recovered}
use Rattle.uc_folder.specs.Worlds.{IsPrefixOf, IsReadable, is_intact, is_settled}
use Rattle.uc_folder.proofs.Lists.{prefix_refl, prefix_trans, prefix_under, prefix_onto, prefix_cancel, prefix_of_nil, upto_same, upto_more, upto_empty, highest_passes, highest_above, all_weaker}
use Rattle.uc_folder.proofs.Records.{first_prefix}
use Rattle.uc_folder.proofs.Sound.{IsWhole, IsBase, IsThere, IsGone, IsLog, IsUnused, IsLast, spared, Each, Sound}

-- ---- files

pub whole_content : (xs : List Batch) (f : File) → IsWhole xs f → first_whole (f.kept ++ f.waiting) ≡ xs
whole_content xs f is = ap (λ l. first_whole (f.kept ++ l)) is.waiting ∙ (ap first_whole (append-nil f.kept) ∙ is.kept)

pub whole_all : (xs : List Batch) (f : File) → IsWhole xs f → are_whole (f.kept ++ f.waiting) ≡ true
whole_all xs f is = ap (λ l. are_whole (f.kept ++ l)) is.waiting ∙ (ap are_whole (append-nil f.kept) ∙ is.whole)

-- of what stands in a file, also of what is lost, nothing else is there
pub whole_last : (xs : List Batch) (f : File) → IsWhole xs f → first_whole (f.kept ++ (f.waiting ++ f.lost)) ≡ xs
whole_last xs f is = ap (λ l. first_whole (f.kept ++ (l ++ f.lost))) is.waiting ∙ (ap (λ l. first_whole (f.kept ++ l)) is.lost ∙ (ap first_whole (append-nil f.kept) ∙ is.kept))

pub plain_last : (f : File) → f.lost ≡ [] → first_whole (f.kept ++ (f.waiting ++ f.lost)) ≡ first_whole (f.kept ++ f.waiting)
plain_last f e = ap (λ l. first_whole (f.kept ++ (f.waiting ++ l))) e ∙ ap (λ l. first_whole (f.kept ++ l)) (append-nil f.waiting)

content_last : (f : File) → IsPrefixOf (first_whole (f.kept ++ f.waiting)) (first_whole (f.kept ++ (f.waiting ++ f.lost)))
content_last f = subst (λ l. IsPrefixOf (first_whole (f.kept ++ f.waiting)) (first_whole l)) (append_assoc f.kept f.waiting f.lost) (first_prefix (f.kept ++ f.waiting) f.lost)

pub uncut : (f : File) → f.lost ≡ [] → is_cut (Some f) ≡ false
uncut f e = ap (λ l. not (are_none l)) e

-- a log of which nothing waits
none_is : (rs : List Record) → are_none rs ≡ true → rs ≡ []
none_is [] e = refl
none_is (r ∷ rs) e = absurd (cc)

not_true : (b : Bool) → not b ≡ true → b ≡ false
not_true true e = absurd (cc)
not_true false e = refl

pub settled_file : (f : File) → is_settled (Some f) ≡ true → IsWhole (content (Some f)) f × (f.suspect ≡ false)
settled_file f e =
    let one = and_parts (are_whole f.kept) (are_none f.waiting && (are_none f.lost && not f.suspect)) e in
    let two = and_parts (are_none f.waiting) (are_none f.lost && not f.suspect) one.1 in
    let three = and_parts (are_none f.lost) (not f.suspect) two.1 in
    let none : f.waiting ≡ [] = none_is f.waiting two.0 in
    (record { kept = sym (ap (λ l. first_whole (f.kept ++ l)) none ∙ ap first_whole (append-nil f.kept)); whole = one.0; waiting = none; lost = none_is f.lost three.0 }, not_true f.suspect three.1)

log_content : (part : List Batch) (o : Option File) → IsLog part o → content o ≡ part
log_content part None is = absurd is
log_content part (Some f) is = whole_content part f is

log_uncut : (part : List Batch) (o : Option File) → IsLog part o → is_cut o ≡ false
log_uncut part None is = refl
log_uncut part (Some f) is = uncut f is.lost

not_false : (b : Bool) → not b ≡ false → b ≡ true
not_false true e = refl
not_false false e = absurd (cc)

pub there_true : (o : Option File) → IsThere o → is_there o ≡ true
there_true None is = absurd is
there_true (Some f) is = refl

gone_false : (o : Option File) → (is_there o ≡ true → ⊥) → IsGone o
gone_false None nothing = tt
gone_false (Some f) nothing = nothing refl

base_below : (firm : List Batch) (parts : ℕ → List Batch) (log k : ℕ) (o : Option File) → IsBase firm parts log k o → is_there o ≡ true → k ≤ log
base_below firm parts log k None is e = absurd (cc)
base_below firm parts log k (Some f) is e = is.0

-- the batches of a base
pub record Fronted (before part : List Batch) (o : Option File) : Type 0 where
  pub front : List Batch
  pub all : content o ≡ before ++ front
  pub past : past_of o ≡ length front
  pub begins : IsPrefixOf front part

pub base_fronted : (firm : List Batch) (parts : ℕ → List Batch) (log k : ℕ) (o : Option File) → IsBase firm parts log k o → parts 0 ≡ [] → (k ≡ first_number) ⊎ (is_there o ≡ true) → Fronted (upto parts k) (parts k) o
base_fronted firm parts log k None is none (inl e) =
    let nothing : upto parts k ≡ [] = ap (upto parts) e ∙ none in
    record { front = []; all = sym nothing ∙ sym (append-nil (upto parts k)); past = refl; begins = (parts k, refl) }
base_fronted firm parts log k None is none (inr e) = absurd (cc)
base_fronted firm parts log k (Some f) is none e = record { front = is.1.front; all = whole_content (upto parts k ++ is.1.front) f is.1.file; past = is.1.past; begins = is.1.part }

base_intact : (firm : List Batch) (parts : ℕ → List Batch) (log k : ℕ) (o : Option File) → IsBase firm parts log k o → is_there o ≡ true → is_intact o ≡ true
base_intact firm parts log k None is e = absurd (cc)
base_intact firm parts log k (Some f) is e = whole_all (upto parts k ++ is.1.front) f is.1.file

log_there : (part : List Batch) (o : Option File) → IsLog part o → IsThere o
log_there part None is = is
log_there part (Some f) is = tt

log_intact : (part : List Batch) (o : Option File) → IsLog part o → is_intact o ≡ true
log_intact part None is = absurd is
log_intact part (Some f) is = whole_all part f is

empty_nil : (xs : List Batch) → not (is_empty xs) ≡ false → xs ≡ []
empty_nil [] e = refl
empty_nil (x ∷ xs) e = absurd (cc)

used_none : (o : Option File) → is_cut o ≡ false → is_used o ≡ false → IsUnused o
used_none None c e = tt
used_none (Some f) c e = plain_last f (none_is f.lost (not_false (are_none f.lost) c)) ∙ empty_nil (first_whole (f.kept ++ f.waiting)) e

unused_content : (o : Option File) → IsUnused o → content o ≡ []
unused_content None is = refl
unused_content (Some f) is = prefix_of_nil (first_whole (f.kept ++ f.waiting)) (subst (IsPrefixOf (first_whole (f.kept ++ f.waiting))) is (content_last f))

unused_false : (o : Option File) → IsUnused o → is_used o ≡ false
unused_false o is = ap (λ l. not (is_empty l)) (unused_content o is)

last_exact : (firm before part : List Batch) (o : Option File) → is_cut o ≡ false → IsLast firm before part o → IsLast firm before (content o) o
last_exact firm before part None c is = is
last_exact firm before part (Some f) c is =
    (subst (IsPrefixOf (first_whole (f.kept ++ (f.waiting ++ f.lost)))) (plain_last f (none_is f.lost (not_false (are_none f.lost) c))) (prefix_refl (first_whole (f.kept ++ (f.waiting ++ f.lost)))), is.1)

last_prefix : (firm before part : List Batch) (o : Option File) → IsLast firm before part o → IsPrefixOf (content o) part
last_prefix firm before part None is = (part, refl)
last_prefix firm before part (Some f) is = prefix_trans (first_whole (f.kept ++ f.waiting)) (first_whole (f.kept ++ (f.waiting ++ f.lost))) part (content_last f) is.0

last_unused : (firm before part : List Batch) (o : Option File) → IsLast firm before part o → IsUnused o → IsPrefixOf firm before
last_unused firm before part None is unused = is
last_unused firm before part (Some f) is unused =
    let none : first_whole f.kept ≡ [] = prefix_of_nil (first_whole f.kept) (subst (IsPrefixOf (first_whole f.kept)) unused (first_prefix f.kept (f.waiting ++ f.lost))) in
    subst (λ l. IsPrefixOf firm l) (ap (λ l. before ++ l) none ∙ append-nil before) is.1

log_last : (firm before part : List Batch) (o : Option File) → IsLog part o → IsPrefixOf firm (before ++ part) → IsLast firm before part o
log_last firm before part None is has = absurd is
log_last firm before part (Some f) is has = (subst (λ l. IsPrefixOf l part) (sym (whole_last part f is)) (prefix_refl part), subst (λ l. IsPrefixOf firm (before ++ l)) (sym is.kept) has)

pub last_firm : (firm before part : List Batch) (o : Option File) → IsLast firm before part o → IsPrefixOf firm (before ++ part)
last_firm firm before part None is = prefix_onto firm before part is
last_firm firm before part (Some f) is =
    prefix_trans firm (before ++ first_whole f.kept) (before ++ part) is.1
    (prefix_under before (first_whole f.kept) part (prefix_trans (first_whole f.kept) (first_whole (f.kept ++ (f.waiting ++ f.lost))) part (first_prefix f.kept (f.waiting ++ f.lost)) is.0))

-- all that is firm is read
content_firm : (firm before part : List Batch) (o : Option File) → IsLast firm before part o → IsPrefixOf firm (before ++ content o)
content_firm firm before part None is = prefix_onto firm before [] is
content_firm firm before part (Some f) is =
    prefix_trans firm (before ++ first_whole f.kept) (before ++ first_whole (f.kept ++ f.waiting)) is.1 (prefix_under before (first_whole f.kept) (first_whole (f.kept ++ f.waiting)) (first_prefix f.kept f.waiting))

or_cond : (a b : Bool) (xs ys : List Batch) → cond a xs ys ≡ xs → cond (a || b) xs ys ≡ xs
or_cond true b xs ys e = refl
or_cond false true xs ys e = refl
or_cond false false xs ys e = e

or_uncut : (a b : Bool) (xs ys : List Batch) → b ≡ false → cond (a || b) xs ys ≡ cond a xs ys
or_uncut true b xs ys e = refl
or_uncut false b xs ys e = ap (λ t. cond t xs ys) e

or_cut : (a b : Bool) (xs ys : List Batch) → b ≡ true → cond (a || b) xs ys ≡ xs
or_cut true b xs ys e = refl
or_cut false b xs ys e = ap (λ t. cond t xs ys) e

-- ---- the opening

module _ (d : Device) (log sure : ℕ) (parts : ℕ → List Batch) (firm : List Batch) (sound : Sound d log sure parts firm) where
  pub sound_firm : IsPrefixOf firm (upto parts log ++ parts log)
  sound_firm = last_firm firm (upto parts log) (parts log) (d.logs log).now sound.last

  abbrev pub has_base : ℕ → Bool
  has_base k = is_there (d.bases k).now

  abbrev pub has_log : ℕ → Bool
  has_log k = is_used (d.logs k).now

  abbrev pub m : ℕ
  m = highest has_base d.names

  abbrev pub n : ℕ
  n = max first_number m

  abbrev pub h : ℕ
  h = highest has_log d.names

  abbrev pub read : ℕ → List Batch
  read k = cond (ltb k n) (parts k) (content (d.logs k).now)

  pub n_there : (n ≡ first_number) ⊎ (has_base n ≡ true)
  n_there =
      ⊎_elim (λ (e : m ≡ 0). inl (omega (arith, e)))
      (λ (is : has_base m ≡ true).
      ⊎_elim (λ (e : m ≡ 0). inl (omega (arith, e))) (λ (ne : m ≡ 0 → ⊥). let e : m ≡ n = omega (arith, ne) in inr (subst (λ i. has_base i ≡ true) e is)) (cases_eq m 0))
      (highest_passes has_base d.names)

  pub n_first : first_number ≤ n
  n_first = omega arith

  pub n_below : n ≤ log
  n_below =
      let a = sound.first in
      let b = sound.reached in
      ⊎_elim (λ (e : n ≡ first_number). omega (arith, e, a, b)) (λ (is : has_base n ≡ true). base_below firm parts log n (d.bases n).now (sound.bases n).0 is) n_there

  pub base_above : (k : ℕ) → has_base k ≡ true → k ≤ n
  base_above k is =
      let le = base_below firm parts log k (d.bases k).now (sound.bases k).0 is in
      let top = sound.named in
      let above : k ≤ m = highest_above has_base d.names k (omega (arith, le, top)) is in
      omega (arith, above)

  pub sure_below : sure ≤ n
  sure_below = ⊎_elim (λ (e : sure ≡ first_number). let a = n_first in omega (arith, e, a)) (λ (is : Each IsThere (d.bases sure)). base_above sure (there_true (d.bases sure).now is.0)) sound.there

  h_below : h ≤ log
  h_below =
      ⊎_elim (λ (e : h ≡ 0). omega (arith, e))
      (λ (is : has_log h ≡ true).
      ⊎_elim
      (λ (lt : log < h). absurd (let no = unused_false (d.logs h).now (sound.later h lt).0 in let x : true ≡ false = sym is ∙ no in cc))
      (λ (le : h ≤ log). le) (cases_lt log h))
      (highest_passes has_log d.names)

  pub h_is : (h ≡ 0) ⊎ (has_log h ≡ true)
  h_is = highest_passes has_log d.names

  -- no log after that has a batch
  pub used_below : (k : ℕ) → has_log k ≡ true → k ≤ h
  used_below k is =
      ⊎_elim
      (λ (lt : log < k). absurd (let no = unused_false (d.logs k).now (sound.later k lt).0 in let x : true ≡ false = sym is ∙ no in cc))
      (λ (le : k ≤ log). let top = sound.named in highest_above has_log d.names k (omega (arith, le, top)) is) (cases_lt log k)

  abbrev pub j : ℕ
  j = max n h

  pub j_below : j ≤ log
  j_below = let a = n_below in let b = h_below in omega (arith, a, b)

  pub n_j : n ≤ j
  n_j = omega arith

  sure_j : sure ≤ j
  sure_j = let a = sure_below in let b = n_j in omega (arith, a, b)

  -- records of a log are lost only where others are read
  uncut_above : (k : ℕ) → j < k → k ≤ log → is_cut (d.logs k).now ≡ false
  uncut_above k lt le =
      ⊎_elim (λ (lt' : k < log). log_uncut (parts k) (d.logs k).now (sound.older k (let a = sure_j in omega (arith, a, lt)) lt').0)
      (λ (ge : log ≤ k).
      let e : log ≡ k = omega (arith, le, ge) in
      ⊎_elim
      (λ (c : is_cut (d.logs k).now ≡ true).
      let used : has_log k ≡ true = subst (λ i. is_cut (d.logs i).now ≡ true → has_log i ≡ true) e sound.cut c in
      let top = sound.named in
      let above : k ≤ h = highest_above has_log d.names k (omega (arith, e, top)) used in
      absurd (omega (arith, above, lt)))
      (λ (c : is_cut (d.logs k).now ≡ false). c) (cases_Bool (is_cut (d.logs k).now)))
      (cases_lt k log)

  unused_above : (k : ℕ) → j < k → k ≤ log → IsUnused (d.logs k).now
  unused_above k lt le =
      used_none (d.logs k).now (uncut_above k lt le)
      (⊎_elim
      (λ (is : has_log k ≡ true). let top = sound.named in let above : k ≤ h = highest_above has_log d.names k (omega (arith, le, top)) is in absurd (omega (arith, above, lt)))
      (λ (is : has_log k ≡ false). is) (cases_Bool (has_log k)))

  pub read_at : (k : ℕ) → n ≤ k → read k ≡ content (d.logs k).now
  read_at k le = ap (λ b. cond b (parts k) (content (d.logs k).now)) (le-ltb k n le)

  read_below : (k : ℕ) → k < log → read k ≡ parts k
  read_below k lt =
      ⊎_elim
      (λ (lt' : k < n). ap (λ b. cond b (parts k) (content (d.logs k).now)) (lt-ltb k n lt'))
      (λ (le : n ≤ k). read_at k le ∙ log_content (parts k) (d.logs k).now (sound.older k (let a = sure_below in omega (arith, a, le)) lt).0)
      (cases_lt k n)

  pub read_none : read 0 ≡ []
  read_none = let a = n_first in ap (λ b. cond b (parts 0) (content (d.logs 0).now)) (lt-ltb 0 n (omega (arith, a))) ∙ sound.none

  pub upto_read : (k : ℕ) → k ≤ log → upto read k ≡ upto parts k
  upto_read k le = upto_same read parts k (λ i lt. read_below i (omega (arith, lt, le)))

  -- of the logs after the current one nothing is read
  none_above : (k : ℕ) → suc j ≤ k → k < log → parts k ≡ []
  none_above k le lt =
      let a = sure_j in
      sym (log_content (parts k) (d.logs k).now (sound.older k (omega (arith, a, le)) lt).0) ∙ unused_content (d.logs k).now (unused_above k (omega (arith, le)) (omega (arith, lt)))

  firm_below : j < log → IsPrefixOf firm (upto parts (suc j))
  firm_below lt =
      let all = last_unused firm (upto parts log) (parts log) (d.logs log).now sound.last (unused_above log lt (omega arith)) in
      subst (λ l. IsPrefixOf firm l) (upto_empty parts (suc j) log (omega (arith, lt)) none_above) all

  -- what is submitted from then on
  abbrev pub own : ℕ → List Batch
  own k = cond (ltb k n || is_cut (d.logs k).now) (parts k) (content (d.logs k).now)

  own_below : (k : ℕ) → k < log → own k ≡ parts k
  own_below k lt = or_cond (ltb k n) (is_cut (d.logs k).now) (parts k) (content (d.logs k).now) (read_below k lt)

  pub own_uncut : (k : ℕ) → is_cut (d.logs k).now ≡ false → own k ≡ read k
  own_uncut k e = or_uncut (ltb k n) (is_cut (d.logs k).now) (parts k) (content (d.logs k).now) e

  own_cut : (k : ℕ) → is_cut (d.logs k).now ≡ true → own k ≡ parts k
  own_cut k e = or_cut (ltb k n) (is_cut (d.logs k).now) (parts k) (content (d.logs k).now) e

  read_part : (k : ℕ) → k ≤ log → IsPrefixOf (read k) (parts k)
  read_part k le =
      ⊎_elim (λ (lt : k < log). subst (λ l. IsPrefixOf l (parts k)) (sym (read_below k lt)) (prefix_refl (parts k)))
      (λ (ge : log ≤ k).
      let e : log ≡ k = omega (arith, le, ge) in
      subst (λ i. IsPrefixOf (read i) (parts i)) e (subst (λ l. IsPrefixOf l (parts log)) (sym (read_at log n_below)) (last_prefix firm (upto parts log) (parts log) (d.logs log).now sound.last)))
      (cases_lt k log)

  -- no less than what was read
  pub read_own : (k : ℕ) → k ≤ log → IsPrefixOf (read k) (own k)
  read_own k le =
      ⊎_elim (λ (c : is_cut (d.logs k).now ≡ true). subst (IsPrefixOf (read k)) (sym (own_cut k c)) (read_part k le))
      (λ (c : is_cut (d.logs k).now ≡ false). subst (IsPrefixOf (read k)) (sym (own_uncut k c)) (prefix_refl (read k)))
      (cases_Bool (is_cut (d.logs k).now))

  pub upto_own : (k : ℕ) → k ≤ log → upto own k ≡ upto parts k
  upto_own k le = upto_same own parts k (λ i lt. own_below i (omega (arith, lt, le)))

  own_none : own 0 ≡ []
  own_none = let a = sound.first in let b = sound.reached in own_below 0 (omega (arith, a, b)) ∙ sound.none

  abbrev LastAt : ℕ → Type 0
  LastAt i = IsLast firm (upto own i) (own i) (d.logs i).now

  last_same : LastAt log
  last_same =
      subst (λ before. IsLast firm before (own log) (d.logs log).now) (sym (upto_own log (omega arith)))
      (⊎_elim (λ (c : is_cut (d.logs log).now ≡ true). subst (λ part. IsLast firm (upto parts log) part (d.logs log).now) (sym (own_cut log c)) sound.last)
      (λ (c : is_cut (d.logs log).now ≡ false).
      subst (λ part. IsLast firm (upto parts log) part (d.logs log).now) (sym (own_uncut log c ∙ read_at log n_below)) (last_exact firm (upto parts log) (parts log) (d.logs log).now c sound.last))
      (cases_Bool (is_cut (d.logs log).now)))

  last_lower : (i : ℕ) → sure ≤ i → i < log → IsPrefixOf firm (upto parts (suc i)) → LastAt i
  last_lower i le lt has =
      subst (λ before. IsLast firm before (own i) (d.logs i).now) (sym (upto_own i (omega (arith, lt))))
      (subst (λ part. IsLast firm (upto parts i) part (d.logs i).now) (sym (own_below i lt)) (log_last firm (upto parts i) (parts i) (d.logs i).now (sound.older i le lt).0 has))

  firm_same : IsPrefixOf firm (upto parts log ++ read log)
  firm_same = subst (λ l. IsPrefixOf firm (upto parts log ++ l)) (sym (read_at log n_below)) (content_firm firm (upto parts log) (parts log) (d.logs log).now sound.last)

  same_or_below : (P : ℕ → Type 0) → P log → (j < log → P j) → P j
  same_or_below P same below =
      ⊎_elim (λ (lt : j < log). below lt) (λ (le : log ≤ j). let e : log ≡ j = let a = j_below in omega (arith, a, le) in subst P e same) (cases_lt j log)

  -- the batches that a base has of its log are there
  front_read : (k : ℕ) → k ≤ log → (front : List Batch) → IsPrefixOf front (parts k) → IsPrefixOf (upto parts k ++ front) firm → IsPrefixOf front (read k)
  front_read k le front begins firmly =
      ⊎_elim
      (λ (lt : k < log). subst (IsPrefixOf front) (sym (read_below k lt)) begins)
      (λ (ge : log ≤ k).
      let e : log ≡ k = omega (arith, le, ge) in
      subst (λ i. IsPrefixOf front (read i)) e
      (prefix_cancel (upto parts log) front (read log) (prefix_trans (upto parts log ++ front) firm (upto parts log ++ read log) (subst (λ i. IsPrefixOf (upto parts i ++ front) firm) (sym e) firmly) firm_same)))
      (cases_lt k log)

  pub base_read : (k : ℕ) → k ≤ j → (o : Option File) → IsBase firm parts log k o → IsBase firm read j k o
  base_read k le None is = tt
  base_read k le (Some f) is =
      let same : upto parts k ≡ upto read k = sym (upto_read k is.0) in (
        le,
        record {
          front = is.1.front;
          file = subst (λ before. IsWhole (before ++ is.1.front) f) same is.1.file;
          past = is.1.past;
          part = front_read k is.0 is.1.front is.1.part is.1.firm;
          firm = subst (λ before. IsPrefixOf (before ++ is.1.front) firm) same is.1.firm;
        },
      )

  pub base_own : (k : ℕ) → k ≤ j → (o : Option File) → IsBase firm parts log k o → IsBase firm own j k o
  base_own k le None is = tt
  base_own k le (Some f) is =
      let same : upto parts k ≡ upto own k = sym (upto_own k is.0) in (
        le,
        record {
          front = is.1.front;
          file = subst (λ before. IsWhole (before ++ is.1.front) f) same is.1.file;
          past = is.1.past;
          part = prefix_trans is.1.front (read k) (own k) (front_read k is.0 is.1.front is.1.part is.1.firm) (read_own k is.0);
          firm = subst (λ before. IsPrefixOf (before ++ is.1.front) firm) same is.1.firm;
        },
      )

  gone_base : (k : ℕ) (o : Option File) → IsGone o → IsBase firm own j k o
  gone_base k None is = tt
  gone_base k (Some f) is = absurd is

  bases_own : (k : ℕ) → Each (IsBase firm own j k) (d.bases k)
  bases_own k =
      ⊎_elim
      (λ (lt : j < k).
      let gone = gone_false (d.bases k).now (λ is.
      let above = base_above k is in let c = n_j in absurd (omega (arith, above, c, lt))) in
      let a = sure_j in
      (gone_base k (d.bases k).now gone, all_weaker IsGone (IsBase firm own j k) (gone_base k) (d.bases k).before (sound.newer k (omega (arith, a, lt)) gone)))
      (λ (le : k ≤ j). (base_own k le (d.bases k).now (sound.bases k).0, all_weaker (IsBase firm parts log k) (IsBase firm own j k) (base_own k le) (d.bases k).before (sound.bases k).1))
      (cases_lt j k)

  abbrev SpareAt : ℕ → Type 0
  SpareAt i = AllByRecursion (IsLast firm (upto own i) (spared (d.logs i).now (own i))) (d.logs i).before

  -- if a log goes on, no name stands for another file: they were synced
  abbrev pub IsAlone : Type 0
  IsAlone = is_there (d.logs j).now ≡ true → (k : ℕ) → (d.logs k).before ≡ []

  older_there : j < log → is_there (d.logs j).now ≡ true
  older_there lt = there_true (d.logs j).now (log_there (parts j) (d.logs j).now (sound.older j sure_j lt).0)

  later_at : IsAlone → (k : ℕ) → j < k → Each IsUnused (d.logs k)
  later_at alone k lt =
      ⊎_elim (λ (above : log < k). sound.later k above)
      (λ (le : k ≤ log). (unused_above k lt le, subst (AllByRecursion IsUnused) (sym (alone (older_there (omega (arith, lt, le))) k)) tt))
      (cases_lt log k)

  spare_none : (d.logs log).now ≡ None → SpareAt log
  spare_none e =
      subst (λ before. AllByRecursion (IsLast firm before (spared (d.logs log).now (own log))) (d.logs log).before) (sym (upto_own log (omega arith)))
      (subst (λ l. AllByRecursion (IsLast firm (upto parts log) l) (d.logs log).before) (ap (λ o. spared o (parts log)) e ∙ sym (ap (λ o. spared o (own log)) e)) sound.spare)

  spare_at : IsAlone → (o : Option File) → (d.logs j).now ≡ o → SpareAt j
  spare_at alone (Some f) e = subst (AllByRecursion (IsLast firm (upto own j) (spared (d.logs j).now (own j)))) (sym (alone (ap is_there e) j)) tt
  spare_at alone None e =
      ⊎_elim (λ (lt : j < log). absurd (let x : false ≡ true = sym (ap is_there e) ∙ older_there lt in cc))
      (λ (le : log ≤ j). let same : log ≡ j = let a = j_below in omega (arith, a, le) in subst SpareAt same (spare_none (subst (λ i. (d.logs i).now ≡ None) (sym same) e)))
      (cases_lt j log)

  begun_at : first_number < j → Each IsThere (d.logs j)
  begun_at =
      same_or_below (λ i. first_number < i → Each IsThere (d.logs i)) sound.begun
      (λ lt z. let is = sound.older j sure_j lt in (log_there (parts j) (d.logs j).now is.0, subst (AllByRecursion IsThere) (sym is.1) tt))

  -- all that is firm is read
  pub opened_firm : IsPrefixOf firm (upto read j ++ read j)
  opened_firm =
      same_or_below (λ i. IsPrefixOf firm (upto read i ++ read i)) (subst (λ before. IsPrefixOf firm (before ++ read log)) (sym (upto_read log (omega arith))) firm_same)
      (λ lt. subst (IsPrefixOf firm) (sym (upto_read (suc j) (omega (arith, lt)))) (firm_below lt))

  cut_at : is_cut (d.logs j).now ≡ true → has_log j ≡ true
  cut_at =
      same_or_below (λ i. is_cut (d.logs i).now ≡ true → has_log i ≡ true) sound.cut
      (λ lt c. absurd (let x : true ≡ false = sym c ∙ log_uncut (parts j) (d.logs j).now (sound.older j sure_j lt).0 in cc))

  -- no record is lost of the log that goes on, if that holds of the one that was written
  pub opened_uncut : is_cut (d.logs log).now ≡ false → is_cut (d.logs j).now ≡ false
  opened_uncut whole = same_or_below (λ i. is_cut (d.logs i).now ≡ false) whole (λ lt. log_uncut (parts j) (d.logs j).now (sound.older j sure_j lt).0)

  pub opened_sound : IsAlone → Sound d j sure own firm
  opened_sound alone = record {
    bases = bases_own;
    newer = sound.newer;
    there = sound.there;
    first = sound.first;
    reached = sure_j;
    older = λ k le lt. subst (λ part. IsLog part (d.logs k).now × ((d.logs k).before ≡ [])) (sym (own_below k (let a = j_below in omega (arith, a, lt)))) (sound.older k le (let a = j_below in omega (arith, a, lt)));
    last = same_or_below LastAt last_same (λ lt. last_lower j sure_j lt (firm_below lt));
    spare = spare_at alone (d.logs j).now refl;
    begun = begun_at;
    cut = cut_at;
    later = later_at alone;
    named = let a = j_below in let b = sound.named in omega (arith, a, b);
    stands = subst (λ l. IsPrefixOf l firm) (sym (upto_own j j_below)) (prefix_trans (upto parts j) (upto parts log) firm (upto_more parts j log j_below) sound.stands);
    none = own_none;
  }

  -- ---- reading

  after_none : (i : ℕ) → i ≤ n → upto (after_base d) i ≡ []
  after_none i le = upto_empty (after_base d) 0 i (omega arith) (λ k l lt. ap (λ b. cond b [] (cond (eqb k n) (drop (past_of (d.bases k).now) (content (d.logs k).now)) (content (d.logs k).now))) (lt-ltb k n (omega (arith, lt, le))))

  base_is : Fronted (upto read n) (read n) (d.bases n).now
  base_is = base_fronted firm read j n (d.bases n).now (base_read n n_j (d.bases n).now (sound.bases n).0) read_none n_there

  after_at : (k : ℕ) → n < k → after_base d k ≡ read k
  after_at k lt =
      ap (λ b. cond b [] (cond (eqb k n) (drop (past_of (d.bases k).now) (content (d.logs k).now)) (content (d.logs k).now))) (le-ltb k n (omega (arith, lt)))
      ∙ (ap (λ b. cond b (drop (past_of (d.bases k).now) (content (d.logs k).now)) (content (d.logs k).now)) (ne_eqb k n (omega (arith, lt))) ∙ sym (read_at k (omega (arith, lt))))

  after_here : read n ≡ base_is.front ++ after_base d n
  after_here =
      let here : after_base d n ≡ drop (past_of (d.bases n).now) (content (d.logs n).now) =
      ap (λ b. cond b [] (cond (eqb n n) (drop (past_of (d.bases n).now) (content (d.logs n).now)) (content (d.logs n).now))) (le-ltb n n (omega arith))
      ∙ ap (λ b. cond b (drop (past_of (d.bases n).now) (content (d.logs n).now)) (content (d.logs n).now)) (eq-eqb n n refl) in
      let rest : drop (length base_is.front) (read n) ≡ base_is.begins.0 = front_rest (read n) base_is.front base_is.begins.0 (sym base_is.begins.1) in
      let left : after_base d n ≡ base_is.begins.0 = here ∙ (ap (λ i. drop i (content (d.logs n).now)) base_is.past ∙ (ap (drop (length base_is.front)) (sym (read_at n (omega arith))) ∙ rest)) in
      sym (ap (λ l. base_is.front ++ l) left ∙ base_is.begins.1)

  split : (i : ℕ) → n < i → upto read i ≡ (upto read n ++ base_is.front) ++ upto (after_base d) i
  split zero lt = absurd (omega (arith, lt))
  split (suc i) lt =
      ⊎_elim
      (λ (e : n ≡ i).
      let here : upto read (suc n) ≡ (upto read n ++ base_is.front) ++ upto (after_base d) (suc n) =
      ap (λ l. upto read n ++ l) after_here
      ∙ (sym (append_assoc (upto read n) base_is.front (after_base d n)) ∙ ap (λ l. (upto read n ++ base_is.front) ++ (l ++ after_base d n)) (sym (after_none n (omega arith)))) in
      subst (λ i. upto read (suc i) ≡ (upto read n ++ base_is.front) ++ upto (after_base d) (suc i)) e here)
      (λ (ne : n ≡ i → ⊥).
      let lt' : n < i = omega (arith, ne, lt) in
      ap (λ l. l ++ read i) (split i lt') ∙ (append_assoc (upto read n ++ base_is.front) (upto (after_base d) i) (read i) ∙ ap (λ l. (upto read n ++ base_is.front) ++ (upto (after_base d) i ++ l)) (sym (after_at i lt'))))
      (cases_eq n i)

  pub opened_reads : upto read j ++ read j ≡ recovered d
  opened_reads = let le = n_j in split (suc j) (omega (arith, le)) ∙ ap (λ l. l ++ upto (after_base d) (suc j)) (sym base_is.all)

  pub opened_prefix : IsPrefixOf (upto read j ++ read j) (upto parts log ++ parts log)
  opened_prefix =
      same_or_below (λ i. IsPrefixOf (upto read i ++ read i) (upto parts log ++ parts log))
      (subst (λ before. IsPrefixOf (before ++ read log) (upto parts log ++ parts log)) (sym (upto_read log (omega arith)))
      (subst (λ part. IsPrefixOf (upto parts log ++ part) (upto parts log ++ parts log)) (sym (read_at log n_below))
      (prefix_under (upto parts log) (content (d.logs log).now) (parts log) (last_prefix firm (upto parts log) (parts log) (d.logs log).now sound.last))))
      (λ lt.
      subst (λ l. IsPrefixOf l (upto parts log ++ parts log)) (sym (upto_read (suc j) (omega (arith, lt))))
      (prefix_onto (upto parts (suc j)) (upto parts log) (parts log) (upto_more parts (suc j) log (omega (arith, lt)))))

  -- the present log is read, and all before it
  pub opened_answered : (xs : List Batch) → IsPrefixOf xs (content (d.logs log).now) → IsPrefixOf (upto parts log ++ xs) (upto read j ++ read j)
  opened_answered xs has =
      same_or_below (λ i. IsPrefixOf (upto parts log ++ xs) (upto read i ++ read i))
      (subst (λ before. IsPrefixOf (upto parts log ++ xs) (before ++ read log)) (sym (upto_read log (omega arith)))
      (subst (λ part. IsPrefixOf (upto parts log ++ xs) (upto parts log ++ part)) (sym (read_at log n_below)) (prefix_under (upto parts log) xs (content (d.logs log).now) has)))
      (λ lt.
      let none : xs ≡ [] = prefix_of_nil xs (subst (IsPrefixOf xs) (unused_content (d.logs log).now (unused_above log lt (omega arith))) has) in
      let all : upto parts log ++ xs ≡ upto read (suc j) =
      ap (λ l. upto parts log ++ l) none ∙ (append-nil (upto parts log) ∙ (upto_empty parts (suc j) log (omega (arith, lt)) none_above ∙ sym (upto_read (suc j) (omega (arith, lt))))) in
      subst (IsPrefixOf (upto parts log ++ xs)) all (prefix_refl (upto parts log ++ xs)))

  pub opened_readable : ((k : ℕ) → are_damaged (records_of (d.logs k).now) ≡ false) → IsReadable d
  opened_readable whole = record {
    base = λ lt. base_intact firm parts log n (d.bases n).now (sound.bases n).0 (⊎_elim (λ (e : n ≡ first_number). absurd (omega (arith, e, lt))) (λ (is : has_base n ≡ true). is) n_there);
    logs = λ k le lt. log_intact (parts k) (d.logs k).now (sound.older k (let a = sure_below in omega (arith, a, le)) (let a = j_below in omega (arith, a, lt))).0;
    last = λ lt. there_true (d.logs j).now (begun_at lt).0;
    whole = whole;
  }
