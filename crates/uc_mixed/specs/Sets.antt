-- Sets of byte strings. Each member is spelled as two bytes of its length, low byte first, and its bytes.
--
-- Any bytes are read as the members that are whole, in the order in which they stand: a member that is cut off ends them. A union merges the
-- two lists, and takes a member once that both have next. So it groups freely whether or not its arguments are sorted, and a union of
-- ascending lists is ascending.
use Rattle.std.specs.Prelude.{◌≡◌, ℕ, ◌+◌, ◌*◌, ◌/◌, ◌%◌, ◌<◌, ◌≤◌, nat_lt, Bool, true, false, ◌&&◌, List, [], ◌∷◌, ◌++◌, length, take, drop, Option, Some, None, if◌then◌else◌}
use Rattle.std.specs.declared.cmp.Ordering.{Ordering}
use Rattle.std.specs.declared.cmp.Ordering.TheVariants.{Less, Equal, Greater}
use Rattle.std.specs.Ordering.{is_lt, ordering_reverse}
use Rattle.std.proofs.Common.{zero, suc, ap, ◌∙◌, sym, refl, arith, length-append, length-drop}
use Rattle.std.proofs.lemmas.Bool.Decides.{nat_tests}
use Rattle.std.proofs.lemmas.Cmp.{nat_list_cmp_total, alike_right}
use Rattle.std.proofs.lemmas.List.{nil_from_length, take_at, drop_at}
use Rattle.uc_bytes.specs.Bytes.{bytes_cmp}

-- a member as bytes
abbrev pub member_bytes : List ℕ → List ℕ
member_bytes m = length m % 256 ∷ length m / 256 ∷ m

-- members as bytes
abbrev pub set_bytes : List (List ℕ) → List ℕ
set_bytes [] = []
set_bytes (m ∷ ms) = member_bytes m ++ set_bytes ms

-- the first member, and the bytes after it
pub record First : Type 0 where
  pub member : List ℕ
  pub others : List ℕ

abbrev first_of : ℕ → List ℕ → Option First
first_of n bytes = if nat_lt (length bytes) n then None else Some (record { member = take n bytes; others = drop n bytes })

abbrev pub first_member : List ℕ → Option First
first_member [] = None
first_member (low ∷ []) = None
first_member (low ∷ high ∷ bytes) = first_of (low + 256 * high) bytes

abbrev pub members_by : Option First → (List ℕ → List (List ℕ)) → List (List ℕ)
members_by None more = []
members_by (Some f) more = f.member ∷ more f.others

abbrev pub members_in : ℕ → List ℕ → List (List ℕ)
members_in zero bytes = []
members_in (suc n) bytes = members_by (first_member bytes) (λ others. members_in n others)

-- the members at the start of some bytes
abbrev pub members : List ℕ → List (List ℕ)
members bytes = members_in (length bytes) bytes

-- the first members of two lists by their comparison
abbrev pub taken : Ordering → List ℕ → List ℕ → List (List ℕ) → List (List ℕ) → List (List ℕ) → List (List ℕ)
taken Less x y left both right = x ∷ left
taken Equal x y left both right = x ∷ both
taken Greater x y left both right = y ∷ right

abbrev pub united_from : List ℕ → (List (List ℕ) → List (List ℕ)) → List (List ℕ) → List (List ℕ)
united_from x more [] = x ∷ more []
united_from x more (y ∷ ys) = taken (bytes_cmp x y) x y (more (y ∷ ys)) (more ys) (united_from x more ys)

-- two lists merged: the lesser of the first members comes first, and once if both have it
abbrev pub united : List (List ℕ) → List (List ℕ) → List (List ℕ)
united [] ys = ys
united (x ∷ xs) ys = united_from x (united xs) ys

-- the set of the members of either
abbrev pub union_of : List ℕ → List ℕ → List ℕ
union_of x y = set_bytes (united (members x) (members y))

-- ---- members are read as they were written

abbrev IsLess : Option First → ℕ → Type 0
IsLess None n = Unit {0}
IsLess (Some f) n = length f.others < n

first_less : (n : ℕ) (bytes : List ℕ) (b : Bool) (m : ℕ) → length bytes < m → IsLess (if b then None else Some (record { member = take n bytes; others = drop n bytes })) m
first_less n bytes true m lt = tt
first_less n bytes false m lt = let e = length-drop n bytes in omega (arith, e, lt)

less_by : (bytes : List ℕ) → IsLess (first_member bytes) (length bytes)
less_by [] = tt
less_by (low ∷ []) = tt
less_by (low ∷ high ∷ bytes) = first_less (low + 256 * high) bytes (nat_lt (length bytes) (low + 256 * high)) (suc (suc (length bytes))) (omega arith)

less_at : (o : Option First) (f : First) (n : ℕ) → o ≡ Some f → IsLess o n → length f.others < n
less_at None f n e h = absurd cc
less_at (Some g) f n e h = let same : g ≡ f = cc in let l = ap (λ (r : First). length r.others) same in omega (arith, l, h)

pub others-shorter : (bytes : List ℕ) (f : First) → first_member bytes ≡ Some f → length f.others < length bytes
others-shorter bytes f e = less_at (first_member bytes) f (length bytes) e (less_by bytes)

same_by : (n m : ℕ) (x : List ℕ) → ((f : First) → first_member x ≡ Some f → members_in n f.others ≡ members_in m f.others) → (o : Option First) → first_member x ≡ o
    → members_by o (λ others. members_in n others) ≡ members_by o (λ others. members_in m others)
same_by n m x rec None e = refl
same_by n m x rec (Some f) e = ap (λ (l : List (List ℕ)). f.member ∷ l) (rec f e)

enough : (n m : ℕ) (x : List ℕ) → length x ≤ n → length x ≤ m → members_in n x ≡ members_in m x
enough zero zero x p q = refl
enough zero (suc m) x p q = let e : x ≡ [] = nil_from_length x (omega arith) in sym (ap (members_in (suc m)) e)
enough (suc n) zero x p q = let e : x ≡ [] = nil_from_length x (omega arith) in ap (members_in (suc n)) e
enough (suc n) (suc m) x p q =
    same_by n m x (λ f e. let lt = others-shorter x f e in enough n m f.others (omega (arith, lt, p)) (omega (arith, lt, q))) (first_member x) refl

pub members-none : (x : List ℕ) → first_member x ≡ None → members x ≡ []
members-none x e = enough (length x) (suc (length x)) x (omega arith) (omega arith) ∙ ap (λ (o : Option First). members_by o (λ others. members_in (length x) others)) e

pub members-more : (x : List ℕ) (f : First) → first_member x ≡ Some f → members x ≡ f.member ∷ members f.others
members-more x f e =
    let lt = others-shorter x f e in
    enough (length x) (suc (length x)) x (omega arith) (omega arith)
    ∙ ap (λ (o : Option First). members_by o (λ others. members_in (length x) others)) e
    ∙ ap (λ (l : List (List ℕ)). f.member ∷ l) (enough (length x) (length f.others) f.others (omega (arith, lt)) (omega arith))

first-own : (n : ℕ) (m bytes : List ℕ) → n ≡ length m → first_of n (m ++ bytes) ≡ Some (record { member = m; others = bytes })
first-own n m bytes e =
    let long = length-append m bytes in
    let fits : nat_lt (length (m ++ bytes)) n ≡ false = grind (arith, nat_tests, long, e) in
    ap (λ (b : Bool). if b then None else Some (record { member = take n (m ++ bytes); others = drop n (m ++ bytes) })) fits
    ∙ ap (λ (l : List ℕ). Some (record { member = l; others = drop n (m ++ bytes) })) (take_at m bytes n (sym e))
    ∙ ap (λ (l : List ℕ). Some (record { member = m; others = l })) (drop_at m bytes n (sym e))

pub member-own : (m bytes : List ℕ) → first_member (member_bytes m ++ bytes) ≡ Some (record { member = m; others = bytes })
member-own m bytes = first-own (length m % 256 + 256 * (length m / 256)) m bytes (omega arith)

pub members-own : (ms : List (List ℕ)) → members (set_bytes ms) ≡ ms
members-own [] = refl
members-own (m ∷ ms) =
    members-more (member_bytes m ++ set_bytes ms) (record { member = m; others = set_bytes ms }) (member-own m (set_bytes ms))
    ∙ ap (λ (l : List (List ℕ)). m ∷ l) (members-own ms)

-- ---- unions group freely

pub united-none : (xs : List (List ℕ)) → united xs [] ≡ xs
united-none [] = refl
united-none (x ∷ xs) = ap (λ (l : List (List ℕ)). x ∷ l) (united-none xs)

pub united-less : (x : List ℕ) (xs : List (List ℕ)) (y : List ℕ) (ys : List (List ℕ)) → bytes_cmp x y ≡ Less → united (x ∷ xs) (y ∷ ys) ≡ x ∷ united xs (y ∷ ys)
united-less x xs y ys e = ap (λ (o : Ordering). taken o x y (united xs (y ∷ ys)) (united xs ys) (united (x ∷ xs) ys)) e

pub united-same : (x : List ℕ) (xs : List (List ℕ)) (y : List ℕ) (ys : List (List ℕ)) → bytes_cmp x y ≡ Equal → united (x ∷ xs) (y ∷ ys) ≡ x ∷ united xs ys
united-same x xs y ys e = ap (λ (o : Ordering). taken o x y (united xs (y ∷ ys)) (united xs ys) (united (x ∷ xs) ys)) e

pub united-greater : (x : List ℕ) (xs : List (List ℕ)) (y : List ℕ) (ys : List (List ℕ)) → bytes_cmp x y ≡ Greater → united (x ∷ xs) (y ∷ ys) ≡ y ∷ united (x ∷ xs) ys
united-greater x xs y ys e = ap (λ (o : Ordering). taken o x y (united xs (y ∷ ys)) (united xs ys) (united (x ∷ xs) ys)) e

less_through : (x y z : List ℕ) → bytes_cmp x y ≡ Greater → bytes_cmp y z ≡ Greater → bytes_cmp x z ≡ Greater
less_through x y z p q =
    let a : bytes_cmp y x ≡ Less = nat_list_cmp_total.antisymm y x ∙ ap ordering_reverse p in
    let b : bytes_cmp z y ≡ Less = nat_list_cmp_total.antisymm z y ∙ ap ordering_reverse q in
    nat_list_cmp_total.antisymm x z ∙ ap ordering_reverse (nat_list_cmp_total.trans z y x b a)

-- unions of three lists of at most `n` members group freely
abbrev GroupsTo : ℕ → Type 0
GroupsTo n = (xs ys zs : List (List ℕ)) → length xs + length ys + length zs ≤ n → united (united xs ys) zs ≡ united xs (united ys zs)

module _ (n : ℕ) (rec : GroupsTo n) (x : List ℕ) (xs : List (List ℕ)) (y : List ℕ) (ys : List (List ℕ)) (z : List ℕ) (zs : List (List ℕ)) (le : length xs + length ys + length zs + 3 ≤ suc n) where
  abbrev Grouped : Type 0
  Grouped = united (united (x ∷ xs) (y ∷ ys)) (z ∷ zs) ≡ united (x ∷ xs) (united (y ∷ ys) (z ∷ zs))

  -- the first member is that of the first list alone
  first_alone : bytes_cmp x y ≡ Less → bytes_cmp x z ≡ Less → (o : Ordering) → bytes_cmp y z ≡ o → Grouped
  first_alone p q o e =
      ap (λ (l : List (List ℕ)). united l (z ∷ zs)) (united-less x xs y ys p)
      ∙ united-less x (united xs (y ∷ ys)) z zs q
      ∙ ap (λ (l : List (List ℕ)). x ∷ l) (rec xs (y ∷ ys) (z ∷ zs) (omega (arith, le)))
      ∙ sym (before o e)
    where
      before : (o : Ordering) → bytes_cmp y z ≡ o → united (x ∷ xs) (united (y ∷ ys) (z ∷ zs)) ≡ x ∷ united xs (united (y ∷ ys) (z ∷ zs))
      before Less e =
          ap (united (x ∷ xs)) (united-less y ys z zs e) ∙ united-less x xs y (united ys (z ∷ zs)) p ∙ ap (λ (l : List (List ℕ)). x ∷ united xs l) (sym (united-less y ys z zs e))
      before Equal e =
          ap (united (x ∷ xs)) (united-same y ys z zs e) ∙ united-less x xs y (united ys zs) p ∙ ap (λ (l : List (List ℕ)). x ∷ united xs l) (sym (united-same y ys z zs e))
      before Greater e =
          ap (united (x ∷ xs)) (united-greater y ys z zs e) ∙ united-less x xs z (united (y ∷ ys) zs) q ∙ ap (λ (l : List (List ℕ)). x ∷ united xs l) (sym (united-greater y ys z zs e))

  -- the first member is that of the last list alone
  last_alone : bytes_cmp y z ≡ Greater → bytes_cmp x z ≡ Greater → (o : Ordering) → bytes_cmp x y ≡ o → Grouped
  last_alone q r o p =
      before o p
      ∙ ap (λ (l : List (List ℕ)). z ∷ l) (rec (x ∷ xs) (y ∷ ys) zs (omega (arith, le)))
      ∙ sym (ap (united (x ∷ xs)) (united-greater y ys z zs q) ∙ united-greater x xs z (united (y ∷ ys) zs) r)
    where
      before : (o : Ordering) → bytes_cmp x y ≡ o → united (united (x ∷ xs) (y ∷ ys)) (z ∷ zs) ≡ z ∷ united (united (x ∷ xs) (y ∷ ys)) zs
      before Less e =
          ap (λ (l : List (List ℕ)). united l (z ∷ zs)) (united-less x xs y ys e) ∙ united-greater x (united xs (y ∷ ys)) z zs r ∙ ap (λ (l : List (List ℕ)). z ∷ united l zs) (sym (united-less x xs y ys e))
      before Equal e =
          ap (λ (l : List (List ℕ)). united l (z ∷ zs)) (united-same x xs y ys e) ∙ united-greater x (united xs ys) z zs r ∙ ap (λ (l : List (List ℕ)). z ∷ united l zs) (sym (united-same x xs y ys e))
      before Greater e =
          ap (λ (l : List (List ℕ)). united l (z ∷ zs)) (united-greater x xs y ys e) ∙ united-greater y (united (x ∷ xs) ys) z zs q ∙ ap (λ (l : List (List ℕ)). z ∷ united l zs) (sym (united-greater x xs y ys e))

  -- it is that of the first list and of the last one
  first_and_last : bytes_cmp x y ≡ Less → bytes_cmp y z ≡ Greater → bytes_cmp x z ≡ Equal → Grouped
  first_and_last p q r =
      ap (λ (l : List (List ℕ)). united l (z ∷ zs)) (united-less x xs y ys p)
      ∙ united-same x (united xs (y ∷ ys)) z zs r
      ∙ ap (λ (l : List (List ℕ)). x ∷ l) (rec xs (y ∷ ys) zs (omega (arith, le)))
      ∙ sym (ap (united (x ∷ xs)) (united-greater y ys z zs q) ∙ united-same x xs z (united (y ∷ ys) zs) r)

  grouped_by : (o p q : Ordering) → bytes_cmp x y ≡ o → bytes_cmp y z ≡ p → bytes_cmp x z ≡ q → Grouped
  grouped_by Less Less q e f g = first_alone e (nat_list_cmp_total.trans x y z e f) Less f
  grouped_by Less Equal q e f g = first_alone e (sym (alike_right nat_list_cmp_total y z x f) ∙ e) Equal f
  grouped_by Less Greater Less e f g = first_alone e g Greater f
  grouped_by Less Greater Equal e f g = first_and_last e f g
  grouped_by Less Greater Greater e f g = last_alone f g Less e
  grouped_by Equal Less q e f g =
      ap (λ (l : List (List ℕ)). united l (z ∷ zs)) (united-same x xs y ys e)
      ∙ united-less x (united xs ys) z zs (nat_list_cmp_total.congr x y z e ∙ f)
      ∙ ap (λ (l : List (List ℕ)). x ∷ l) (rec xs ys (z ∷ zs) (omega (arith, le)))
      ∙ sym (ap (united (x ∷ xs)) (united-less y ys z zs f) ∙ united-same x xs y (united ys (z ∷ zs)) e)
  grouped_by Equal Equal q e f g =
      ap (λ (l : List (List ℕ)). united l (z ∷ zs)) (united-same x xs y ys e)
      ∙ united-same x (united xs ys) z zs (nat_list_cmp_total.congr x y z e ∙ f)
      ∙ ap (λ (l : List (List ℕ)). x ∷ l) (rec xs ys zs (omega (arith, le)))
      ∙ sym (ap (united (x ∷ xs)) (united-same y ys z zs f) ∙ united-same x xs y (united ys zs) e)
  grouped_by Equal Greater q e f g = last_alone f (nat_list_cmp_total.congr x y z e ∙ f) Equal e
  grouped_by Greater Less q e f g =
      ap (λ (l : List (List ℕ)). united l (z ∷ zs)) (united-greater x xs y ys e)
      ∙ united-less y (united (x ∷ xs) ys) z zs f
      ∙ ap (λ (l : List (List ℕ)). y ∷ l) (rec (x ∷ xs) ys (z ∷ zs) (omega (arith, le)))
      ∙ sym (ap (united (x ∷ xs)) (united-less y ys z zs f) ∙ united-greater x xs y (united ys (z ∷ zs)) e)
  grouped_by Greater Equal q e f g =
      ap (λ (l : List (List ℕ)). united l (z ∷ zs)) (united-greater x xs y ys e)
      ∙ united-same y (united (x ∷ xs) ys) z zs f
      ∙ ap (λ (l : List (List ℕ)). y ∷ l) (rec (x ∷ xs) ys zs (omega (arith, le)))
      ∙ sym (ap (united (x ∷ xs)) (united-same y ys z zs f) ∙ united-greater x xs y (united ys zs) e)
  grouped_by Greater Greater q e f g = last_alone f (less_through x y z e f) Greater e

groups : (n : ℕ) → GroupsTo n
groups n [] ys zs le = refl
groups n (x ∷ xs) [] zs le = ap (λ (l : List (List ℕ)). united l zs) (united-none (x ∷ xs))
groups n (x ∷ xs) (y ∷ ys) [] le = united-none (united (x ∷ xs) (y ∷ ys)) ∙ ap (united (x ∷ xs)) (sym (united-none (y ∷ ys)))
groups zero (x ∷ xs) (y ∷ ys) (z ∷ zs) le = absurd (omega arith)
groups (suc n) (x ∷ xs) (y ∷ ys) (z ∷ zs) le =
    grouped_by n (groups n) x xs y ys z zs (omega (arith, le)) (bytes_cmp x y) (bytes_cmp y z) (bytes_cmp x z) refl refl refl

pub united_assoc : (xs ys zs : List (List ℕ)) → united (united xs ys) zs ≡ united xs (united ys zs)
united_assoc xs ys zs = groups (length xs + length ys + length zs) xs ys zs (omega arith)

pub union_assoc : (x y z : List ℕ) → union_of (union_of x y) z ≡ union_of x (union_of y z)
union_assoc x y z =
    ap (λ (l : List (List ℕ)). set_bytes (united l (members z))) (members-own (united (members x) (members y)))
    ∙ ap set_bytes (united_assoc (members x) (members y) (members z))
    ∙ sym (ap (λ (l : List (List ℕ)). set_bytes (united (members x) l)) (members-own (united (members y) (members z))))

-- ---- sets: members that are whole and ascend, and nothing else

abbrev pub is_above : Option (List ℕ) → List ℕ → Bool
is_above None m = true
is_above (Some before) m = is_lt (bytes_cmp before m)

-- no bytes, or members and nothing after them
abbrev pub ends_by : List ℕ → Bool → Bool
ends_by [] more = true
ends_by (a ∷ bytes) more = more

abbrev pub ascends_by : Option First → Option (List ℕ) → (List ℕ → List ℕ → Bool) → Bool
ascends_by None before more = false
ascends_by (Some f) before more = is_above before f.member && more f.member f.others

abbrev pub ascends_in : ℕ → Option (List ℕ) → List ℕ → Bool
ascends_in zero before bytes = true
ascends_in (suc n) before bytes = ends_by bytes (ascends_by (first_member bytes) before (λ m others. ascends_in n (Some m) others))

-- whether the bytes are members in ascending order, each above the one before
abbrev pub ascends : Option (List ℕ) → List ℕ → Bool
ascends before bytes = ascends_in (length bytes) before bytes

abbrev pub is_set_of_members : List ℕ → Bool
is_set_of_members bytes = ascends None bytes

ascends_same : (n m : ℕ) (p : Option (List ℕ)) (x : List ℕ) → ((q : List ℕ) (f : First) → first_member x ≡ Some f → ascends_in n (Some q) f.others ≡ ascends_in m (Some q) f.others) → (o : Option First) → first_member x ≡ o
    → ascends_by o p (λ q others. ascends_in n (Some q) others) ≡ ascends_by o p (λ q others. ascends_in m (Some q) others)
ascends_same n m p x rec None e = refl
ascends_same n m p x rec (Some f) e = ap (λ (b : Bool). is_above p f.member && b) (rec f.member f e)

ascends_enough : (n m : ℕ) (p : Option (List ℕ)) (x : List ℕ) → length x ≤ n → length x ≤ m → ascends_in n p x ≡ ascends_in m p x
ascends_enough zero zero p x h k = refl
ascends_enough zero (suc m) p x h k = let e : x ≡ [] = nil_from_length x (omega arith) in sym (ap (ascends_in (suc m) p) e)
ascends_enough (suc n) zero p x h k = let e : x ≡ [] = nil_from_length x (omega arith) in ap (ascends_in (suc n) p) e
ascends_enough (suc n) (suc m) p x h k =
    ap (ends_by x) (ascends_same n m p x (λ q f e. let lt = others-shorter x f e in ascends_enough n m (Some q) f.others (omega (arith, lt, h)) (omega (arith, lt, k))) (first_member x) refl)

ends_full : (x : List ℕ) (b : Bool) → 0 < length x → ends_by x b ≡ b
ends_full [] b lt = absurd (omega arith)
ends_full (a ∷ x) b lt = refl

pub ascends-none : (p : Option (List ℕ)) (x : List ℕ) → 0 < length x → first_member x ≡ None → ascends p x ≡ false
ascends-none p x lt e =
    ascends_enough (length x) (suc (length x)) p x (omega arith) (omega arith)
    ∙ ends_full x (ascends_by (first_member x) p (λ q others. ascends_in (length x) (Some q) others)) lt
    ∙ ap (λ (o : Option First). ascends_by o p (λ q others. ascends_in (length x) (Some q) others)) e

pub ascends-more : (p : Option (List ℕ)) (x : List ℕ) (f : First) → first_member x ≡ Some f → ascends p x ≡ (is_above p f.member && ascends (Some f.member) f.others)
ascends-more p x f e =
    let lt = others-shorter x f e in
    ascends_enough (length x) (suc (length x)) p x (omega arith) (omega arith)
    ∙ ends_full x (ascends_by (first_member x) p (λ q others. ascends_in (length x) (Some q) others)) (omega (arith, lt))
    ∙ ap (λ (o : Option First). ascends_by o p (λ q others. ascends_in (length x) (Some q) others)) e
    ∙ ap (λ (b : Bool). is_above p f.member && b) (ascends_enough (length x) (length f.others) (Some f.member) f.others (omega (arith, lt)) (omega arith))
