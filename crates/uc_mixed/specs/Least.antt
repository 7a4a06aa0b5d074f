-- The lesser byte string in byte order.
use Rattle.std.specs.Prelude.{◌≡◌, ℕ, Bool, true, false, List, if◌then◌else◌}
use Rattle.std.specs.declared.cmp.Ordering.{Ordering}
use Rattle.std.specs.declared.cmp.Ordering.TheVariants.{Less, Equal, Greater}
use Rattle.std.specs.Ordering.{is_lt, is_gt, ordering_reverse}
use Rattle.std.proofs.Common.{ap, ◌∙◌, sym, refl}
use Rattle.std.proofs.lemmas.Cmp.{nat_list_cmp_total, upto}
use Rattle.uc_bytes.specs.Bytes.{bytes_cmp}

abbrev pub lesser_of : List ℕ → List ℕ → List ℕ
lesser_of x y = if is_lt (bytes_cmp y x) then y else x

is_less : (o : Ordering) → is_lt o ≡ true → o ≡ Less
is_less Less e = refl
is_less Equal e = absurd cc
is_less Greater e = absurd cc

less_back : (o : Ordering) → is_lt o ≡ is_gt (ordering_reverse o)
less_back Less = refl
less_back Equal = refl
less_back Greater = refl

lt_back : (x y : List ℕ) → is_lt (bytes_cmp x y) ≡ is_gt (bytes_cmp y x)
lt_back x y = less_back (bytes_cmp x y) ∙ ap is_gt (sym (nat_list_cmp_total.antisymm y x))

lt_trans : (x y z : List ℕ) → is_lt (bytes_cmp x y) ≡ true → is_lt (bytes_cmp y z) ≡ true → is_lt (bytes_cmp x z) ≡ true
lt_trans x y z p q = ap is_lt (nat_list_cmp_total.trans x y z (is_less (bytes_cmp x y) p) (is_less (bytes_cmp y z) q))

not_lt_trans : (x y z : List ℕ) → is_lt (bytes_cmp x y) ≡ false → is_lt (bytes_cmp y z) ≡ false → is_lt (bytes_cmp x z) ≡ false
not_lt_trans x y z p q = lt_back x z ∙ upto nat_list_cmp_total z y x (sym (lt_back y z) ∙ q) (sym (lt_back x y) ∙ p)

newer_wins : (x y : List ℕ) → is_lt (bytes_cmp y x) ≡ true → lesser_of x y ≡ y
newer_wins x y e = rw e refl

older_wins : (x y : List ℕ) → is_lt (bytes_cmp y x) ≡ false → lesser_of x y ≡ x
older_wins x y e = rw e refl

-- the least of three, in either grouping, whatever the neighbours' comparisons say
grouped : (x y z : List ℕ) (b c : Bool) → is_lt (bytes_cmp y x) ≡ b → is_lt (bytes_cmp z y) ≡ c → lesser_of x (lesser_of y z) ≡ lesser_of (lesser_of x y) z
grouped x y z true true p q =
    ap (lesser_of x) (newer_wins y z q) ∙ newer_wins x z (lt_trans z y x q p) ∙ sym (newer_wins y z q) ∙ ap (λ (v : List ℕ). lesser_of v z) (sym (newer_wins x y p))
grouped x y z true false p q =
    ap (lesser_of x) (older_wins y z q) ∙ newer_wins x y p ∙ sym (older_wins y z q) ∙ ap (λ (v : List ℕ). lesser_of v z) (sym (newer_wins x y p))
grouped x y z false true p q =
    ap (lesser_of x) (newer_wins y z q) ∙ ap (λ (v : List ℕ). lesser_of v z) (sym (older_wins x y p))
grouped x y z false false p q =
    ap (lesser_of x) (older_wins y z q) ∙ older_wins x y p ∙ sym (older_wins x z (not_lt_trans z y x q p)) ∙ ap (λ (v : List ℕ). lesser_of v z) (sym (older_wins x y p))

pub lesser_assoc : (x y z : List ℕ) → lesser_of x (lesser_of y z) ≡ lesser_of (lesser_of x y) z
lesser_assoc x y z = grouped x y z (is_lt (bytes_cmp y x)) (is_lt (bytes_cmp z y)) refl refl
