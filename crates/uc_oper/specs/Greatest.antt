-- The greater byte string in byte order (RocksDB, `MaxOperator`).
use Rattle.std.specs.Prelude.{◌≡◌, ℕ, Bool, true, false, List, if◌then◌else◌}
use Rattle.std.specs.declared.cmp.Ordering.{Ordering}
use Rattle.std.specs.declared.cmp.Ordering.TheVariants.{Less, Equal, Greater}
use Rattle.std.specs.Ordering.{is_lt, is_gt, ordering_reverse}
use Rattle.std.proofs.Common.{ap, ◌∙◌, sym, refl}
use Rattle.std.proofs.lemmas.Cmp.{nat_list_cmp_total, upto}
use Rattle.uc_bytes.specs.Bytes.{bytes_cmp}
use Rattle.uc_oper.specs.Operation.{Operation, IsLawful}

abbrev pub greater_of : List ℕ → List ℕ → List ℕ
greater_of x y = if is_lt (bytes_cmp x y) then y else x

abbrev pub greatest : Operation
greatest = record { first = λ x. x; join = greater_of; pair = greater_of }

is_less : (o : Ordering) → is_lt o ≡ true → o ≡ Less
is_less Less e = refl
is_less Equal e = absurd cc
is_less Greater e = absurd cc

less_back : (o : Ordering) → is_lt o ≡ is_gt (ordering_reverse o)
less_back Less = refl
less_back Equal = refl
less_back Greater = refl

-- to be less is to be greater the other way round
lt_back : (x y : List ℕ) → is_lt (bytes_cmp x y) ≡ is_gt (bytes_cmp y x)
lt_back x y = less_back (bytes_cmp x y) ∙ ap is_gt (sym (nat_list_cmp_total.antisymm y x))

lt_trans : (x y z : List ℕ) → is_lt (bytes_cmp x y) ≡ true → is_lt (bytes_cmp y z) ≡ true → is_lt (bytes_cmp x z) ≡ true
lt_trans x y z p q = ap is_lt (nat_list_cmp_total.trans x y z (is_less (bytes_cmp x y) p) (is_less (bytes_cmp y z) q))

not_lt_trans : (x y z : List ℕ) → is_lt (bytes_cmp x y) ≡ false → is_lt (bytes_cmp y z) ≡ false → is_lt (bytes_cmp x z) ≡ false
not_lt_trans x y z p q = lt_back x z ∙ upto nat_list_cmp_total z y x (sym (lt_back y z) ∙ q) (sym (lt_back x y) ∙ p)

newer_wins : (x y : List ℕ) → is_lt (bytes_cmp x y) ≡ true → greater_of x y ≡ y
newer_wins x y e = rw e refl

older_wins : (x y : List ℕ) → is_lt (bytes_cmp x y) ≡ false → greater_of x y ≡ x
older_wins x y e = rw e refl

-- the greatest of three, in either grouping, whatever the neighbours' comparisons say
grouped : (x y z : List ℕ) (b c : Bool) → is_lt (bytes_cmp x y) ≡ b → is_lt (bytes_cmp y z) ≡ c → greater_of x (greater_of y z) ≡ greater_of (greater_of x y) z
grouped x y z true true p q =
    ap (greater_of x) (newer_wins y z q) ∙ newer_wins x z (lt_trans x y z p q) ∙ sym (newer_wins y z q) ∙ ap (λ (v : List ℕ). greater_of v z) (sym (newer_wins x y p))
grouped x y z true false p q =
    ap (greater_of x) (older_wins y z q) ∙ newer_wins x y p ∙ sym (older_wins y z q) ∙ ap (λ (v : List ℕ). greater_of v z) (sym (newer_wins x y p))
grouped x y z false true p q =
    ap (greater_of x) (newer_wins y z q) ∙ ap (λ (v : List ℕ). greater_of v z) (sym (older_wins x y p))
grouped x y z false false p q =
    ap (greater_of x) (older_wins y z q) ∙ older_wins x y p ∙ sym (older_wins x z (not_lt_trans x y z p q)) ∙ ap (λ (v : List ℕ). greater_of v z) (sym (older_wins x y p))

pub greater_assoc : (x y z : List ℕ) → greater_of x (greater_of y z) ≡ greater_of (greater_of x y) z
greater_assoc x y z = grouped x y z (is_lt (bytes_cmp x y)) (is_lt (bytes_cmp y z)) refl refl

pub greatest_lawful : IsLawful greatest
greatest_lawful = record { join_pair = greater_assoc; first_pair = λ x y. refl; pair_assoc = λ x y z. sym (greater_assoc x y z) }
