-- The known bytes of readers and writers, over several calls.
use Rattle.std.proofs.Common.{◌≡◌, ℕ, ◌-◌, ◌<◌, List, [], ◌++◌, length, take, drop, Option, Some, None, refl, ap, sym, ◌∙◌, append_assoc, arith}
use Rattle.std.specs.Prelude.{IfSome}
use Rattle.std.specs.Io.KnownBytes.{Appends, Consumes, IsAtEnd, Keeps}
use Rattle.std.proofs.lemmas.List.{append-nil, length-append, take_rest, take-append-drop}
use Rattle.uc_tool_io.specs.Input.{Adds, Exceeds}

pub consumes_none : (a : Option (List ℕ)) → Consumes a a []
consumes_none None = tt
consumes_none (Some xs) = refl

pub consumes_more : (a b c : Option (List ℕ)) (xs ys : List ℕ) → Consumes a b xs → Consumes b c ys → Consumes a c (xs ++ ys)
consumes_more None b c xs ys p q = tt
consumes_more (Some s) None c xs ys p q = absurd p
consumes_more (Some s) (Some t) None xs ys p q = absurd q
consumes_more (Some s) (Some t) (Some u) xs ys p q = p ∙ ap (λ (l : List ℕ). xs ++ l) q ∙ sym (append_assoc xs ys u)

-- one read more
pub adds_more : (a b c : Option (List ℕ)) (xs ys : List ℕ) → Consumes a b xs → Adds b c xs ys → Consumes a c ys
adds_more a b c xs ys p q = rw q.2 (consumes_more a b c xs q.0 p q.1)

-- what was read up to the end is all there was
pub is_all : (a b : Option (List ℕ)) (xs : List ℕ) → Consumes a b xs → IsAtEnd b → IfSome a (λ bytes. xs ≡ bytes)
is_all None b xs p q = tt
is_all (Some s) None xs p q = absurd p
is_all (Some s) (Some t) xs p q = sym (p ∙ ap (λ (l : List ℕ). xs ++ l) q ∙ append-nil xs)

pub is_longer : (a b : Option (List ℕ)) (xs : List ℕ) (n : ℕ) → Consumes a b xs → n < length xs → IfSome a (λ bytes. n < length bytes)
is_longer None b xs n p q = tt
is_longer (Some s) None xs n p q = absurd p
is_longer (Some s) (Some t) xs n p q = omega (arith, ap length p, length-append xs t)

-- a read that would exceed the limit shows that there is more
pub exceeds_all : (a b c : Option (List ℕ)) (xs : List ℕ) (n : ℕ) → Consumes a b xs → Exceeds b c xs n → IfSome a (λ bytes. n < length bytes)
exceeds_all a b c xs n p q = is_longer a c (xs ++ q.0) n (consumes_more a b c xs q.0 p q.1) (omega (arith, length-append xs q.0, q.2))

pub appends_none : (a : Option (List ℕ)) → Appends a a []
appends_none None = tt
appends_none (Some xs) = sym (append-nil xs)

pub appends_more : (a b c : Option (List ℕ)) (xs ys : List ℕ) → Appends a b xs → Appends b c ys → Appends a c (xs ++ ys)
appends_more None b c xs ys p q = tt
appends_more (Some s) None c xs ys p q = absurd p
appends_more (Some s) (Some t) None xs ys p q = absurd q
appends_more (Some s) (Some t) (Some u) xs ys p q = q ∙ ap (λ (l : List ℕ). l ++ ys) p ∙ append_assoc s xs ys

-- what a call that keeps the known bytes leaves
pub appends_kept : (a b c : Option (List ℕ)) (xs : List ℕ) → Appends a b xs → Keeps b c → Appends a c xs
appends_kept None b c xs p q = tt
appends_kept (Some s) None c xs p q = absurd p
appends_kept (Some s) (Some t) None xs p q = absurd q
appends_kept (Some s) (Some t) (Some u) xs p q = q ∙ p

-- one write more, of a front of what is left
pub front_more : (a b c : Option (List ℕ)) (front rest bytes : List ℕ) (count : ℕ) → front ++ rest ≡ bytes → Appends a b front → Appends b c (take count rest)
    → (x : List ℕ) × (x ++ take (length rest - count) (drop count rest) ≡ bytes) × Appends a c x
front_more a b c front rest bytes count whole so_far more = (
  front ++ take count rest,
  append_assoc front (take count rest) (take (length rest - count) (drop count rest)) ∙ ap (λ (l : List ℕ). front ++ l) (ap (λ (l : List ℕ). take count rest ++ l) (take_rest rest count) ∙ take-append-drop count rest) ∙ whole,
  appends_more a b c front (take count rest) so_far more,
)
