-- The union of two sets, member by member.
use Rattle.std.proofs.Common.{◌≡◌, ◌++◌, ◌∷◌, List, ℕ, Some, None, ap, ◌∙◌, sym, append_assoc}
use Rattle.std.specs.declared.cmp.Ordering.TheVariants.{Less, Equal, Greater}
use Rattle.uc_bytes.specs.Bytes.{bytes_cmp}
use Rattle.uc_mixed.specs.Sets.{first_member, members, members-none, members-more, member_bytes, set_bytes, united, united-none, united-less, united-same, united-greater, union_of}

abbrev pub IsFirst : List ℕ → List ℕ → List ℕ → Type 0
IsFirst set member others = first_member set ≡ Some (record { member = member; others = others })

-- members that are copied one by one
pub member_copied : (before after set member others spelled : List ℕ) → IsFirst set member others → spelled ≡ member_bytes member → after ≡ before ++ spelled
    → after ++ set_bytes (members others) ≡ before ++ set_bytes (members set)
member_copied before after set member others spelled e s a =
    ap (λ (l : List ℕ). l ++ set_bytes (members others)) (a ∙ ap (λ (l : List ℕ). before ++ l) s)
    ∙ append_assoc before (member_bytes member) (set_bytes (members others))
    ∙ sym (ap (λ (l : List (List ℕ)). before ++ set_bytes l) (members-more set (record { member = member; others = others }) e))

pub left_ended : (left right : List ℕ) → first_member left ≡ None → union_of left right ≡ set_bytes (members right)
left_ended left right e = ap (λ (l : List (List ℕ)). set_bytes (united l (members right))) (members-none left e)

pub right_ended : (left right : List ℕ) → first_member right ≡ None → union_of left right ≡ set_bytes (members left)
right_ended left right e = ap (λ (l : List (List ℕ)). set_bytes (united (members left) l)) (members-none right e) ∙ ap set_bytes (united-none (members left))

module _ (left x xs right y ys : List ℕ) (a : IsFirst left x xs) (b : IsFirst right y ys) (before after spelled : List ℕ) (pushed : after ≡ before ++ spelled) where
  opened : union_of left right ≡ set_bytes (united (x ∷ members xs) (y ∷ members ys))
  opened =
      ap (λ (l : List (List ℕ)). set_bytes (united l (members right))) (members-more left (record { member = x; others = xs }) a)
      ∙ ap (λ (l : List (List ℕ)). set_bytes (united (x ∷ members xs) l)) (members-more right (record { member = y; others = ys }) b)

  copied : (m : List ℕ) (ms : List (List ℕ)) → spelled ≡ member_bytes m → union_of left right ≡ set_bytes (m ∷ ms) → after ++ set_bytes ms ≡ before ++ union_of left right
  copied m ms s e =
      ap (λ (l : List ℕ). l ++ set_bytes ms) (pushed ∙ ap (λ (l : List ℕ). before ++ l) s)
      ∙ append_assoc before (member_bytes m) (set_bytes ms)
      ∙ sym (ap (λ (l : List ℕ). before ++ l) e)

  pub left_first : bytes_cmp x y ≡ Less → spelled ≡ member_bytes x → after ++ union_of xs right ≡ before ++ union_of left right
  left_first e s =
      ap (λ (l : List (List ℕ)). after ++ set_bytes (united (members xs) l)) (members-more right (record { member = y; others = ys }) b)
      ∙ copied x (united (members xs) (y ∷ members ys)) s (opened ∙ ap set_bytes (united-less x (members xs) y (members ys) e))

  pub both_first : bytes_cmp x y ≡ Equal → spelled ≡ member_bytes x → after ++ union_of xs ys ≡ before ++ union_of left right
  both_first e s = copied x (united (members xs) (members ys)) s (opened ∙ ap set_bytes (united-same x (members xs) y (members ys) e))

  pub right_first : bytes_cmp x y ≡ Greater → spelled ≡ member_bytes y → after ++ union_of left ys ≡ before ++ union_of left right
  right_first e s =
      ap (λ (l : List (List ℕ)). after ++ set_bytes (united l (members ys))) (members-more left (record { member = x; others = xs }) a)
      ∙ copied y (united (x ∷ members xs) (members ys)) s (opened ∙ ap set_bytes (united-greater x (members xs) y (members ys) e))
