-- The elements of an array.
use Rattle.std.proofs.Common.{◌≡◌, ℕ, ◌<◌, false, List, length, get_or, replicate, refl, sym, ◌∙◌, subst}
use Rattle.std.specs.Prelude.{Option, Some, None, is_some}
use Rattle.std.proofs.lemmas.Bool.{false≢true}
use Rattle.std.proofs.lemmas.List.{length-replicate, get_or-replicate, same_lists, get_or_default}

pub all_none : {X : Type 0} (xs : List (Option X)) (n : ℕ) → length xs ≡ n → ((i : ℕ) (d : Option X) → i < n → get_or xs i d ≡ None) → xs ≡ replicate n None
all_none {X} xs n long none =
    same_lists xs (replicate n None) (long ∙ sym (length-replicate n None))
    (λ k d lt. let here : k < n = subst (λ m. k < m) long lt in none k d here ∙ sym (get_or-replicate n k None d here))

-- what stands at a place that there is, whatever stands for others
pub found_at : {X : Type 0} (xs : List X) (i : ℕ) (d e x : X) → i < length xs → x ≡ get_or xs i d → get_or xs i e ≡ x
found_at xs i d e x lt is = get_or_default xs i e d lt ∙ sym is

none_if : {X : Type 0} (o : Option X) → false ≡ is_some o → o ≡ None
none_if None e = refl
none_if (Some x) e = absurd (false≢true e)

pub none_at : {X : Type 0} (xs : List (Option X)) (i : ℕ) (d : Option X) → i < length xs → false ≡ is_some (get_or xs i d) → get_or xs i None ≡ None
none_at xs i d lt e = get_or_default xs i None d lt ∙ none_if (get_or xs i d) e
