-- No keep is unknown to a compaction that was made for each that it has to know.
use Rattle.std.proofs.Common.{◌≡◌, ℕ, ◌<◌, Bool, true, false, not, cond, eqb, ltb, ◌&&◌, List, [], ◌∷◌, refl, ap, ◌∙◌, arith}
use Rattle.std.specs.Prelude.{Some, None, Contains}
use Rattle.std.specs.List.{list_any}
use Rattle.std.proofs.lemmas.Bool.Decides.{nat_tests}
use Rattle.uc_claims.specs.Claims.{times}
use Rattle.uc_claims.proofs.Times.{times-cons, one_same, times-from_Contains, Contains-from_times, list_any-times}
use Rattle.uc_version_state.specs.Installs.{Terms, KeepsKnown}
use Rattle.uc_version_state.specs.Refusals.{first_unknown}

there : (n : ℕ) → 0 < n → ltb 0 n ≡ true
there n lt = grind (arith, nat_tests)

-- no keep is unknown where each below the inputs' greatest sequence is one of the compaction's
is_own : (t : Terms) (k : ℕ) → (k < t.high → Contains t.keeps k) → (below : Bool) → ltb k t.high ≡ below → (below && not (list_any (λ x. eqb x k) t.keeps)) ≡ false
is_own t k own false e = refl
is_own t k own true e =
    let lt : k < t.high = grind (arith, nat_tests) in
    ap not (list_any-times k t.keeps ∙ there (times k t.keeps) (times-from_Contains k t.keeps (own lt)))

all_own : (t : Terms) (keeps : List ℕ) → ((k : ℕ) → 0 < times k keeps → k < t.high → Contains t.keeps k) → first_unknown t keeps ≡ None
all_own t [] own = refl
all_own t (keep ∷ keeps) own =
    ap (λ b. cond b (Some keep) (first_unknown t keeps))
    (is_own t keep (own keep (let e = times-cons keep keep keeps in let one = one_same keep keep refl in omega (arith, e, one))) (ltb keep t.high) refl)
    ∙ all_own t keeps (λ k some. own k (let e = times-cons k keep keeps in omega (arith, e, some)))

pub none_unknown : (t : Terms) (keeps : List ℕ) → KeepsKnown keeps t → first_unknown t keeps ≡ None
none_unknown t keeps known = all_own t keeps (λ k some lt. known k (Contains-from_times k keeps some) lt)
