-- Claims under names.
use Rattle.std.specs.Prelude.{◌≡◌, ℕ, true, ⊤, List, Option, Some, None, length, fold, slice_set, slice_index_or}
use Rattle.std.specs.List.{AllByRecursion, filter_map}
use Rattle.std.specs.Option.{option_map}
use Rattle.uc_claims.specs.Holding.{AreDistinct}
use Rattle.uc_version.specs.declared.held_stretch.TheConstants.{MOST_CLAIMS}
use Rattle.uc_version.specs.Owners.{Owner}
use Rattle.uc_version.specs.Claiming.{Claim, is_held, without_claim}

-- a store in one owner's hands, and for each name the claim that it stands for, if it stands for one
pub record State : Type 0 where
  pub owner : Owner
  pub names : List (Option Claim)

-- a store with this owner, where names stand for these claims
abbrev pub named : Owner → List (Option Claim) → State
named o names = record { owner = o; names = names }

-- the claim that a name stands for
abbrev pub claim_named : State → ℕ → Option Claim
claim_named s name = slice_index_or s.names name None

-- the state with this owner, where a name stands for this claim or none
abbrev pub with_name : State → Owner → ℕ → Option Claim → State
with_name s owner name claim = record { owner = owner; names = slice_set s.names name claim }

-- the owner without the claim that a name stood for
abbrev pub given_back : Owner → Option Claim → Owner
given_back o None = o
given_back o (Some c) = without_claim o c

-- the owner once all claims under names are given back
abbrev pub released : State → Owner
released s = fold given_back s.owner s.names

-- the store holds the claim that a name stands for
abbrev pub IsNamedHeld : Owner → Option Claim → Type 0
IsNamedHeld o None = ⊤
IsNamedHeld o (Some c) = is_held o c ≡ true

-- the numbers of the claims under names
abbrev pub numbers_of : List (Option Claim) → List ℕ
numbers_of names = filter_map (option_map (λ c. c.number)) names

-- Invariant of a store and the claims under names.
pub record AreHeld (o : Owner) (names : List (Option Claim)) : Type 0 where
  pub count : length names ≡ MOST_CLAIMS
  pub held : AllByRecursion (IsNamedHeld o) names
  -- no claim has two names
  pub apart : AreDistinct (numbers_of names)
