-- Reasons why an install is rejected.
use Rattle.std.specs.Prelude.{◌≡◌, ℕ, Bool, not, ◌&&◌, ◌==◌, List, [], ◌∷◌, Option, Some, None, nat_lt, if◌then◌else◌}
use Rattle.std.specs.List.{list_any}
use Rattle.uc_oper.specs.Operation.{Operation}
use Rattle.uc_compact.specs.Output.{output_of}
use Rattle.uc_version_state.specs.Versions.{Stored, ids_of}
use Rattle.uc_version_state.specs.Installs.{Install, Terms, KeepsKnown, NothingBelow, IdLeft, MayReplace, standing, behind, compaction_in}
use Rattle.uc_version_state.specs.declared.refusal.Refusal.{Refusal}
use Rattle.uc_version_state.specs.declared.refusal.Refusal.TheVariants.{OlderBehind, UnknownKeep, NotInPlace, IdsSpent}

-- a keep below the inputs' greatest sequence that a compaction wasn't made for
abbrev pub is_unknown : Terms → ℕ → Bool
is_unknown t keep = nat_lt keep t.high && not (list_any (λ k. k == keep) t.keeps)

-- the first of some keeps that is unknown: the least, as keeps rise
abbrev pub first_unknown : Terms → List ℕ → Option ℕ
first_unknown t [] = None
first_unknown t (keep ∷ keeps) = if is_unknown t keep then Some keep else first_unknown t keeps

-- the runs with these ids are in the version as neighbours in this order
abbrev pub AreInPlace : Stored → List ℕ → Type 0
AreInPlace v ids = ids_of (standing ids v.runs) ≡ ids

-- the runs with these ids may be replaced by what was compacted under these terms
pub record AreReplaceable (v : Stored) (ids : List ℕ) (t : Terms) : Type 0 where
  pub in_place : AreInPlace v ids
  pub may : MayReplace v (behind ids v.runs) t

-- why they may not be: the first of these conditions that fails
abbrev pub IsRefused : Stored → List ℕ → Terms → Refusal → Type 0
IsRefused v ids t OlderBehind = ¬ NothingBelow (behind ids v.runs) t
IsRefused v ids t (UnknownKeep keep) = NothingBelow (behind ids v.runs) t × (first_unknown t v.keeps ≡ Some keep)
IsRefused v ids t NotInPlace = NothingBelow (behind ids v.runs) t × KeepsKnown v.keeps t × ¬ AreInPlace v ids
IsRefused v ids t IdsSpent = NothingBelow (behind ids v.runs) t × KeepsKnown v.keeps t × AreInPlace v ids × ¬ IdLeft v

-- the terms of an install, whose output has the greatest sequence of its inputs
abbrev pub terms_in : Install → Terms
terms_in i = record { keeps = i.keeps; oldest = i.oldest; high = i.output.high }

-- an install's output is made of its inputs, which can't be checked by ids
abbrev pub IsMade : Operation → Stored → Install → Type 0
IsMade m v i = i.output ≡ output_of m (compaction_in i v)

-- why an install may not happen
abbrev pub IsInstallRefused : Stored → Install → Refusal → Type 0
IsInstallRefused v i refusal = IsRefused v i.ids (terms_in i) refusal
