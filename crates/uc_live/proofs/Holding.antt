-- Claims that are held on.
use Rattle.std.proofs.Common.{◌≡◌, ℕ, Bool, true, false, ◌||◌, List, [], ◌∷◌, Option, Some, None, map, refl, sym, ap, ◌∙◌}
use Rattle.std.specs.Prelude.{◌==◌, is_some, if◌then◌else◌, nat_lt}
use Rattle.std.specs.List.{list_any, flat_map}
use Rattle.std.proofs.lemmas.Bool.{false≢true}
use Rattle.uc_version_state.specs.Versions.{Stored}
use Rattle.uc_version.specs.declared.held_stretch.HeldStretch.{HeldStretch}
use Rattle.uc_version.specs.Owners.{Owner, slots_held, is_busy}
use Rattle.uc_version.specs.Feeding.{moved_down}
use Rattle.uc_version.specs.Installing.{moved_up}
use Rattle.uc_live.specs.Lives.{Live, owner_in, has_claims}
use Rattle.uc_live.specs.Going.{HoldsOn}

pub same_held : (o : Owner) → HoldsOn o o
same_held o = λ c held. (held, refl)

pub holds_on : (o p q : Owner) → HoldsOn o p → HoldsOn p q → HoldsOn o q
holds_on o p q first second = λ c held. let there = first c held in let more = second c there.0 in (more.0, more.1 ∙ there.1)

-- ---- claims that move

still_some : (f : Option HeldStretch → Option HeldStretch) → ((c : Option HeldStretch) → is_some (f c) ≡ is_some c) → (cs : List (Option HeldStretch)) → list_any is_some (map f cs) ≡ list_any is_some cs
still_some f same [] = refl
still_some f same (c ∷ cs) =
    ap (λ (b : Bool). b || list_any is_some (map f cs)) (same c) ∙ ap (λ (b : Bool). is_some c || b) (still_some f same cs)

down_some : (count : ℕ) (c : Option HeldStretch) → is_some (moved_down count c) ≡ is_some c
down_some count None = refl
down_some count (Some h) = refl

some_so : (b : Bool) (g h : HeldStretch) → is_some (if b then Some g else Some h) ≡ true
some_so true g h = refl
some_so false g h = refl

up_some : (first count : ℕ) (c : Option HeldStretch) → is_some (moved_up first count c) ≡ is_some c
up_some first count None = refl
up_some first count (Some h) = some_so (nat_lt first h.first) _ h

pub claims_down : (count : ℕ) (cs : List (Option HeldStretch)) → list_any is_some (map (moved_down count) cs) ≡ list_any is_some cs
claims_down count cs = still_some (moved_down count) (down_some count) cs

pub claims_up : (first count : ℕ) (cs : List (Option HeldStretch)) → list_any is_some (map (moved_up first count) cs) ≡ list_any is_some cs
claims_up first count cs = still_some (moved_up first count) (up_some first count) cs

-- ---- where none is held

no_slots : (v : Stored) (cs : List (Option HeldStretch)) → list_any is_some cs ≡ false → flat_map (slots_held v) cs ≡ []
no_slots v [] none = refl
no_slots v (None ∷ cs) none = no_slots v cs none
no_slots v (Some h ∷ cs) none = absurd (false≢true (sym none))

-- no run is busy
pub none_busy : (l : Live) → has_claims l ≡ false → (slot : ℕ) → is_busy (owner_in l) slot ≡ false
none_busy l none slot = ap (λ (slots : List ℕ). list_any (λ s. s == slot) slots) (no_slots l.version l.claims none)
