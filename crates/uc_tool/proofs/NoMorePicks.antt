-- Compactions end where nothing is picked.
use Rattle.std.proofs.Common.{◌≡◌, ℕ, zero, suc, ◌+◌, ◌<◌, ◌≤◌, Bool, true, false, cond, List, ◌∷◌, length, take, drop, refl, sym, ap, ◌∙◌, arith}
use Rattle.std.specs.Prelude.{Option, Some, None}
use Rattle.std.proofs.lemmas.Bool.{ltb-true, false≢true}
use Rattle.std.proofs.lemmas.List.{length-map, length-append, length-take, length-drop}
use Rattle.uc_oper.specs.Operation.{Operation}
use Rattle.uc_version_state.specs.declared.stretch.Stretch.{Stretch}
use Rattle.uc_version_state.specs.declared.options.Options.{Options}
use Rattle.uc_version_state.specs.declared.candidate.Candidate.{Candidate}
use Rattle.uc_version_state.specs.Options.{are_good}
use Rattle.uc_version_state.specs.Picks.{picked}
use Rattle.uc_version_state.specs.Versions.{PlacedRun, Stored}
use Rattle.uc_version_state.specs.Installs.{Install, MayInstall, installed, place_in, inputs_in, slot_of}
use Rattle.uc_version.specs.Owners.{Owner, IsOwner, is_busy}
use Rattle.uc_version.specs.Picking.{candidate_of, candidates_of}
use Rattle.uc_version.specs.Claiming.{claim_refusal}
use Rattle.uc_version.specs.Installing.{IdLeft}
use Rattle.uc_version.specs.AtOnce.{install_at, after_compaction}
use Rattle.uc_version_compact.specs.declared.install_error.InstallError.TheVariants.{IdsSpent}
use Rattle.uc_query.specs.Turns.{has_id}
use Rattle.uc_tool_opening.specs.RefusalLines.{install_refusal_line}
use Rattle.uc_tool_opening.specs.ReplyLines.{compacted_line}
use Rattle.uc_tool.specs.Report.{compactions, last_line, behind_line, after_pick, pick_of}

-- what is known of owners and of picks
pub record Known (m : Operation) : Type 0 where
  pub there : (o : Options) (runs : List Candidate) (s : Stretch) → picked o runs ≡ Some s → s.first + s.count ≤ length runs
  pub two : (o : Options) (runs : List Candidate) (s : Stretch) → are_good o ≡ true → picked o runs ≡ Some s → 2 ≤ s.count
  pub can_be_claimed : (o : Owner) (s : Stretch) → IsOwner o → picked o.options (candidates_of o.version (is_busy o)) ≡ Some s → claim_refusal o s ≡ None
  pub may : (o : Owner) (s : Stretch) → IsOwner o → claim_refusal o s ≡ None → IdLeft o.version → MayInstall m o.version (install_at m o.version s)
  pub stays : (o : Owner) (s : Stretch) → IsOwner o → claim_refusal o s ≡ None → IdLeft o.version → IsOwner (after_compaction m o s)

-- an install leaves fewer runs
fewer : (m : Operation) (v : Stored) (i : Install) → MayInstall m v i → length (installed i v).runs < length v.runs
fewer m v i may =
    let first = place_in i v in
    let count = length i.ids in
    let two = may.two in
    let named : length (inputs_in i v) ≡ count = sym (length-map (inputs_in i v) (λ (p : PlacedRun). p.id)) ∙ ap (λ (ids : List ℕ). length ids) may.neighbours in
    let taken = length-take count (drop first v.runs) in
    let dropped = length-drop first v.runs in
    let front = length-take first v.runs in
    let back = length-drop (first + count) v.runs in
    let put : PlacedRun = record { id = v.next_id; slot = slot_of (inputs_in i v); run = i.output } in
    let whole = length-append (take first v.runs) (put ∷ drop (first + count) v.runs) in
    omega (arith, two, named, taken, dropped, front, back, whole)

module _ (m : Operation) (known : Known m) where
  -- no run, and nothing to pick
  none_of_none : (o : Owner) → IsOwner o → length o.version.runs ≤ 0 → (found : Option Stretch) → pick_of o ≡ found → found ≡ None
  none_of_none o is_owner none None e = refl
  none_of_none o is_owner none (Some s) e =
      let within = known.there o.options (candidates_of o.version (is_busy o)) s e in
      let two = known.two o.options (candidates_of o.version (is_busy o)) s is_owner.options_good e in
      let mapped = length-map o.version.runs (candidate_of (is_busy o)) in
      absurd (omega (arith, within, two, mapped, none))

  -- nothing is picked, where an id is left
  abbrev Done : Owner → Type 0
  Done o = has_id o.version ≡ true → pick_of o ≡ None

  -- the compactions of an owner end
  abbrev DoneFrom : ℕ → Type 0
  DoneFrom n = (o : Owner) → IsOwner o → length o.version.runs ≤ n → Done (compactions m n o).owner

  module _ (n : ℕ) (o : Owner) (is_owner : IsOwner o) (count : length o.version.runs ≤ suc n) (later : DoneFrom n) where
    by_id : (s : Stretch) → claim_refusal o s ≡ None → (b : Bool) → has_id o.version ≡ b →
        Done (cond b (behind_line (compacted_line s o.version.next_id) (compactions m n (after_compaction m o s))) (last_line (install_refusal_line IdsSpent) o)).owner
    by_id s fine false id = λ left. absurd (false≢true (sym id ∙ left))
    by_id s fine true id =
        let below = ltb-true _ _ id in
        let left : IdLeft o.version = λ same. absurd (omega (arith, below, same)) in
        let less = fewer m o.version (install_at m o.version s) (known.may o s is_owner fine left) in
        later (after_compaction m o s) (known.stays o s is_owner fine left) (omega (arith, less, count))

    by_pick : (found : Option Stretch) → pick_of o ≡ found → Done (after_pick m o found (compactions m n)).owner
    by_pick None none = λ left. none
    by_pick (Some s) some = by_id s (known.can_be_claimed o s is_owner some) (has_id o.version) refl

  pub done_from : (n : ℕ) → DoneFrom n
  done_from zero o is_owner none = λ left. none_of_none o is_owner none (pick_of o) refl
  done_from (suc n) o is_owner count = by_pick n o is_owner count (done_from n) (pick_of o) refl
