-- Compactions, which change no read.
use Rattle.std.proofs.Common.{◌≡◌, ℕ, ◌<◌, ◌≤◌, Bool, true, false, List, [], Option, Some, None, length, drop, refl, sym, ap, ◌∙◌, subst, arith}
use Rattle.std.specs.Prelude.{◌&&◌, nat_le, is_some}
use Rattle.std.proofs.Math.Dec.{ltb, leb}
use Rattle.std.proofs.lemmas.Bool.{ltb-true, ltb-false, leb-true, false≢true}
use Rattle.std.proofs.lemmas.List.{length-map}
use Rattle.uc_oper.specs.Operation.{Operation}
use Rattle.uc_claims.specs.declared.table.TheConstants.{MOST_SLOTS}
use Rattle.uc_version_state.specs.declared.stretch.Stretch.{Stretch}
use Rattle.uc_version_state.specs.declared.options.Options.{Options}
use Rattle.uc_version_state.specs.declared.candidate.Candidate.{Candidate}
use Rattle.uc_version_state.specs.Options as store
use Rattle.uc_version_state.specs.Picks.{picked, unclaimed as unclaimed_at_head}
use Rattle.uc_version_compact.specs.Picking.{candidate_of, candidates_of}
use Rattle.uc_version.specs.Owners.{is_busy}
use Rattle.uc_live.specs.declared.live_options.TheConstants.{GREATEST_STOP}
use Rattle.uc_live.specs.LiveOptions.{are_good}
use Rattle.uc_live.specs.Lives.{Live, owner_in, has_claims}
use Rattle.uc_live.specs.Going.{GoesOn}
use Rattle.uc_live.specs.Compacting.{next_stretch, IsCompacted}
use Rattle.uc_live.proofs.Going.{goes_nowhere, goes_on}
use Rattle.uc_live.proofs.Taken.{and_front}
use Rattle.uc_live.proofs.Free.{unclaimed_all}
use Rattle.uc_live.proofs.Holding.{none_busy}

-- the store compacted, and did nothing else
abbrev pub Quiet : Operation → Live → Live → Type 0
Quiet m old new = GoesOn m old new [] × (new.gathered ≡ old.gathered) × (new.prepared ≡ old.prepared)

pub quiet_none : (m : Operation) (l : Live) → Quiet m l l
quiet_none m l = (goes_nowhere m l, refl, refl)

pub quiet_on : (m : Operation) (a b c : Live) → Quiet m a b → Quiet m b c → Quiet m a c
quiet_on m a b c first second = (goes_on m a b c [] [] first.0 second.0, second.1 ∙ first.1, second.2 ∙ first.2)

pub quiet_same : (m : Operation) (old new : Live) → new ≡ old → Quiet m old new
quiet_same m old new same = subst (λ (l : Live). Quiet m old l) (sym same) (quiet_none m old)

pub quiet_compacted : (m : Operation) (old new : Live) (found : Option Stretch) (b : Bool) → IsCompacted m found b old new → GoesOn m old new [] → Quiet m old new
quiet_compacted m old new None b is on = (on, ap (λ (l : Live). l.gathered) is.1, ap (λ (l : Live). l.prepared) is.1)
quiet_compacted m old new (Some s) b is on = (on, ap (λ (l : Live). l.gathered) is.2, ap (λ (l : Live). l.prepared) is.2)

-- ---- a slot is free where nothing is picked, or runs are claimed

and_back : (a b : Bool) → (a && b) ≡ true → b ≡ true
and_back true b e = e
and_back false b e = absurd (false≢true e)

-- nothing was picked if nothing was compacted
pub none_picked : (m : Operation) (old new : Live) (found : Option Stretch) (b : Bool) → b ≡ false → IsCompacted m found b old new → found ≡ None
none_picked m old new None b stays is = refl
none_picked m old new (Some s) b stays is = absurd (false≢true (sym stays ∙ is.0))

pub none_changed : (m : Operation) (old new : Live) (found : Option Stretch) (b : Bool) → b ≡ false → IsCompacted m found b old new → new ≡ old
none_changed m old new None b stays is = is.1
none_changed m old new (Some s) b stays is = absurd (false≢true (sym stays ∙ is.0))

module _ (picks : (o : Options) (runs : List Candidate) (k : ℕ) → store.are_good o ≡ true → o.trigger < length runs → 2 ≤ unclaimed_at_head (drop k runs) → is_some (picked o runs) ≡ true)
    (l : Live) (good : are_good l.options ≡ true) (none : next_stretch l ≡ None) where
  within : l.options.store.trigger ≤ 255
  within =
      let o = l.options in
      let stops = and_back (store.are_good o.store) (nat_le o.store.trigger o.stop_trigger && (nat_le o.stop_trigger GREATEST_STOP && nat_le 1 o.max_write_buffer_number)) good in
      let low = leb-true o.store.trigger o.stop_trigger (and_front (nat_le o.store.trigger o.stop_trigger) (nat_le o.stop_trigger GREATEST_STOP && nat_le 1 o.max_write_buffer_number) stops) in
      let both = and_back (nat_le o.store.trigger o.stop_trigger) (nat_le o.stop_trigger GREATEST_STOP && nat_le 1 o.max_write_buffer_number) stops in
      let high = leb-true o.stop_trigger GREATEST_STOP (and_front (nat_le o.stop_trigger GREATEST_STOP) (nat_le 1 o.max_write_buffer_number) both) in
      omega (arith, low, high)

  module _ (free : (slot : ℕ) → is_busy (owner_in l) slot ≡ false) where
    more : l.options.store.trigger < length l.version.runs → 2 ≤ length l.version.runs → length l.version.runs < MOST_SLOTS
    more above two =
        let o = l.options.store in
        let busy = is_busy (owner_in l) in
        let runs = candidates_of l.version busy in
        let many = length-map l.version.runs (candidate_of busy) in
        let all = unclaimed_all busy free l.version.runs in
        let sound = and_front (store.are_good o) (nat_le o.trigger l.options.stop_trigger && (nat_le l.options.stop_trigger GREATEST_STOP && nat_le 1 l.options.max_write_buffer_number)) good in
        let some : is_some (picked o runs) ≡ true = picks o runs 0 sound (omega (arith, above, many)) (omega (arith, all, two)) in
        absurd (false≢true (sym (ap (λ (f : Option Stretch). is_some f) none) ∙ some))

    by_two : l.options.store.trigger < length l.version.runs → (b : Bool) → ltb 1 (length l.version.runs) ≡ b → length l.version.runs < MOST_SLOTS
    by_two above true e = let two = ltb-true 1 (length l.version.runs) e in more above (omega (arith, two))
    by_two above false e = let one = ltb-false 1 (length l.version.runs) e in omega (arith, one)

    by_trigger : (b : Bool) → ltb l.options.store.trigger (length l.version.runs) ≡ b → length l.version.runs < MOST_SLOTS
    by_trigger true e = by_two (ltb-true l.options.store.trigger (length l.version.runs) e) (ltb 1 (length l.version.runs)) refl
    by_trigger false e = let few = ltb-false l.options.store.trigger (length l.version.runs) e in let le = within in omega (arith, few, le)

    slot_free : length l.version.runs < MOST_SLOTS
    slot_free = by_trigger (ltb l.options.store.trigger (length l.version.runs)) refl

  by_claims : MOST_SLOTS ≤ length l.version.runs → (b : Bool) → has_claims l ≡ b → has_claims l ≡ true
  by_claims full true e = e
  by_claims full false e = let free = slot_free (none_busy l e) in absurd (omega (arith, free, full))

  -- if no slot is free, runs are claimed
  pub runs_claimed : MOST_SLOTS ≤ length l.version.runs → has_claims l ≡ true
  runs_claimed full = by_claims full (has_claims l) refl
