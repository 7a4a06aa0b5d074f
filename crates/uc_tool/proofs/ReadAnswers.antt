-- The replies to a script's calls, by its plain writes.
use Rattle.std.proofs.Common.{◌≡◌, ℕ, zero, suc, ◌+◌, ◌<◌, Bool, true, false, cond, List, [], ◌∷◌, length, take, replicate, inl, inr, lt-ltb, refl, sym, ap, ◌∙◌, subst, Result, Ok, Err, arith}
use Rattle.std.proofs.lemmas.Bool.{false≢true}
use Rattle.std.specs.Prelude.{Option, None, IsOk}
use Rattle.std.specs.List.{AllByRecursion, AllZip, flat_map}
use Rattle.std.proofs.lemmas.List.{take_all}
use Rattle.uc_oper.specs.Operation.{Operation}
use Rattle.uc_bytes.specs.declared.op.Op.{Op}
use Rattle.uc_batch.specs.Batch.{numbered}
use Rattle.uc_batch.specs.Rising.{last_of}
use Rattle.uc_batch.proofs.Rises.{rising-numbered, last_of-append}
use Rattle.uc_query_read.specs.Answers.{is_protected}
use Rattle.uc_claims.specs.Holding.{AreDistinct}
use Rattle.uc_version_state.specs.declared.options.Options.{Options}
use Rattle.uc_version_state.specs.Options.{are_good}
use Rattle.uc_version_state.specs.Versions.{Stored, IsVersion}
use Rattle.uc_version_state.specs.Feeds.{begin_above}
use Rattle.uc_version_state.specs.Histories.{Known}
use Rattle.uc_version.specs.declared.held_stretch.HeldStretch.{HeldStretch}
use Rattle.uc_version.specs.declared.held_stretch.TheConstants.{MOST_CLAIMS}
use Rattle.uc_version.specs.Owners.{Owner, IsOwner, Stands, slots_held, unclaimed}
use Rattle.uc_version.specs.Claiming.{Claim as HeldClaim}
use Rattle.uc_query_workers.specs.declared.ask_error.AskError.{AskError}
use Rattle.uc_query.specs.Names.{State, IsNamedHeld, AreHeld, numbers_of}
use Rattle.uc_query.specs.Turns.{Turn, Rises, turn_of}
use Rattle.uc_query.specs.Running.{run_of, unless_error, unnamed}
use Rattle.uc_query.specs.Answered.{known_then, IsFedOrFull, IsFeedAnswered, AreAnswered}
use Rattle.uc_query.proofs.Along.{all_replied}
use Rattle.uc_query.specs.declared.call.Call.{Call as StoreCall}
use Rattle.uc_query.specs.declared.call.Call.TheVariants as store
use Rattle.uc_query.specs.declared.reply.Reply.{Reply}
use Rattle.uc_query.specs.declared.reply.Reply.TheVariants.{Kept, Released, NotReleased}
use Rattle.uc_script.specs.declared.call.Call.{Call}
use Rattle.uc_script.specs.declared.call.Call.TheVariants.{Read, Claim, Install, Abandon, Compact, Pick, Report, Feed, Keep, Release}
use Rattle.uc_script.specs.Fed.{fed_ops}
use Rattle.uc_tool_opening.specs.Asked.{seq_at}
use Rattle.uc_tool.specs.Play.{call_of, calls_of, FitLogs}
use Rattle.uc_tool.specs.Reading.{IsNotBack}

-- ---- a store of which nothing is claimed

none_stand : (v : Stored) (n : ℕ) → AllByRecursion (Stands v) (replicate n None)
none_stand v zero = tt
none_stand v (suc n) = (tt, none_stand v n)

no_slots : (v : Stored) (n : ℕ) → flat_map (slots_held v) (replicate n None) ≡ []
no_slots v zero = refl
no_slots v (suc n) = no_slots v n

none_held : (o : Owner) (n : ℕ) → AllByRecursion (IsNamedHeld o) (replicate n None)
none_held o zero = tt
none_held o (suc n) = (tt, none_held o n)

no_numbers : (n : ℕ) → numbers_of (replicate n None) ≡ []
no_numbers zero = refl
no_numbers (suc n) = no_numbers n

as_many : {X : Type 0} (x : X) (n : ℕ) → length (replicate n x) ≡ n
as_many x zero = refl
as_many x (suc n) = ap suc (as_many x n)

pub unclaimed_is_owner : (v : Stored) (options : Options) → IsVersion v → are_good options ≡ true → IsOwner (unclaimed v options)
unclaimed_is_owner v options version good = record {
  version = version;
  options_good = good;
  numbers = as_many {X = Option HeldStretch} None MOST_CLAIMS;
  stand = none_stand v MOST_CLAIMS;
  apart = subst AreDistinct (sym (no_slots v MOST_CLAIMS)) tt;
}

pub unnamed_are_held : (o : Owner) → AreHeld o (unnamed o).names
unnamed_are_held o = record {
  count = as_many {X = Option HeldClaim} None MOST_CLAIMS;
  held = none_held o MOST_CLAIMS;
  apart = subst AreDistinct (sym (no_numbers MOST_CLAIMS)) tt;
}

-- ---- the calls of a script, and their replies

-- the last of numbered writes is below the next number
last_below : (last next : ℕ) (ops : List Op) → last < next → last_of last (numbered next ops) < next + length ops
last_below last next [] above = omega (arith, above)
last_below last next (op ∷ ops) above = let rest = last_below next (next + 1) ops (omega arith) in omega (arith, rest)

-- the last sequence of a script's writes is their number
pub last_is_count : (last : ℕ) (ops : List Op) → last_of last (numbered (last + 1) ops) ≡ last + length ops
last_is_count last [] = omega arith
last_is_count last (op ∷ ops) = last_is_count (last + 1) ops ∙ omega arith

module _ (m : Operation) (last : ℕ) where
  -- no call of a script ends its run
  is_made : (s : State) (next : ℕ) (call : Call) → IsOk (turn_of m s (call_of last next call))
  is_made s next (Read asked) = refl
  is_made s next (Claim name first count) = refl
  is_made s next (Install name) = refl
  is_made s next (Abandon name) = refl
  is_made s next (Compact first count) = refl
  is_made s next Pick = refl
  is_made s next Report = refl
  is_made s next (Feed ops) = refl
  is_made s next Keep = refl
  is_made s next (Release at) = refl

  goes_on : (s : State) (others : List StoreCall) (turn : Result Turn AskError) → IsOk turn → ((after : State) → (run_of m after others).error ≡ None) → (unless_error s turn (λ after. run_of m after others)).error ≡ None
  goes_on s others (Ok turn) ok later = later turn.state
  goes_on s others (Err error) ok later = absurd (false≢true ok)

  none_ends : (next : ℕ) (calls : List Call) (s : State) → (run_of m s (calls_of last next calls)).error ≡ None
  none_ends next [] s = refl
  none_ends next (call ∷ calls) s =
      goes_on s (calls_of last (next + length (fed_ops call)) calls) (turn_of m s (call_of last next call)) (is_made s next call) (λ after. none_ends (next + length (fed_ops call)) calls after)

  -- what is known of replies to as many calls as there are is known of the replies to all calls
  pub all_answered : (k : Known) (next : ℕ) (calls : List Call) (s : State) →
      let asked = calls_of last next calls in
      AreAnswered m k (take (length (run_of m s asked).replies) asked) (run_of m s asked).replies → AreAnswered m k asked (run_of m s asked).replies
  all_answered k next calls s answered =
      let asked = calls_of last next calls in
      let long = all_replied m asked s (none_ends next calls s) in
      subst (λ (cs : List StoreCall). AreAnswered m k cs (run_of m s asked).replies) (ap (λ n. take n asked) long ∙ take_all (length asked) asked (omega arith)) answered

  -- what is fed rises
  pub all_rise : (next : ℕ) (calls : List Call) → FitLogs next calls → AllByRecursion Rises (calls_of last next calls)
  all_rise next [] fit = tt
  all_rise next (Read asked ∷ calls) fit = (tt, all_rise (next + 0) calls fit.1)
  all_rise next (Claim name first count ∷ calls) fit = (tt, all_rise (next + 0) calls fit.1)
  all_rise next (Install name ∷ calls) fit = (tt, all_rise (next + 0) calls fit.1)
  all_rise next (Abandon name ∷ calls) fit = (tt, all_rise (next + 0) calls fit.1)
  all_rise next (Compact first count ∷ calls) fit = (tt, all_rise (next + 0) calls fit.1)
  all_rise next (Pick ∷ calls) fit = (tt, all_rise (next + 0) calls fit.1)
  all_rise next (Report ∷ calls) fit = (tt, all_rise (next + 0) calls fit.1)
  all_rise next (Feed ops ∷ calls) fit = (rising-numbered 0 next ops fit.0.from_one fit.0.few, all_rise (next + length ops) calls fit.1)
  all_rise next (Keep ∷ calls) fit = (tt, all_rise (next + 0) calls fit.1)
  all_rise next (Release at ∷ calls) fit = (tt, all_rise (next + 0) calls fit.1)

  -- ---- no feed is turned back, since numbers rise

  begins_above : (low next : ℕ) (ops : List Op) → low < next → begin_above low (numbered next ops) ≡ true
  begins_above low next [] above = refl
  begins_above low next (op ∷ ops) above = lt-ltb low next above

  fed_or_full : (low next : ℕ) (ops : List Op) (reply : Reply) → low < next → IsFeedAnswered low (begin_above low (numbered next ops)) reply → IsFedOrFull reply
  fed_or_full low next ops reply above answered = subst (λ b. IsFeedAnswered low b reply) (begins_above low next ops above) answered

  -- the next number stays above all that was written
  module _ (k : Known) (next : ℕ) (above : last_of 0 k.writes < next) where
    above_kept : (reply : Reply) → reply ≡ Kept (last_of 0 k.writes) → last_of 0 (known_then k store.Keep reply).writes < next
    above_kept reply is = subst (λ (r : Reply). last_of 0 (known_then k store.Keep r).writes < next) (sym is) above

    above_released : (seq : ℕ) (reply : Reply) (b : Bool) → reply ≡ cond b (Released seq) (NotReleased seq) → last_of 0 (known_then k (store.Release seq) reply).writes < next
    above_released seq reply true is = subst (λ (r : Reply). last_of 0 (known_then k (store.Release seq) r).writes < next) (sym is) above
    above_released seq reply false is = subst (λ (r : Reply). last_of 0 (known_then k (store.Release seq) r).writes < next) (sym is) above

    above_fed : (ops : List Op) (reply : Reply) → IsFedOrFull reply →
        last_of 0 (known_then k (call_of last next (Feed ops)) reply).writes < next + length ops
    above_fed ops reply (inl fed) =
        let more = last_of-append 0 k.writes (numbered next ops) in
        let below = last_below (last_of 0 k.writes) next ops above in
        subst (λ (r : Reply). last_of 0 (known_then k (call_of last next (Feed ops)) r).writes < next + length ops) (sym fed.1) (omega (arith, more, below))
    above_fed ops reply (inr (inl full)) =
        subst (λ (r : Reply). last_of 0 (known_then k (call_of last next (Feed ops)) r).writes < next + length ops) (sym full) (omega (arith, above))
    above_fed ops reply (inr (inr spent)) =
        subst (λ (r : Reply). last_of 0 (known_then k (call_of last next (Feed ops)) r).writes < next + length ops) (sym spent) (omega (arith, above))

  pub none_is_back : (calls : List Call) (replies : List Reply) (k : Known) (next : ℕ) → last_of 0 k.writes < next →
      AreAnswered m k (calls_of last next calls) replies → AllZip IsNotBack calls replies
  none_is_back [] [] k next above answered = tt
  none_is_back [] (reply ∷ replies) k next above answered = absurd answered
  none_is_back (call ∷ calls) [] k next above answered = absurd answered
  none_is_back (Read asked ∷ calls) (reply ∷ replies) k next above answered = (tt, none_is_back calls replies k (next + 0) (omega (arith, above)) answered.1)
  none_is_back (Claim name first count ∷ calls) (reply ∷ replies) k next above answered = (tt, none_is_back calls replies k (next + 0) (omega (arith, above)) answered.1)
  none_is_back (Install name ∷ calls) (reply ∷ replies) k next above answered = (tt, none_is_back calls replies k (next + 0) (omega (arith, above)) answered.1)
  none_is_back (Abandon name ∷ calls) (reply ∷ replies) k next above answered = (tt, none_is_back calls replies k (next + 0) (omega (arith, above)) answered.1)
  none_is_back (Compact first count ∷ calls) (reply ∷ replies) k next above answered = (tt, none_is_back calls replies k (next + 0) (omega (arith, above)) answered.1)
  none_is_back (Pick ∷ calls) (reply ∷ replies) k next above answered = (tt, none_is_back calls replies k (next + 0) (omega (arith, above)) answered.1)
  none_is_back (Report ∷ calls) (reply ∷ replies) k next above answered = (tt, none_is_back calls replies k (next + 0) (omega (arith, above)) answered.1)
  none_is_back (Feed ops ∷ calls) (reply ∷ replies) k next above answered =
      let fed = fed_or_full (last_of 0 k.writes) next ops reply above answered.0 in
      (fed, none_is_back calls replies (known_then k (call_of last next (Feed ops)) reply) (next + length ops) (above_fed k next above ops reply fed) answered.1)
  none_is_back (Keep ∷ calls) (reply ∷ replies) k next above answered =
      let still = above_kept k next above reply answered.0 in
      (tt, none_is_back calls replies (known_then k store.Keep reply) (next + 0) (omega (arith, still)) answered.1)
  none_is_back (Release at ∷ calls) (reply ∷ replies) k next above answered =
      let still = above_released k next above (seq_at last at) reply (is_protected k.keeps (seq_at last at)) answered.0 in
      (tt, none_is_back calls replies (known_then k (store.Release (seq_at last at)) reply) (next + 0) (omega (arith, still)) answered.1)
