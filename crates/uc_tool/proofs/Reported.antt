-- The output of a report on a store, part after part.
use Rattle.std.proofs.Common.{◌≡◌, ℕ, Bool, true, false, List, [], ◌∷◌, ◌++◌, length, Option, None, Result, Err, refl, ap, sym, ◌∙◌, subst}
use Rattle.std.specs.Prelude.{OnOk, OnErr, IfErr}
use Rattle.std.specs.Io.KnownBytes.{Appends}
use Rattle.uc_oper.specs.Operation.{Operation}
use Rattle.uc_bytes.specs.declared.write.Write.{Write}
use Rattle.uc_batch.specs.Rising.{last_of}
use Rattle.uc_version_state.specs.Options.{are_good}
use Rattle.uc_version_state.specs.declared.options.Options.{Options}
use Rattle.uc_version_state.specs.Versions.{Stored}
use Rattle.uc_version_state.specs.Flushes.{memtables}
use Rattle.uc_version_state.specs.Openings.{Opening, opened}
use Rattle.uc_version_open.specs.Refusal.{opening_refusal, first_refusal, first_ahead, are_few}
use Rattle.uc_version.specs.Owners.{Owner, unclaimed}
use Rattle.uc_tool_io.specs.Writing.{AppendsFront}
use Rattle.uc_tool_io.specs.Output.{joined, Stops, Prints}
use Rattle.uc_tool.specs.Report.{compactions_of, store_lines, output_of, unless_refused, of_writes}
use Rattle.uc_tool_io.specs.declared.run_error.RunError.{RunError}
use Rattle.uc_tool_io.specs.declared.run_error.RunError.TheVariants as run_error
use Rattle.uc_tool.proofs.Compactions.{sent_or_stopped}
use Rattle.uc_tool_io.proofs.Parts.{prints_behind, stops_within}

-- a reply alone
pub one_reply : (reply sent : List ℕ) (old after : Option (List ℕ)) (r : Result (Unit {0}) RunError) → sent ≡ reply
    → OnOk r (Appends old after sent) → OnErr r (AppendsFront old after sent) → IfErr r (λ e. e ≡ run_error.Device) → Prints (reply ∷ []) old after r
one_reply reply sent old after r is ok err device =
    subst (λ (l : List ℕ). Prints (l ∷ []) old after r) is (sent_or_stopped (sent ∷ []) sent old old after r (λ new q p. p) ok err device)

-- Replies in three parts, each of which is printed after the one before.
module _ (xs ys zs : List (List ℕ)) where
  stops_in_first : (a b : Option (List ℕ)) (e : RunError) → Stops xs a b e → Stops (xs ++ (ys ++ zs)) a b e
  stops_in_first a b e p = stops_within xs (ys ++ zs) a b e p

  stops_in_second : (a b c : Option (List ℕ)) (e : RunError) → Appends a b (joined xs) → Stops ys b c e → Stops (xs ++ (ys ++ zs)) a c e
  stops_in_second a b c e p q =
      let r : Result (Unit {0}) RunError = Err e in
      prints_behind xs (ys ++ zs) a b c r p (stops_within ys zs b c e q)

  prints_third : (a b c d : Option (List ℕ)) (r : Result (Unit {0}) RunError) → Appends a b (joined xs) → Appends b c (joined ys) → Prints zs c d r → Prints (xs ++ (ys ++ zs)) a d r
  prints_third a b c d r p q t = prints_behind xs (ys ++ zs) a b d r p (prints_behind ys zs b c d r q t)

-- A store's report, its compactions, and the report on what is then.
module _ (m : Operation) (version : Stored) (options : Options) (start : Owner) (opens : start ≡ unclaimed version options) (first : Stored) (first_is : first ≡ start.version) where
  parts_are : (last : Stored) → last ≡ (compactions_of m start).owner.version
      → (store_lines first ∷ []) ++ ((compactions_of m start).lines ++ (store_lines last ∷ [])) ≡ (output_of m (unclaimed version options)).replies
  parts_are last last_is =
      ap (λ (v : Stored). store_lines v ∷ (compactions_of m start).lines ++ store_lines last ∷ []) first_is
      ∙ ap (λ (v : Stored). store_lines start.version ∷ (compactions_of m start).lines ++ store_lines v ∷ []) last_is
      ∙ ap (λ (o : Owner). (output_of m o).replies) opens

  module _ (a b : Option (List ℕ)) where
    -- an error within the first report
    pub first_fails : (e : RunError) → Stops (store_lines first ∷ []) a b e → Stops (output_of m (unclaimed version options)).replies a b e
    first_fails e p =
        let last = (compactions_of m start).owner.version in
        subst (λ (rs : List (List ℕ)). Stops rs a b e) (parts_are last refl) (stops_in_first (store_lines first ∷ []) (compactions_of m start).lines (store_lines last ∷ []) a b e p)

    module _ (reported : Appends a b (joined (store_lines first ∷ []))) (c : Option (List ℕ)) where
      -- an error among the compactions
      pub second_fails : (e : RunError) → Stops (compactions_of m start).lines b c e → Stops (output_of m (unclaimed version options)).replies a c e
      second_fails e p =
          let last = (compactions_of m start).owner.version in
          subst (λ (rs : List (List ℕ)). Stops rs a c e) (parts_are last refl) (stops_in_second (store_lines first ∷ []) (compactions_of m start).lines (store_lines last ∷ []) a b c e reported p)

      -- what comes of the last report
      pub last_comes : Appends b c (joined (compactions_of m start).lines) → (last : Stored) → last ≡ (compactions_of m start).owner.version
          → (d : Option (List ℕ)) (r : Result (Unit {0}) RunError) → Prints (store_lines last ∷ []) c d r → Prints (output_of m (unclaimed version options)).replies a d r
      last_comes sent last last_is d r p =
          subst (λ (rs : List (List ℕ)). Prints rs a d r) (parts_are last last_is) (prints_third (store_lines first ∷ []) (compactions_of m start).lines (store_lines last ∷ []) a b c d r reported sent p)

-- ---- the opening

-- an opening that doesn't fail has valid options
good_of : (good : Bool) (ahead : Option ℕ) (few : Bool) → first_refusal good ahead few ≡ None → good ≡ true
good_of true ahead few e = refl
good_of false ahead few e = absurd cc

pub good_options : (options : Options) (writes : List Write) → opening_refusal (record { writes = writes; keeps = []; options = options }) ≡ None → are_good options ≡ true
good_options options writes e = good_of (are_good options) (first_ahead (last_of 0 writes) []) (are_few (length (memtables options.memtable writes))) e

-- what is printed of the version is what is printed of the writes
pub opens_so : (m : Operation) (options : Options) (writes : List Write) (version : Stored) → version ≡ opened (record { writes = writes; keeps = []; options = options })
    → opening_refusal (record { writes = writes; keeps = []; options = options }) ≡ None
    → output_of m (unclaimed version options) ≡ of_writes m options writes
opens_so m options writes version is none =
    let o : Opening = record { writes = writes; keeps = []; options = options } in
    ap (λ (v : Stored). output_of m (unclaimed v options)) is ∙ sym (ap (unless_refused m o) none)
