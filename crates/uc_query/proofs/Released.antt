-- A list of calls, and the claims that are given back at its end.
use Rattle.std.proofs.Common.{◌≡◌, List, [], ◌∷◌, length, take, refl, sym, ap, ◌∙◌, subst, arith, rules}
use Rattle.std.specs.Prelude.{Option, Some, None, Result, Ok, Err, IfOk, IfErr, fold, replicate}
use Rattle.std.specs.List.{AllByRecursion}
use Rattle.std.proofs.lemmas.List.{take_all}
use Rattle.uc_oper.specs.Operation.{Operation}
use Rattle.uc_version.specs.declared.held_stretch.TheConstants.{MOST_CLAIMS}
use Rattle.uc_version.specs.Owners.{Owner}
use Rattle.uc_version.specs.Claiming.{Claim, without_claim}
use Rattle.uc_version_state.specs.Versions.{Stored}
use Rattle.uc_version_state.specs.Histories.{History, Known}
use Rattle.uc_query_workers.specs.declared.ask_error.AskError.{AskError}
use Rattle.uc_query.specs.declared.call.Call.{Call}
use Rattle.uc_query.specs.declared.reply.Reply.{Reply}
use Rattle.uc_query.specs.Names.{State, AreHeld, given_back, released}
use Rattle.uc_query.specs.Turns.{Rises}
use Rattle.uc_query.specs.Running.{run_of, unnamed, RunsAll, Stops}
use Rattle.uc_query.specs.Stepping.{RunsTo, Halts}
use Rattle.uc_query.specs.Answered.{AreAnswered, LeadsTo}
use Rattle.uc_query.proofs.Along.{all_replied}

-- a store of which nothing is claimed under a name
pub none_held : (o : Owner) → AreHeld o (replicate MOST_CLAIMS None)
none_held o = search rules

-- giving claims back changes no version
still_version : (names : List (Option Claim)) (o : Owner) → (fold given_back o names).version ≡ o.version
still_version [] o = refl
still_version (None ∷ names) o = still_version names o
still_version (Some c ∷ names) o = still_version names (without_claim o c)

module _ (m : Operation) (old new : Owner) (names : List (Option Claim)) (calls : List Call) (left : State) (empty : names ≡ replicate MOST_CLAIMS None) (new_is : new ≡ released left) where
  from_unnamed : (P : State → Type 0) → P (record { owner = old; names = names }) → P (unnamed old)
  from_unnamed P h = subst (λ (ns : List (Option Claim)). P (record { owner = old; names = ns })) empty h

  runs_all : (replies : List Reply) → RunsTo m (unnamed old) calls replies left → RunsAll m old calls replies new
  runs_all replies h = record { no_error = h.no_error; replied = h.replied; left = new_is ∙ ap released h.left }

  stops : (error : AskError) → Halts m (unnamed old) calls error left → Stops m old calls error new
  stops error h = record { made = h.made; failed = h.failed; others = h.others; in_order = h.in_order; no_error = h.no_error; why = h.why; left = new_is ∙ ap released h.left }

  module _ {X : Type 0} (items : X → List Reply) where
    abbrev Ran : Result X AskError → Type 0
    Ran r = IfOk r (λ x. RunsTo m (record { owner = old; names = names }) calls (items x) left)

    abbrev Halted : Result X AskError → Type 0
    Halted r = IfErr r (λ error. Halts m (record { owner = old; names = names }) calls error left)

    pub ok_released : (r : Result X AskError) → Ran r → IfOk r (λ x. RunsAll m old calls (items x) new)
    ok_released (Ok x) h = runs_all (items x) (from_unnamed (λ s. RunsTo m s calls (items x) left) h)
    ok_released (Err error) h = tt

    pub err_released : (r : Result X AskError) → Halted r → IfErr r (λ error. Stops m old calls error new)
    err_released (Ok x) h = tt
    err_released (Err error) h = stops error (from_unnamed (λ s. Halts m s calls error left) h)

    -- ---- what is then

    module _ (h : History) (extends : (cs : List Call) → AllByRecursion Rises cs → LeadsTo m h (run_of m (unnamed old) cs).state.owner.version) where
      leads : (cs : List Call) → AllByRecursion Rises cs → left ≡ (run_of m (unnamed old) cs).state → LeadsTo m h new.version
      leads cs rising is =
          let ran = (run_of m (unnamed old) cs).state in
          subst (λ (v : Stored). LeadsTo m h v) (sym (ap (λ (o : Owner). o.version) (new_is ∙ ap released is) ∙ still_version ran.names ran.owner)) (extends cs rising)

      pub new_version : (r : Result X AskError) → Ran r → Halted r → LeadsTo m h new.version
      new_version (Ok x) ran halted = let all = from_unnamed (λ s. RunsTo m s calls (items x) left) ran in leads calls all.rising all.left
      new_version (Err error) ran halted = let some = from_unnamed (λ s. Halts m s calls error left) halted in leads some.made some.rising some.left

    -- ---- what was replied

    module _ (k : Known) (answered : AllByRecursion Rises calls → AreAnswered m k (take (length (run_of m (unnamed old) calls).replies) calls) (run_of m (unnamed old) calls).replies) where
      whole : (replies : List Reply) → RunsTo m (unnamed old) calls replies left → AreAnswered m k calls replies
      whole replies ran =
          let long = all_replied m calls (unnamed old) ran.no_error in
          subst (λ (rs : List Reply). AreAnswered m k calls rs) (sym ran.replied)
          (subst (λ (cs : List Call). AreAnswered m k cs (run_of m (unnamed old) calls).replies) (ap (λ n. take n calls) long ∙ take_all (length calls) calls (omega arith)) (answered ran.rising))

      pub new_answers : (r : Result X AskError) → Ran r → IfOk r (λ x. AreAnswered m k calls (items x))
      new_answers (Ok x) ran = whole (items x) (from_unnamed (λ s. RunsTo m s calls (items x) left) ran)
      new_answers (Err error) ran = tt
