-- Lists of calls, one more call at a time.
use Rattle.std.proofs.Common.{◌≡◌, ℕ, zero, suc, ◌+◌, ◌<◌, ◌≤◌, List, [], ◌∷◌, ◌++◌, length, get_or, take, drop, refl, sym, ap, ◌∙◌, subst, arith}
use Rattle.std.specs.Prelude.{Option, None, Result, Ok, Err}
use Rattle.std.specs.List.{AllByRecursion}
use Rattle.std.proofs.lemmas.List.{take-append-drop, drop_more, take_more, take_all}
use Rattle.uc_oper.specs.Operation.{Operation}
use Rattle.uc_version.specs.Owners.{Owner}
use Rattle.uc_version.specs.Claiming.{Claim}
use Rattle.uc_query_workers.specs.declared.ask_error.AskError.{AskError}
use Rattle.uc_query.specs.declared.call.Call.{Call}
use Rattle.uc_query.specs.declared.reply.Reply.{Reply}
use Rattle.uc_query.specs.Names.{State}
use Rattle.uc_query.specs.Turns.{Turn, FailsWith, Rises, turn_of}
use Rattle.uc_query.specs.Running.{Ran, unless_error, run_of}
use Rattle.uc_query.specs.Stepping.{RunsTo, Halts}

-- the results of calls after others
abbrev pub behind_all : Ran → Ran → Ran
behind_all first rest = record { replies = first.replies ++ rest.replies; state = rest.state; error = rest.error }

-- one call more that rises
rising_on : (xs : List Call) (x : Call) → AllByRecursion Rises xs → Rises x → AllByRecursion Rises (xs ++ x ∷ [])
rising_on [] x h more = (more, tt)
rising_on (y ∷ ys) x h more = (h.0, rising_on ys x h.1 more)

module _ (m : Operation) where
  pub run-append : (xs ys : List Call) (s : State) → (run_of m s xs).error ≡ None → run_of m s (xs ++ ys) ≡ behind_all (run_of m s xs) (run_of m (run_of m s xs).state ys)
  run-append [] ys s fine = refl
  run-append (x ∷ xs) ys s fine = by_turn (turn_of m s x) fine (λ next rest. run-append xs ys next rest)
    where
      by_turn : (t : Result Turn AskError) → (unless_error s t (λ next. run_of m next xs)).error ≡ None →
          ((next : State) → (run_of m next xs).error ≡ None → run_of m next (xs ++ ys) ≡ behind_all (run_of m next xs) (run_of m (run_of m next xs).state ys)) →
          unless_error s t (λ next. run_of m next (xs ++ ys)) ≡ behind_all (unless_error s t (λ next. run_of m next xs)) (run_of m (unless_error s t (λ next. run_of m next xs)).state ys)
      by_turn (Err error) e later = absurd cc
      by_turn (Ok turn) e later = ap (λ (ran : Ran). record ran { replies = turn.reply ∷ ran.replies }) (later turn.state e)

  -- one call alone
  one_more : (s : State) (x : Call) (turn : Turn) → turn_of m s x ≡ Ok turn → run_of m s (x ∷ []) ≡ record { replies = turn.reply ∷ []; state = turn.state; error = None }
  one_more s x turn is = ap (λ (t : Result Turn AskError). unless_error s t (λ next. run_of m next [])) is

  module _ (s : State) where
    -- so far, nothing went wrong
    pub runs_none : RunsTo m s [] [] s
    runs_none = record { no_error = refl; replied = refl; left = refl; rising = tt }

    pub runs_on : (calls : List Call) (x : Call) (replies : List Reply) (now next : State) (reply : Reply) → RunsTo m s calls replies now → Rises x → turn_of m now x ≡ Ok (record { reply = reply; state = next }) →
        RunsTo m s (calls ++ x ∷ []) (replies ++ reply ∷ []) next
    runs_on calls x replies now next reply so_far rises turn =
        let at = turn_here in
        let last = one_more (run_of m s calls).state x (record { reply = reply; state = next }) at in
        let whole = run-append calls (x ∷ []) s so_far.no_error ∙ ap (behind_all (run_of m s calls)) last in
        record {
          no_error = ap (λ (ran : Ran). ran.error) whole;
          replied = ap (λ (rs : List Reply). rs ++ reply ∷ []) so_far.replied ∙ sym (ap (λ (ran : Ran). ran.replies) whole);
          left = sym (ap (λ (ran : Ran). ran.state) whole);
          rising = rising_on calls x so_far.rising rises;
        }
      where
        turn_here : turn_of m (run_of m s calls).state x ≡ Ok (record { reply = reply; state = next })
        turn_here = sym (ap (λ (t : State). turn_of m t x) so_far.left) ∙ turn

    -- ---- the loop's steps: the calls before a place were made

    module _ (calls : List Call) (i : ℕ) (d : Call) (room : i < length calls) where
      pub step_on : (replies : List Reply) (now next : State) (reply : Reply) → RunsTo m s (take i calls) replies now → Rises (get_or calls i d) → turn_of m now (get_or calls i d) ≡ Ok (record { reply = reply; state = next }) →
          RunsTo m s (take (i + 1) calls) (replies ++ reply ∷ []) next
      step_on replies now next reply so_far rises turn =
          subst (λ (cs : List Call). RunsTo m s cs (replies ++ reply ∷ []) next) (sym (take_more calls i d room)) (runs_on (take i calls) (get_or calls i d) replies now next reply so_far rises turn)

      parts : take i calls ++ get_or calls i d ∷ drop (i + 1) calls ≡ calls
      parts = ap (λ (cs : List Call). take i calls ++ cs) (sym (drop_more calls i d room)) ∙ take-append-drop i calls

      -- the call at the place fails
      pub step_halts : (replies : List Reply) (now : State) (error : AskError) → RunsTo m s (take i calls) replies now → FailsWith (turn_of m now (get_or calls i d)) error → Halts m s calls error now
      step_halts replies now error so_far why = record {
        made = take i calls;
        failed = get_or calls i d;
        others = drop (i + 1) calls;
        in_order = sym parts;
        no_error = so_far.no_error;
        why = subst (λ (t : State). FailsWith (turn_of m t (get_or calls i d)) error) so_far.left why;
        left = so_far.left;
        rising = so_far.rising;
      }

    pub runs_whole : (calls : List Call) (i : ℕ) (replies : List Reply) (now : State) → length calls ≤ i → RunsTo m s (take i calls) replies now → RunsTo m s calls replies now
    runs_whole calls i replies now all so_far = subst (λ (cs : List Call). RunsTo m s cs replies now) (take_all i calls all) so_far

-- what holds of all calls holds of the one at a place
pub call_at : (P : Call → Type 0) (calls : List Call) (i : ℕ) (d : Call) → AllByRecursion P calls → i < length calls → P (get_or calls i d)
call_at P [] i d h lt = absurd (omega (arith, lt))
call_at P (c ∷ cs) zero d h lt = h.0
call_at P (c ∷ cs) (suc i) d h lt = call_at P cs i d h.1 (omega (arith, lt))

-- the same state, by its parts
pub same_state : (P : State → Type 0) (o p : Owner) (names others : List (Option Claim)) → p ≡ o → others ≡ names → P (record { owner = o; names = names }) → P (record { owner = p; names = others })
same_state P o p names others owner_is names_are h =
    subst (λ (ns : List (Option Claim)). P (record { owner = p; names = ns })) (sym names_are) (subst (λ (q : Owner). P (record { owner = q; names = names })) (sym owner_is) h)

-- where no call failed there is a reply to each
pub all_replied : (m : Operation) (calls : List Call) (s : State) → (run_of m s calls).error ≡ None → length (run_of m s calls).replies ≡ length calls
all_replied m [] s fine = refl
all_replied m (x ∷ xs) s fine = by_turn (turn_of m s x) fine (λ next rest. all_replied m xs next rest)
  where
    by_turn : (t : Result Turn AskError) → (unless_error s t (λ next. run_of m next xs)).error ≡ None →
        ((next : State) → (run_of m next xs).error ≡ None → length (run_of m next xs).replies ≡ length xs) →
        length (unless_error s t (λ next. run_of m next xs)).replies ≡ suc (length xs)
    by_turn (Err error) e later = absurd cc
    by_turn (Ok turn) e later = ap suc (later turn.state e)
