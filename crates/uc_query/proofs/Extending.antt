-- Lists of calls along a history.
use Rattle.std.proofs.Common.{◌≡◌, ℕ, Bool, true, false, cond, List, [], ◌∷◌, ◌++◌, length, take, map, inl, inr, refl, sym, ap, ◌∙◌, subst, append-nil}
use Rattle.std.specs.Prelude.{⊤, Option, Some, None, Result, Ok, Err}
use Rattle.std.specs.List.{AllByRecursion}
use Rattle.std.proofs.lemmas.List.{append_assoc}
use Rattle.std.proofs.lemmas.List.Sums.{fold_push}
use Rattle.uc_oper.specs.Operation.{Operation}
use Rattle.uc_bytes.specs.declared.write.Write.{Write}
use Rattle.uc_batch.specs.Rising.{last_of}
use Rattle.uc_batch.specs.WriteLog.{WriteLog}
use Rattle.uc_query_read.specs.declared.query.Query.{Query}
use Rattle.uc_query_read.specs.Answers.{is_protected, answer_of}
use Rattle.uc_version_state.specs.Versions.{Stored, writes_in}
use Rattle.uc_version_state.specs.Feeds.{begin_above, first_feed_refusal, feed_refusal}
use Rattle.uc_version_state.specs.declared.event.Event.{Event}
use Rattle.uc_version_state.specs.Histories.{History, IsLegal, MayHappen, after, version_after, writes_given, Known, known_after, known_at_first, known}
use Rattle.uc_version.specs.Owners.{IsOwner}
use Rattle.uc_query_workers.specs.declared.ask_error.AskError.{AskError}
use Rattle.uc_query_workers.specs.Asking.{ask_refusal}
use Rattle.uc_query.specs.declared.call.Call.{Call}
use Rattle.uc_query.specs.declared.call.Call.TheVariants as call
use Rattle.uc_query.specs.declared.reply.Reply.{Reply}
use Rattle.uc_query.specs.declared.reply.Reply.TheVariants.{Answers, Kept, Released, NotReleased}
use Rattle.uc_query.specs.Names.{State, AreHeld}
use Rattle.uc_query.specs.Turns.{Turn, Rises, ask_turn, feed_turn, release_turn, turn_of}
use Rattle.uc_query.specs.Running.{unless_error, run_of}
use Rattle.uc_query.specs.Answered.{known_then, IsFeedAnswered, IsAnswered, AreAnswered, LeadsTo}
use Rattle.uc_query.proofs.Turning.{OwnersStay, Moves, Steps, StepsIfOk, steps}

-- what is known of histories
pub record Grows (m : Operation) : Type 0 where
  pub legal : (h : History) (e : Event) → IsLegal m h → MayHappen m (version_after h) e → IsLegal m (record h { events = h.events ++ e ∷ [] })
  pub then_after : (h : History) (e : Event) → version_after (record h { events = h.events ++ e ∷ [] }) ≡ after (version_after h) e

-- what is known of versions along histories
pub record Says (m : Operation) : Type 0 where
  pub writes : (h : History) → (known h).writes ≡ writes_given h
  pub last : (h : History) → IsLegal m h → last_of 0 (writes_given h) ≡ (version_after h).last
  pub keeps : (h : History) → IsLegal m h → (known h).keeps ≡ (version_after h).keeps
  pub answers : (h : History) (query : Query) → IsLegal m h → answer_of m (writes_in (version_after h)) (version_after h).keeps query ≡ answer_of m (writes_given h) (version_after h).keeps query

-- one event more
abbrev pub longer : History → Event → History
longer h e = record h { events = h.events ++ e ∷ [] }

longer_known : (h : History) (e : Event) → known (longer h e) ≡ known_after (known h) e
longer_known h e = fold_push known_after (known_at_first h.opening) h.events e

-- ---- replies by what is known

module _ (m : Operation) (s : State) where
  fed_by : (ws : List Write) (last : ℕ) (above few ids : Bool) → IsFeedAnswered last above (feed_turn s ws (first_feed_refusal last above few ids)).reply
  fed_by ws last false few ids = refl
  fed_by ws last true false ids = inr (inl refl)
  fed_by ws last true true false = inr (inr refl)
  fed_by ws last true true true = inl (_, refl)

  released_by : (seq : ℕ) (b : Bool) → (release_turn s seq b).reply ≡ cond b (Released seq) (NotReleased seq)
  released_by seq true = refl
  released_by seq false = refl

module _ (m : Operation) (owners : OwnersStay m) (grows : Grows m) where
  -- an event that follows a history
  module _ (h : History) (e : Event) (v w : Stored) (legal : IsLegal m h) (version : v ≡ version_after h) (may : MayHappen m v e) (is : w ≡ after v e) where
    longer_legal : IsLegal m (longer h e)
    longer_legal = grows.legal h e legal (subst (λ (u : Stored). MayHappen m u e) version may)

    longer_version : w ≡ version_after (longer h e)
    longer_version = is ∙ ap (λ (u : Stored). after u e) version ∙ sym (grows.then_after h e)

    longer_extends : (u : Stored) → LeadsTo m (longer h e) u → LeadsTo m h u
    longer_extends u more =
        let same : longer_events more.0 ≡ h.events ++ e ∷ more.0 = append_assoc h.events (e ∷ []) more.0 in (
          e ∷ more.0,
          subst (λ (es : List Event). IsLegal m (record h { events = es })) same more.1,
          more.2 ∙ ap (λ (es : List Event). version_after (record h { events = es })) same,
        )
      where
        longer_events : List Event → List Event
        longer_events es = (h.events ++ e ∷ []) ++ es

  none_extends : (h : History) (v : Stored) → IsLegal m h → v ≡ version_after h → LeadsTo m h v
  none_extends h v legal version = (
    [],
    subst (λ (es : List Event). IsLegal m (record h { events = es })) (sym (append-nil h.events)) legal,
    version ∙ ap (λ (es : List Event). version_after (record h { events = es })) (sym (append-nil h.events)),
  )

  -- a store along a history
  abbrev Along : History → State → Type 0
  Along h s = IsLegal m h × IsOwner s.owner × AreHeld s.owner s.names × (s.owner.version ≡ version_after h)

  -- the state after a turn continues along it
  along_still : (h : History) (s : State) (x : Call) (turn : Turn) → Along h s → Steps m s x turn → turn.state.owner.version ≡ s.owner.version → Along h turn.state
  along_still h s x turn a step same = (a.0, step.owner, step.held, same ∙ a.3)

  along_longer : (h : History) (e : Event) (s : State) (x : Call) (turn : Turn) → Along h s → Steps m s x turn → MayHappen m s.owner.version e → turn.state.owner.version ≡ after s.owner.version e → Along (longer h e) turn.state
  along_longer h e s x turn a step may is = (
    longer_legal h e s.owner.version turn.state.owner.version a.0 a.3 may is,
    step.owner,
    step.held,
    longer_version h e s.owner.version turn.state.owner.version a.0 a.3 may is,
  )

  pub extend : (calls : List Call) → AllByRecursion Rises calls → (h : History) (s : State) → Along h s → LeadsTo m h (run_of m s calls).state.owner.version
  extend [] rise h s a = none_extends h s.owner.version a.0 a.3
  extend (x ∷ xs) rise h s a = by_turn (turn_of m s x) (steps m owners s a.1 a.2 x rise.0) (λ g t b. extend xs rise.1 g t b)
    where
      by_move : (turn : Turn) → Steps m s x turn → Moves m x turn.reply s.owner.version turn.state.owner.version →
          ((g : History) (u : State) → Along g u → LeadsTo m g (run_of m u xs).state.owner.version) → LeadsTo m h (run_of m turn.state xs).state.owner.version
      by_move turn step (inl same) later = later h turn.state (along_still h s x turn a step same.0)
      by_move turn step (inr next) later =
          longer_extends h next.0 s.owner.version turn.state.owner.version a.0 a.3 next.1 next.2 (run_of m turn.state xs).state.owner.version
          (later (longer h next.0) turn.state (along_longer h next.0 s x turn a step next.1 next.2))

      by_turn : (r : Result Turn AskError) → StepsIfOk m s x r →
          ((g : History) (u : State) → Along g u → LeadsTo m g (run_of m u xs).state.owner.version) → LeadsTo m h (unless_error s r (λ next. run_of m next xs)).state.owner.version
      by_turn (Err error) step later = none_extends h s.owner.version a.0 a.3
      by_turn (Ok turn) step later = by_move turn step step.version later

  -- ---- answers

  module _ (says : Says m) where
    abbrev AnsweredIfOk : Known → Call → Result Turn AskError → Type 0
    AnsweredIfOk k x (Ok turn) = IsAnswered m k x turn.reply
    AnsweredIfOk k x (Err error) = ⊤

    module _ (h : History) (s : State) (a : Along h s) where
      last_is : s.owner.version.last ≡ last_of 0 (known h).writes
      last_is = ap (λ (v : Stored). v.last) a.3 ∙ sym (says.last h a.0) ∙ ap (last_of 0) (sym (says.writes h))

      keeps_are : s.owner.version.keeps ≡ (known h).keeps
      keeps_are = ap (λ (v : Stored). v.keeps) a.3 ∙ sym (says.keeps h a.0)

      answer_is : (query : Query) → answer_of m (writes_in s.owner.version) s.owner.version.keeps query ≡ answer_of m (known h).writes (known h).keeps query
      answer_is query =
          ap (λ (v : Stored). answer_of m (writes_in v) v.keeps query) a.3
          ∙ says.answers h query a.0
          ∙ ap (λ (ws : List Write). answer_of m ws (version_after h).keeps query) (sym (says.writes h))
          ∙ ap (λ (keeps : List ℕ). answer_of m (known h).writes keeps query) (sym (says.keeps h a.0))

      all_answers : (queries : List Query) → map (answer_of m (writes_in s.owner.version) s.owner.version.keeps) queries ≡ map (answer_of m (known h).writes (known h).keeps) queries
      all_answers [] = refl
      all_answers (q ∷ qs) =
          ap (λ a. a ∷ map (answer_of m (writes_in s.owner.version) s.owner.version.keeps) qs) (answer_is q)
          ∙ ap (λ as_. answer_of m (known h).writes (known h).keeps q ∷ as_) (all_answers qs)

      asked : (queries : List Query) (workers piece : ℕ) (refusal : Option AskError) → AnsweredIfOk (known h) (call.Ask queries workers piece) (ask_turn m s queries refusal)
      asked queries workers piece (Some error) = tt
      asked queries workers piece None = ap Answers (all_answers queries)

      fed : (writes : WriteLog) → AnsweredIfOk (known h) (call.Feed writes) (turn_of m s (call.Feed writes))
      fed writes =
          subst (λ last. IsFeedAnswered last (begin_above last writes.list) (feed_turn s writes.list (feed_refusal s.owner.version writes.list)).reply) last_is
          (fed_by m s writes.list s.owner.version.last (begin_above s.owner.version.last writes.list) _ _)

      let_go : (seq : ℕ) → (release_turn s seq (is_protected s.owner.version.keeps seq)).reply ≡ cond (is_protected (known h).keeps seq) (Released seq) (NotReleased seq)
      let_go seq = released_by m s seq (is_protected s.owner.version.keeps seq) ∙ ap (λ (keeps : List ℕ). cond (is_protected keeps seq) (Released seq) (NotReleased seq)) keeps_are

      turn_answered : (x : Call) → AnsweredIfOk (known h) x (turn_of m s x)
      turn_answered (call.Claim name stretch) = tt
      turn_answered (call.Install name) = tt
      turn_answered (call.Abandon name) = tt
      turn_answered (call.Compact stretch) = tt
      turn_answered call.Pick = tt
      turn_answered call.Report = tt
      turn_answered (call.Ask queries workers piece) = asked queries workers piece (ask_refusal workers piece)
      turn_answered (call.Feed writes) = fed writes
      turn_answered call.Keep = ap Kept last_is
      turn_answered (call.Release seq) = let_go seq

    abbrev AllAnswered : Known → List Call → List Reply → Type 0
    AllAnswered k calls replies = AreAnswered m k (take (length replies) calls) replies

    pub answered : (calls : List Call) → AllByRecursion Rises calls → (h : History) (s : State) → Along h s → AllAnswered (known h) calls (run_of m s calls).replies
    answered [] rise h s a = tt
    answered (x ∷ xs) rise h s a = by_turn (turn_of m s x) (steps m owners s a.1 a.2 x rise.0) (turn_answered h s a x) (λ g t b. answered xs rise.1 g t b)
      where
        by_move : (turn : Turn) → Steps m s x turn → Moves m x turn.reply s.owner.version turn.state.owner.version →
            ((g : History) (u : State) → Along g u → AllAnswered (known g) xs (run_of m u xs).replies) → AllAnswered (known_then (known h) x turn.reply) xs (run_of m turn.state xs).replies
        by_move turn step (inl same) later =
            subst (λ (k : Known). AllAnswered k xs (run_of m turn.state xs).replies) (sym (same.1 (known h))) (later h turn.state (along_still h s x turn a step same.0))
        by_move turn step (inr next) later =
            subst (λ (k : Known). AllAnswered k xs (run_of m turn.state xs).replies) (longer_known h next.0 ∙ sym (next.3 (known h)))
            (later (longer h next.0) turn.state (along_longer h next.0 s x turn a step next.1 next.2))

        by_turn : (r : Result Turn AskError) → StepsIfOk m s x r → AnsweredIfOk (known h) x r →
            ((g : History) (u : State) → Along g u → AllAnswered (known g) xs (run_of m u xs).replies) →
            AllAnswered (known h) (x ∷ xs) (unless_error s r (λ next. run_of m next xs)).replies
        by_turn (Err error) step here later = tt
        by_turn (Ok turn) step here later = (here, by_move turn step step.version later)
