-- The state of a history keeps its order, and a view is what was shown at a moment.
use Rattle.std.proofs.Common.{◌≡◌, ◌≤◌, ◌==◌, ℕ, Bool, true, false, List, [], ◌∷◌, ◌++◌, ◌⊎◌, inl, inr, ⊎_elim, length, take, refl, sym, ap, ◌∙◌, subst, arith, if◌then◌else◌}
use Rattle.std.proofs.Math.Nat.{max-le}
use Rattle.std.proofs.lemmas.Bool.{false≢true, eq-eqb}
use Rattle.std.proofs.lemmas.List.{length-append}
use Rattle.std.specs.Prelude.{Option, Some, None}
use Rattle.uc_oper.specs.Operation.{Operation}
use Rattle.uc_query_read.specs.Answers.{reading}
use Rattle.uc_query_read.specs.declared.answer.Answer.{Answer}
use Rattle.uc_query_read.specs.declared.query.Query.{Query}
use Rattle.uc_history.specs.Histories.{Event, Commits, Shows, Acknowledges, Begins, Takes, Answers, State, start, count_of, happens, run, IsRead, MayHappen, MayFollow, SeesMoment}

-- the order of the writes that are taken, shown, acknowledged, seen and in views
pub record Sound (s : State) : Type 0 where
  pub taken : s.shown ≤ length s.log
  pub acknowledged : s.acknowledged ≤ s.shown
  pub seen : s.seen ≤ s.shown
  views : (call n : ℕ) → s.views call ≡ Some n → n ≤ s.shown

-- this many writes were shown after the first of these events
record WasShown (es : List Event) (s : State) (n : ℕ) : Type 0 where
  until : List Event
  since : List Event
  split : es ≡ until ++ since
  shown : n ≡ (run until s).shown

-- ---- options

abbrev is_none : Option ℕ → Type 0
is_none None = Unit {0}
is_none (Some n) = ⊥

none_is_nothing : (n : ℕ) → None ≡ Some n → ⊥
none_is_nothing n same = subst is_none same tt

same_number : (k n : ℕ) → Some k ≡ Some n → k ≡ n
same_number k n same = ap count_of same

picked : (b : Bool) (x y : Option ℕ) (n : ℕ) → (if b then x else y) ≡ Some n → (x ≡ Some n) ⊎ (y ≡ Some n)
picked true x y n same = inl same
picked false x y n same = inr same

counted_below : (o : Option ℕ) (most : ℕ) → ((n : ℕ) → o ≡ Some n → n ≤ most) → count_of o ≤ most
counted_below None most below = omega (arith)
counted_below (Some n) most below = below n refl

-- ---- a view

at_event : (e : Event) (es : List Event) (s : State) (call n : ℕ) → (happens e s).views call ≡ Some n → (s.views call ≡ Some n) ⊎ WasShown (e ∷ es) s n
at_event (Commits writes) es s call n there = inl there
at_event Shows es s call n there = inl there
at_event (Acknowledges k) es s call n there = inl there
at_event (Begins other) es s call n there =
    ⊎_elim (λ none. absurd (none_is_nothing n none)) (λ before. inl before) (picked (call == other) None (s.views call) n there)
at_event (Takes other) es s call n there =
    ⊎_elim (λ now. inr (record { until = []; since = Takes other ∷ es; split = refl; shown = sym (same_number s.shown n now) })) (λ before. inl before)
    (picked (call == other) (Some s.shown) (s.views call) n there)
at_event (Answers other query answer) es s call n there = inl there

found : (es : List Event) (s : State) (call n : ℕ) → (run es s).views call ≡ Some n → (s.views call ≡ Some n) ⊎ WasShown es s n
found [] s call n there = inl there
found (e ∷ es) s call n there =
    ⊎_elim (λ here. at_event e es s call n here)
    (λ (later : WasShown es (happens e s) n). inr (record { until = e ∷ later.until; since = later.since; split = ap (λ (us : List Event). e ∷ us) later.split; shown = later.shown }))
    (found es (happens e s) call n there)

-- ---- lists of events

run_append : (xs ys : List Event) (s : State) → run (xs ++ ys) s ≡ run ys (run xs s)
run_append [] ys s = refl
run_append (x ∷ xs) ys s = run_append xs ys (happens x s)

begins_unseen : (b : Bool) (o : Option ℕ) (n : ℕ) → b ≡ true → (if b then None else o) ≡ Some n → ⊥
begins_unseen true o n same there = none_is_nothing n there
begins_unseen false o n same there = absurd (false≢true same)

shown_up : (e : Event) (s : State) → Sound s → s.shown ≤ (happens e s).shown
shown_up (Commits writes) s sound = omega (arith)
shown_up Shows s sound = sound.taken
shown_up (Acknowledges n) s sound = omega (arith)
shown_up (Begins call) s sound = omega (arith)
shown_up (Takes call) s sound = omega (arith)
shown_up (Answers call query answer) s sound = omega (arith)

module _ (m : Operation) where
  follow_append : (xs ys : List Event) (s : State) → MayFollow m s (xs ++ ys) → MayFollow m s xs × MayFollow m (run xs s) ys
  follow_append [] ys s may = (tt, may)
  follow_append (x ∷ xs) ys s may = let rest = follow_append xs ys (happens x s) may.1 in ((may.0, rest.0), rest.1)

  sound_after : (e : Event) (s : State) → Sound s → MayHappen m s e → Sound (happens e s)
  sound_after (Commits writes) s sound may = record {
    taken = let le = sound.taken in let more = length-append s.log writes in omega (arith, le, more);
    acknowledged = sound.acknowledged;
    seen = sound.seen;
    views = sound.views;
  }
  sound_after Shows s sound may =
      let le = sound.taken in
      record {
        taken = omega (arith);
        acknowledged = let below = sound.acknowledged in omega (arith, le, below);
        seen = let below = sound.seen in omega (arith, le, below);
        views = λ call n there. let below = sound.views call n there in omega (arith, le, below);
      }
  sound_after (Acknowledges n) s sound may = record { taken = sound.taken; acknowledged = max-le sound.acknowledged may; seen = sound.seen; views = sound.views }
  sound_after (Begins other) s sound may = record {
    taken = sound.taken;
    acknowledged = sound.acknowledged;
    seen = sound.seen;
    views = λ call n there.
        ⊎_elim (λ none. absurd (none_is_nothing n none)) (λ before. sound.views call n before) (picked (call == other) None (s.views call) n there);
  }
  sound_after (Takes other) s sound may = record {
    taken = sound.taken;
    acknowledged = sound.acknowledged;
    seen = sound.seen;
    views = λ call n there.
        ⊎_elim (λ now. let same = same_number s.shown n now in omega (arith, same)) (λ before. sound.views call n before)
        (picked (call == other) (Some s.shown) (s.views call) n there);
  }
  sound_after (Answers other query answer) s sound may = record {
    taken = sound.taken;
    acknowledged = sound.acknowledged;
    seen = max-le sound.seen (counted_below (s.views other) s.shown (sound.views other));
    views = sound.views;
  }

  sound_along : (es : List Event) (s : State) → Sound s → MayFollow m s es → Sound (run es s)
  sound_along [] s sound may = sound
  sound_along (e ∷ es) s sound may = sound_along es (happens e s) (sound_after e s sound may.0) may.1

  pub sound_run : (es : List Event) → MayFollow m start es → Sound (run es start)
  sound_run es may = sound_along es start (record {
    taken = omega (arith);
    acknowledged = omega (arith);
    seen = omega (arith);
    views = λ call n there. absurd (none_is_nothing n there);
  }) may

  shown_along : (es : List Event) (s : State) → Sound s → MayFollow m s es → s.shown ≤ (run es s).shown
  shown_along [] s sound may = omega (arith)
  shown_along (e ∷ es) s sound may =
      let up = shown_up e s sound in let rest = shown_along es (happens e s) (sound_after e s sound may.0) may.1 in omega (arith, up, rest)

  -- ---- the law

  module _ (before during : List Event) (call : ℕ) (query : Query) (answer : Answer) where
    moment : (n : ℕ) → Sound (run before start) → MayFollow m (happens (Begins call) (run before start)) during → WasShown during (happens (Begins call) (run before start)) n
        → answer ≡ reading m (take n (run during (happens (Begins call) (run before start))).log) query → SeesMoment m before during call query answer
    moment n sound may was read =
        let begun = happens (Begins call) (run before start) in
        let up = shown_along was.until begun (sound_after (Begins call) (run before start) sound tt) (follow_append was.until was.since begun (subst (λ (es : List Event). MayFollow m begun es) was.split may)).0 in
        let shown = was.shown in
        record {
          until = was.until;
          since = was.since;
          split = was.split;
          count = n;
          shown = was.shown ∙ ap (λ (s : State). s.shown) (sym (run_append before (Begins call ∷ was.until) start));
          answers = read ∙ ap (λ (s : State). reading m (take n s.log) query) (sym (run_append before (Begins call ∷ during) start));
          acknowledged = let le = sound.acknowledged in omega (arith, le, up, shown);
          seen = let le = sound.seen in omega (arith, le, up, shown);
        }

    answered : (o : Option ℕ) → Sound (run before start) → MayFollow m (happens (Begins call) (run before start)) during
        → (run during (happens (Begins call) (run before start))).views call ≡ o → IsRead m (run during (happens (Begins call) (run before start))).log o query answer
        → SeesMoment m before during call query answer
    answered None sound may is read = absurd read
    answered (Some n) sound may is read =
        ⊎_elim (λ there. absurd (begins_unseen (call == call) ((run before start).views call) n (eq-eqb call call refl) there)) (λ was. moment n sound may was read)
        (found during (happens (Begins call) (run before start)) call n is)

    pub sees_moment : (after : List Event) → MayFollow m start (before ++ Begins call ∷ (during ++ Answers call query answer ∷ after)) → SeesMoment m before during call query answer
    sees_moment after may =
        let begun = happens (Begins call) (run before start) in
        let first = follow_append before (Begins call ∷ (during ++ Answers call query answer ∷ after)) start may in
        let rest = follow_append during (Answers call query answer ∷ after) begun first.1.1 in
        answered ((run during begun).views call) (sound_run before first.0) rest.0 refl rest.1.0
