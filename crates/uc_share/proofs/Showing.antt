-- The steps of readers and of the writer keep the rule of what is shown.
use Rattle.std.proofs.Common.{◌≡◌, ℕ, ◌≤◌, ◌≢◌, Bool, true, List, [], ◌∷◌, ◌++◌, fold, length, refl, sym, ap, ◌∙◌, subst, ⊎_elim, le_refl, le_trans, zero-le}
use Rattle.std.specs.Prelude.{Result, Ok, Err, MatchResult}
use mathlib.Core.Option.{some, some-ne-none}
use lib.ListN.{get_elem?}
use Rattle.crossbeam_utils.specs.Register.{Admits, TurnsAt}
use Rattle.atomic_table.proofs.Lists.{at_set, at_snoc}
use Rattle.logbook.specs.Pages.{Book}
use Rattle.uc_oper.specs.Operation.{Operation}
use Rattle.uc_version_state.specs.Versions.{Stored}
use Rattle.uc_version_state.specs.declared.event.Event.{Event}
use Rattle.uc_version_state.specs.declared.event.Event.TheVariants.{Installed, Flushed, Kept, Released}
use Rattle.uc_version_state.specs.Histories.{KeepsStay, MayHappen, after}
use Rattle.uc_version_state.proofs.Growing.{follow-append, after-append}
use Rattle.uc_share.specs.Fronts.{Moment, IsMoment, AllWithin, IsRuled, Tells, after_event}

-- the first reader has seen nothing
pub first_within : (n : ℕ) → AllWithin n (0 ∷ [])
first_within n seat v at = ⊎_elim (λ e. absurd (some-ne-none v (sym e))) (λ (e : 0 ≡ v). subst (λ (z : ℕ). z ≤ n) e zero-le) (at_snoc [] 0 v seat at)

-- keeps that stay along events stay along one more that leaves them alone
stay-append : (es : List Event) (e : Event) → KeepsStay es → KeepsStay (e ∷ []) → KeepsStay (es ++ e ∷ [])
stay-append [] e stay one = one
stay-append (Installed i ∷ es) e stay one = stay-append es e stay one
stay-append (Flushed ws ∷ es) e stay one = stay-append es e stay one
stay-append (Kept ∷ es) e stay one = absurd stay
stay-append (Released seq ∷ es) e stay one = absurd stay

module _ (m : Operation) (stay : Bool) (book : Book) (base : Stored) where
  pub admits : Admits (IsRuled m stay book base) 0
  admits x views h = (h.0, λ seat v at. ⊎_elim (h.1 seat v) (λ (e : 0 ≡ v). subst (λ (z : ℕ). z ≤ length x.events) e zero-le) (at_snoc views 0 v seat at))

  -- what is shown next is the store's and has no fewer events, and the caller knows how many
  pub rises : (seat v : ℕ) (x y : Moment) → length x.events ≤ length y.events → IsMoment m stay book base y → TurnsAt (IsRuled m stay book base) seat v x y (Tells m stay book base)
  rises seat v x y up is views h at = (
    length y.events,
    (
      is,
      λ j u e. ⊎_elim (λ (t : (j ≡ seat) × (length y.events ≡ u)). subst (λ (z : ℕ). z ≤ length y.events) t.1 (le_refl (length y.events)))
          (λ (t : (j ≢ seat) × (get_elem? views j ≡ some u)). le_trans (h.1 j u t.1) up) (at_set views seat j (length y.events) u e),
    ),
    (h.1 seat v at, refl, is),
  )

  pub enters : (seat v : ℕ) (x : Moment) → TurnsAt (IsRuled m stay book base) seat v x x (Tells m stay book base)
  enters seat v x views h at = rises seat v x x (le_refl (length x.events)) h.0 views h at

  pub grows : (s : Moment) (e : Event) → IsMoment m stay book base s → MayHappen m s.version e → (stay ≡ true → KeepsStay (e ∷ [])) → IsMoment m stay book base (after_event e s)
  grows s e is may leaves = record {
    book_is = is.book_is;
    seen = record {
      legal = follow-append m base s.events e is.seen.legal (subst (λ (v : Stored). MayHappen m v e) is.version_is may);
      keeps = λ stays. stay-append s.events e (is.seen.keeps stays) (leaves stays);
    };
    version_is = ap (λ (v : Stored). after v e) is.version_is ∙ sym (after-append base s.events e);
  }

-- the next shown version is the last of those that were queued, even if a failure left others in front of it
pub last_taken : (now next : Moment) (before : List Moment) → fold (λ (x : Moment) (y : Moment). y) now (before ++ next ∷ []) ≡ next
last_taken now next [] = refl
last_taken now next (s ∷ before) = last_taken s next before

pub ok_shows : {A B : Type 0} (Q Z : Type 0) (r : Result A B) (a : A) (now made next : Moment) → r ≡ Ok a → MatchResult r (λ _. (now ≡ made) × Q) (λ _. Z) → made ≡ next → now ≡ next
ok_shows Q Z (Ok x) a now made next is h e = h.0 ∙ e
ok_shows Q Z (Err x) a now made next is h e = cc (is)
