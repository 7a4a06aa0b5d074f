-- Later states of a live store, composed.
use Rattle.std.proofs.Common.{◌≡◌, ◌⊎◌, inl, inr, None, List, [], ◌∷◌, ◌++◌, fold, append_assoc, refl, sym, ap, ◌∙◌, subst}
use Rattle.std.specs.List.{flat_map}
use Rattle.std.proofs.lemmas.List.{append-nil}
use Rattle.uc_bytes.specs.declared.write.Write.{Write}
use Rattle.uc_oper.specs.Operation.{Operation}
use Rattle.uc_version_state.specs.Versions.{Stored}
use Rattle.uc_version_state.specs.declared.event.Event.{Event}
use Rattle.uc_version_state.specs.declared.event.Event.TheVariants.{Installed, Flushed, Kept, Released}
use Rattle.uc_version_state.specs.Histories.{MayHappen, MayFollow, KeepsStay, after, writes_brought}
use Rattle.uc_live.specs.Lives.{Live, owner_in, committed, unprepared}
use Rattle.uc_live.specs.Going.{Follows, GoesOn, LetsLeave}
use Rattle.uc_live.specs.Writing.{Prepares}
use Rattle.uc_live.proofs.Holding.{same_held, holds_on}

pub follow-append : (m : Operation) (v : Stored) (es fs : List Event) → MayFollow m v es → MayFollow m (fold after v es) fs → MayFollow m v (es ++ fs)
follow-append m v [] fs h more = more
follow-append m v (e ∷ es) fs h more = (h.0, follow-append m (after v e) es fs h.1 more)

pub after-append : (v : Stored) (es fs : List Event) → fold after v (es ++ fs) ≡ fold after (fold after v es) fs
after-append v [] fs = refl
after-append v (e ∷ es) fs = after-append (after v e) es fs

stay-append : (es fs : List Event) → KeepsStay es → KeepsStay fs → KeepsStay (es ++ fs)
stay-append [] fs h more = more
stay-append (Installed i ∷ es) fs h more = stay-append es fs h more
stay-append (Flushed ws ∷ es) fs h more = stay-append es fs h more
stay-append (Kept ∷ es) fs h more = h
stay-append (Released seq ∷ es) fs h more = h

pub brought-append : (es fs : List Event) → flat_map writes_brought (es ++ fs) ≡ flat_map writes_brought es ++ flat_map writes_brought fs
brought-append [] fs = refl
brought-append (e ∷ es) fs = ap (λ (ws : List Write). writes_brought e ++ ws) (brought-append es fs) ∙ sym (append_assoc (writes_brought e) (flat_map writes_brought es) (flat_map writes_brought fs))

-- ---- flush jobs that are out

abbrev Stays : Live → Live → Type 0
Stays old new = ((new.leaving ≡ old.leaving) × ((more : List Write) × (new.gathered ≡ old.gathered ++ more))) ⊎ (new.leaving ≡ None)

-- if the memtables stay
pub lets_stay : (l : Live) (gathered : List Write) → gathered ≡ l.gathered ++ [] → LetsLeave l (record l { gathered = gathered })
lets_stay l gathered same = (refl, inl (refl, ([], same)))

-- and where more comes
pub lets_more : (l : Live) → LetsLeave l (committed l)
lets_more l = (refl, inl (refl, (l.prepared, refl)))

pub lets_on : (a b c : Live) → LetsLeave a b → LetsLeave b c → LetsLeave a c
lets_on a b c first second = (second.0 ∙ first.0, leave first.1 second.1)
  where
    leave : Stays a b → Stays b c → Stays a c
    leave (inl stays) (inl more) =
        inl (
          more.0 ∙ stays.0,
          (stays.1.0 ++ more.1.0, more.1.1 ∙ ap (λ (ws : List Write). ws ++ more.1.0) stays.1.1 ∙ append_assoc a.gathered stays.1.0 more.1.0),
        )
    leave (inl stays) (inr none) = inr none
    leave (inr none) (inl more) = inr (more.0 ∙ none)
    leave (inr none) (inr still) = inr still

module _ (m : Operation) where
  -- without an event
  pub follows_none : (v : Stored) (gathered : List Write) → Follows m v v gathered gathered []
  follows_none v gathered = record { events = []; follow = tt; keeps_stay = tt; version = refl; writes = sym (append-nil gathered) }

  -- writes that are added to memtables
  pub follows_more : (v : Stored) (gathered ws : List Write) → Follows m v v gathered (gathered ++ ws) ws
  follows_more v gathered ws = record { events = []; follow = tt; keeps_stay = tt; version = refl; writes = refl }

  pub follows_on : (u v w : Stored) (a b c us vs : List Write) → Follows m u v a b us → Follows m v w b c vs → Follows m u w a c (us ++ vs)
  follows_on u v w a b c us vs first second =
      let es = first.events in
      let fs = second.events in
      record {
        events = es ++ fs;
        follow = follow-append m u es fs first.follow (subst (λ (s : Stored). MayFollow m s fs) first.version second.follow);
        keeps_stay = stay-append es fs first.keeps_stay second.keeps_stay;
        version = second.version ∙ ap (λ (s : Stored). fold after s fs) first.version ∙ sym (after-append u es fs);
        writes =
            ap (λ (ws : List Write). ws ++ c) (brought-append es fs)
            ∙ append_assoc (flat_map writes_brought es) (flat_map writes_brought fs) c
            ∙ ap (λ (ws : List Write). flat_map writes_brought es ++ ws) second.writes
            ∙ sym (append_assoc (flat_map writes_brought es) b vs)
            ∙ ap (λ (ws : List Write). ws ++ vs) first.writes
            ∙ append_assoc a us vs;
      }

  -- one event that brings no write
  pub follows_event : (v : Stored) (e : Event) (gathered : List Write) → MayHappen m v e → KeepsStay (e ∷ []) → writes_brought e ≡ [] → Follows m v (after v e) gathered gathered []
  follows_event v e gathered may stay none = record {
    events = e ∷ [];
    follow = (may, tt);
    keeps_stay = stay;
    version = refl;
    writes = ap (λ (ws : List Write). (ws ++ []) ++ gathered) none ∙ sym (append-nil gathered);
  }

  -- the memtables are flushed
  pub follows_flush : (v : Stored) (gathered : List Write) → MayHappen m v (Flushed gathered) → Follows m v (after v (Flushed gathered)) gathered [] []
  follows_flush v gathered may = record {
    events = Flushed gathered ∷ [];
    follow = (may, tt);
    keeps_stay = tt;
    version = refl;
    writes = append-nil (gathered ++ []);
  }

  pub goes_nowhere : (l : Live) → GoesOn m l l []
  goes_nowhere l = (follows_none l.version l.gathered, refl, refl, same_held (owner_in l), refl, lets_stay l l.gathered (sym (append-nil l.gathered)))

  pub goes_on : (a b c : Live) (us vs : List Write) → GoesOn m a b us → GoesOn m b c vs → GoesOn m a c (us ++ vs)
  goes_on a b c us vs first second = (
    follows_on a.version b.version c.version a.gathered b.gathered c.gathered us vs first.0 second.0,
    second.1 ∙ first.1,
    second.2 ∙ first.2,
    holds_on (owner_in a) (owner_in b) (owner_in c) first.3 second.3,
    second.4 ∙ first.4,
    lets_on a b c first.5 second.5,
  )

  -- ---- the prepared batch is taken, or discarded

  pub commit_on : (l : Live) → GoesOn m l (committed l) l.prepared
  commit_on l = (follows_more l.version l.gathered l.prepared, refl, refl, same_held (owner_in l), refl, lets_more l)

  pub given_up_on : (l : Live) → GoesOn m l (unprepared l) []
  given_up_on l = (follows_none l.version l.gathered, refl, refl, same_held (owner_in l), refl, lets_stay l l.gathered (sym (append-nil l.gathered)))

  pub commits : (old mid : Live) (ws : List Write) → Prepares m old mid ws → GoesOn m old (committed mid) ws
  commits old mid ws prepares =
      subst (λ (us : List Write). GoesOn m old (committed mid) us) prepares.1 (goes_on old mid (committed mid) [] mid.prepared prepares.0 (commit_on mid))
