-- Steps that lead the machine on.
use Rattle.std.proofs.Common.{◌≡◌, ℕ, List, [], ◌∷◌, ◌++◌, length, map, fold, refl, sym, ap, ◌∙◌, subst, append_assoc, append-nil}
use Rattle.std.specs.List.{AllByRecursion}
use Rattle.uc_oper.specs.Operation.{Operation, IsLawful}
use Rattle.uc_version_state.specs.Versions.{PlacedRun, Stored}
use Rattle.uc_version_state.specs.Openings.{Opening, MayOpen, opened}
use Rattle.uc_version_state.specs.declared.event.Event.{Event}
use Rattle.uc_version_state.specs.declared.event.Event.TheVariants.{Installed, Flushed, Kept, Released}
use Rattle.uc_version_state.specs.Histories.{History, MayHappen, MayFollow, version_after}
use Rattle.uc_version_state.specs.Machine.{Phase, Checked, Machine}
use Rattle.uc_version_state.specs.Courses.{Step, Flush, Keep, Release, MayStep, after_step, MayCome, started, NeedsNoWord, LookThen}
use Rattle.uc_version_state.proofs.Placing.{FlushesAreRuns}
use Rattle.uc_version_state.proofs.Growing.{after-append}
use Rattle.uc_version_state.proofs.StepsKept.{Keeps, keeps_along}

abbrev pub state : History → List ℕ → List Phase → Machine
state h words phases = record { history = h; words = words; phases = phases }

abbrev pub with_event : History → Event → History
with_event h e = record h { events = h.events ++ e ∷ [] }

-- steps that lead to a history and phases
pub record Leads (m : Operation) (s : Machine) (h : History) (phases : List Phase) : Type 0 where
  pub steps : List Step
  pub words : List ℕ
  pub come : MayCome m s steps
  pub there : fold after_step s steps ≡ state h words phases

come-append : (m : Operation) (s : Machine) (xs ys : List Step) → MayCome m s xs → MayCome m (fold after_step s xs) ys → MayCome m s (xs ++ ys)
come-append m s [] ys come later = later
come-append m s (x ∷ xs) ys come later = (come.0, come-append m (after_step s x) xs ys come.1 later)

fold-append : (s : Machine) (xs ys : List Step) → fold after_step s (xs ++ ys) ≡ fold after_step (fold after_step s xs) ys
fold-append s [] ys = refl
fold-append s (x ∷ xs) ys = fold-append (after_step s x) xs ys

pub one_step : (m : Operation) (s : Machine) (step : Step) (h : History) (words : List ℕ) (phases : List Phase) → MayStep m s step → after_step s step ≡ state h words phases → Leads m s h phases
one_step m s step h words phases may is = record { steps = step ∷ []; words = words; come = (may, tt); there = is }

module _ (m : Operation) (s : Machine) (h : History) (phases : List Phase) (l : Leads m s h phases) where
  pub keeps_there : FlushesAreRuns → IsLawful m → Keeps m s → Keeps m (state h l.words phases)
  keeps_there is_run laws keeps = subst (Keeps m) l.there (keeps_along is_run m laws s l.steps keeps l.come)

  module _ (g : History) (others : List Phase) (more : Leads m (state h l.words phases) g others) where
    pub both_come : MayCome m s (l.steps ++ more.steps)
    both_come = come-append m s l.steps more.steps l.come (subst (λ (t : Machine). MayCome m t more.steps) (sym l.there) more.come)

    pub both_there : fold after_step s (l.steps ++ more.steps) ≡ state g more.words others
    both_there = fold-append s l.steps more.steps ∙ ap (λ (t : Machine). fold after_step t more.steps) l.there ∙ more.there

    pub leads_on : Leads m s g others
    leads_on = record { steps = l.steps ++ more.steps; words = more.words; come = both_come; there = both_there }

-- ---- what callers make happen that need no word

module _ (m : Operation) (words : List ℕ) (phases : List Phase) where
  happens_alone : (h : History) (e : Event) → NeedsNoWord e → MayHappen m (version_after h) e → Leads m (state h words phases) (with_event h e) phases
  happens_alone h (Installed i) free may = absurd free
  happens_alone h (Flushed ws) free may = one_step m (state h words phases) (Flush ws) (with_event h (Flushed ws)) words phases may refl
  happens_alone h Kept free may = one_step m (state h words phases) Keep (with_event h Kept) words phases may refl
  happens_alone h (Released seq) free may = one_step m (state h words phases) (Release seq) (with_event h (Released seq)) words phases may refl

pub others_come : (m : Operation) (h : History) (words : List ℕ) (phases : List Phase) (es : List Event) → AllByRecursion NeedsNoWord es → MayFollow m (version_after h) es → Leads m (state h words phases) (record h { events = h.events ++ es }) phases
others_come m h words phases [] free may =
    subst (λ (fs : List Event). Leads m (state h words phases) (record h { events = fs }) phases) (sym (append-nil h.events))
    (record { steps = []; words = words; come = tt; there = refl })
others_come m h words phases (e ∷ es) free may =
    let one = happens_alone m words phases h e free.0 may.0 in
    let more = others_come m (with_event h e) one.words phases es free.1
    (subst (λ (v : Stored). MayFollow m v es) (sym (after-append (opened h.opening) h.events e)) may.1) in
    subst (λ (fs : List Event). Leads m (state h words phases) (record h { events = fs }) phases) (append_assoc h.events (e ∷ []) es)
    (leads_on m (state h words phases) (with_event h e) phases one (record h { events = (h.events ++ e ∷ []) ++ es }) phases more)

-- ---- a whole course

abbrev pub at_first : Opening → History
at_first o = record { opening = o; events = [] }

pub look_then : (m : Operation) (o : Opening) (may : MayOpen o) (noted : List (List PlacedRun)) (events : List Event) (phases : List Phase) →
    (looked : Leads m (started o (length noted)) (at_first o) (map (λ ps. Checked ps) noted)) →
    Leads m (state (at_first o) looked.words (map (λ ps. Checked ps) noted)) (record { opening = o; events = events }) phases → LookThen m o noted events
look_then m o may noted events phases looked rest = record {
  looking = looked.steps;
  rest = rest.steps;
  checked = ap (λ (s : Machine). s.phases) looked.there;
  nothing_yet = ap (λ (s : Machine). s.history.events) looked.there;
  possible = record { opens = may; come = both_come m (started o (length noted)) (at_first o) (map (λ ps. Checked ps) noted) looked (record { opening = o; events = events }) phases rest };
  happened =
      ap (λ (s : Machine). s.history.events)
      (both_there m (started o (length noted)) (at_first o) (map (λ ps. Checked ps) noted) looked (record { opening = o; events = events }) phases rest);
}
