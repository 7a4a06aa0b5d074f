-- The final memtables are the ones with which their writes open a store.
use Rattle.std.proofs.Common.{◌≡◌, ◌≢◌, ◌+◌, Bool, true, false, cond, ◌&&◌, List, [], ◌∷◌, ◌++◌, length, map, Option, Some, None, refl, sym, ap, ◌∙◌}
use Rattle.std.specs.List.{AllByRecursion}
use Rattle.std.proofs.lemmas.List.{length-map}
use Rattle.uc_bytes.specs.declared.write.Write.{Write}
use Rattle.uc_batch.specs.Rising.{last_of}
use Rattle.uc_run_entry.specs.Run.{Contents}
use Rattle.uc_run.specs.Flush.{flushed}
use Rattle.uc_version_state.specs.Options.{are_good}
use Rattle.uc_version_state.specs.Flushes.{memtables, placed_onto}
use Rattle.uc_version_state.specs.Openings.{Opening, opened, rising}
use Rattle.uc_version_state.proofs.Memtables.{some_from}
use Rattle.uc_version_open.specs.Refusal.{are_few}
use Rattle.uc_version_open.specs.Progress.{Flushing, Progress, flushing_of, progress_of}
use Rattle.uc_version_open.specs.Steps.{rest_run, all_runs, version_of}

rest_flushed : (p : List Write) → p ≢ [] → rest_run p ≡ flushed p ∷ []
rest_flushed [] some = absurd (some refl)
rest_flushed (w ∷ ws) some = refl

-- the run of each part
pub runs_flushed : (ps : List (List Write)) → AllByRecursion (λ (p : List Write). p ≢ []) ps → all_runs (flushing_of ps) ≡ map flushed ps
runs_flushed [] some = refl
runs_flushed (p ∷ []) some = rest_flushed p some.0
runs_flushed (p ∷ q ∷ ps) some = ap (λ (rs : List Contents). flushed p ∷ rs) (runs_flushed (q ∷ ps) some.1)

module _ (o : Opening) where
  abbrev parts : List (List Write)
  parts = memtables o.options.memtable o.writes

  runs : all_runs (flushing_of parts) ≡ map flushed parts
  runs = runs_flushed parts (some_from o.options.memtable [] o.writes)

  version_opened : version_of o.options (last_of 0 o.writes) (flushing_of parts) o.keeps ≡ opened o
  version_opened i = record {
    runs = ap (placed_onto o.options.first_id []) runs i;
    keeps = rising (o.keeps ++ last_of 0 o.writes ∷ []);
    last = last_of 0 o.writes;
    next_id = (ap (λ (rs : List Contents). o.options.first_id + length rs) runs ∙ ap (λ n. o.options.first_id + n) (length-map parts flushed)) i;
    limit = o.options.memtable;
  }

is_some : (f g : Flushing) (b : Bool) → cond b (Some f) None ≡ Some g → (b ≡ true) × (f ≡ g)
is_some f g true e = (refl, ap (λ (h : Option Flushing). or_else h) e)
  where
    or_else : Option Flushing → Flushing
    or_else None = f
    or_else (Some h) = h
is_some f g false e = absurd cc

-- the memtables of some writes, where they are held
pub held_is : (o : Opening) (p : Progress) (f : Flushing) → p ≡ progress_of o.options o.writes → p.held ≡ Some f →
    ((are_good o.options && are_few (length (memtables o.options.memtable o.writes))) ≡ true) × (flushing_of (memtables o.options.memtable o.writes) ≡ f)
held_is o p f e held =
    is_some (flushing_of (memtables o.options.memtable o.writes)) f (are_good o.options && are_few (length (memtables o.options.memtable o.writes))) (sym (ap (λ (q : Progress). q.held) e) ∙ held)

pub ends_opened : (o : Opening) (p : Progress) (f : Flushing) → p ≡ progress_of o.options o.writes → p.held ≡ Some f → version_of p.options p.last f o.keeps ≡ opened o
ends_opened o p f e held =
    ap (λ (q : Progress). version_of q.options q.last f o.keeps) e
    ∙ ap (λ (g : Flushing). version_of o.options (last_of 0 o.writes) g o.keeps) (sym (held_is o p f e held).1)
    ∙ version_opened o
