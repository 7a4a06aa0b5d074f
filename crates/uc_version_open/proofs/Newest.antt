-- The last write stands in the newest memtable.
use Rattle.std.proofs.Common.{◌≡◌, ◌≢◌, ℕ, ◌<◌, ◌≤◌, Bool, true, false, cond, ◌&&◌, List, [], ◌∷◌, length, Some, None, refl, sym, ap, ◌∙◌, subst}
use Rattle.std.specs.Option.{IfSome}
use Rattle.std.specs.List.{AllByRecursion}
use Rattle.uc_bytes.specs.declared.write.Write.{Write}
use Rattle.uc_batch.specs.Rising.{last_of}
use Rattle.uc_version_state.specs.declared.options.Options.{Options}
use Rattle.uc_version_state.specs.Options.{are_good}
use Rattle.uc_version_state.specs.Flushes.{memtables}
use Rattle.uc_version_state.proofs.Memtables.{joined, joined_from, some_from, last-joined, last_of_some}
use Rattle.uc_version_state.proofs.Opened.{limit_good}
use Rattle.uc_version_open.specs.Refusal.{are_few}
use Rattle.uc_version_open.specs.Progress.{Flushing, flushing_of, held_of}

joined_some : (p : List Write) (ps : List (List Write)) → p ≢ [] → joined (p ∷ ps) ≢ []
joined_some [] ps some = absurd (some refl)
joined_some (w ∷ ws) ps some = λ e. absurd cc

newest_last : (ps : List (List Write)) → AllByRecursion (λ (p : List Write). p ≢ []) ps → last_of 0 (flushing_of ps).newest ≡ last_of 0 (joined ps)
newest_last [] some = refl
newest_last (p ∷ []) some = sym (last-joined 0 p [])
newest_last (p ∷ q ∷ ps) some =
    newest_last (q ∷ ps) some.1
    ∙ last_of_some (last_of 0 p) (joined (q ∷ ps)) (joined_some q ps some.1.0)
    ∙ sym (last-joined 0 p (q ∷ ps))

pub last_is_newest : (limit : ℕ) (ws : List Write) → last_of 0 (flushing_of (memtables limit ws)).newest ≡ last_of 0 ws
last_is_newest limit ws = newest_last (memtables limit ws) (some_from limit [] ws) ∙ ap (last_of 0) (joined_from limit [] ws)

all-if : (P : Flushing → Type 0) (f : Flushing) (b : Bool) → P f → IfSome (cond b (Some f) None) P
all-if P f true p = p
all-if P f false p = tt

-- what is held ends below the next write
pub held_below : (o : Options) (ws : List Write) (n : ℕ) → last_of 0 ws < n → IfSome (held_of o (memtables o.memtable ws)) (λ f. last_of 0 f.newest < n)
held_below o ws n below =
    all-if (λ f. last_of 0 f.newest < n) (flushing_of (memtables o.memtable ws)) (are_good o && are_few (length (memtables o.memtable ws))) (subst (λ last. last < n) (sym (last_is_newest o.memtable ws)) below)

limit_if : (o : Options) (f : Flushing) (good few : Bool) → are_good o ≡ good → IfSome (cond (good && few) (Some f) None) (λ _. 1 ≤ o.memtable)
limit_if o f true true e = limit_good o e
limit_if o f true false e = tt
limit_if o f false few e = tt

-- only under good options is something held
pub held_limit : (o : Options) (ws : List Write) → IfSome (held_of o (memtables o.memtable ws)) (λ _. 1 ≤ o.memtable)
held_limit o ws = limit_if o (flushing_of (memtables o.memtable ws)) (are_good o) (are_few (length (memtables o.memtable ws))) refl
