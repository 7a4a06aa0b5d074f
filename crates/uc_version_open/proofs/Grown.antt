-- The state of an opening after one more write.
use Rattle.std.proofs.Common.{◌≡◌, ◌≢◌, ℕ, suc, ◌-◌, ◌≤◌, Bool, true, false, cond, leb, not, ◌&&◌, List, [], ◌∷◌, ◌++◌, length, Some, None, refl, sym, ap, ◌∙◌, arith, length-append}
use Rattle.std.proofs.lemmas.Bool.{leb-true, leb-false, le-leb, lt-leb}
use Rattle.uc_bytes.specs.declared.write.Write.{Write}
use Rattle.uc_claims.specs.declared.table.TheConstants.{MOST_SLOTS}
use Rattle.uc_run.specs.Size.{memtable_size}
use Rattle.uc_run.specs.Flush.{flushed}
use Rattle.uc_run.proofs.Inserted.{last_grown}
use Rattle.uc_version_state.specs.declared.options.Options.{Options}
use Rattle.uc_version_state.specs.Options.{are_good}
use Rattle.uc_version_state.specs.Flushes.{memtables_from, memtables}
use Rattle.uc_version_state.proofs.Opened.{limit_good}
use Rattle.uc_version_open.specs.Refusal.{are_few}
use Rattle.uc_version_open.specs.Progress.{Flushing, Progress, flushing_of, held_of, progress_of}
use Rattle.uc_version_open.specs.Steps.{is_full, is_spent, begun, grown, with_write, held_with}

both : (b : Bool) (ps : List (List Write)) → cond b ps ps ≡ ps
both true ps = refl
both false ps = refl

module _ (limit : ℕ) where
  -- a write after the last part, or in its own part if that is full
  abbrev pub grown_parts : List (List Write) → Write → List (List Write)
  grown_parts [] w = (w ∷ []) ∷ []
  grown_parts (p ∷ []) w = cond (leb limit (memtable_size p)) (p ∷ (w ∷ []) ∷ []) ((p ++ w ∷ []) ∷ [])
  grown_parts (p ∷ q ∷ ps) w = p ∷ grown_parts (q ∷ ps) w

  full_grown : (p : List Write) (ps : List (List Write)) (w : Write) → leb limit (memtable_size p) ≡ true → p ∷ grown_parts ps w ≡ grown_parts (p ∷ ps) w
  full_grown p [] w full = sym (ap (λ b. cond b (p ∷ (w ∷ []) ∷ []) ((p ++ w ∷ []) ∷ [])) full)
  full_grown p (q ∷ ps) w full = refl

  next_grown : (held vs : List Write) (v w : Write) (b : Bool) → leb limit (memtable_size (held ++ v ∷ [])) ≡ b →
      memtables_from limit [] (vs ++ w ∷ []) ≡ grown_parts (memtables_from limit [] vs) w →
      (b ≡ false → memtables_from limit (held ++ v ∷ []) (vs ++ w ∷ []) ≡ grown_parts (memtables_from limit (held ++ v ∷ []) vs) w) →
      cond b ((held ++ v ∷ []) ∷ memtables_from limit [] (vs ++ w ∷ [])) (memtables_from limit (held ++ v ∷ []) (vs ++ w ∷ []))
      ≡ grown_parts (cond b ((held ++ v ∷ []) ∷ memtables_from limit [] vs) (memtables_from limit (held ++ v ∷ []) vs)) w
  next_grown held vs v w true e fresh more = ap (λ ps. (held ++ v ∷ []) ∷ ps) fresh ∙ full_grown (held ++ v ∷ []) (memtables_from limit [] vs) w e
  next_grown held vs v w false e fresh more = more refl

  module _ (some : 1 ≤ limit) where
    none_full : leb limit 0 ≡ false
    none_full = lt-leb limit 0 (omega (arith, some))

    from_grown : (held ws : List Write) (w : Write) → leb limit (memtable_size held) ≡ false → memtables_from limit held (ws ++ w ∷ []) ≡ grown_parts (memtables_from limit held ws) w
    from_grown [] [] w room = both (leb limit (memtable_size (w ∷ []))) ((w ∷ []) ∷ [])
    from_grown (h ∷ hs) [] w room =
        both (leb limit (memtable_size ((h ∷ hs) ++ w ∷ []))) (((h ∷ hs) ++ w ∷ []) ∷ [])
        ∙ sym (ap (λ b. cond b ((h ∷ hs) ∷ (w ∷ []) ∷ []) (((h ∷ hs) ++ w ∷ []) ∷ [])) room)
    from_grown held (v ∷ vs) w room =
        next_grown held vs v w (leb limit (memtable_size (held ++ v ∷ []))) refl (from_grown [] vs w none_full) (λ e. from_grown (held ++ v ∷ []) vs w e)

    pub parts_grown : (ws : List Write) (w : Write) → memtables limit (ws ++ w ∷ []) ≡ grown_parts (memtables limit ws) w
    parts_grown ws w = from_grown [] ws w none_full

    one_more : (p : List Write) (w : Write) (b : Bool) →
        cond b (begun (flushing_of (p ∷ [])) w) (grown (flushing_of (p ∷ [])) w) ≡ flushing_of (cond b (p ∷ (w ∷ []) ∷ []) ((p ++ w ∷ []) ∷ []))
    one_more p w true = refl
    one_more p w false = refl

    -- a part before others
    abbrev behind : List Write → Flushing → Flushing
    behind p f = record { runs = flushed p ∷ f.runs; newest = f.newest }

    behind-more : (p : List Write) (f : Flushing) (w : Write) (b : Bool) → cond b (begun (behind p f) w) (grown (behind p f) w) ≡ behind p (cond b (begun f w) (grown f w))
    behind-more p f w true = refl
    behind-more p f w false = refl

    flushing_behind : (p : List Write) (ps : List (List Write)) → ps ≢ [] → behind p (flushing_of ps) ≡ flushing_of (p ∷ ps)
    flushing_behind p [] more = absurd (more refl)
    flushing_behind p (q ∷ ps) more = refl

    grown_some-one : (p : List Write) (w : Write) (b : Bool) → cond b (p ∷ (w ∷ []) ∷ []) ((p ++ w ∷ []) ∷ []) ≢ []
    grown_some-one p w true e = absurd cc
    grown_some-one p w false e = absurd cc

    grown_some : (ps : List (List Write)) (w : Write) → grown_parts ps w ≢ []
    grown_some [] w = λ e. absurd cc
    grown_some (p ∷ []) w = grown_some-one p w (leb limit (memtable_size p))
    grown_some (p ∷ q ∷ ps) w = λ e. absurd cc

    pub flushing_grown : (ps : List (List Write)) (w : Write) → with_write limit (flushing_of ps) w ≡ flushing_of (grown_parts ps w)
    flushing_grown [] w = ap (λ b. cond b (begun (flushing_of []) w) (grown (flushing_of []) w)) none_full
    flushing_grown (p ∷ []) w = one_more p w (leb limit (memtable_size p))
    flushing_grown (p ∷ q ∷ ps) w =
        behind-more p (flushing_of (q ∷ ps)) w (is_full limit (flushing_of (q ∷ ps)))
        ∙ ap (behind p) (flushing_grown (q ∷ ps) w)
        ∙ flushing_behind p (grown_parts (q ∷ ps) w) (grown_some (q ∷ ps) w)

    -- as many runs as parts, without the newest part
    runs_count : (ps : List (List Write)) → ps ≢ [] → length ps ≡ suc (length (flushing_of ps).runs)
    runs_count [] some = absurd (some refl)
    runs_count (p ∷ []) some = refl
    runs_count (p ∷ q ∷ ps) some = ap suc (runs_count (q ∷ ps) (λ e. absurd cc))

    grown_count : (ps : List (List Write)) (w : Write) → length (grown_parts ps w) ≡ suc (length (with_write limit (flushing_of ps) w).runs)
    grown_count ps w = runs_count (grown_parts ps w) (grown_some ps w) ∙ ap (λ (f : Flushing). suc (length f.runs)) (sym (flushing_grown ps w))

    few_runs : (ps : List (List Write)) → length ps ≤ MOST_SLOTS → suc (length (flushing_of ps).runs) ≤ MOST_SLOTS
    few_runs [] few = omega arith
    few_runs (p ∷ ps) few = let e = runs_count (p ∷ ps) (λ e. absurd cc) in omega (arith, e, few)

    fits-more : (f : Flushing) (w : Write) (full spent : Bool) → leb (MOST_SLOTS - 1) (length f.runs) ≡ spent → suc (length f.runs) ≤ MOST_SLOTS →
        leb (suc (length (cond full (begun f w) (grown f w)).runs)) MOST_SLOTS ≡ not (full && spent)
    fits-more f w true true e few = let le = leb-true (MOST_SLOTS - 1) (length f.runs) e in let long = length-append f.runs (flushed f.newest ∷ []) in lt-leb (suc (length (f.runs ++ flushed f.newest ∷ []))) MOST_SLOTS (omega (arith, le, long))
    fits-more f w true false e few = let lt = leb-false (MOST_SLOTS - 1) (length f.runs) e in let long = length-append f.runs (flushed f.newest ∷ []) in le-leb (suc (length (f.runs ++ flushed f.newest ∷ []))) MOST_SLOTS (omega (arith, lt, long))
    fits-more f w false spent e few = le-leb (suc (length f.runs)) MOST_SLOTS few

    fits : (ps : List (List Write)) (w : Write) → length ps ≤ MOST_SLOTS → are_few (length (grown_parts ps w)) ≡ not (is_spent limit (flushing_of ps))
    fits ps w few =
        ap are_few (grown_count ps w)
        ∙ fits-more (flushing_of ps) w (is_full limit (flushing_of ps)) (leb (MOST_SLOTS - 1) (length (flushing_of ps).runs)) refl (few_runs ps few)

    grows-by : (f : Flushing) (w : Write) (full : Bool) → length f.runs ≤ length (cond full (begun f w) (grown f w)).runs
    grows-by f w true = let long = length-append f.runs (flushed f.newest ∷ []) in omega (arith, long)
    grows-by f w false = omega arith

    grows : (ps : List (List Write)) (w : Write) → length ps ≤ length (grown_parts ps w)
    grows [] w = omega arith
    grows (p ∷ ps) w =
        let n = runs_count (p ∷ ps) (λ e. absurd cc) in
        let g = grown_count (p ∷ ps) w in
        let le = grows-by (flushing_of (p ∷ ps)) w (is_full limit (flushing_of (p ∷ ps))) in
        omega (arith, n, g, le)

    kept-or-not : (b : Bool) (f : Flushing) → cond b None (Some f) ≡ cond (not b) (Some f) None
    kept-or-not true f = refl
    kept-or-not false f = refl

    held-few : (ps : List (List Write)) (w : Write) (few : Bool) → are_few (length ps) ≡ few →
        held_with limit (cond few (Some (flushing_of ps)) None) w ≡ cond (are_few (length (grown_parts ps w))) (Some (flushing_of (grown_parts ps w))) None
    held-few ps w true e =
        kept-or-not (is_spent limit (flushing_of ps)) (with_write limit (flushing_of ps) w)
        ∙ ap (λ b. cond b (Some (with_write limit (flushing_of ps) w)) None) (sym (fits ps w (leb-true (length ps) MOST_SLOTS e)))
        ∙ ap (λ f. cond (are_few (length (grown_parts ps w))) (Some f) None) (flushing_grown ps w)
    held-few ps w false e =
        let lt = leb-false (length ps) MOST_SLOTS e in
        let le = grows ps w in
        sym (ap (λ b. cond b (Some (flushing_of (grown_parts ps w))) None) (lt-leb (length (grown_parts ps w)) MOST_SLOTS (omega (arith, lt, le))))

held-good : (o : Options) (ps : List (List Write)) (w : Write) (good : Bool) → are_good o ≡ good →
    held_with o.memtable (cond (good && are_few (length ps)) (Some (flushing_of ps)) None) w ≡ cond (good && are_few (length (grown_parts o.memtable ps w))) (Some (flushing_of (grown_parts o.memtable ps w))) None
held-good o ps w true e = held-few o.memtable (limit_good o e) ps w (are_few (length ps)) refl
held-good o ps w false e = refl

held_parts : (o : Options) (ws : List Write) (w : Write) (good : Bool) → are_good o ≡ good →
    cond (good && are_few (length (grown_parts o.memtable (memtables o.memtable ws) w))) (Some (flushing_of (grown_parts o.memtable (memtables o.memtable ws) w))) None
    ≡ cond (good && are_few (length (memtables o.memtable (ws ++ w ∷ [])))) (Some (flushing_of (memtables o.memtable (ws ++ w ∷ [])))) None
held_parts o ws w true e = ap (λ ps. cond (are_few (length ps)) (Some (flushing_of ps)) None) (sym (parts_grown o.memtable (limit_good o e) ws w))
held_parts o ws w false e = refl

pub held_grown : (o : Options) (ws : List Write) (w : Write) → held_with o.memtable (held_of o (memtables o.memtable ws)) w ≡ held_of o (memtables o.memtable (ws ++ w ∷ []))
held_grown o ws w = held-good o (memtables o.memtable ws) w (are_good o) refl ∙ held_parts o ws w (are_good o) refl

pub progress_grown : (o : Options) (ws : List Write) (w : Write) → record { options = o; last = w.seq; held = held_with o.memtable (held_of o (memtables o.memtable ws)) w } ≡ progress_of o (ws ++ w ∷ [])
progress_grown o ws w i = record { options = o; last = sym (last_grown 0 ws w) i; held = held_grown o ws w i }

-- a state after a write more, from any state that some writes lead to
pub state_grown : (old : Progress) (o : Options) (ws : List Write) (w : Write) → old ≡ progress_of o ws →
    record { options = old.options; last = w.seq; held = held_with old.options.memtable old.held w } ≡ progress_of o (ws ++ w ∷ [])
state_grown old o ws w e =
    ap (λ (p : Progress). with_last p w) e ∙ progress_grown o ws w
  where
    with_last : Progress → Write → Progress
    with_last p w = record { options = p.options; last = w.seq; held = held_with p.options.memtable p.held w }
