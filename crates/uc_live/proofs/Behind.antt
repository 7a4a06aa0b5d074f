-- Writes in memtables are newer than the runs.
use Rattle.std.proofs.Common.{◌≡◌, ℕ, ◌<◌, ◌≤◌, List, [], ◌∷◌, ◌++◌, Contains, ⊎_elim, sym, ap, ◌∙◌, subst, arith}
use Rattle.std.specs.List.{AllByRecursion}
use Rattle.uc_bytes.specs.declared.write.Write.{Write}
use Rattle.uc_oper.specs.Operation.{Operation}
use Rattle.uc_oper.specs.Composition.{applied}
use Rattle.uc_batch.specs.Rising.{IsRising}
use Rattle.uc_model.specs.Meaning.{effect_on, value_of}
use Rattle.uc_model.proofs.Members.{contains_cases, contains_nothing}
use Rattle.uc_run.specs.Flush.{flushed}
use Rattle.uc_query_read.specs.Answers.{answer_of, Reads}
use Rattle.uc_query_read.specs.declared.query.Query.{Query}
use Rattle.uc_query_read.specs.Query.{at_of}
use Rattle.uc_version_state.specs.Versions.{Stored, writes_in}

all_above : (last at : ℕ) (ws : List Write) → IsRising last ws → at ≤ last → AllByRecursion (λ w. at < w.seq) ws
all_above last at [] rise le = tt
all_above last at (w ∷ ws) rise le = (omega (arith, rise.0), all_above w.seq at ws rise.2 (omega (arith, rise.0)))

kept_below : (last keep : ℕ) (keeps : List ℕ) → AllByRecursion (λ k. k ≤ last) keeps → Contains keeps keep → keep ≤ last
kept_below last keep [] below there = absurd (contains_nothing keep there)
kept_below last keep (k ∷ ks) below there =
    ⊎_elim (λ (same : k ≡ keep). subst (λ (n : ℕ). n ≤ last) same below.0) (λ rest. kept_below last keep ks below.1 rest) (contains_cases k keep ks there)

-- the plain writes of the run that some writes become, before the runs of a version or alone
abbrev pub flushed_before : List Write → Stored → List Write
flushed_before ws v = writes_in (record v { runs = record { id = 0; slot = 0; run = flushed ws } ∷ v.runs })

abbrev pub flushed_alone : List Write → Stored → List Write
flushed_alone ws v = writes_in (record v { runs = record { id = 0; slot = 0; run = flushed ws } ∷ [] })

module _ (m : Operation) where
  -- a query at a keep has the same answer without the writes in memtables
  pub answer_behind : (v : Stored) (gathered : List Write) (query : Query) → AllByRecursion (λ keep. keep ≤ v.last) v.keeps → IsRising v.last gathered →
      ((writes others : List Write) (keeps : List ℕ) (query : Query) → (Contains keeps (at_of query) → (key : List ℕ) → Reads query key → value_of m writes key (at_of query) ≡ value_of m others key (at_of query)) → answer_of m writes keeps query ≡ answer_of m others keeps query) →
      ((writes later : List Write) (key : List ℕ) (at : ℕ) → AllByRecursion (λ w. at < w.seq) later → value_of m (writes ++ later) key at ≡ value_of m writes key at) →
      answer_of m (writes_in v) v.keeps query ≡ answer_of m (writes_in v ++ gathered) v.keeps query
  answer_behind v gathered query below rising equal nothing =
      equal (writes_in v) (writes_in v ++ gathered) v.keeps query
      (λ kept key reads. sym (nothing (writes_in v) gathered key (at_of query) (all_above v.last (at_of query) gathered rising (kept_below v.last (at_of query) v.keeps below kept))))

  -- writes with the same effect give the same value after others
  pub value_alike : (older newer gathered : List Write) (key : List ℕ) (at : ℕ) →
      ((older newer : List Write) (key : List ℕ) (at : ℕ) → value_of m (older ++ newer) key at ≡ applied m (effect_on m newer key at) (value_of m older key at)) →
      effect_on m newer key at ≡ effect_on m gathered key at → value_of m (older ++ newer) key at ≡ value_of m (older ++ gathered) key at
  value_alike older newer gathered key at continues same =
      continues older newer key at ∙ ap (λ effect. applied m effect (value_of m older key at)) same ∙ sym (continues older gathered key at)
