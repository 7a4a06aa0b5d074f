-- Memtables that writes fill one after the other.
use Rattle.std.proofs.Common.{◌≡◌, ℕ, ◌+◌, ◌<◌, ◌≤◌, List, ◌∷◌, [], ◌++◌, length, map, get_or, take, sym, ap, ◌∙◌, subst}
use Rattle.std.specs.Prelude.{◌^◌}
use Rattle.std.proofs.lemmas.List.{take_more, take_all, length-map}
use Rattle.uc_bytes.specs.declared.write.Write.{Write}
use Rattle.uc_batch.specs.Rising.{IsRising, last_of}
use Rattle.uc_run_entry.specs.Run.{Contents}
use Rattle.uc_run.specs.Flush.{flushed}
use Rattle.uc_version_state.specs.Versions.{Stored}
use Rattle.uc_version_state.specs.Flushes.{memtables}
use Rattle.uc_version_state.specs.Feeds.{memtables_in, with_runs, fed}
use Rattle.uc_version_state.proofs.Memtables.{some_from}
use Rattle.uc_version_open.specs.Progress.{Flushing, flushing_of}
use Rattle.uc_version_open.specs.Steps.{all_runs, with_write}
use Rattle.uc_version_open.proofs.Grown.{parts_grown, flushing_grown}
use Rattle.uc_version_open.proofs.Newest.{last_is_newest}
use Rattle.uc_version_open.proofs.Ended.{runs_flushed}
use Rattle.uc_version_open.proofs.Taken.{above_taken, below_limit}

module _ (limit : ℕ) (ws : List Write) (rises : IsRising 0 ws) (i : ℕ) (w : Write) (f : Flushing) (so_far : f ≡ flushing_of (memtables limit (take i ws))) (lt : i < length ws) (is : w ≡ get_or ws i w) where
  pub above : last_of 0 f.newest < w.seq
  above =
      subst (λ n. n < w.seq) (sym (last_is_newest limit (take i ws)) ∙ ap (λ (g : Flushing). last_of 0 g.newest) (sym so_far)) (above_taken ws rises i w lt is)

  pub below : w.seq < 2 ^ 56
  below = below_limit ws rises i w lt is

  pub one_fed : 1 ≤ limit → with_write limit f w ≡ flushing_of (memtables limit (take (i + 1) ws))
  one_fed some =
      ap (λ (g : Flushing). with_write limit g w) so_far
      ∙ flushing_grown limit some (memtables limit (take i ws)) w
      ∙ ap flushing_of (sym (parts_grown limit some (take i ws) w))
      ∙ ap (λ (vs : List Write). flushing_of (memtables limit vs)) (ap (λ (u : Write). take i ws ++ u ∷ []) is ∙ sym (take_more ws i w lt))

pub all_fed : (limit : ℕ) (ws : List Write) (i : ℕ) (f : Flushing) → f ≡ flushing_of (memtables limit (take i ws)) → length ws ≤ i → all_runs f ≡ map flushed (memtables limit ws)
all_fed limit ws i f so_far le =
    ap all_runs (so_far ∙ ap (λ (vs : List Write). flushing_of (memtables limit vs)) (take_all i ws le))
    ∙ runs_flushed (memtables limit ws) (some_from limit [] ws)

-- the runs of all, before those of a version
pub are_fed : (v : Stored) (ws : List Write) (runs : List Contents) (limit last : ℕ) → limit ≡ v.limit → runs ≡ map flushed (memtables limit ws) → last ≡ last_of v.last ws → with_runs runs last v ≡ fed ws v
are_fed v ws runs limit last limit_is are last_is =
    ap (λ (rs : List Contents). with_runs rs last v) (are ∙ ap (λ n. map flushed (memtables n ws)) limit_is)
    ∙ ap (λ n. with_runs (map flushed (memtables_in v ws)) n v) last_is
    ∙ counted
  where
    counted : with_runs (map flushed (memtables_in v ws)) (last_of v.last ws) v ≡ fed ws v
    counted i = record (fed ws v) { next_id = ap (λ n. v.next_id + n) (length-map (memtables_in v ws) flushed) i }
