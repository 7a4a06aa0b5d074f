-- Runs that are placed one after the other.
use Rattle.std.proofs.Common.{◌≡◌, ℕ, suc, ◌+◌, List, [], ◌∷◌, ◌++◌, length, ap, ◌∙◌, arith}
use Rattle.uc_run_entry.specs.Run.{Contents}
use Rattle.uc_version_state.specs.Versions.{PlacedRun}
use Rattle.uc_version_state.specs.Flushes.{with_run, placed_onto}

pub placed_push : (id : ℕ) (older : List PlacedRun) (runs : List Contents) (run : Contents) → placed_onto id older (runs ++ run ∷ []) ≡ with_run (id + length runs) (placed_onto id older runs) run
placed_push id older [] run = ap (λ n. with_run n older run) (omega arith)
placed_push id older (r ∷ rs) run =
    placed_push (id + 1) (with_run id older r) rs run
    ∙ ap (λ n. with_run n (placed_onto (id + 1) (with_run id older r) rs) run) (let e : id + 1 + length rs ≡ id + suc (length rs) = omega arith in e)
