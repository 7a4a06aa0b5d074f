use Rattle.std.proofs.Common.{◌≡◌, ◌+◌, ◌∷◌, [], List, length, length-append, ap, sym, ◌∙◌, arith}
use Rattle.std.specs.Arc.{arc_value}
use Rattle.uc_run_entry.specs.Run.{Contents}
use Rattle.uc_version_state.specs.Versions.{PlacedRun, slots_of}
use Rattle.uc_version_state.specs.Flushes.{least_free, with_run}
use Rattle.uc_version_state.proofs.Onto.{placed_push}
use Rattle.uc_version_state.proofs.feeds.placed_onto.Goals as goal

pub loop-run-preserved : goal.loop-run-preserved
loop-run-preserved c =
    let l = c.loop-run in
    let run = c.in-Some.run' in
    let inserted : c.insert.new.self.items ≡ with_run l.id l.placed.items run =
    c.in_ok-insert.ensures.items
    ∙ ap (λ slot. record { id = l.id; slot = slot; run = arc_value c.in_ok-run.run' } ∷ l.placed.items) (c.in_ok-slot.ensures ∙ ap (λ (older : List PlacedRun). least_free (slots_of older)) c.deref.ensures.value)
    ∙ ap (λ (r : Contents). with_run l.id l.placed.items r) c.in_ok-run.ensures.ok in
    let e = length-append l.yielded (run ∷ []) in
    let next = l.invariant.next in
    record {
      so_far = inserted
          ∙ ap (λ n. with_run n l.placed.items run) next
          ∙ ap (λ (older : List PlacedRun). with_run (c.args.id + length l.yielded) older run) l.invariant.so_far
          ∙ sym (placed_push c.args.id c.args.placed.items l.yielded run);
      next = omega (arith, e, next);
    }
