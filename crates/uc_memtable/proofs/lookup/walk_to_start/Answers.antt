use Rattle.std.proofs.Common.{rules, ◌≡◌, ◌+◌, ◌-◌, ◌<◌, ◌≤◌, ℕ, Bool, length, get_or, max, Some, ap, sym, ◌∙◌, arith}
use Rattle.std.specs.Option.{option_map}
use Rattle.std.proofs.lemmas.List.{length-map}
use Rattle.uc_oper.specs.declared.effect.Effect.{Effect}
use Rattle.uc_run.specs.KeyHash.{key_hash}
use Rattle.uc_memtable.specs.declared.sight.Bearing.TheVariants.{Overwrites}
use Rattle.uc_memtable.specs.Ends.{newest_end}
use Rattle.uc_memtable.specs.Labels.{write_label}
use Rattle.uc_memtable.specs.Linked.{has_label}
use Rattle.uc_memtable.specs.Sights.{seen_by, bearing_of, effect_below, effect_over}
use Rattle.uc_memtable.proofs.Ends.{newest_end-le, newest_end-again}
use Rattle.uc_memtable.proofs.Links.{label_before}
use Rattle.uc_memtable.proofs.Seeing.{sight-labelled}
use Rattle.uc_memtable.proofs.Walking.{AreLabelled, walk_begun, noted_merge, noted_none, stands_alone, none_bears}
use Rattle.uc_memtable.proofs.lookup.walk_to_start.Goals as goal
use Rattle.uc_memtable.proofs.lookup.walk_to_start.Goals.{in-Some-Merges+in_ok-push-in-Some-Merges, in-None}

pub loop-end-init : goal.loop-end-init
loop-end-init c =
    let labels = c.args.chains.now in
    let sight = c.args.sight.now in
    let seen = seen_by sight in
    let label = key_hash sight.key.now in
    let labelled : AreLabelled seen labels = sight-labelled sight labels c.requires.labelled in
    let test : ℕ → Bool = has_label labels label in
    let is : c.newest-end.result ≡ newest_end test (length labels) =
    c.newest-end.ensures ∙ ap (λ (k : ℕ). newest_end (has_label labels k) (length labels)) c.hash.ensures in
    let le : newest_end test (length labels) ≤ length labels = newest_end-le test (length labels) in
    let long : length labels ≡ length sight.writes.now = ap length c.requires.labelled ∙ length-map sight.writes.now write_label in
    record {
      within = omega (arith, is, le);
      ends = ap (newest_end test) is ∙ newest_end-again test (length labels) ∙ sym is;
      noted = λ m.
          walk_begun m seen labels c.args.floor label labelled c.requires.above (omega (arith, c.requires.within, long))
          ∙ ap (λ (e : ℕ). effect_below m seen (max c.args.floor e)) (sym is)
          ∙ ap (effect_over m seen (effect_below m seen (max c.args.floor c.newest-end.result))) (sym c.requires.none);
    }

pub returns-in-Some-Overwrites : goal.returns-in-Some-Overwrites
returns-in-Some-Overwrites c m =
    let labels = c.args.chains.now in
    let sight = c.args.sight.now in
    let seen = seen_by sight in
    let end = c.loop-end.end in
    let some : c.args.floor < end = search rules in
    let e : end ≡ end - 1 + 1 = omega (arith, some) in
    let top : max c.args.floor end ≡ end = omega (arith, some) in
    let long : length labels ≡ length sight.writes.now = ap length c.requires.labelled ∙ length-map sight.writes.now write_label in
    let bears : c.in-Some-Overwrites.field-0 ≡ Overwrites = search rules in
    let over : option_map (λ w. bearing_of w.op) (seen (end - 1)) ≡ Some Overwrites = sym c.seen_bearing.ensures ∙ c.in-Some-Overwrites.is ∙ ap Some bears in
    ap (effect_below m seen) (sym long)
    ∙ c.loop-end.invariant.noted m
    ∙ ap (λ (x : Effect). effect_over m seen x c.loop-end.merges.items) (ap (effect_below m seen) top ∙ stands_alone m seen end (end - 1) e over)

pub loop-end-smaller : goal.loop-end-smaller
loop-end-smaller c =
    let labels = c.args.chains.now in
    let end = c.loop-end.end in
    let some : c.args.floor < end = search rules in
    let down = newest_end-le (has_label labels (get_or labels (end - 1) 0)) (end - 1) in
    omega (arith, some, down, c.next_older-end.ensures)

pub loop-end-preserved : goal.loop-end-preserved
loop-end-preserved c =
    let labels = c.args.chains.now in
    let sight = c.args.sight.now in
    let seen = seen_by sight in
    let label = key_hash sight.key.now in
    let floor = c.args.floor in
    let labelled : AreLabelled seen labels = sight-labelled sight labels c.requires.labelled in
    let test : ℕ → Bool = has_label labels label in
    let end = c.loop-end.end in
    let some : floor < end = search rules in
    let e : end ≡ end - 1 + 1 = omega (arith, some) in
    let here : get_or labels (end - 1) 0 ≡ label = label_before labels label end (end - 1) e c.loop-end.invariant.ends in
    let is : c.next_older-end.result ≡ newest_end test (end - 1) = c.next_older-end.ensures ∙ ap (λ (k : ℕ). newest_end (has_label labels k) (end - 1)) here in
    let le : newest_end test (end - 1) ≤ end - 1 = newest_end-le test (end - 1) in
    record {
      within = omega (arith, is, le, c.loop-end.invariant.within);
      ends = ap (newest_end test) is ∙ newest_end-again test (end - 1) ∙ sym is;
      noted = λ m. elim c.match-seen_bearing.branch [
        | in-Some-Merges+in_ok-push-in-Some-Merges w ↦
            rw w.merges-is
            (noted_merge m seen labels floor label end (end - 1) _ c.loop-end.merges.items w.push.new.self.items labelled c.requires.above e some w.in_ok-push-in-Some-Merges.ensures.items (c.loop-end.invariant.noted m)
            ∙ ap (λ (k : ℕ). effect_over m seen (effect_below m seen (max floor k)) w.push.new.self.items) (sym is))
        | in-None w ↦
            rw w.merges-is
            (noted_none m seen labels floor label end (end - 1) _ c.loop-end.merges.items labelled c.requires.above e some (none_bears (seen (end - 1)) (sym c.seen_bearing.ensures ∙ w.in-None.is)) (c.loop-end.invariant.noted m)
            ∙ ap (λ (k : ℕ). effect_over m seen (effect_below m seen (max floor k)) c.loop-end.merges.items) (sym is))
      ];
    }
