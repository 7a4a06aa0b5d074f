use Rattle.std.proofs.Common.{rules, ◌≡◌, ◌<◌, ◌+◌, ◌++◌, ◌∷◌, [], ℕ, List, true, false, cond, ap, sym, ◌∙◌, subst}
use Rattle.std.proofs.lemmas.List.{take-append-drop}
use Rattle.uc_bytes.specs.declared.write.Write.{Write}
use Rattle.uc_batch.specs.Rising.{last_of}
use Rattle.uc_memtable.specs.Gathering.{Gathering}
use Rattle.uc_memtable.specs.Labels.{label_of, write_label, deletes_range}
use Rattle.uc_memtable.proofs.Gathered.{Held, held_of, held_more}
use Rattle.uc_memtable.proofs.active_memtable.ActiveMemtable.prepare.Goals as goal

pub invariant_of-self-then-is_range : goal.invariant_of-self-then-is_range
invariant_of-self-then-is_range c =
    let s = c.self.inside in
    let i = c.self.invariant in
    let w = c.args.write.now in
    let held : Held s.writes s.chains s.shown s.size s.last s.ranges s.all_ranges = held_of s i in
    let above : last_of 0 s.writes < w.seq =
    subst (λ (ws : List Write). last_of 0 ws < w.seq) (take-append-drop s.shown s.writes)
    (subst (λ (g : Gathering). last_of 0 (g.shown ++ g.waiting) < w.seq) (sym c.self.view_is) c.requires.above) in
    let range : deletes_range w ≡ true = search rules in
    let counted : s.all_ranges + 1 ≡ cond (deletes_range w) (s.all_ranges + 1) s.all_ranges = sym (ap (λ b. cond b (s.all_ranges + 1) s.all_ranges) range) in
    let more = held_more s.writes s.chains s.shown s.size s.last s.ranges s.all_ranges (s.all_ranges + 1) w held above c.requires.below counted in
    let writes : c.insert_ref.new.self ≡ s.writes ++ w ∷ [] = search rules in
    let labels : c.push.new.self ≡ s.chains ++ write_label w ∷ [] = c.in_ok-push.ensures.ok ∙ ap (λ (l : ℕ). s.chains ++ l ∷ []) (c.label_of.ensures ∙ ap label_of c.op.ensures) in
    let now = subst (λ (ws : List Write). Held ws c.push.new.self s.shown s.size s.last s.ranges (s.all_ranges + 1)) (sym writes)
    (subst (λ (ls : List ℕ). Held (s.writes ++ w ∷ []) ls s.shown s.size s.last s.ranges (s.all_ranges + 1)) (sym labels) more) in
    record {
      within = now.within;
      rising = now.rising;
      labelled = now.labelled;
      size_counted = now.size_counted;
      last_counted = now.last_counted;
      ranges_counted = now.ranges_counted;
      all_ranges_counted = now.all_counted;
    }

pub invariant_of-self-else-is_range : goal.invariant_of-self-else-is_range
invariant_of-self-else-is_range c =
    let s = c.self.inside in
    let i = c.self.invariant in
    let w = c.args.write.now in
    let held : Held s.writes s.chains s.shown s.size s.last s.ranges s.all_ranges = held_of s i in
    let above : last_of 0 s.writes < w.seq =
    subst (λ (ws : List Write). last_of 0 ws < w.seq) (take-append-drop s.shown s.writes)
    (subst (λ (g : Gathering). last_of 0 (g.shown ++ g.waiting) < w.seq) (sym c.self.view_is) c.requires.above) in
    let range : deletes_range w ≡ false = search rules in
    let counted : s.all_ranges ≡ cond (deletes_range w) (s.all_ranges + 1) s.all_ranges = sym (ap (λ b. cond b (s.all_ranges + 1) s.all_ranges) range) in
    let more = held_more s.writes s.chains s.shown s.size s.last s.ranges s.all_ranges s.all_ranges w held above c.requires.below counted in
    let writes : c.insert_ref.new.self ≡ s.writes ++ w ∷ [] = search rules in
    let labels : c.push.new.self ≡ s.chains ++ write_label w ∷ [] = c.in_ok-push.ensures.ok ∙ ap (λ (l : ℕ). s.chains ++ l ∷ []) (c.label_of.ensures ∙ ap label_of c.op.ensures) in
    let now = subst (λ (ws : List Write). Held ws c.push.new.self s.shown s.size s.last s.ranges s.all_ranges) (sym writes)
    (subst (λ (ls : List ℕ). Held (s.writes ++ w ∷ []) ls s.shown s.size s.last s.ranges s.all_ranges) (sym labels) more) in
    record {
      within = now.within;
      rising = now.rising;
      labelled = now.labelled;
      size_counted = now.size_counted;
      last_counted = now.last_counted;
      ranges_counted = now.ranges_counted;
      all_ranges_counted = now.all_counted;
    }
