use Rattle.std.proofs.Common.{rules, ◌≡◌, take, ℕ, List, sym, subst}
use Rattle.uc_bytes.specs.declared.write.Write.{Write}
use Rattle.uc_memtable.proofs.Gathered.{Held, held_of, held_first}
use Rattle.uc_memtable.proofs.active_memtable.ActiveMemtable.give_up.Goals as goal

pub invariant_of-self : goal.invariant_of-self
invariant_of-self c =
    let s = c.self.inside in
    let i = c.self.invariant in
    let held : Held s.writes s.chains s.shown s.size s.last s.ranges s.all_ranges = held_of s i in
    let first : Held (take s.shown s.writes) (take s.shown s.chains) s.shown s.size s.last s.ranges s.ranges = held_first _ _ _ _ _ _ _ held in
    let writes : c.truncate.new.self ≡ take s.shown s.writes = search rules in
    let labels : c.truncate-2.new.self ≡ take s.shown s.chains = search rules in
    let now = subst (λ (ws : List Write). Held ws c.truncate-2.new.self s.shown s.size s.last s.ranges s.ranges) (sym writes)
    (subst (λ (ls : List ℕ). Held (take s.shown s.writes) ls s.shown s.size s.last s.ranges s.ranges) (sym labels) first) in
    record {
      within = now.within;
      rising = now.rising;
      labelled = now.labelled;
      size_counted = now.size_counted;
      last_counted = now.last_counted;
      ranges_counted = now.ranges_counted;
      all_ranges_counted = now.all_counted;
    }
