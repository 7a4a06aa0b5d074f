use Rattle.std.proofs.Common.{rules, ◌≡◌, ◌+◌, ◌-◌, ◌^◌, ◌++◌, List, max, min, arith, ap, sym, subst, ◌∙◌}
use Rattle.uc_bytes.specs.declared.write.Write.{Write}
use Rattle.uc_batch.specs.Rising.{IsRising}
use Rattle.uc_memtable.specs.Frozen.{all_of}
use Rattle.uc_memtable.specs.HeldFrozens.{AreFrozen}
use Rattle.uc_memtable.specs.declared.frozen_memtables.FrozenMemtables.TheInside.{Inside}
use Rattle.uc_memtable.proofs.AllFrozen.{all_of-append, Told, told_both}
use Rattle.uc_memtable.proofs.AllGathered.{both_short, ranges_short}
use Rattle.uc_memtable.proofs.frozen_memtables.FrozenMemtables.with.Goals as goal

-- both together rise
both_rising : (s t : Inside) (ws vs : List Write) → all_of s.memtables.items ≡ ws → all_of t.memtables.items ≡ vs → IsRising 0 (ws ++ vs) → IsRising 0 (all_of s.memtables.items ++ all_of t.memtables.items)
both_rising s t ws vs e f h =
    subst (λ (us : List Write). IsRising 0 (us ++ all_of t.memtables.items)) (sym e) (subst (λ (us : List Write). IsRising 0 (ws ++ us)) (sym f) h)

told_of : (s : Inside) → AreFrozen s → Told (all_of s.memtables.items) s.len s.size s.last s.ranges
told_of s i = record { rising = i.rising; len_counted = i.len_counted; size_counted = i.size_counted; last_counted = i.last_counted; ranges_counted = i.ranges_counted }

held : (s : Inside) → Told (all_of s.memtables.items) s.len s.size s.last s.ranges → AreFrozen s
held s told = record { rising = told.rising; len_counted = told.len_counted; size_counted = told.size_counted; last_counted = told.last_counted; ranges_counted = told.ranges_counted }

pub overflow_add-result : goal.overflow_add-result
overflow_add-result c =
    let s = c.self.inside in
    let t = c.newer.inside in
    let short = both_short (all_of s.memtables.items) (all_of t.memtables.items) (both_rising s t c.args.self.now c.args.newer.now c.self.view_is c.newer.view_is c.requires) in
    let len = c.self.invariant.len_counted in
    let more = c.newer.invariant.len_counted in
    omega (arith, short, len, more)

pub overflow_add-result-2 : goal.overflow_add-result-2
overflow_add-result-2 c =
    let s = c.self.inside in
    let t = c.newer.inside in
    let short = ranges_short (all_of s.memtables.items) (all_of t.memtables.items) (both_rising s t c.args.self.now c.args.newer.now c.self.view_is c.newer.view_is c.requires) in
    let ranges = c.self.invariant.ranges_counted in
    let more = c.newer.invariant.ranges_counted in
    omega (arith, short, ranges, more)

pub invariant_of-result : goal.invariant_of-result
invariant_of-result c =
    let s = c.self.inside in
    let t = c.newer.inside in
    let ws = all_of s.memtables.items in
    let vs = all_of t.memtables.items in
    let told = told_both ws vs s.len s.size s.last s.ranges t.len t.size t.last t.ranges (told_of s c.self.invariant) (told_of t c.newer.invariant) (both_rising s t c.args.self.now c.args.newer.now c.self.view_is c.newer.view_is c.requires) in
    let items : c.push_shared-2.new.all.items ≡ s.memtables.items ++ t.memtables.items = search rules in
    let pushed : all_of c.push_shared-2.new.all.items ≡ ws ++ vs = ap all_of items ∙ all_of-append s.memtables.items t.memtables.items in
    let size : c.saturating_add.result ≡ min (s.size + t.size) (2 ^ 64 - 1) = search rules in
    let last : c.max.result ≡ max s.last t.last = search rules in
    held _
    (subst (λ (us : List Write). Told us (s.len + t.len) c.saturating_add.result c.max.result (s.ranges + t.ranges)) (sym pushed)
    (subst (λ n. Told (ws ++ vs) (s.len + t.len) n c.max.result (s.ranges + t.ranges)) (sym size)
    (subst (λ n. Told (ws ++ vs) (s.len + t.len) (min (s.size + t.size) (2 ^ 64 - 1)) n (s.ranges + t.ranges)) (sym last) told)))
