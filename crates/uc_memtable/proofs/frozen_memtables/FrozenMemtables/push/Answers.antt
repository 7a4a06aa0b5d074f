use Rattle.std.proofs.Common.{rules, ◌≡◌, ◌+◌, ◌-◌, ◌^◌, ◌++◌, List, length, min, arith, ap, sym, subst, ◌∙◌}
use Rattle.std.specs.Prelude.{count_by}
use Rattle.uc_bytes.specs.declared.write.Write.{Write}
use Rattle.uc_batch.specs.Rising.{IsRising, last_of}
use Rattle.uc_run.specs.Size.{memtable_size}
use Rattle.uc_memtable.specs.Frozen.{all_of}
use Rattle.uc_memtable.specs.Labels.{deletes_range}
use Rattle.uc_memtable.proofs.AllFrozen.{all_of-push, Told, told_more}
use Rattle.uc_memtable.proofs.AllGathered.{both_short, ranges_short}
use Rattle.uc_memtable.proofs.frozen_memtables.FrozenMemtables.push.Goals as goal

pub overflow_add-len : goal.overflow_add-len
overflow_add-len c =
    let all = all_of c.self.inside.memtables.items in
    let short = both_short all c.args.memtable.shown (subst (λ (ws : List Write). IsRising 0 (ws ++ c.args.memtable.shown)) (sym c.self.view_is) c.requires.rising) in
    let len = c.self.invariant.len_counted in
    omega (arith, short, len)

pub overflow_add-ranges : goal.overflow_add-ranges
overflow_add-ranges c =
    let all = all_of c.self.inside.memtables.items in
    let short = ranges_short all c.args.memtable.shown (subst (λ (ws : List Write). IsRising 0 (ws ++ c.args.memtable.shown)) (sym c.self.view_is) c.requires.rising) in
    let ranges = c.self.invariant.ranges_counted in
    omega (arith, short, ranges)

pub invariant_of-self-2 : goal.invariant_of-self-2
invariant_of-self-2 c =
    let s = c.self.inside in
    let i = c.self.invariant in
    let ws = c.args.memtable.shown in
    let all = all_of s.memtables.items in
    let told : Told all s.len s.size s.last s.ranges = record { rising = i.rising; len_counted = i.len_counted; size_counted = i.size_counted; last_counted = i.last_counted; ranges_counted = i.ranges_counted } in
    let rising : IsRising 0 (all ++ ws) = subst (λ (us : List Write). IsRising 0 (us ++ ws)) (sym c.self.view_is) c.requires.rising in
    let more = told_more all ws s.len s.size s.last s.ranges told c.requires.some rising in
    let pushed : all_of c.push_frozen.new.memtables.items ≡ all ++ ws = ap all_of c.in_ok-push_frozen.ensures.ok ∙ all_of-push s.memtables.items ws in
    let len : c.len.result ≡ length ws = search rules in
    let size : c.saturating_add-size.result ≡ min (s.size + memtable_size ws) (2 ^ 64 - 1) = search rules in
    let last : c.last-last.result ≡ last_of 0 ws = search rules in
    let ranges : c.ranges-2.result ≡ count_by deletes_range ws = search rules in
    record {
      rising = subst (IsRising 0) (sym pushed) more.rising;
      len_counted = ap (λ n. s.len + n) len ∙ more.len_counted ∙ ap (λ (us : List Write). length us) (sym pushed);
      size_counted = size ∙ more.size_counted ∙ ap memtable_size (sym pushed);
      last_counted = last ∙ more.last_counted ∙ ap (last_of 0) (sym pushed);
      ranges_counted = ap (λ n. s.ranges + n) ranges ∙ more.ranges_counted ∙ ap (count_by deletes_range) (sym pushed);
    }
