use Rattle.std.proofs.Common.{rules, ◌≡◌, sym, ap, ◌∙◌, subst, length}
use Rattle.std.specs.Prelude.{IfOk}
use Rattle.uc_oper.specs.declared.effect.Effect.{Effect}
use Rattle.uc_memtable.specs.Sights.{seen_by, effect_over, effect_before, effect_below}
use Rattle.uc_memtable.proofs.Seeing.{effect_on-sight}
use Rattle.uc_memtable.proofs.lookup.effect_seen.Goals as goal

pub returns : goal.returns
returns g c =
    let m = g.O.Operator.meaning in
    let sight = c.args.sight.now in
    let seen = seen_by sight in
    let start = c.in_ok-start.start in
    let merges = c.walk_to_start.new.merges.items in
    let walked : effect_below m seen (length sight.writes.now) ≡ effect_over m seen (effect_before seen start) merges = c.in_ok-start.ensures m in
    let first : c.in_ok-first.first ≡ effect_before seen start = c.in_ok-first.ensures in
    let noted : c.deref.result.now ≡ merges = search rules in
    let all = ap (λ (e : Effect). effect_over m seen e c.deref.result.now) first ∙ ap (effect_over m seen (effect_before seen start)) noted ∙ sym walked ∙ sym (effect_on-sight m sight) in
    subst (λ (e : Effect). IfOk c.after_merges.result (λ effect. effect ≡ e)) all c.after_merges.ensures
