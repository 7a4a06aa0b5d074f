use Rattle.std.proofs.Common.{◌≡◌, ◌+◌, ℕ, List, fold, length, refl, ap, sym, ◌∙◌, subst, arith}
use Rattle.std.proofs.lemmas.Bool.{false≢true}
use Rattle.uc_bytes.specs.declared.op.Op.{Op}
use Rattle.uc_bytes.specs.declared.write.Write.{Write}
use Rattle.uc_batch.specs.Batch.{numbered}
use Rattle.uc_batch.specs.Rising.{IsRising}
use Rattle.uc_batch.proofs.Rises.{rising-numbered}
use Rattle.uc_version_state.specs.Histories.{after}
use Rattle.uc_store.proofs.FedNext.{feeds_next}
use Rattle.uc_store.proofs.shared_batches.feed_shared_batch.Goals as goal

pub unreachable-requires : goal.unreachable-requires
unreachable-requires g c =
    let fits = c.if-not-fits_batch.ensures.0 refl in
    let ends = fits.ends in
    let count : length c.deref.result.now ≡ length c.args.ops.items = ap (λ (ops : List Op). length ops) c.deref.ensures.value in
    let rising = rising-numbered 0 (c.in_ok-first.field-0 + 1) c.args.ops.items (omega arith) (omega (arith, ends, count)) in
    false≢true (c.in_default.ensures.rising.1 (subst (λ (ws : List Write). IsRising 0 ws) (sym c.in_ok-numbered.ensures) rising))

pub returns-in-Ok-clause-fed : goal.returns-in-Ok-clause-fed
returns-in-Ok-clause-fed g c =
    let base = g.N.Name.base in
    let ops = c.args.ops.items in
    let looked = c.last_shown.new.reader in
    let writes : c.in-Some.writes.list ≡ numbered ((fold after base looked).last + 1) ops =
    c.in-Some.ensures.list ∙ c.in_ok-numbered.ensures ∙ ap (λ (last : ℕ). numbered (last + 1) ops) c.in_ok-first.ensures.last in
    feeds_next g.O.Operator.meaning base ops c.args.reader.now looked c.feed.new.reader c.in-Some.writes.list c.in-Ok.count
    c.last_shown.ensures.seen writes c.in-Ok.ensures.fed c.feed.ensures.legal c.in-Ok.ensures.count
