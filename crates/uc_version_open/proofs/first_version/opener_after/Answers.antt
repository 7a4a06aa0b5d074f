use Rattle.std.proofs.Common.{rules, ◌≡◌, ◌<◌, ◌^◌, ap, sym, ◌∙◌, subst, take}
use Rattle.uc_bytes.specs.declared.write.Write.{Write}
use Rattle.uc_batch.specs.Rising.{last_of}
use Rattle.uc_version_open.specs.Progress.{Progress}
use Rattle.uc_version_open.proofs.Taken.{above_taken, below_limit, one_taken}
use Rattle.uc_version_open.proofs.first_version.opener_after.Goals as goal

pub insert-requires-clause-above : goal.insert-requires-clause-above
insert-requires-clause-above c =
    let l = c.loop-write in
    let w = c.write-item.result in
    let last : l.opener.last ≡ last_of 0 (take l.write-index c.args.writes.now) = ap (λ (p : Progress). p.last) l.invariant in
    let above = above_taken c.args.writes.now c.requires l.write-index w (search rules) c.write-item.is in
    subst (λ (v : Write). l.opener.last < v.seq) (sym c.of.ensures) (subst (λ n. n < w.seq) (sym last) above)

pub insert-requires-clause-below : goal.insert-requires-clause-below
insert-requires-clause-below c =
    let below = below_limit c.args.writes.now c.requires c.loop-write.write-index c.write-item.result (search rules) c.write-item.is in
    subst (λ (v : Write). v.seq < 2 ^ 56) (sym c.of.ensures) below

pub loop-write-preserved : goal.loop-write-preserved
loop-write-preserved c =
    let l = c.loop-write in
    c.in_ok-insert.ensures.ok c.args.options (take l.write-index c.args.writes.now) l.invariant
    ∙ one_taken c.args.writes.now c.requires l.write-index c.write-item.result (search rules) c.write-item.is c.args.options c.of.result c.of.ensures
