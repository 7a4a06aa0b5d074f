use Rattle.std.proofs.Common.{◌≡◌, ◌++◌, List, ℕ, take, drop, ap, ◌∙◌, subst, IfOk}
use Rattle.uc_mixed.specs.Kinds.{combined}
use Rattle.uc_mixed.proofs.Placed.{part_combined}
use Rattle.uc_mixed.proofs.pairing.combine_last.Goals as goal

pub returns : goal.returns
returns c =
    let older = c.args.older.items in
    let place = c.args.place in
    let both : c.in_ok-both.both.items ≡ take place.start (take place.end older) ++ combined c.args.kind (drop place.start (take place.end older)) c.args.payload.now =
    c.in_ok-both.ensures ∙ ap (λ (l : List ℕ). take place.start l ++ combined c.args.kind (drop place.start l) c.args.payload.now) c.truncate.ensures.items in
    subst (λ (l : List ℕ). IfOk c.end_part.result (λ after. after.items ≡ l))
    (part_combined older c.in_ok-both.both.items c.args.payload.now place.start place.end c.args.kind c.requires.first c.requires.within both)
    c.end_part.ensures
