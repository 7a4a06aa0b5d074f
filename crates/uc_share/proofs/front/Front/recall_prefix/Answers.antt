use Rattle.std.proofs.Common.{ap, subst, List}
use mathlib.Core.List.{IsPrefix}
use Rattle.uc_version_state.specs.declared.event.Event.{Event}
use Rattle.uc_share.proofs.Prefixes.{prefix_shorter}
use Rattle.uc_share.proofs.front.Front.recall_prefix.Goals as goal

pub returns : goal.returns
returns g c =
    let both = c.learn.new.self.log in
    let this : IsPrefix c.self.inside.seen.log both = subst (λ (l : List Event). IsPrefix l both) (ap (λ s. s.log) c.again-both.ensures) c.learn.ensures.2 in
    rw (← c.self.view_is, ← c.other.view_is) (prefix_shorter c.self.inside.seen.log c.other.inside.seen.log both this c.learn.ensures.3 (rw (c.self.view_is, c.other.view_is) c.requires))
