use Rattle.std.proofs.Common.{rules, ◌≡◌, ◌<◌, ap, sym, ◌∙◌, subst, [], ◌∷◌, ◌++◌, Option}
use Rattle.std.specs.Option.{IfSome}
use Rattle.uc_batch.specs.Rising.{last_of}
use Rattle.uc_run.proofs.Inserted.{rising_grown}
use Rattle.uc_version_open.specs.Progress.{Flushing, Progress, progress_of}
use Rattle.uc_version_open.specs.HeldProgress.{progress}
use Rattle.uc_version_open.specs.Lending.{StandsIn}
use Rattle.uc_version_open.specs.Steps.{held_with}
use Rattle.uc_version_open.proofs.Grown.{state_grown}
use Rattle.uc_version_open.proofs.Newest.{held_below}
use Rattle.uc_version_open.proofs.Placed.{stands_with}
use Rattle.uc_version_open.proofs.opener.Opener.insert.Goals as goal

pub hold_write-requires-clause-above : goal.hold_write-requires-clause-above
hold_write-requires-clause-above g c =
    let came = c.self.invariant in
    let n = c.args.write.now.seq in
    let held : c.self.inside.memtables ≡ (progress_of c.self.inside.options came.writes).held = ap (λ (p : Progress). p.held) came.is in
    let last : c.self.inside.last ≡ last_of 0 came.writes = ap (λ (p : Progress). p.last) came.is in
    let above : c.self.inside.last < n = search rules in
    subst (λ (h : Option Flushing). IfSome h (λ f. last_of 0 f.newest < n)) (sym held) (held_below c.self.inside.options came.writes n (subst (λ m. m < n) last above))

pub invariant_of-self-2 : goal.invariant_of-self-2
invariant_of-self-2 g c =
    let came = c.self.invariant in
    let options = c.self.inside.options in
    let w = c.args.write.now in
    let last : c.self.inside.last ≡ last_of 0 came.writes = ap (λ (p : Progress). p.last) came.is in
    let above : c.self.inside.last < w.seq = search rules in
    let after : Progress = record { options = options; last = c.seq-self-inside.result; held = c.hold_write.new.held } in
    let changed : after ≡ record { options = options; last = w.seq; held = held_with options.memtable c.self.inside.memtables w } = (λ i. record { options = options; last = c.seq-self-inside.ensures i; held = c.in_ok-hold_write.ensures.ok i }) in
    record {
      writes = came.writes ++ w ∷ [];
      rising = rising_grown 0 came.writes w came.rising (subst (λ m. m < w.seq) last above) c.requires.below;
      is = changed ∙ state_grown (progress c.self.inside) options came.writes w came.is;
    }

pub returns-clause-ok : goal.returns-clause-ok
returns-clause-ok g c = λ options writes e.
    let before = c.self.inside in
    let w = c.args.write.now in
    let after : Progress = record { options = before.options; last = c.seq-self-inside.result; held = c.hold_write.new.held } in
    let changed : after ≡ record { options = before.options; last = w.seq; held = held_with before.options.memtable before.memtables w } = (λ i. record { options = before.options; last = c.seq-self-inside.ensures i; held = c.in_ok-hold_write.ensures.ok i }) in
    changed ∙ state_grown (progress before) options writes w (c.self.view_is ∙ e)

pub returns-clause-stay : goal.returns-clause-stay
returns-clause-stay g c = λ place part stands.
    let before = c.self.inside in
    let stood : StandsIn place part before.memtables = subst (λ (p : Progress). StandsIn place part p.held) (sym c.self.view_is) stands in
    subst (StandsIn place part) (sym c.in_ok-hold_write.ensures.ok) (stands_with before.options.memtable place part before.memtables c.args.write.now stood)
