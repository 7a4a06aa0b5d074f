use Rattle.std.proofs.Common.{◌≡◌, ◌++◌, append_assoc, subst, sym, ap, ◌∙◌}
use Rattle.std.specs.Prelude.{List}
use Rattle.uc_bytes.specs.declared.write.Write.{Write}
use Rattle.uc_batch.specs.Rising.{IsRising, last_of}
use Rattle.uc_memtable.specs.Gathering.{Gathering}
use Rattle.uc_memtable.specs.declared.gathered_memtables.GatheredMemtables.TheInside.{Inside}
use Rattle.uc_memtable.proofs.RisingParts.{rising_front, rising_back}
use Rattle.uc_memtable.proofs.gathered_memtables.GatheredMemtables.to_memtable_behind.Goals as goal

-- the older ones, the frozen ones and the active one rise
all_rising : (s : Inside) (older : List Write) (now : Gathering) → record { shown = s.frozen ++ s.active.shown; waiting = s.active.waiting } ≡ now → IsRising 0 (older ++ now.shown) → IsRising 0 ((older ++ s.frozen) ++ s.active.shown)
all_rising s older now view rising =
    subst (IsRising 0) (sym (append_assoc older s.frozen s.active.shown)) (subst (λ (g : Gathering). IsRising 0 (older ++ g.shown)) (sym view) rising)

pub with-requires : goal.with-requires
with-requires c =
    let s = c.self.inside in
    rising_front 0 (c.args.older.now ++ s.frozen) s.active.shown (all_rising s c.args.older.now c.args.self.now c.self.view_is c.requires)

pub take_shown-requires-clause-rising : goal.take_shown-requires-clause-rising
take_shown-requires-clause-rising c =
    let s = c.self.inside in
    let behind = rising_back 0 (c.args.older.now ++ s.frozen) s.active.shown (all_rising s c.args.older.now c.args.self.now c.self.view_is c.requires) in
    subst (λ (ws : List Write). IsRising (last_of 0 ws) s.active.shown) (sym (ap (λ (g : Gathering). g.shown) c.in_ok-one.ensures ∙ c.in_ok-with.ensures)) behind
