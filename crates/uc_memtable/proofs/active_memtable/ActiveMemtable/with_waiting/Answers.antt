use Rattle.std.proofs.Common.{◌≡◌, ◌++◌, List, length, take, drop, arith, sym, subst}
use Rattle.std.proofs.lemmas.List.{take-append-drop, take_all}
use Rattle.uc_bytes.specs.declared.write.Write.{Write}
use Rattle.uc_batch.specs.Rising.{IsRising, last_of}
use Rattle.uc_memtable.specs.Gathering.{Gathering}
use Rattle.uc_memtable.proofs.RisingParts.{rising_alone}
use Rattle.uc_memtable.proofs.active_memtable.ActiveMemtable.with_waiting.Goals as goal

pub prepare_range-requires-clause-rising : goal.prepare_range-requires-clause-rising
prepare_range-requires-clause-rising c =
    let s = c.self.inside in
    let rising : IsRising 0 (drop s.shown s.writes) = rising_alone 0 (take s.shown s.writes) (drop s.shown s.writes) (subst (IsRising 0) (sym (take-append-drop s.shown s.writes)) c.self.invariant.rising) in
    let count : c.len.result ≡ length s.writes = c.len.ensures.count in
    let all : take c.len.result s.writes ≡ s.writes = take_all c.len.result s.writes (omega (arith, count)) in
    subst (λ (g : Gathering). IsRising (last_of 0 (g.shown ++ g.waiting)) (drop s.shown (take c.len.result s.writes))) (sym c.new-apart.ensures)
    (subst (λ (ws : List Write). IsRising 0 (drop s.shown ws)) (sym all) rising)
