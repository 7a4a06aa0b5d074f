use Rattle.std.proofs.Common.{◌≡◌, [], ◌++◌, List, take, drop, ap, sym, ◌∙◌}
use Rattle.std.proofs.lemmas.List.{append-nil, take-append-drop}
use Rattle.uc_bytes.specs.declared.write.Write.{Write}
use Rattle.uc_memtable.specs.Gathering.{Gathering}
use Rattle.uc_memtable.proofs.active_memtable.ActiveMemtable.memtable.Goals as goal

pub returns : goal.returns
returns c =
    let s = c.self.inside in
    let none : drop s.shown s.writes ≡ [] = ap (λ (g : Gathering). g.waiting) c.self.view_is ∙ c.requires in
    sym (take-append-drop s.shown s.writes)
    ∙ ap (λ (ws : List Write). take s.shown s.writes ++ ws) none
    ∙ append-nil (take s.shown s.writes)
    ∙ ap (λ (g : Gathering). g.shown) c.self.view_is
