use Rattle.std.proofs.Common.{◌≡◌, ◌-◌, ◌++◌, List, length, take, drop, ap, sym, subst, ◌∙◌}
use Rattle.std.proofs.lemmas.List.{take_more_set}
use Rattle.uc_bytes.specs.declared.write.Write.{Write}
use Rattle.uc_batch.specs.Rising.{IsRising}
use Rattle.uc_memtable.specs.Frozen.{all_of}
use Rattle.uc_memtable.specs.Gathering.{Gathering}
use Rattle.uc_memtable.proofs.AllFrozen.{all_of-push, all_of-split, rising_from, all_from}
use Rattle.uc_memtable.proofs.joining.join_from.Goals as goal

pub copy_of-requires : goal.copy_of-requires
copy_of-requires c =
    rising_from c.deref.result.now c.args.place (subst (λ (ns : List (List Write)). IsRising 0 (all_of ns)) (sym c.deref.ensures.value) c.requires.rising)

pub returns : goal.returns
returns c =
    let ms = c.args.memtables.now.items in
    let place = c.args.place in
    let copied : c.in_ok-all.all.shown ≡ all_of (take (length c.deref.result.now - place) (drop place c.deref.result.now)) = ap (λ (g : Gathering). g.shown) c.in_ok-all.ensures in
    let all : c.in-Ok.all ≡ all_of (drop place ms) =
    c.in-Ok.ensures.ok ∙ copied
    ∙ ap (λ (ns : List (List Write)). all_of (take (length ns - place) (drop place ns))) c.deref.ensures.value
    ∙ ap all_of (all_from ms place) in
    ap all_of (c.truncate.ensures.items ∙ take_more_set ms place c.in-Ok.all c.requires.within)
    ∙ all_of-push (take place ms) c.in-Ok.all
    ∙ ap (λ (ws : List Write). all_of (take place ms) ++ ws) all
    ∙ sym (all_of-split ms place)
