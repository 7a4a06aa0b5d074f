use Rattle.std.proofs.Common.{rules, ◌≡◌, ℕ, ◌<◌, List, [], ◌∷◌, ◌++◌, map, sym, ap, ◌∙◌, subst}
use Rattle.std.specs.List.{AllByRecursion}
use Rattle.std.specs.Result.{OnOk}
use Rattle.uc_compact.specs.Output.{seqs_kept}
use Rattle.uc_run_entry.specs.Order.{IsFalling}
use Rattle.uc_compact.specs.Pieces.{IsList, kept_over}
use Rattle.uc_compact.specs.Together.{together}
use Rattle.uc_compact.proofs.Gathered.{lent_over, together_from_one}
use Rattle.uc_compact.proofs.NestedLists.{all-map}
use Rattle.uc_compact.proofs.fragments.push_kept.Goals as goal

pub new-requires : goal.new-requires
new-requires c =
    let key = c.args.key.now in
    let over = lent_over (λ seqs. seqs.now) key c.args.fronts.now c.lists_over.new.lists.items c.deref.result.now c.deref.ensures.value c.in_ok-lists_over.ensures.lists in
    all-map IsList IsFalling (λ seqs is. is.falls) (map (λ seqs. seqs.now) c.deref.result.now) over.each

pub kept_seqs-requires-clause-from_one : goal.kept_seqs-requires-clause-from_one
kept_seqs-requires-clause-from_one c =
    let runs = c.args.fronts.now in
    let key = c.args.key.now in
    let over = lent_over (λ seqs. seqs.now) key runs c.lists_over.new.lists.items c.deref.result.now c.deref.ensures.value c.in_ok-lists_over.ensures.lists in
    subst (AllByRecursion (λ n. 0 < n)) (sym c.new.ensures) (together_from_one key runs (map (λ seqs. seqs.now) c.deref.result.now) over)

pub returns-clause-pushed : goal.returns-clause-pushed
returns-clause-pushed c =
    let runs = c.args.fronts.now in
    let key = c.args.key.now in
    let k = c.args.keeping.now in
    let over = lent_over (λ seqs. seqs.now) key runs c.lists_over.new.lists.items c.deref.result.now c.deref.ensures.value c.in_ok-lists_over.ensures.lists in
    let same : c.deref-2.result.now ≡ kept_over k runs key =
    c.deref-2.ensures.value ∙ c.in_ok-seqs.ensures ∙ ap (seqs_kept k) (c.new.ensures ∙ ap together over.are) in
    subst (λ (seqs : List ℕ). OnOk c.push.result (c.push.new.self ≡ c.args.kept.now ++ seqs ∷ [])) same c.push.ensures.pushed
