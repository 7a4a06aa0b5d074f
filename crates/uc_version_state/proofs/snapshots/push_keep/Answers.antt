use Rattle.std.proofs.Common.{◌≡◌, ◌++◌, ◌∷◌, [], ◌∙◌, ℕ, List, Contains, sym, subst, rules}
use Rattle.std.proofs.lemmas.Bool.{false≢true}
use Rattle.uc_version_state.proofs.Snapped.{is_new}
use Rattle.uc_version_state.proofs.snapshots.push_keep.Goals as goal

pub returns-in_ok-push-clause-ok : goal.returns-in_ok-push-clause-ok
returns-in_ok-push-clause-ok c =
    let pushed : c.push.new.self.items ≡ c.args.keeps.now.items ++ c.args.seq ∷ [] = search rules in
    pushed ∙ is_new c.args.seq c.args.keeps.now.items (λ there. false≢true (c.if-not-is_among.ensures.1 (subst (λ (keeps : List ℕ). Contains keeps c.args.seq) (sym c.deref.ensures.value) there)))
