use Rattle.std.proofs.Common.{◌≡◌, ℕ, Bool, List, ◌∙◌, ap, subst}
use Rattle.std.specs.Prelude.{IfSome}
use Rattle.uc_run_entry.specs.Run.{Contents}
use Rattle.uc_version_state.specs.Installs.{Terms}
use Rattle.uc_version_state.specs.Refusals.{IsRefused, terms_in}
use Rattle.uc_version_state.proofs.version.Version.terms_refusal.Goals as goal

pub returns-clause-some : goal.returns-clause-some
returns-clause-some c =
    let v = c.args.self.now in
    let i = c.args.install.now in
    let high = c.high_seq-high.ensures ∙ ap (λ (run : Contents). run.high) (c.deref.ensures ∙ c.output.ensures) in
    let terms : c.new-terms.result ≡ terms_in i =
    c.new-terms.ensures
    ∙ ap (λ (keeps : List ℕ). record { keeps = keeps; oldest = c.oldest.result; high = c.high_seq-high.result }) c.keeps.ensures
    ∙ ap (λ (oldest : Bool). record { keeps = i.keeps; oldest = oldest; high = c.high_seq-high.result }) c.oldest.ensures
    ∙ ap (λ n. record { keeps = i.keeps; oldest = i.oldest; high = n }) high in
    subst (λ (t : Terms). IfSome c.replace_refusal.result (λ refusal. IsRefused v i.ids t refusal)) terms
    (subst (λ (ids : List ℕ). IfSome c.replace_refusal.result (λ refusal. IsRefused v ids c.new-terms.result refusal)) c.ids.ensures c.replace_refusal.ensures.some)
