use Rattle.std.proofs.Common.{◌≡◌, ℕ, Bool, List, ◌∙◌, ap, subst}
use Rattle.std.specs.Prelude.{IfSome}
use Rattle.uc_run_entry.specs.Run.{Contents}
use Rattle.uc_version_state.specs.Versions as versions
use Rattle.uc_version_state.specs.Installs.{Terms, terms_of}
use Rattle.uc_version_state.specs.Refusals.{IsRefused}
use Rattle.uc_version_compact.proofs.refusal.present_refusal.Goals as goal

pub returns-clause-some : goal.returns-clause-some
returns-clause-some g c =
    let v = c.args.present.now in
    let made = c.args.made.now in
    let high = c.high_seq.ensures ∙ ap (λ (run : Contents). run.high) (c.deref.ensures ∙ c.output.ensures) in
    let terms : c.new-terms.result ≡ terms_of made =
    c.new-terms.ensures
    ∙ ap (λ (keeps : List ℕ). record { keeps = keeps; oldest = c.oldest.result; high = c.high_seq.result }) c.keeps.ensures
    ∙ ap (λ (oldest : Bool). record { keeps = made.keeps; oldest = oldest; high = c.high_seq.result }) c.oldest.ensures
    ∙ ap (λ n. record { keeps = made.keeps; oldest = made.oldest; high = n }) high in
    subst (λ (t : Terms). IfSome c.replace_refusal.result (λ refusal. IsRefused v (versions.ids_of c.args.claimed.now) t refusal)) terms
    (subst (λ (ids : List ℕ). IfSome c.replace_refusal.result (λ refusal. IsRefused v ids c.new-terms.result refusal)) c.run_ids-ids.ensures c.replace_refusal.ensures.some)
