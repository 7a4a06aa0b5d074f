use Rattle.std.proofs.Common.{◌≡◌, ◌<◌, ℕ, List, Option, Some, length, map, option_map, sym, ap, ◌∙◌, subst}
use Rattle.std.specs.List.{HoldsAt}
use Rattle.std.proofs.lemmas.List.{length-map}
use Rattle.uc_run.specs.Heads.{NextKeys}
use Rattle.uc_run.proofs.heads.Heads.next_at.Goals as goal

pub returns-clause-there : goal.returns-clause-there
returns-clause-there c = λ below.
    let seen : map (option_map (λ k. k.now)) c.deref.result.now ≡ c.args.self.now.keys = ap (map (option_map (λ k. k.now))) c.deref.ensures.value ∙ ap (λ (h : NextKeys). h.keys) c.self.view_is in
    let within : c.next_of.result < length c.deref.result.now = subst (λ (n : ℕ). c.next_of.result < n) (sym (ap length seen) ∙ length-map c.deref.result.now (option_map (λ k. k.now))) below in
    subst (λ (keys : List (Option (List ℕ))). HoldsAt (λ key. key ≡ Some c.args.head.key.now) keys c.next_of.result) seen (c.next_of.ensures.there within)
