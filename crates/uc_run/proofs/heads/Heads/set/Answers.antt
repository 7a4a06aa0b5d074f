use Rattle.std.proofs.Common.{ℕ, List, Option, map, option_map, sym, ap, ◌∙◌, subst}
use Rattle.std.specs.Prelude.{unwrap_or, []}
use Rattle.std.specs.List.{All, slice_set}
use Rattle.std.proofs.lemmas.List.{map-set}
use Rattle.std.proofs.lemmas.List.Elements.{All-set}
use Rattle.uc_run.specs.Heads.{NextKeys, next_number}
use Rattle.uc_run.specs.Prefixes.{AreBytes}
use Rattle.uc_run.proofs.heads.Heads.set.Goals as goal

pub invariant_of-self : goal.invariant_of-self
invariant_of-self c =
    let next = next_number c.self.inside.front.now in
    let keys = map (option_map (λ k. k.now)) c.self.inside.keys.items in
    let key = option_map (λ k. k.now) c.args.key in
    let set_is = map-set (option_map (λ k. k.now)) c.self.inside.keys.items c.args.walk c.args.key in
    record {
      each =
          c.set.ensures
          ∙ ap (λ (numbers : List ℕ). slice_set numbers c.args.walk c.next_number-number.result) c.self.invariant.each
          ∙ ap (slice_set (map next keys) c.args.walk) c.next_number-number.ensures.number
          ∙ sym (map-set next keys c.args.walk key)
          ∙ ap (map next) (sym set_is);
      bytes = subst (All (λ (k : Option (List ℕ)). AreBytes (unwrap_or k []))) (sym set_is) (All-set (λ (k : Option (List ℕ)). AreBytes (unwrap_or k [])) keys c.args.walk key c.next_number-number.ensures.bytes c.self.invariant.bytes);
    }

pub returns : goal.returns
returns c =
    ap (λ (keys : List (Option (List ℕ))). record { front = c.self.inside.front.now; keys = keys }) (map-set (option_map (λ k. k.now)) c.self.inside.keys.items c.args.walk c.args.key)
    ∙ ap (λ (h : NextKeys). record { front = h.front; keys = slice_set h.keys c.args.walk (option_map (λ k. k.now) c.args.key) }) c.self.view_is
