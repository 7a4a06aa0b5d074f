use Rattle.std.proofs.Common.{rules, ◌≡◌, ℕ, ◌+◌, ◌++◌, ◌∷◌, [], List, length, arith, ap, sym, ◌∙◌, subst, length-append}
use Rattle.uc_run_entry.specs.Lists.{cut, AreStarts}
use Rattle.uc_run_entry.proofs.Flat.{cut_push, starts_push}
use Rattle.uc_run_entry.proofs.lists.Lists.push.Goals as goal

pub invariant_of-self-else-is_err : goal.invariant_of-self-else-is_err
invariant_of-self-else-is_err g c =
    let starts : c.push.new.self.items ≡ c.self.inside.starts.items ++ c.len.result ∷ [] = search rules in
    let items : c.extend_from_slice.new.self.items ≡ c.self.inside.items.items ++ c.args.list.now = search rules in
    let more : length c.extend_from_slice.new.self.items ≡ length c.self.inside.items.items + length c.args.list.now = ap (λ xs. length xs) items ∙ length-append c.self.inside.items.items c.args.list.now in
    let end : c.len.result ≡ length c.extend_from_slice.new.self.items = search rules in
    let kept : AreStarts (c.self.inside.starts.items ++ c.len.result ∷ []) c.len.result = starts_push c.self.inside.starts.items (length c.self.inside.items.items) c.len.result c.self.invariant (omega (arith, more, end)) in
    let moved : AreStarts c.push.new.self.items c.len.result = subst (λ (xs : List ℕ). AreStarts xs c.len.result) (sym starts) kept in
    subst (λ (n : ℕ). AreStarts c.push.new.self.items n) end moved

pub returns-clause-pushed : goal.returns-clause-pushed
returns-clause-pushed g c =
    let starts : c.push.new.self.items ≡ c.self.inside.starts.items ++ c.len.result ∷ [] = search rules in
    let items : c.extend_from_slice.new.self.items ≡ c.self.inside.items.items ++ c.args.list.now = search rules in
    let more : length c.extend_from_slice.new.self.items ≡ length c.self.inside.items.items + length c.args.list.now = ap (λ xs. length xs) items ∙ length-append c.self.inside.items.items c.args.list.now in
    let end : c.len.result ≡ length c.extend_from_slice.new.self.items = search rules in
    ap (λ (xs : List ℕ). cut xs c.extend_from_slice.new.self.items) starts
    ∙ ap (λ xs. cut (c.self.inside.starts.items ++ c.len.result ∷ []) xs) items
    ∙ ap (λ (n : ℕ). cut (c.self.inside.starts.items ++ n ∷ []) (c.self.inside.items.items ++ c.args.list.now)) (end ∙ more)
    ∙ cut_push c.self.inside.starts.items c.self.inside.items.items c.args.list.now c.self.invariant
    ∙ ap (λ xss. xss ++ c.args.list.now ∷ []) c.self.view_is
