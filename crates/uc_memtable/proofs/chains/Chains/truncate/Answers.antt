use Rattle.std.proofs.Common.{rules, ◌≡◌, ◌≤◌, ℕ, List, length, take, sym, subst}
use Rattle.std.specs.Vec.{with_items}
use Rattle.std.proofs.lemmas.List.{with_items_is}
use Rattle.uc_memtable.specs.Linked.{HaveHeads}
use Rattle.uc_memtable.proofs.Links.{LinkLists, linked_first}
use Rattle.uc_memtable.proofs.chains.Chains.truncate.Goals as goal

pub invariant_of-self : goal.invariant_of-self
invariant_of-self c =
    let s = c.self.inside in
    let new = c.unlink_from.new.heads in
    let count = c.args.count in
    let same : length new ≡ length s.heads.items = search rules in
    let le : count ≤ length s.labels.items = search rules in
    let heads_are : HaveHeads new s.labels.items count = subst (λ (xs : List ℕ). HaveHeads new xs count) c.deref-then-count-len.ensures.value c.unlink_from.ensures in
    let all : LinkLists new (take count s.labels.items) (take count s.before.items) =
    linked_first s.heads.items s.labels.items s.before.items new count same le c.self.invariant.aligned c.self.invariant.roomy heads_are c.self.invariant.before_are in
    let room : length new ≡ s.heads.len = search rules in
    let heads_is : (with_items s.heads new).items ≡ new = with_items_is s.heads new room in
    let labels_is : c.truncate.new.self.items ≡ take count s.labels.items = search rules in
    let before_is : c.truncate-then-count-len.new.self.items ≡ take count s.before.items = search rules in
    let held : LinkLists (with_items s.heads new).items c.truncate.new.self.items c.truncate-then-count-len.new.self.items =
    subst (λ (xs : List ℕ). LinkLists xs c.truncate.new.self.items c.truncate-then-count-len.new.self.items) (sym heads_is)
    (subst (λ (xs : List ℕ). LinkLists new xs c.truncate-then-count-len.new.self.items) (sym labels_is)
    (subst (λ (xs : List ℕ). LinkLists new (take count s.labels.items) xs) (sym before_is) all)) in
    record {
      aligned = held.aligned;
      roomy = held.roomy;
      heads_are = held.heads_are;
      before_are = held.before_are;
    }
