use Rattle.std.proofs.Common.{rules, sym, ap, ◌∙◌, subst, map, take, drop, length, List, Option, ℕ, ◌++◌, ◌∷◌, ◌≡◌, [], refl}
use Rattle.std.specs.Prelude.{option_map}
use Rattle.std.specs.List.{AllByRecursion, flat_map}
use Rattle.std.proofs.lemmas.List.{length-map, take_at}
use Rattle.uc_run_entry.specs.declared.entry.Entry.{Entry}
use Rattle.uc_run.specs.Heads as heads
use Rattle.uc_compact.specs.Groups.{groups_of}
use Rattle.uc_compact.specs.Heads.{first_key, first_named, IsLeast}
use Rattle.uc_compact.specs.Lasting.{with_lasting, lasting_group}
use Rattle.uc_compact.proofs.Taking.{Sorted}
use Rattle.uc_compact.proofs.Merging.{joined, ends, steps, stays_sorted}
use Rattle.uc_compact.proofs.NextKeys.{least_of_firsts}
use Rattle.uc_compact.proofs.groups.Groups.next_into.Goals as goal

-- the least of the next keys is that of the lists
least_is : (lists : List (List Entry)) (keys : List (Option (List ℕ))) (least : Option (List ℕ)) → keys ≡ map first_key lists → heads.IsLeast keys least → IsLeast lists least
least_is lists keys least beside h = least_of_firsts lists least (subst (λ (ks : List (Option (List ℕ))). heads.IsLeast ks least) beside h)

pub returns-in_default-clause-comes : goal.returns-in_default-clause-comes
returns-in_default-clause-comes c =
    let g = c.self.inside in
    let found = option_map (λ head. head.key.now) c.least.result in
    let none : c.args.self.now ≡ _ =
    sym c.self.view_is
    ∙ ap (map (lasting_group g.keeps.now)) (ends (groups_of (joined g.cursors.items)) g.cursors.items found c.self.invariant.sorted refl (least_is g.cursors.items g.heads.keys found c.self.invariant.heads c.least.ensures.least) (ap (option_map (λ head. head.key.now)) c.in_default.is)) in
    (none, c.clear.ensures.items, none)

-- the cursors that were lent come back
came_back : (items seen new : List (List Entry)) (len : ℕ) (key : List ℕ) → length items ≡ len → seen ≡ items → new ≡ map (λ ps. drop (first_named key ps) ps) seen → take len (new ++ drop (length new) items) ≡ new
came_back items seen new len key long value left =
    take_at new (drop (length new) items) len (ap length left ∙ length-map seen (λ (ps : List Entry). drop (first_named key ps) ps) ∙ ap length value ∙ long)

pub returns-clause-comes : goal.returns-clause-comes
returns-clause-comes c =
    let g = c.self.inside in
    let keeps = g.keeps.now in
    let key = c.in-Some.head.key.now in
    let lent = c.deref_mut.result.now in
    let named : List Entry = flat_map (λ ps. take (first_named key ps) ps) lent in
    let found = option_map (λ head. head.key.now) c.least.result in
    let long : length g.cursors.items ≡ g.cursors.len = search rules in
    let back = came_back g.cursors.items lent c.take_from_each.new.cursors g.cursors.len key long c.deref_mut.ensures.value c.in_default-take_from_each.ensures.left in
    let last : c.take_from_each.new.points.items ≡ with_lasting keeps [] named = c.in_default-take_from_each.ensures.taken ∙ ap (λ (ps : List Entry). with_lasting keeps ps named) c.clear.ensures.items in
    sym c.self.view_is
    ∙ ap (map (lasting_group keeps)) (steps (groups_of (joined g.cursors.items)) g.cursors.items lent c.take_from_each.new.cursors found key [] named
    c.self.invariant.sorted refl c.deref_mut.ensures.value (least_is g.cursors.items g.heads.keys found c.self.invariant.heads c.least.ensures.least) (ap (option_map (λ head. head.key.now)) c.in-Some.is) refl refl c.in_default-take_from_each.ensures.left)
    ∙ ap (λ (ps : List Entry). (record { key = key; points = ps }) ∷ map (lasting_group keeps) (groups_of (joined c.take_from_each.new.cursors))) (sym last)
    ∙ ap (λ (lists : List (List Entry)). (record { key = key; points = c.take_from_each.new.points.items }) ∷ map (lasting_group keeps) (groups_of (joined lists))) (sym back)

pub invariant_of-self-in_default-take_from_each : goal.invariant_of-self-in_default-take_from_each
invariant_of-self-in_default-take_from_each c =
    let g = c.self.inside in
    let found = option_map (λ head. head.key.now) c.least.result in
    let long : length g.cursors.items ≡ g.cursors.len = search rules in
    let back = came_back g.cursors.items c.deref_mut.result.now c.take_from_each.new.cursors g.cursors.len c.in-Some.head.key.now long c.deref_mut.ensures.value c.in_default-take_from_each.ensures.left in
    record {
      rise = c.self.invariant.rise;
      sorted =
          subst (AllByRecursion Sorted) (sym back)
          (stays_sorted (groups_of (joined g.cursors.items)) g.cursors.items c.deref_mut.result.now c.take_from_each.new.cursors found c.in-Some.head.key.now [] []
          c.self.invariant.sorted refl c.deref_mut.ensures.value (least_is g.cursors.items g.heads.keys found c.self.invariant.heads c.least.ensures.least) (ap (option_map (λ head. head.key.now)) c.in-Some.is) c.in_default-take_from_each.ensures.left);
      heads = c.in_default-take_from_each.ensures.heads ∙ ap (map first_key) (sym back);
    }
