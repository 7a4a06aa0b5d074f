use Rattle.std.proofs.Common.{rules, ◌≡◌, ◌+◌, ◌<◌, ◌++◌, ◌∷◌, [], ℕ, List, length, ap, sym, ◌∙◌, subst, arith}
use Rattle.std.specs.Vec.{with_items}
use Rattle.std.proofs.lemmas.List.{with_items_is, length_push}
use Rattle.uc_memtable.specs.Linked.{HaveHeads, AreChained}
use Rattle.uc_memtable.proofs.Links.{LinkLists, linked_all, heads_before, chained_before}
use Rattle.uc_memtable.proofs.chains.Chains.push.Goals as goal

pub link-requires-clause-heads : goal.link-requires-clause-heads
link-requires-clause-heads c =
    let labels = c.self.inside.labels.items in
    let old : HaveHeads c.make_room.new.heads.items labels (length labels) = search rules in
    let pushed : c.deref-2.result.now ≡ labels ++ c.args.label ∷ [] = search rules in
    let place : c.len-place.result ≡ length labels = search rules in
    let heads : c.deref_mut-2.result.now ≡ c.make_room.new.heads.items = search rules in
    rw (heads, pushed, place) (heads_before c.make_room.new.heads.items labels c.args.label old)

pub link-requires-clause-chained : goal.link-requires-clause-chained
link-requires-clause-chained c =
    let labels = c.self.inside.labels.items in
    let before = c.make_room.new.before in
    let old : AreChained (length c.make_room.new.heads.items) labels before (length labels) = search rules in
    let aligned : length before ≡ length labels = search rules in
    let pushed : c.deref-2.result.now ≡ labels ++ c.args.label ∷ [] = search rules in
    let room : length before ≡ c.reserve-2.new.self.len = search rules in
    let held : (with_items c.reserve-2.new.self before).items ≡ before = with_items_is c.reserve-2.new.self before room in
    let more : c.deref_mut-3.result.now ≡ before ++ 0 ∷ [] = c.deref_mut-3.ensures.value ∙ c.in_ok-push-2.ensures.items ∙ ap (λ (xs : List ℕ). xs ++ 0 ∷ []) held in
    let place : c.len-place.result ≡ length labels = search rules in
    let heads : c.deref_mut-2.result.now ≡ c.make_room.new.heads.items = search rules in
    rw (heads, pushed, more, place) (chained_before (length c.make_room.new.heads.items) labels before c.args.label 0 aligned old)

pub invariant_of-self-2 : goal.invariant_of-self-2
invariant_of-self-2 c =
    let heads = c.link.new.heads in
    let before = c.link.new.before in
    let labels = c.push.new.self.items in
    let before_room : length c.make_room.new.before ≡ c.reserve-2.new.self.len = search rules in
    let before_held : (with_items c.reserve-2.new.self c.make_room.new.before).items ≡ c.make_room.new.before = with_items_is c.reserve-2.new.self c.make_room.new.before before_room in
    let more = c.deref_mut-3.ensures.value ∙ c.in_ok-push-2.ensures.items ∙ ap (λ (xs : List ℕ). xs ++ 0 ∷ []) before_held in
    let more_long = ap length more ∙ length_push c.make_room.new.before 0 in
    let labels_is : c.deref-2.result.now ≡ labels = c.deref-2.ensures.value in
    let pushed : labels ≡ c.self.inside.labels.items ++ c.args.label ∷ [] = search rules in
    let long = ap length pushed ∙ length_push c.self.inside.labels.items c.args.label in
    let place : c.len-place.result ≡ length c.self.inside.labels.items = search rules in
    let same : length before ≡ length c.deref_mut-3.result.now = search rules in
    let size : length c.deref_mut-2.result.now ≡ length heads = search rules in
    let short : length c.make_room.new.before ≡ length c.self.inside.labels.items = search rules in
    let aligned : length before ≡ length labels = omega (arith, same, more_long, short, long) in
    let room : length c.self.inside.labels.items < length heads = search rules in
    let all : LinkLists heads labels before = linked_all heads labels before (length c.deref_mut-2.result.now) (c.len-place.result + 1) aligned (omega (arith, room, long)) (omega (arith, place, long)) size
    (subst (λ (xs : List ℕ). HaveHeads heads xs (c.len-place.result + 1)) labels_is c.link.ensures.heads)
    (subst (λ (xs : List ℕ). AreChained (length c.deref_mut-2.result.now) xs before (c.len-place.result + 1)) labels_is c.link.ensures.chained) in
    let heads_room : length heads ≡ c.make_room.new.heads.len = search rules in
    let heads_is : (with_items c.make_room.new.heads heads).items ≡ heads = with_items_is c.make_room.new.heads heads heads_room in
    let links_room : length before ≡ c.push-2.new.self.len = search rules in
    let before_is : (with_items c.push-2.new.self before).items ≡ before = with_items_is c.push-2.new.self before links_room in
    let now : LinkLists (with_items c.make_room.new.heads heads).items labels (with_items c.push-2.new.self before).items =
    subst (λ (xs : List ℕ). LinkLists xs labels (with_items c.push-2.new.self before).items) (sym heads_is)
    (subst (λ (xs : List ℕ). LinkLists heads labels xs) (sym before_is) all) in
    record {
      aligned = now.aligned;
      roomy = now.roomy;
      heads_are = now.heads_are;
      before_are = now.before_are;
    }
