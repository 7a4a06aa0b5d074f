use Rattle.std.proofs.Common.{rules, ◌≡◌, ◌≤◌, ◌<◌, ℕ, List, length, get_or, ◌∙◌, subst}
use Rattle.std.proofs.lemmas.List.{get_or_read}
use Rattle.uc_memtable.specs.Ends.{newest_end}
use Rattle.uc_memtable.specs.Linked.{bucket_of, has_label, lies_in, AreChained}
use Rattle.uc_memtable.proofs.Links.{links_fall, walk_from, head_within}
use Rattle.uc_memtable.proofs.chains.Chains.newest.Goals as goal

pub newest_labelled-requires-clause-falling : goal.newest_labelled-requires-clause-falling
newest_labelled-requires-clause-falling c =
    let s = c.self.inside in
    rw (c.deref.ensures.value, c.deref-2.ensures.value) (links_fall (length s.heads.items) s.labels.items s.before.items (length s.labels.items) c.self.invariant.before_are)

pub newest_labelled-requires-clause-within : goal.newest_labelled-requires-clause-within
newest_labelled-requires-clause-within c =
    let s = c.self.inside in
    let lt : c.bucket_of.result < length s.heads.items = search rules in
    let read : c.index-head.result.now ≡ get_or s.heads.items c.bucket_of.result c.index-head.result.now = search rules in
    let head = get_or_read s.heads.items c.bucket_of.result c.index-head.result.now lt read 0 in
    let le : c.index-head.result.now ≤ length s.labels.items = head_within (length s.heads.items) s.labels.items c.bucket_of.result c.index-head.result.now (length s.labels.items) (head ∙ c.self.invariant.heads_are c.bucket_of.result lt) in
    rw c.deref.ensures.value le

pub returns : goal.returns
returns c =
    let s = c.self.inside in
    let labels = s.labels.items in
    let buckets = length s.heads.items in
    let label = c.args.label in
    let lt : c.bucket_of.result < length s.heads.items = search rules in
    let read : c.index-head.result.now ≡ get_or s.heads.items c.bucket_of.result c.index-head.result.now = search rules in
    let head = get_or_read s.heads.items c.bucket_of.result c.index-head.result.now lt read 0 in
    let bucket : c.bucket_of.result ≡ bucket_of buckets label = search rules in
    let is : c.index-head.result.now ≡ newest_end (lies_in buckets labels (bucket_of buckets label)) (length labels) =
    subst (λ (b : ℕ). c.index-head.result.now ≡ newest_end (lies_in buckets labels b) (length labels)) bucket (head ∙ c.self.invariant.heads_are c.bucket_of.result lt) in
    let found = subst (λ (xs : List ℕ). AreChained buckets labels xs (length labels) → newest_end (lies_in buckets labels (bucket_of buckets label)) c.index-head.result.now ≡ c.index-head.result.now → c.newest_labelled.result ≡ newest_end (has_label labels label) c.index-head.result.now) c.deref-2.ensures.value
    (subst (λ (xs : List ℕ). AreChained buckets xs c.deref-2.result.now (length xs) → newest_end (lies_in buckets xs (bucket_of buckets label)) c.index-head.result.now ≡ c.index-head.result.now → c.newest_labelled.result ≡ newest_end (has_label xs label) c.index-head.result.now) c.deref.ensures.value (c.newest_labelled.ensures buckets)) in
    subst (λ (xs : List ℕ). c.newest_labelled.result ≡ newest_end (has_label xs label) (length xs)) c.self.view_is
    (walk_from buckets labels s.before.items label c.index-head.result.now (length labels) c.newest_labelled.result c.self.invariant.before_are is found)
