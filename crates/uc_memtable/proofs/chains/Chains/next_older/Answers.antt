use Rattle.std.proofs.Common.{rules, ◌≡◌, ◌≤◌, ◌<◌, ℕ, List, length, get_or, sym, ◌∙◌, subst, arith}
use Rattle.std.proofs.lemmas.List.{get_or_read}
use Rattle.uc_memtable.specs.Ends.{newest_end}
use Rattle.uc_memtable.specs.Linked.{bucket_of, has_label, lies_in, AreChained}
use Rattle.uc_memtable.proofs.Links.{links_fall, walk_from, head_within}
use Rattle.uc_memtable.proofs.chains.Chains.next_older.Goals as goal

pub newest_labelled-requires-clause-falling : goal.newest_labelled-requires-clause-falling
newest_labelled-requires-clause-falling c =
    let s = c.self.inside in
    rw (c.deref.ensures.value, c.deref-2.ensures.value) (links_fall (length s.heads.items) s.labels.items s.before.items (length s.labels.items) c.self.invariant.before_are)

pub newest_labelled-requires-clause-within : goal.newest_labelled-requires-clause-within
newest_labelled-requires-clause-within c =
    let s = c.self.inside in
    let l : c.args.place < length s.labels.items = subst (λ (xs : List ℕ). c.args.place < length xs) (sym c.self.view_is) c.requires in
    let there : c.args.place < length s.before.items = omega (arith, l, c.self.invariant.aligned) in
    let read : c.index-2.result.now ≡ get_or s.before.items c.args.place c.index-2.result.now = search rules in
    let older = get_or_read s.before.items c.args.place c.index-2.result.now there read 0 in
    let le : c.index-2.result.now ≤ c.args.place = head_within (length s.heads.items) s.labels.items _ c.index-2.result.now c.args.place (older ∙ c.self.invariant.before_are c.args.place l) in
    let room : c.index-2.result.now ≤ length s.labels.items = omega (arith, le, l) in
    rw c.deref.ensures.value room

pub returns : goal.returns
returns c =
    let s = c.self.inside in
    let labels = s.labels.items in
    let buckets = length s.heads.items in
    let place = c.args.place in
    let label = c.index.result.now in
    let older = c.index-2.result.now in
    let l : place < length labels = subst (λ (xs : List ℕ). place < length xs) (sym c.self.view_is) c.requires in
    let there : place < length s.before.items = omega (arith, l, c.self.invariant.aligned) in
    let read : label ≡ get_or labels place label = search rules in
    let here = get_or_read labels place label l read 0 in
    let found_before : older ≡ get_or s.before.items place older = search rules in
    let is = get_or_read s.before.items place older there found_before 0 in
    let head : older ≡ newest_end (lies_in buckets labels (bucket_of buckets label)) place =
    subst (λ (k : ℕ). older ≡ newest_end (lies_in buckets labels (bucket_of buckets k)) place) (sym here) (is ∙ c.self.invariant.before_are place l) in
    let found = subst (λ (xs : List ℕ). AreChained buckets labels xs (length labels) → newest_end (lies_in buckets labels (bucket_of buckets label)) older ≡ older → c.newest_labelled.result ≡ newest_end (has_label labels label) older) c.deref-2.ensures.value
    (subst (λ (xs : List ℕ). AreChained buckets xs c.deref-2.result.now (length xs) → newest_end (lies_in buckets xs (bucket_of buckets label)) older ≡ older → c.newest_labelled.result ≡ newest_end (has_label xs label) older) c.deref.ensures.value (c.newest_labelled.ensures buckets)) in
    subst (λ (xs : List ℕ). c.newest_labelled.result ≡ newest_end (has_label xs (get_or xs place 0)) place) c.self.view_is
    (subst (λ (k : ℕ). c.newest_labelled.result ≡ newest_end (has_label labels k) place) here
    (walk_from buckets labels s.before.items label older place c.newest_labelled.result c.self.invariant.before_are head found))
