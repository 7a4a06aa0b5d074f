-- How chains hold labels.
use Rattle.std.specs.Prelude.{◌≡◌, ◌≤◌, ℕ, List, length}
use Rattle.uc_memtable.specs.Linked.{HaveHeads, AreChained}
use Rattle.uc_memtable.specs.declared.chains.Chains.TheInside.{Inside}

-- the labels, in order
abbrev pub labels_of : Inside → List ℕ
labels_of c = c.labels.items

-- there are at least as many buckets as labels, and all labels are linked
pub record AreLinked (c : Inside) : Type 0 where
  pub aligned : length c.before.items ≡ length c.labels.items
  pub roomy : length c.labels.items ≤ length c.heads.items
  pub heads_are : HaveHeads c.heads.items c.labels.items (length c.labels.items)
  pub before_are : AreChained (length c.heads.items) c.labels.items c.before.items (length c.labels.items)
