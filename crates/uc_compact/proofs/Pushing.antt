-- The kept parts of groups, one after the other.
use Rattle.std.proofs.Common.{◌≡◌, List, [], ◌∷◌, ◌++◌, ℕ, refl, sym, ap, ◌∙◌, subst}
use Rattle.std.specs.Prelude.{Option, Some, None}
use Rattle.std.specs.List.{AllByRecursion, flat_map}
use Rattle.std.proofs.lemmas.List.{append-nil, append_assoc}
use Rattle.uc_oper.specs.Operation.{Operation}
use Rattle.uc_run_entry.specs.declared.entry.Entry.{Entry}
use Rattle.uc_run_entry.specs.Fragment.{Fragment}
use Rattle.uc_compact.specs.Groups.{Group, Comes}
use Rattle.uc_compact.specs.Stripes.{Keeping}
use Rattle.uc_compact.specs.Choice.{AreOfOneKey, points_for, seqs_over}

module _ (m : Operation) (keeping : Keeping) (cut : List Fragment) where
  abbrev pub of_group : Group → List Entry
  of_group g = points_for m keeping g.key g.points (seqs_over g.key cut)

  abbrev pub of_groups : List Group → List Entry
  of_groups groups = flat_map of_group groups

  abbrev pub HasOneKey : Group → Type 0
  HasOneKey g = AreOfOneKey g.points (seqs_over g.key cut)

  -- what is kept of the groups that are ahead completes what is kept of all
  pub record PushesOn (start : List Entry) (all groups : List Group) (kept : List Entry) : Type 0 where
    pub each : AllByRecursion HasOneKey groups
    pub so_far : kept ++ of_groups groups ≡ start ++ of_groups all

  pub first : (start : List Entry) (all : List Group) → AllByRecursion HasOneKey all → PushesOn start all all start
  first start all each = record { each = each; so_far = refl }

  module _ (start : List Entry) (all groups : List Group) (kept : List Entry) (on : PushesOn start all groups kept) where
    pub one_key : (g : Group) (others : List Group) → groups ≡ g ∷ others → HasOneKey g
    one_key g others e = (subst (AllByRecursion HasOneKey) e on.each).0

    pub next : (g : Group) (others : List Group) (more : List Entry) → groups ≡ g ∷ others → more ≡ kept ++ of_group g → PushesOn start all others more
    next g others more e made = record {
      each = (subst (AllByRecursion HasOneKey) e on.each).1;
      so_far =
          ap (λ (ps : List Entry). ps ++ of_groups others) made
          ∙ append_assoc kept (of_group g) (of_groups others)
          ∙ ap (λ (gs : List Group). kept ++ of_groups gs) (sym e)
          ∙ on.so_far;
    }

    pub done : groups ≡ [] → kept ≡ start ++ of_groups all
    done e = sym (append-nil kept) ∙ ap (λ (gs : List Group). kept ++ of_groups gs) (sym e) ∙ on.so_far

pub came : (groups : List Group) (o : Option (List ℕ)) (key : List ℕ) (points : List Entry) (others : List Group) → Comes groups o points others → o ≡ Some key → groups ≡ (record { key = key; points = points }) ∷ others
came groups o key points others comes e = subst (λ (p : Option (List ℕ)). Comes groups p points others) e comes

pub ended : (groups : List Group) (o : Option (List ℕ)) (points : List Entry) (others : List Group) → Comes groups o points others → o ≡ None → groups ≡ []
ended groups o points others comes e = (subst (λ (p : Option (List ℕ)). Comes groups p points others) e comes).0

-- the parts of a call, by what they are equal to
pub one_key_by : (cut : List Fragment) (key : List ℕ) (points lent : List Entry) (seqs : List ℕ) → lent ≡ points → seqs ≡ seqs_over key cut → AreOfOneKey points (seqs_over key cut) → AreOfOneKey lent seqs
one_key_by cut key points lent seqs e f h =
    subst (λ (ps : List Entry). AreOfOneKey ps seqs) (sym e) (subst (AreOfOneKey points) (sym f) h)

pub made_by : (m : Operation) (keeping : Keeping) (cut : List Fragment) (key : List ℕ) (points lent kept more : List Entry) (seqs : List ℕ) → lent ≡ points → seqs ≡ seqs_over key cut → more ≡ kept ++ points_for m keeping key lent seqs → more ≡ kept ++ points_for m keeping key points (seqs_over key cut)
made_by m keeping cut key points lent kept more seqs e f made =
    made
    ∙ ap (λ (ps : List Entry). kept ++ points_for m keeping key ps seqs) e
    ∙ ap (λ (ns : List ℕ). kept ++ points_for m keeping key points ns) f
