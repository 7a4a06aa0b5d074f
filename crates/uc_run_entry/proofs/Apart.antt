-- Points and range deletions of different sequences.
use Rattle.std.proofs.Common.{◌≡◌, Bool, true, false, not, cond, IsTrue, List, [], ◌∷◌, Contains, refl, sym, ◌∙◌, subst}
use Rattle.std.specs.Prelude.{◌↔◌}
use Rattle.std.specs.List.{AllByRecursion}
use Rattle.std.proofs.lemmas.Bool.{false≢true}
use Rattle.uc_run_entry.specs.declared.entry.Entry.{Entry}
use Rattle.uc_run_entry.specs.Fragment.{Fragment}
use Rattle.uc_run_entry.specs.Order.{IsFalling}
use Rattle.uc_run_entry.specs.Run.{covers, IsApart}
use Rattle.uc_run_entry.proofs.Points.{all-filtered}
use Rattle.uc_run_entry.proofs.Covering.{covering}

-- ---- no fragment over a point's key has its sequence

module _ (p : Entry) where
  abbrev Lacks : Fragment → Type 0
  Lacks f = ¬ Contains f.seqs p.seq

  apart_first : (f : Fragment) (fs : List Fragment) (b : Bool) → covers f p.key ≡ b → (AllByRecursion Lacks (covering p.key fs) → IsApart fs p) → AllByRecursion Lacks (cond b (f ∷ covering p.key fs) (covering p.key fs)) → IsApart (f ∷ fs) p
  apart_first f fs true e rest h = ((λ _. h.0), rest h.1)
  apart_first f fs false e rest h = ((λ t. absurd (false≢true (sym e ∙ t))), rest h)

  pub apart_from : (fs : List Fragment) → AllByRecursion Lacks (covering p.key fs) → IsApart fs p
  apart_from [] h = tt
  apart_from (f ∷ fs) h = apart_first f fs (covers f p.key) refl (apart_from fs) h

  lacks_first : (f : Fragment) (fs : List Fragment) (b : Bool) → covers f p.key ≡ b → IsApart (f ∷ fs) p → AllByRecursion Lacks (covering p.key fs) → AllByRecursion Lacks (cond b (f ∷ covering p.key fs) (covering p.key fs))
  lacks_first f fs true e h rest = (h.0 e, rest)
  lacks_first f fs false e h rest = rest

  pub lacks_from : (fs : List Fragment) → IsApart fs p → AllByRecursion Lacks (covering p.key fs)
  lacks_from [] h = tt
  lacks_from (f ∷ fs) h = lacks_first f fs (covers f p.key) refl h (lacks_from fs h.1)

  not_true : (b : Bool) → IsTrue (not b) ↔ ¬ IsTrue b
  not_true true = ((λ t _. false≢true t), (λ n. absurd (n refl)))
  not_true false = ((λ t f. false≢true f), (λ n. refl))

  -- by the one fragment that covers the key
  pub apart_by : (fs : List Fragment) (f : Fragment) (b : Bool) → covering p.key fs ≡ f ∷ [] → IsTrue b ↔ Contains f.seqs p.seq → IsTrue (not b) ↔ IsApart fs p
  apart_by fs f b one has = (
    (λ t. apart_from fs (subst (AllByRecursion Lacks) (sym one) ((λ c. (not_true b).0 t (has.1 c)), tt))),
    (λ apart. (not_true b).1 (λ t. (subst (AllByRecursion Lacks) one (lacks_from fs apart)).0 (has.0 t))),
  )

  pub apart_alone : (fs : List Fragment) → covering p.key fs ≡ [] → IsApart fs p
  apart_alone fs none = apart_from fs (subst (AllByRecursion Lacks) (sym none) tt)

  pub covering_falls : (fs : List Fragment) (f : Fragment) → covering p.key fs ≡ f ∷ [] → AllByRecursion (λ g. IsFalling g.seqs) fs → IsFalling f.seqs
  covering_falls fs f one falls = (subst (AllByRecursion (λ g. IsFalling g.seqs)) one (all-filtered (λ g. IsFalling g.seqs) (λ g. covers g p.key) fs falls)).0
