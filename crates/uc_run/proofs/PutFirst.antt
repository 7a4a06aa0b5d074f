-- A first point that puts the key says what a lookup finds.
use Rattle.std.proofs.Common.{◌≡◌, ℕ, Bool, true, cond, List, [], ◌∷◌, filter, Option, Some, None, sym, ap, ◌∙◌}
use Rattle.std.specs.Prelude.{nat_lt}
use Rattle.std.specs.List.{slice_get}
use Rattle.std.proofs.lemmas.Option.{get_or_from_slice_get, none-some}
use Rattle.uc_bytes.specs.Bytes.{same_bytes}
use Rattle.uc_oper.specs.Operation.{Operation}
use Rattle.uc_oper.specs.Composition.{composed}
use Rattle.uc_oper.specs.declared.effect.Effect.{Effect}
use Rattle.uc_oper.specs.declared.effect.Effect.TheVariants.{Keep, Set}
use Rattle.uc_run_entry.specs.declared.entry.Entry.{Entry}
use Rattle.uc_run_entry.specs.declared.entry.What.{What}
use Rattle.uc_run_entry.specs.declared.entry.What.TheVariants.{Put}
use Rattle.uc_run_entry.specs.Lookup.{what_effect, points_effect, above_newest, is_visible}
use Rattle.uc_run.specs.Found.{IsPutFirst}
use Rattle.uc_run.specs.Places.{is_on}
use Rattle.uc_run.proofs.OnKey.{left_true}

module _ (m : Operation) (q : Entry) (value : List ℕ) (puts : q.what ≡ Put value) where
  put_sets : (before : Effect) (older : List Entry) → points_effect m before (q ∷ older) ≡ Set (Some value)
  put_sets before older = ap (λ (w : What). composed m (points_effect m before older) (what_effect w)) puts

  put_found : (key : List ℕ) (older : List Entry) (seqs : List ℕ) → is_on key (slice_get seqs 0) q ≡ true → above_newest m (q ∷ older) seqs ≡ Set (Some value)
  put_found key older [] on = put_sets Keep older
  put_found key older (n ∷ ns) on =
      let rest = filter (λ (p : Entry). nat_lt n p.seq) older in
      let above : nat_lt n q.seq ≡ true = left_true (nat_lt n q.seq) (same_bytes q.key key) on in
      ap (λ b. points_effect m (Set None) (cond b (q ∷ rest) rest)) above ∙ put_sets (Set None) rest

pub put_first_does : (m : Operation) (key : List ℕ) (at : ℕ) (points : List Entry) (seqs : List ℕ) (newest : Option ℕ) (value : List ℕ) → newest ≡ slice_get seqs 0 → IsPutFirst points key at newest value → above_newest m (filter (is_visible key at) points) seqs ≡ Set (Some value)
put_first_does m key at [] seqs newest value e is = absurd (none-some is.point is.first)
put_first_does m key at (q ∷ qs) seqs newest value e is =
    let same : q ≡ is.point = get_or_from_slice_get (q ∷ qs) 0 is.point q is.first in
    let rest = filter (is_visible key at) qs in
    ap (λ b. above_newest m (cond b (q ∷ rest) rest) seqs) (ap (is_visible key at) same ∙ is.visible)
    ∙ put_found m q value (ap (λ (p : Entry). p.what) same ∙ is.puts) key rest seqs (ap (λ (o : Option ℕ). is_on key o q) (sym e) ∙ ap (is_on key newest) same ∙ is.on)

-- where the first passes a test and sets the value, no other is of account
pub first_sets : (m : Operation) (before : Effect) (test : Entry → Bool) (points : List Entry) (p : Entry) (what : What) (effect : Effect) → slice_get points 0 ≡ Some p → test p ≡ true → p.what ≡ what → ((older : Effect) → composed m older (what_effect what) ≡ effect) → points_effect m before (filter test points) ≡ effect
first_sets m before test [] p what effect first passes says sets = absurd (none-some p first)
first_sets m before test (q ∷ qs) p what effect first passes says sets =
    let same : q ≡ p = get_or_from_slice_get (q ∷ qs) 0 p q first in
    let rest = filter test qs in
    ap (λ b. points_effect m before (cond b (q ∷ rest) rest)) (ap test same ∙ passes)
    ∙ ap (λ (w : What). composed m (points_effect m before rest) (what_effect w)) (ap (λ (r : Entry). r.what) same ∙ says)
    ∙ sets (points_effect m before rest)
