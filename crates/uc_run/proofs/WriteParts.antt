-- A loop over writes, seen by the parts of those so far.
use Rattle.std.proofs.Common.{◌≡◌, ℕ, ◌+◌, List, [], ◌∷◌, ◌++◌, Option, Some, None, take, ap, sym, ◌∙◌}
use Rattle.std.specs.List.{cons_option, filter_map, slice_get}
use Rattle.std.proofs.lemmas.List.{append-nil, take_more}
use Rattle.std.proofs.lemmas.List.Elements.{filter_map-append}
use Rattle.std.proofs.lemmas.Option.{slice_get_within, get_or_from_slice_get}
use Rattle.uc_bytes.specs.declared.write.Write.{Write}

-- one more element
pub next_taken : {X : Type 0} (xs : List X) (i : ℕ) (x : X) → slice_get xs i ≡ Some x → take (i + 1) xs ≡ take i xs ++ x ∷ []
next_taken xs i x is =
    take_more xs i x (slice_get_within xs i x is) ∙ ap (λ y. take i xs ++ y ∷ []) (get_or_from_slice_get xs i x x is)

module _ {X : Type 0} (part : Write → Option X) (writes : List Write) (i : ℕ) (w : Write) where
  parts_more : slice_get writes i ≡ Some w → filter_map part (take (i + 1) writes) ≡ filter_map part (take i writes) ++ cons_option (part w) []
  parts_more is = ap (filter_map part) (next_taken writes i w is) ∙ filter_map-append part (take i writes) (w ∷ [])

  -- the invariant of such a loop, where a write has a part and where it has none
  pub part_pushed : (x : X) (before after : List X) → slice_get writes i ≡ Some w → part w ≡ Some x → before ≡ filter_map part (take i writes) → after ≡ before ++ x ∷ [] → after ≡ filter_map part (take (i + 1) writes)
  part_pushed x before after is some known pushed =
      pushed
      ∙ ap (λ (xs : List X). xs ++ x ∷ []) known
      ∙ ap (λ (p : Option X). filter_map part (take i writes) ++ cons_option p []) (sym some)
      ∙ sym (parts_more is)

  pub part_missing : (before : List X) → slice_get writes i ≡ Some w → part w ≡ None → before ≡ filter_map part (take i writes) → before ≡ filter_map part (take (i + 1) writes)
  part_missing before is none known =
      known
      ∙ sym (append-nil (filter_map part (take i writes)))
      ∙ ap (λ (p : Option X). filter_map part (take i writes) ++ cons_option p []) (sym none)
      ∙ sym (parts_more is)
