-- Equality of byte strings, by their prefixes.
use Rattle.std.proofs.Common.{◌≡◌, ℕ, ◌≤◌, List, length, drop, refl, sym, ap, ◌∙◌}
use Rattle.std.specs.declared.cmp.Ordering.{Ordering}
use Rattle.std.specs.declared.cmp.Ordering.TheVariants.{Less, Equal, Greater}
use Rattle.std.specs.Ordering.{is_eq}
use Rattle.uc_bytes.specs.Bytes.{bytes_cmp, same_bytes}
use Rattle.uc_run.specs.Prefixes.{prefix_of, AreBytes}
use Rattle.uc_run.proofs.Order.{same_key, other_key}
use Rattle.uc_run.proofs.TextOrder.{behind_prefix}

same_by : (xs ys : List ℕ) (o : Ordering) → bytes_cmp xs ys ≡ o → same_bytes xs ys ≡ is_eq o
same_by xs ys Less e = other_key xs ys (same_bytes xs ys) refl (λ f. absurd cc)
same_by xs ys Equal e = same_key xs ys e
same_by xs ys Greater e = other_key xs ys (same_bytes xs ys) refl (λ f. absurd cc)

-- byte strings are equal if they compare as equal
pub same_is_eq : (xs ys : List ℕ) → same_bytes xs ys ≡ is_eq (bytes_cmp xs ys)
same_is_eq xs ys = same_by xs ys (bytes_cmp xs ys) refl

-- if two byte strings have one prefix, the bytes after it decide
pub same_behind : (xs ys : List ℕ) → AreBytes xs → AreBytes ys → prefix_of xs ≡ prefix_of ys → 8 ≤ length xs → 8 ≤ length ys → same_bytes (drop 8 xs) (drop 8 ys) ≡ same_bytes xs ys
same_behind xs ys bx by e lx ly =
    same_is_eq (drop 8 xs) (drop 8 ys) ∙ ap is_eq (sym (behind_prefix xs ys bx by e lx ly)) ∙ sym (same_is_eq xs ys)
