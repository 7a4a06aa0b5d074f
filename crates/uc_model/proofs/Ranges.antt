-- A range deletion whose begin isn't below its end.
use Rattle.std.proofs.Common.{◌≡◌, ℕ, false, List, refl, sym, ap, ◌∙◌, subst}
use Rattle.std.specs.Prelude.{◌&&◌}
use Rattle.std.specs.declared.cmp.Ordering.{Ordering}
use Rattle.std.specs.declared.cmp.Ordering.TheVariants.{Less, Equal, Greater}
use Rattle.std.specs.Ordering.{is_lt, is_le}
use Rattle.std.proofs.lemmas.Bool.{false≢true}
use Rattle.std.proofs.lemmas.Cmp.{nat_list_cmp_total}
use Rattle.std.proofs.lemmas.Map.Lookups.{exact_bytes}
use Rattle.uc_bytes.specs.Bytes.{bytes_cmp}

not_less : (begin end : List ℕ) → is_lt (bytes_cmp begin end) ≡ false → bytes_cmp begin end ≡ Less → ⊥
not_less begin end none e = false≢true (sym none ∙ ap is_lt e)

-- by how the begin and the end compare with the key
touched_by : (begin key end : List ℕ) (o p : Ordering) → bytes_cmp begin key ≡ o → bytes_cmp key end ≡ p → is_lt (bytes_cmp begin end) ≡ false → (is_le o && is_lt p) ≡ false
touched_by begin key end Less Less e f none = absurd (not_less begin end none (nat_list_cmp_total.trans begin key end e f))
touched_by begin key end Less Equal e f none = refl
touched_by begin key end Less Greater e f none = refl
touched_by begin key end Equal Less e f none =
    absurd (not_less begin end none (subst (λ (k : List ℕ). bytes_cmp k end ≡ Less) (sym (exact_bytes begin key e)) f))
touched_by begin key end Equal Equal e f none = refl
touched_by begin key end Equal Greater e f none = refl
touched_by begin key end Greater p e f none = refl

-- touches no key
pub empty_touches_none : (key begin end : List ℕ) → is_lt (bytes_cmp begin end) ≡ false → (is_le (bytes_cmp begin key) && is_lt (bytes_cmp key end)) ≡ false
empty_touches_none key begin end none = touched_by begin key end (bytes_cmp begin key) (bytes_cmp key end) refl refl none
