-- A range is written if one of its keys is.
use Rattle.std.proofs.Common.{◌≡◌, ℕ, Bool, true, false, cond, ◌&&◌, ◌||◌, List, [], ◌∷◌, Option, Some, None, refl, sym, ap, ◌∙◌}
use Rattle.std.specs.Prelude.{nat_lt, IsTrue}
use Rattle.std.specs.declared.cmp.Ordering.{Ordering}
use Rattle.std.specs.declared.cmp.Ordering.TheVariants.{Less, Equal, Greater}
use Rattle.std.specs.Ordering.{is_lt, is_le, ordering_reverse}
use Rattle.std.specs.Cmp.Lexicographic.{bytes_decides}
use Rattle.std.specs.BTreeMap.Comparable.{le_lt_trans}
use Rattle.std.proofs.lemmas.Bool.{false≢true}
use Rattle.std.proofs.lemmas.Cmp.{nat_list_cmp_total, tied_itself}
use Rattle.uc_bytes.specs.Bytes.{bytes_cmp, same_bytes}
use Rattle.uc_bytes.specs.declared.op.Op.{Op}
use Rattle.uc_bytes.specs.declared.op.Op.TheVariants.{Put, Delete, Merge, DeleteRange}
use Rattle.uc_bytes.specs.declared.write.Write.{Write}
use Rattle.uc_model.specs.Meaning.{touches_key}
use Rattle.uc_query_read.specs.Answers.{is_below, is_in_range}
use Rattle.uc_serial.specs.Transactions.{greater, is_written_in, is_written_since, touches_range}

both : (x y : Bool) → x ≡ true → y ≡ true → (x && y) ≡ true
both true true e f = refl
both true false e f = f
both false y e f = absurd (false≢true e)

each : (x y : Bool) → (x && y) ≡ true → (x ≡ true) × (y ≡ true)
each true y e = (refl, e)
each false y e = absurd (false≢true e)

less_is : (o : Ordering) → is_lt o ≡ true → o ≡ Less
less_is Less e = refl
less_is Equal e = absurd (false≢true e)
less_is Greater e = absurd (false≢true e)

le_less : (x y z : List ℕ) → is_le (bytes_cmp x y) ≡ true → is_lt (bytes_cmp y z) ≡ true → is_lt (bytes_cmp x z) ≡ true
le_less x y z le lt = ap is_lt (le_lt_trans nat_list_cmp_total x y z le (less_is (bytes_cmp y z) lt))

le_itself : (x : List ℕ) → is_le (bytes_cmp x x) ≡ true
le_itself x = ap is_le (tied_itself nat_list_cmp_total x)

-- what isn't below is at or above
not_less : (x y : List ℕ) → is_lt (bytes_cmp x y) ≡ false → is_le (bytes_cmp y x) ≡ true
not_less x y e = ap is_le (nat_list_cmp_total.antisymm y x) ∙ by (bytes_cmp x y) e
  where
    by : (o : Ordering) → is_lt o ≡ false → is_le (ordering_reverse o) ≡ true
    by Less f = absurd (false≢true (sym f))
    by Equal f = refl
    by Greater f = refl

less_le : (o : Ordering) → is_lt o ≡ true → is_le o ≡ true
less_le Less e = refl
less_le Equal e = absurd (false≢true e)
less_le Greater e = absurd (false≢true e)

-- ---- the greater of two keys

module _ (x y : List ℕ) where
  at_least : (b : Bool) → is_lt (bytes_cmp x y) ≡ b → (is_le (bytes_cmp x (cond b y x)) ≡ true) × (is_le (bytes_cmp y (cond b y x)) ≡ true)
  at_least true e = (less_le (bytes_cmp x y) e, le_itself y)
  at_least false e = (le_itself x, not_less x y e)

  pub above_both : (is_le (bytes_cmp x (greater x y)) ≡ true) × (is_le (bytes_cmp y (greater x y)) ≡ true)
  above_both = at_least (is_lt (bytes_cmp x y)) refl

  at_most : (z : List ℕ) (b : Bool) → is_le (bytes_cmp x z) ≡ true → is_le (bytes_cmp y z) ≡ true → is_le (bytes_cmp (cond b y x) z) ≡ true
  at_most z true e f = f
  at_most z false e f = e

  pub least_above : (z : List ℕ) → is_le (bytes_cmp x z) ≡ true → is_le (bytes_cmp y z) ≡ true → is_le (bytes_cmp (greater x y) z) ≡ true
  least_above z e f = at_most z (is_lt (bytes_cmp x y)) e f

below_down : (high : Option (List ℕ)) (x y : List ℕ) → is_le (bytes_cmp x y) ≡ true → is_below y high ≡ true → is_below x high ≡ true
below_down None x y le e = refl
below_down (Some high) x y le e = le_less x y high le e

-- ---- one write

module _ (low : List ℕ) (high : Option (List ℕ)) where
  abbrev Found : Op → Type 0
  Found op = (key : List ℕ) × IsTrue (is_in_range low high key) × IsTrue (touches_key key op)

  named_there : (named : List ℕ) → is_in_range low high named ≡ true → (key : List ℕ) × IsTrue (is_in_range low high key) × IsTrue (same_bytes named key)
  named_there named e = (named, e, (bytes_decides named named).1 refl)

  found : (op : Op) → touches_range low high op ≡ true → Found op
  found (Put named value) e = named_there named e
  found (Delete named) e = named_there named e
  found (Merge named operand) e = named_there named e
  found (DeleteRange begin end) e =
      let key = greater low begin in
      let parts = each (is_lt (bytes_cmp key end)) (is_below key high) e in
      let above = above_both low begin in (
        key,
        both (is_le (bytes_cmp low key)) (is_below key high) above.0 parts.1,
        both (is_le (bytes_cmp begin key)) (is_lt (bytes_cmp key end)) above.1 parts.0,
      )

  named_in : (named key : List ℕ) → is_in_range low high key ≡ true → same_bytes named key ≡ true → is_in_range low high named ≡ true
  named_in named key e same = ap (is_in_range low high) ((bytes_decides named key).0 same) ∙ e

  touched : (key : List ℕ) → is_in_range low high key ≡ true → (op : Op) → touches_key key op ≡ true → touches_range low high op ≡ true
  touched key e (Put named value) same = named_in named key e same
  touched key e (Delete named) same = named_in named key e same
  touched key e (Merge named operand) same = named_in named key e same
  touched key e (DeleteRange begin end) over =
      let inside = each (is_le (bytes_cmp low key)) (is_below key high) e in
      let covers = each (is_le (bytes_cmp begin key)) (is_lt (bytes_cmp key end)) over in
      let least = least_above low begin key inside.0 covers.0 in
      both (is_lt (bytes_cmp (greater low begin) end)) (is_below (greater low begin) high) (le_less (greater low begin) key end least covers.1) (below_down high (greater low begin) key least inside.1)

  -- ---- all writes

  module _ (since : ℕ) where
    pub some_key : (log : List Write) → is_written_in log low high since ≡ true → (key : List ℕ) × IsTrue (is_in_range low high key) × IsTrue (is_written_since log key since)
    some_key [] e = absurd (false≢true e)
    some_key (w ∷ ws) e = by (nat_lt since w.seq && touches_range low high w.op) refl e (some_key ws)
      where
        more : (key : List ℕ) (b : Bool) → is_written_since ws key since ≡ true → (b || is_written_since ws key since) ≡ true
        more key true f = refl
        more key false f = f

        by : (b : Bool) → (nat_lt since w.seq && touches_range low high w.op) ≡ b → (b || is_written_in ws low high since) ≡ true
            → (is_written_in ws low high since ≡ true → (key : List ℕ) × IsTrue (is_in_range low high key) × IsTrue (is_written_since ws key since))
            → (key : List ℕ) × IsTrue (is_in_range low high key) × IsTrue (is_written_since (w ∷ ws) key since)
        by true f e rest =
            let parts = each (nat_lt since w.seq) (touches_range low high w.op) f in
            let one = found w.op parts.1 in
            (one.0, one.1, ap (λ b. (b || is_written_since ws one.0 since)) (both (nat_lt since w.seq) (touches_key one.0 w.op) parts.0 one.2))
        by false f e rest =
            let other = rest e in
            (other.0, other.1, more other.0 (nat_lt since w.seq && touches_key other.0 w.op) other.2)

    pub some_range : (key : List ℕ) → is_in_range low high key ≡ true → (log : List Write) → is_written_since log key since ≡ true → is_written_in log low high since ≡ true
    some_range key inside [] e = absurd (false≢true e)
    some_range key inside (w ∷ ws) e = by (nat_lt since w.seq && touches_key key w.op) refl e (some_range key inside ws)
      where
        more : (b : Bool) → is_written_in ws low high since ≡ true → (b || is_written_in ws low high since) ≡ true
        more true f = refl
        more false f = f

        by : (b : Bool) → (nat_lt since w.seq && touches_key key w.op) ≡ b → (b || is_written_since ws key since) ≡ true → (is_written_since ws key since ≡ true → is_written_in ws low high since ≡ true) → is_written_in (w ∷ ws) low high since ≡ true
        by true f e rest =
            let parts = each (nat_lt since w.seq) (touches_key key w.op) f in
            ap (λ b. (b || is_written_in ws low high since)) (both (nat_lt since w.seq) (touches_range low high w.op) parts.0 (touched key inside w.op parts.1))
        by false f e rest = more (nat_lt since w.seq && touches_range low high w.op) (rest e)
