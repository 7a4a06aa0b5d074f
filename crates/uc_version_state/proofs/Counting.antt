-- The number of memtables that are full.
use Rattle.std.proofs.Common.{◌≡◌, ℕ, ◌+◌, ◌-◌, ◌^◌, ◌<◌, ◌≤◌, min, Bool, true, false, cond, leb, List, [], ◌∷◌, ◌++◌, length, get_or, drop, refl, sym, ap, ◌∙◌, subst, arith}
use Rattle.std.specs.List.{sum_by}
use Rattle.std.proofs.lemmas.Bool.{le-leb, lt-leb}
use Rattle.std.proofs.lemmas.List.{drop_more, drop_all}
use Rattle.std.proofs.lemmas.List.Sums.{sum_by_push}
use Rattle.uc_bytes.specs.declared.write.Write.{Write}
use Rattle.uc_run.specs.Size.{write_size, memtable_size}
use Rattle.uc_version_state.specs.Flushes.{memtables_from, memtables}

-- these writes are those of a memtable that has this size, and is empty or not
pub record IsHeld (held : List Write) (size : ℕ) (is_empty : Bool) : Type 0 where
  pub size_is : memtable_size held ≡ size
  pub nothing : is_empty ≡ true → held ≡ []
  pub something : is_empty ≡ false → (w : Write) × (ws : List Write) × (held ≡ w ∷ ws)

-- the memtables of all writes are those that are full, and those of what is held and what comes
pub record HasCounted (limit : ℕ) (all : List Write) (i full size : ℕ) (is_empty : Bool) : Type 0 where
  pub held : List Write
  pub is_held : IsHeld held size is_empty
  pub few : full ≤ i
  pub counted : length (memtables limit all) ≡ full + length (memtables_from limit held (drop i all))

pub none_counted : (limit : ℕ) (all : List Write) → HasCounted limit all 0 0 0 true
none_counted limit all = record {
  held = [];
  is_held = record { size_is = refl; nothing = λ e. refl; something = λ e. absurd cc };
  few = omega arith;
  counted = omega arith;
}

-- the size with a write more, as it is added up
size_more : (held : List Write) (w : Write) (size : ℕ) → memtable_size held ≡ size → memtable_size (held ++ w ∷ []) ≡ min (size + min (write_size w) (2 ^ 64 - 1)) (2 ^ 64 - 1)
size_more held w size is =
    let more = sum_by_push write_size held w in
    by_sums (sum_by write_size held) (write_size w) (sum_by write_size (held ++ w ∷ [])) more is
  where
    by_sums : (a b c : ℕ) → c ≡ a + b → min a (2 ^ 64 - 1) ≡ size → min c (2 ^ 64 - 1) ≡ min (size + min b (2 ^ 64 - 1)) (2 ^ 64 - 1)
    by_sums a b c e s = grind (arith, e, s)

module _ (limit : ℕ) (all : List Write) (i full size : ℕ) (is_empty : Bool) (w : Write) (so_far : HasCounted limit all i full size is_empty) (lt : i < length all) (is : w ≡ get_or all i w) where
  abbrev size_now : ℕ
  size_now = min (size + min (write_size w) (2 ^ 64 - 1)) (2 ^ 64 - 1)

  abbrev rest : List Write
  rest = drop (i + 1) all

  size_is : memtable_size (so_far.held ++ w ∷ []) ≡ size_now
  size_is = size_more so_far.held w size so_far.is_held.size_is

  opened : length (memtables limit all) ≡ full + length (cond (leb limit size_now) ((so_far.held ++ w ∷ []) ∷ memtables_from limit [] rest) (memtables_from limit (so_far.held ++ w ∷ []) rest))
  opened =
      so_far.counted
      ∙ ap (λ ws. full + length (memtables_from limit so_far.held ws)) (drop_more all i w lt ∙ ap (λ v. v ∷ rest) (sym is))
      ∙ ap (λ n. full + length (cond (leb limit n) ((so_far.held ++ w ∷ []) ∷ memtables_from limit [] rest) (memtables_from limit (so_far.held ++ w ∷ []) rest))) size_is

  -- it is full
  pub one_more : leb limit size_now ≡ true → HasCounted limit all (i + 1) (full + 1) 0 true
  one_more e = record {
    held = [];
    is_held = record { size_is = refl; nothing = λ same. refl; something = λ same. absurd cc };
    few = let le = so_far.few in omega (arith, le);
    counted =
        let now = opened ∙ ap (λ b. full + length (cond b ((so_far.held ++ w ∷ []) ∷ memtables_from limit [] rest) (memtables_from limit (so_far.held ++ w ∷ []) rest))) e in
        omega (arith, now);
  }

  some_held : (ws : List Write) → (v : Write) × (vs : List Write) × (ws ++ w ∷ [] ≡ v ∷ vs)
  some_held [] = (w, [], refl)
  some_held (v ∷ vs) = (v, vs ++ w ∷ [], refl)

  -- it isn't full
  pub grown : leb limit size_now ≡ false → HasCounted limit all (i + 1) full size_now false
  grown e = record {
    held = so_far.held ++ w ∷ [];
    is_held = record { size_is = size_is; nothing = λ same. absurd cc; something = λ same. some_held so_far.held };
    few = let le = so_far.few in omega (arith, le);
    counted = opened ∙ ap (λ b. full + length (cond b ((so_far.held ++ w ∷ []) ∷ memtables_from limit [] rest) (memtables_from limit (so_far.held ++ w ∷ []) rest))) e;
  }

  -- the numbers that a loop has then
  pub on_full : (n s sum : ℕ) → sum ≡ size_now → limit ≤ sum → n ≡ full + 1 → s ≡ 0 → HasCounted limit all (i + 1) n s (leb limit sum)
  on_full n s sum e le ne se =
      let test = le-leb limit sum le in
      subst (λ b. HasCounted limit all (i + 1) n s b) (sym test)
      (subst (λ k. HasCounted limit all (i + 1) n k true) (sym se)
      (subst (λ k. HasCounted limit all (i + 1) k 0 true) (sym ne) (one_more (sym (ap (leb limit) e) ∙ test))))

  pub on_room : (n s sum : ℕ) → sum ≡ size_now → sum < limit → n ≡ full → s ≡ sum → HasCounted limit all (i + 1) n s (leb limit sum)
  on_room n s sum e less ne se =
      let test = lt-leb limit sum less in
      subst (λ b. HasCounted limit all (i + 1) n s b) (sym test)
      (subst (λ k. HasCounted limit all (i + 1) n k false) (sym (se ∙ e))
      (subst (λ k. HasCounted limit all (i + 1) k size_now false) (sym ne) (grown (sym (ap (leb limit) e) ∙ test))))

-- ---- at the end

module _ (limit : ℕ) (all : List Write) (i full size : ℕ) (le : length all ≤ i) where
  at_end : (held : List Write) → length (memtables limit all) ≡ full + length (memtables_from limit held (drop i all)) → length (memtables limit all) ≡ full + length (memtables_from limit held [])
  at_end held counted = counted ∙ ap (λ (ws : List Write). full + length (memtables_from limit held ws)) (drop_all i all le)

  pub all_full : HasCounted limit all i full size true → full ≡ length (memtables limit all)
  all_full h =
      let n = at_end h.held h.counted ∙ ap (λ (ws : List Write). full + length (memtables_from limit ws [])) (h.is_held.nothing refl) in
      omega (arith, n)

  pub one_left : HasCounted limit all i full size false → full + 1 ≡ length (memtables limit all)
  one_left h =
      let left = h.is_held.something refl in
      let n = at_end h.held h.counted ∙ ap (λ (ws : List Write). full + length (memtables_from limit ws [])) left.2 in
      omega (arith, n)
