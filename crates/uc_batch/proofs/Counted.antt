-- Reading records one after the other, as a loop does, and counting them.
use Rattle.std.proofs.Common.{◌≡◌, ◌≢◌, ℕ, zero, suc, ◌+◌, ◌<◌, ◌≤◌, cond, eqb, List, [], ◌∷◌, ◌++◌, length, Option, Some, None, option_to_list, Result, Ok, Err, refl, ap, sym, ◌∙◌, append_assoc, eq-eqb, arith}
use Rattle.std.proofs.lemmas.Bool.Decides.{nat_tests}
use Rattle.std.proofs.lemmas.List.{append-nil, length-append}
use Rattle.uc_bytes.specs.declared.op.Op.{Op}
use Rattle.uc_batch.specs.declared.error.BatchError.{BatchError}
use Rattle.uc_batch.specs.declared.error.BatchError.TheVariants as faults
use Rattle.std.specs.Prelude.{IsSome}
use Rattle.uc_batch.specs.Reads.{◌>>=◌}
use Rattle.uc_batch.specs.Records.{record_at, records_from, operations}
use Rattle.uc_batch.specs.Batch.{numbered, counted_of, read_ops, ops_in, AreCounted}
use Rattle.uc_batch.proofs.Shorter.{record_shorter}
use Rattle.uc_batch.proofs.Steps.{bind_ok}

-- what was read before, and what is still read
abbrev pub with_front : List Op → Result (List Op) BatchError → Result (List Op) BatchError
with_front front read = read >>= λ ops. Ok (front ++ ops)

with_nothing : (read : Result (List Op) BatchError) → with_front [] read ≡ read
with_nothing (Ok ops) = refl
with_nothing (Err e) = refl

regroup : (front first : List Op) (read : Result (List Op) BatchError) → with_front front (read >>= λ ops. Ok (first ++ ops)) ≡ with_front (front ++ first) read
regroup front first (Ok ops) = ap (λ (l : List Op). Ok l) (sym (append_assoc front first ops))
regroup front first (Err e) = refl

-- more turns than there are bytes change nothing
same_after : (total m n : ℕ) (first : Result (Option Op × List ℕ) BatchError) → ((x : Option Op × List ℕ) → first ≡ Ok x → records_from m total x.1 ≡ records_from n total x.1)
    → (first >>= λ x. records_from m total x.1 >>= λ others. Ok (option_to_list x.0 ++ others)) ≡ (first >>= λ x. records_from n total x.1 >>= λ others. Ok (option_to_list x.0 ++ others))
same_after total m n (Ok x) h = ap (λ (r : Result (List Op) BatchError). r >>= λ others. Ok (option_to_list x.0 ++ others)) (h x refl)
same_after total m n (Err e) h = refl

pub turns_enough : (total m n : ℕ) (bytes : List ℕ) → length bytes ≤ m → length bytes ≤ n → records_from m total bytes ≡ records_from n total bytes
unfolding records_from
turns_enough total m n [] p q = refl
turns_enough total zero n (b ∷ bytes) p q = absurd (omega arith)
turns_enough total (suc m) zero (b ∷ bytes) p q = absurd (omega arith)
turns_enough total (suc m) (suc n) (b ∷ bytes) p q =
    same_after total m n (record_at total (b ∷ bytes)) (λ x e. turns_enough total m n x.1 (omega (arith, record_shorter total b bytes x e)) (omega (arith, record_shorter total b bytes x e)))

-- the first record, and the others
pub one_record : (total : ℕ) (bytes : List ℕ) (x : Option Op × List ℕ) → 0 < length bytes → record_at total bytes ≡ Ok x
    → operations total bytes ≡ (operations total x.1 >>= λ others. Ok (option_to_list x.0 ++ others))
unfolding records_from
one_record total [] x h e = absurd (omega arith)
one_record total (b ∷ bytes) x h e =
    let enough : records_from (length bytes) total x.1 ≡ operations total x.1 = turns_enough total (length bytes) (length x.1) x.1 (record_shorter total b bytes x e) (omega arith) in
    ap (λ (r : Result (Option Op × List ℕ) BatchError). r >>= λ y. records_from (length bytes) total y.1 >>= λ others. Ok (option_to_list y.0 ++ others)) e
    ∙ ap (λ (r : Result (List Op) BatchError). r >>= λ others. Ok (option_to_list x.0 ++ others)) enough

pub one_fails : (e : BatchError) (total : ℕ) (bytes : List ℕ) → 0 < length bytes → record_at total bytes ≡ Err e → operations total bytes ≡ Err e
unfolding records_from
one_fails e total [] h f = absurd (omega arith)
one_fails e total (b ∷ bytes) h f = ap (λ (r : Result (Option Op × List ℕ) BatchError). r >>= λ y. records_from (length bytes) total y.1 >>= λ others. Ok (option_to_list y.0 ++ others)) f

pub length-numbered : (seq : ℕ) (ops : List Op) → length (numbered seq ops) ≡ length ops
length-numbered seq [] = refl
length-numbered seq (op ∷ ops) = ap suc (length-numbered (seq + 1) ops)

-- So far some operations were counted, and the rest of the body is still to be read.
pub record ReadsOn (total : ℕ) (body : List ℕ) (counted : ℕ) (rest : List ℕ) : Type 0 where
  pub ops : List Op
  pub whole : with_front ops (operations total rest) ≡ operations total body
  pub counted_are : counted ≡ length ops
  pub used : counted + length rest ≤ length body

pub begins : (total : ℕ) (body : List ℕ) → ReadsOn total body 0 body
begins total body = record { ops = []; whole = with_nothing (operations total body); counted_are = refl; used = omega arith }

module _ (total : ℕ) (body : List ℕ) (counted : ℕ) (rest after : List ℕ) (some : 0 < length rest) (shorter : length after < length rest) (so_far : ReadsOn total body counted rest) where
  next_whole : (o : Option Op) → record_at total rest ≡ Ok (o, after) → with_front (so_far.ops ++ option_to_list o) (operations total after) ≡ operations total body
  next_whole o e = sym (ap (with_front so_far.ops) (one_record total rest (o, after) some e) ∙ regroup so_far.ops (option_to_list o) (operations total after)) ∙ so_far.whole

  -- after a record that isn't counted, and after one that is
  pub passes : record_at total rest ≡ Ok (None, after) → ReadsOn total body counted after
  passes e = record {
    ops = so_far.ops;
    whole = ap (λ (l : List Op). with_front l (operations total after)) (sym (append-nil so_far.ops)) ∙ next_whole None e;
    counted_are = so_far.counted_are;
    used = omega (arith, so_far.used);
  }

  pub counts : (x : Op) → record_at total rest ≡ Ok (Some x, after) → ReadsOn total body (counted + 1) after
  counts x e = record {
    ops = so_far.ops ++ x ∷ [];
    whole = next_whole (Some x) e;
    counted_are = omega (arith, so_far.counted_are, length-append so_far.ops (x ∷ []));
    used = omega (arith, so_far.used);
  }

  pub counts_some : (o : Option Op) → IsSome o → record_at total rest ≡ Ok (o, after) → ReadsOn total body (counted + 1) after
  counts_some None is e = absurd cc
  counts_some (Some x) is e = counts x e

  pub passes_other : (o : Option Op) → (IsSome o → ⊥) → record_at total rest ≡ Ok (o, after) → ReadsOn total body counted after
  passes_other None is e = passes e
  passes_other (Some x) is e = absurd (is refl)

judged_by : (r : Result (List Op) BatchError) (count : ℕ) (ops : List Op) → r ≡ Ok ops → count ≡ length ops → (r ≡ Ok (read_ops r)) × (count ≡ length (read_ops r))
judged_by r count ops e n = rw e (refl, n)

module _ (total : ℕ) (body : List ℕ) (counted : ℕ) (rest : List ℕ) (so_far : ReadsOn total body counted rest) where
  err_whole : (e : BatchError) → operations total rest ≡ Err e → (sequence count : ℕ) → counted_of sequence count total body ≡ Err e
  unfolding counted_of
  err_whole e f sequence count = ap (λ (r : Result (List Op) BatchError). r >>= λ ops. cond (eqb (length ops) count) (Ok (numbered sequence ops)) (Err faults.WrongCount)) (sym so_far.whole ∙ ap (with_front so_far.ops) f)

  done_whole : rest ≡ [] → operations total body ≡ Ok so_far.ops
  unfolding records_from
  done_whole e = sym so_far.whole ∙ ap (λ (l : List ℕ). with_front so_far.ops (operations total l)) e ∙ ap (λ (l : List Op). Ok l) (append-nil so_far.ops)

  -- all are read, and as many as there should be
  pub is_whole : rest ≡ [] → (count : ℕ) → counted ≡ count → AreCounted count total body
  is_whole e count n =
      let j = judged_by (operations total body) count so_far.ops (done_whole e) (sym n ∙ so_far.counted_are) in
      record { fine = j.0; counted = j.1 }

  -- or another number
  pub is_wrong : rest ≡ [] → (sequence count : ℕ) → counted ≢ count → counted_of sequence count total body ≡ Err faults.WrongCount
  unfolding counted_of
  is_wrong e sequence count n =
      ap (λ (r : Result (List Op) BatchError). r >>= λ ops. cond (eqb (length ops) count) (Ok (numbered sequence ops)) (Err faults.WrongCount)) (done_whole e)
      ∙ grind (arith, nat_tests, so_far.counted_are, n)

  -- the next record has a fault
  pub fails : (e : BatchError) → 0 < length rest → record_at total rest ≡ Err e → (sequence count : ℕ) → counted_of sequence count total body ≡ Err e
  fails e some f = err_whole e (one_fails e total rest some f)

-- what is counted is what the header counts
pub counted_is : (sequence count total : ℕ) (body : List ℕ) → AreCounted count total body → counted_of sequence count total body ≡ Ok (numbered sequence (ops_in total body))
unfolding counted_of
counted_is sequence count total body c = rw c.fine (rw (eq-eqb (length (ops_in total body)) count (sym c.counted)) refl)

-- ---- validated records, one after the other

-- the first record of some that have no fault, and the others
pub first_judged : (total : ℕ) (rest after : List ℕ) (o : Option Op) → 0 < length rest → operations total rest ≡ Ok (ops_in total rest) → record_at total rest ≡ Ok (o, after)
    → (operations total after ≡ Ok (ops_in total after)) × (ops_in total rest ≡ option_to_list o ++ ops_in total after)
first_judged total rest after o some fine e =
    let one = one_record total rest (o, after) some e in
    let others = bind_ok (operations total after) (λ others. Ok (option_to_list o ++ others)) (ops_in total rest) (sym one ∙ fine) in
    let there = judged_by (operations total after) (length others.0) others.0 others.1 refl in
    (there.0, ap read_ops one ∙ rw others.1 refl)

-- none of them has a fault
pub never_fails : (total : ℕ) (rest : List ℕ) (e : BatchError) → 0 < length rest → operations total rest ≡ Ok (ops_in total rest) → record_at total rest ≡ Err e → ⊥
never_fails total rest e some fine f = let none = one_fails e total rest some f in cc

-- none is left
pub nothing_judged : (total : ℕ) (rest : List ℕ) → length rest ≡ 0 → ops_in total rest ≡ []
unfolding records_from
nothing_judged total [] e = refl
nothing_judged total (b ∷ rest) e = absurd (omega arith)
