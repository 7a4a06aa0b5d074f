-- A bound on the number of rows of a list of writes.
use Rattle.std.proofs.Common.{ℕ, ◌+◌, ◌≤◌, suc, Bool, true, false, cond, List, [], ◌∷◌, length, Option, Some, None, fold, arith}
use Rattle.std.specs.List.{filter_map, cons_option}
use Rattle.std.specs.declared.cmp.Ordering.{Ordering}
use Rattle.std.specs.declared.cmp.Ordering.TheVariants.{Less, Equal, Greater}
use Rattle.std.specs.Ordering.{match_ordering}
use Rattle.std.specs.BTreeSet.{insert_key}
use Rattle.uc_bytes.specs.Bytes.{bytes_cmp}
use Rattle.uc_bytes.specs.declared.op.Op.{Op}
use Rattle.uc_bytes.specs.declared.op.Op.TheVariants.{Put, Delete, Merge, DeleteRange}
use Rattle.uc_bytes.specs.declared.write.Write.{Write}
use Rattle.uc_batch.specs.Rising.{IsRising, last_of}
use Rattle.uc_query_read.specs.Answers.{is_in_range, with_key, named_keys}

by_option : {X : Type 0} (o : Option X) (xs : List X) (n : ℕ) → length xs ≤ n → length (cons_option o xs) ≤ suc n
by_option None xs n h = omega (arith, h)
by_option (Some x) xs n h = omega (arith, h)

-- what is left of a list is no longer than it
pub filtered_shorter : {X Y : Type 0} (f : X → Option Y) (xs : List X) → length (filter_map f xs) ≤ length xs
filtered_shorter f [] = omega arith
filtered_shorter f (x ∷ xs) = by_option (f x) (filter_map f xs) (length xs) (filtered_shorter f xs)

ranked_longer : (o : Ordering) (key other : List ℕ) (keys inserted : List (List ℕ)) → length inserted ≤ length keys + 1
    → length (match_ordering o (key ∷ other ∷ keys) (other ∷ keys) (other ∷ inserted)) ≤ length (other ∷ keys) + 1
ranked_longer Less key other keys inserted h = omega arith
ranked_longer Equal key other keys inserted h = omega arith
ranked_longer Greater key other keys inserted h = omega (arith, h)

-- an insertion adds one at the most
inserted_longer : (key : List ℕ) (keys : List (List ℕ)) → length (insert_key bytes_cmp keys key) ≤ length keys + 1
inserted_longer key [] = omega arith
inserted_longer key (other ∷ keys) = ranked_longer (bytes_cmp key other) key other keys (insert_key bytes_cmp keys key) (inserted_longer key keys)

chosen_longer : (b : Bool) (key : List ℕ) (keys : List (List ℕ)) → length (cond b (insert_key bytes_cmp keys key) keys) ≤ length keys + 1
chosen_longer true key keys = inserted_longer key keys
chosen_longer false key keys = omega arith

with_key_longer : (low : List ℕ) (high : Option (List ℕ)) (keys : List (List ℕ)) (op : Op) → length (with_key low high keys op) ≤ length keys + 1
with_key_longer low high keys (Put key value) = chosen_longer (is_in_range low high key) key keys
with_key_longer low high keys (Delete key) = omega arith
with_key_longer low high keys (Merge key operand) = chosen_longer (is_in_range low high key) key keys
with_key_longer low high keys (DeleteRange begin end) = omega arith

folded_longer : (low : List ℕ) (high : Option (List ℕ)) (ws : List Write) (keys : List (List ℕ)) → length (fold (λ seen w. with_key low high seen w.op) keys ws) ≤ length keys + length ws
folded_longer low high [] keys = omega arith
folded_longer low high (w ∷ ws) keys =
    let rest = folded_longer low high ws (with_key low high keys w.op) in
    let one = with_key_longer low high keys w.op in
    omega (arith, rest, one)

-- no more keys are named than there are writes
pub keys_at_most : (ws : List Write) (low : List ℕ) (high : Option (List ℕ)) → length (named_keys ws low high) ≤ length ws
keys_at_most ws low high =
    let few = folded_longer low high ws [] in
    omega (arith, few)

-- no more writes rise than their last sequence says
pub rising_at_most : (last : ℕ) (ws : List Write) → IsRising last ws → last + length ws ≤ last_of last ws
rising_at_most last [] rising = omega arith
rising_at_most last (w ∷ ws) rising =
    let rest = rising_at_most w.seq ws rising.2 in
    omega (arith, rest, rising.0)
