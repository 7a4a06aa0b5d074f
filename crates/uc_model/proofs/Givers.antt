-- A key that has a value is named by a put or a merge.
use Rattle.std.proofs.Common.{◌≡◌, ℕ, ◌≤◌, Bool, true, false, cond, leb, List, [], ◌∷◌, Option, Some, None, Any, fold, filter, refl, sym, arith}
use Rattle.std.specs.Prelude.{◌&&◌}
use Rattle.std.specs.Cmp.Lexicographic.{same_text}
use Rattle.std.proofs.lemmas.Bool.Decides.{nat_tests}
use Rattle.uc_oper.specs.Operation.{Operation}
use Rattle.uc_bytes.specs.declared.op.Op.{Op}
use Rattle.uc_bytes.specs.declared.op.Op.TheVariants.{Put, Delete, Merge, DeleteRange}
use Rattle.uc_bytes.specs.declared.write.Write.{Write}
use Rattle.uc_model.specs.Meaning.{touches_key, Gives, is_seen, changed, value_of}
use Rattle.uc_model.proofs.Members.{any_first, any_later}

stands_within : (seq at : ℕ) → leb seq at ≡ true → seq ≤ at
stands_within seq at e = grind (arith, nat_tests)

module _ (m : Operation) (key value : List ℕ) (at : ℕ) where
  abbrev IsGiver : Write → Type 0
  IsGiver w = (w.seq ≤ at) × Gives key w.op

  abbrev value_by : List Write → Option (List ℕ)
  value_by ws = fold (λ v w. changed m v w.op) None ws

  abbrev write : ℕ → Op → Write
  write seq op = record { seq = seq; op = op }

  -- the first write, if the read sees it, gives the key something, or leaves it without value
  by_first : (seq : ℕ) (op : Op) (ws : List Write) (b c : Bool) → leb seq at ≡ b → touches_key key op ≡ c → (value_by (filter (is_seen key at) ws) ≡ Some value → Any IsGiver ws) → value_by (cond (b && c) (write seq op ∷ filter (is_seen key at) ws) (filter (is_seen key at) ws)) ≡ Some value → Any IsGiver (write seq op ∷ ws)
  by_first seq op ws false c e f rest h = any_later IsGiver (write seq op) ws (rest h)
  by_first seq op ws true false e f rest h = any_later IsGiver (write seq op) ws (rest h)
  by_first seq (Put named new) ws true true e f rest h = any_first IsGiver (write seq (Put named new)) ws (stands_within seq at e, same_text named key (sym f))
  by_first seq (Delete named) ws true true e f rest h = any_later IsGiver (write seq (Delete named)) ws (rest h)
  by_first seq (Merge named operand) ws true true e f rest h = any_first IsGiver (write seq (Merge named operand)) ws (stands_within seq at e, same_text named key (sym f))
  by_first seq (DeleteRange begin end) ws true true e f rest h = any_later IsGiver (write seq (DeleteRange begin end)) ws (rest h)

  pub value_given : (ws : List Write) → value_of m ws key at ≡ Some value → Any IsGiver ws
  value_given [] h = absurd cc
  value_given (w ∷ ws) h = by_first w.seq w.op ws (leb w.seq at) (touches_key key w.op) refl refl (value_given ws) h
