-- Which writes may be fed.
use Rattle.std.proofs.Common.{◌≡◌, ℕ, suc, ◌+◌, Bool, true, false, List, [], ◌∷◌, length, None, refl, arith}
use Rattle.std.specs.Prelude.{◌^◌, ◌↔◌}
use Rattle.std.proofs.lemmas.Bool.{leb-true, le-leb}
use Rattle.uc_bytes.specs.declared.write.Write.{Write}
use Rattle.uc_batch.specs.Rising.{IsRising}
use Rattle.uc_claims.specs.declared.table.TheConstants.{MOST_SLOTS}
use Rattle.uc_version_state.specs.Versions.{Stored, IsVersion}
use Rattle.uc_version_state.specs.Feeds.{memtables_in, fed, MayFeed, begin_above, first_feed_refusal, feed_refusal}
use Rattle.uc_version_state.proofs.Few.{few_runs}

rise_on : (last : ℕ) (ws : List Write) → begin_above last ws ≡ true → IsRising 0 ws → IsRising last ws
rise_on last [] above h = tt
rise_on last (w ∷ ws) above h = (leb-true (suc last) w.seq above, h.1, h.2)

above_first : (last : ℕ) (ws : List Write) → IsRising last ws → begin_above last ws ≡ true
above_first last [] h = refl
above_first last (w ∷ ws) h = le-leb (suc last) w.seq h.0

nothing_wrong : (last : ℕ) (above few ids : Bool) → first_feed_refusal last above few ids ≡ None → (above ≡ true) × (few ≡ true) × (ids ≡ true)
nothing_wrong last false few ids e = absurd cc
nothing_wrong last true false ids e = absurd cc
nothing_wrong last true true false e = absurd cc
nothing_wrong last true true true e = (refl, refl, refl)

module _ (v : Stored) (ws : List Write) where
  abbrev runs : ℕ
  runs = length v.runs + length (memtables_in v ws)

  abbrev ids : ℕ
  ids = v.next_id + length (memtables_in v ws)

  may_be_fed : IsRising 0 ws → feed_refusal v ws ≡ None → MayFeed v ws
  may_be_fed rises e =
      let fine = nothing_wrong v.last (begin_above v.last ws) _ _ e in
      record { rising = rise_on v.last ws fine.0 rises; few = leb-true runs MOST_SLOTS fine.1; ids_left = leb-true (suc ids) (2 ^ 64) fine.2 }

  not_refused : MayFeed v ws → feed_refusal v ws ≡ None
  not_refused may i = first_feed_refusal v.last (above_first v.last ws may.rising i) (le-leb runs MOST_SLOTS may.few i) (le-leb (suc ids) (2 ^ 64) may.ids_left i)

  pub is_leave : IsRising 0 ws → (feed_refusal v ws ≡ None) ↔ MayFeed v ws
  is_leave rises = (may_be_fed rises, not_refused)

pub no_writes_may : (v : Stored) → IsVersion v → MayFeed v []
no_writes_may v is = record {
  rising = tt;
  few = let le = few_runs v is in omega (arith, le);
  ids_left = let lt = is.id_below in omega (arith, lt);
}

pub no_writes_same : (v : Stored) → fed [] v ≡ v
no_writes_same v i = record v { next_id = (let e : v.next_id + 0 ≡ v.next_id = omega arith in e) i }
