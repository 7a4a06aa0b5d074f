-- How an owner's store is held.
use Rattle.std.specs.Prelude.{◌≡◌, ℕ, true}
use Rattle.uc_claims.specs.Claims.{times}
use Rattle.uc_claims.specs.declared.table.TheConstants.{MOST_SLOTS}
use Rattle.uc_version.specs.Owners.{Owner, IsOwner, claimed_slots}
use Rattle.uc_version.specs.declared.owned.Owned.TheInside.{Inside}

abbrev pub owner : {O : Type 0} → Inside O → Owner
owner i = record { version = i.version; options = i.options; claims = i.claims }

-- the claims are an owner's, and the words of their slots, and no others, are taken by the one seat of the table
pub record IsOwned {O : Type 0} (i : Inside O) : Type 0 where
  pub owner_is : IsOwner (owner i)
  pub count : i.table.count ≡ MOST_SLOTS
  pub table : i.held.table ≡ i.table.table
  pub whole : i.held.whole ≡ true
  pub slots : (slot : ℕ) → times slot i.held.slots ≡ times slot (claimed_slots (owner i))
