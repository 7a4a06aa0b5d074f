-- The object that an address owns.
use Rattle.std.specs.Global.{Global}
use Rattle.std.specs.Prelude.{Option, Some, None}
use Rattle.std.specs.Box.Ownership.{box_owns}
use Rattle.std.specs.contracts.impls.GlobalAllocator.TheImpl.{ghosts}
use base.Fml.{Fml, feq}
use denote.RattleType.{RattleType}
use denote.RawPtr.{Ptr, null_ptr}

-- the address is null if there is no value, and else owns the value and the right to free its block
abbrev pub address_owns : (R : RattleType) → Global → Ptr → Option R.Denot → Fml
address_owns R a p None = feq Ptr p null_ptr
address_owns R a p (Some x) = box_owns (ghosts.dealloc_token a) R p x
