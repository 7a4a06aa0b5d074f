-- Facts that follow from a step that did not fail.
use Rattle.std.proofs.Common.{◌≡◌, Bool, true, false, cond, Result, Ok, Err, refl}
use Rattle.uc_batch.specs.declared.error.BatchError.{BatchError}
use Rattle.uc_batch.specs.Reads.{◌>>=◌}

-- the value of a step that did not fail
pub bind_ok : {A B : Type 0} (r : Result A BatchError) (f : A → Result B BatchError) (y : B) → (r >>= f) ≡ Ok y → (x : A) × (r ≡ Ok x) × (f x ≡ Ok y)
bind_ok (Ok x) f y e = (x, refl, e)
bind_ok (Err d) f y e = absurd cc

-- a test that failed leads to an error
pub passed : {A : Type 0} (b : Bool) (d : BatchError) (x y : A) → cond b (Ok x) (Err d) ≡ Ok y → (b ≡ true) × (x ≡ y)
passed true d x y e = (refl, cc)
passed false d x y e = absurd cc

-- a test that must not pass
pub avoided : {A : Type 0} (b : Bool) (d : BatchError) (x y : A) → cond b (Err d) (Ok x) ≡ Ok y → (b ≡ false) × (x ≡ y)
avoided true d x y e = absurd cc
avoided false d x y e = (refl, cc)

abbrev done : {A : Type 0} → A → Result A BatchError
done x = Ok x

pub ok_is : {A : Type 0} (x y : A) → done x ≡ done y → x ≡ y
ok_is x y e = cc
