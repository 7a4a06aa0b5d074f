-- The result of reading part of a batch: a value, or the first fault.
use Rattle.std.specs.Prelude.{◌≡◌, Result, Ok, Err}
use Rattle.uc_batch.specs.declared.error.BatchError.{BatchError}
use Rattle.uc_batch.specs.declared.error.BatchError.TheVariants as faults

-- one step, and then another on what it read
infixl 10 ◌>>=◌
abbrev pub ◌>>=◌ : {A B : Type 0} → Result A BatchError → (A → Result B BatchError) → Result B BatchError
(Ok x) >>= f = f x
(Err e) >>= f = Err e

-- An error is the fault that reading meets, unless memory ran out.
abbrev pub Fails : {Y : Type 0} → BatchError → Result Y BatchError → Type 0
Fails faults.Memory read = Unit {0}
Fails e read = read ≡ Err e

-- A function's result, seen by view, is the result of reading, unless allocation failed.
abbrev pub Gives : {X Y : Type 0} → (X → Y) → Result X BatchError → Result Y BatchError → Type 0
Gives view (Ok x) read = read ≡ Ok (view x)
Gives view (Err e) read = Fails e read

-- The result of a function that doesn't allocate, seen by view, is the result of reading.
abbrev pub Exactly : {X Y : Type 0} → (X → Y) → Result X BatchError → Result Y BatchError → Type 0
Exactly view (Ok x) read = read ≡ Ok (view x)
Exactly view (Err e) read = read ≡ Err e
