-- What clauses say of a value, or of want of memory that a call passes on.
use Rattle.std.proofs.Common.{◌≡◌, Bool, true, false, refl, Result, Ok, Err, IfOk, IsOk, IsErr, OnOk, OnErr}

-- what a clause says of an error, where there is one
pub on_error : {T E X : Type 0} (result : Result T E) (error : E) → result ≡ Err error → OnErr result X → X
on_error (Ok value) error is on = absurd (cc)
on_error (Err other) error is on = on

-- and it says that of every result
pub as_error : {T E X : Type 0} (result : Result T E) → X → OnErr result X
as_error (Ok value) x = tt
as_error (Err error) x = x

-- what follows for an error
pub on_err : {T E X Y : Type 0} (result : Result T E) → (X → Y) → OnErr result X → OnErr result Y
on_err (Ok value) next x = tt
on_err (Err error) next x = next x

-- what follows for a value
pub if_ok : {T E : Type 0} (P Q : T → Type 0) (result : Result T E) → ((value : T) → P value → Q value) → IfOk result P → IfOk result Q
if_ok P Q (Ok value) next p = next value p
if_ok P Q (Err error) next p = tt

-- and where two things follow, both do
pub both_ok : {T E : Type 0} (P Q : T → Type 0) (result : Result T E) → IfOk result P → IfOk result Q → IfOk result (λ value. P value × Q value)
both_ok P Q (Ok value) p q = (p, q)
both_ok P Q (Err error) p q = tt

-- a condition under which a call succeeds doesn't hold where it was refused
pub refused : {T E : Type 0} (result : Result T E) (error : E) → result ≡ Err error → (condition : Bool) → (condition ≡ true → IsOk result) → condition ≡ false
refused (Ok value) error is condition succeeds = absurd (cc)
refused (Err other) error is true succeeds = let succeeded = succeeds refl in absurd (cc)
refused (Err other) error is false succeeds = refl

-- a clause on values says nothing of an error
pub no_value : {T E : Type 0} (P : T → Type 0) (result : Result T E) → IsErr result → IfOk result P
no_value P (Ok value) is = absurd (cc)
no_value P (Err error) is = tt

-- what follows from a value is nothing where there is an error
pub no_ok : {T E : Type 0} (X : Type 0) (result : Result T E) → IsErr result → OnOk result X
no_ok X (Ok value) is = absurd (cc)
no_ok X (Err error) is = tt
