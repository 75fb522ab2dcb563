-- Properties of errors.
use Rattle.std.proofs.Common.{Result, Ok, Err, OnErr}

-- a property of all results is one of errors
pub on_any_err : {T E P : Type 0} (r : Result T E) → P → OnErr r P
on_any_err (Ok x) p = tt
on_any_err (Err e) p = p
