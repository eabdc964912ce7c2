-- What holds where a call gives an error.
use Rattle.std.proofs.Common.{Result, Ok, Err, OnErr}

pub where_err : {T E P : Type 0} (r : Result T E) → P → OnErr r P
where_err (Ok value) is = tt
where_err (Err e) is = is
