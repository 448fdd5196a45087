-- What holds where a call had no memory.
use Rattle.std.proofs.Common.{Result, Ok, Err, OnErr}

pub on_err_always : {T E Q : Type 0} (r : Result T E) → Q → OnErr r Q
on_err_always (Ok x) is = tt
on_err_always (Err e) is = is
