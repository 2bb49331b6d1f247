-- What holds anyway holds where the answer is an error.
use Rattle.std.specs.Prelude.{Result, Ok, Err, OnErr}

pub on_err : {U E P : Type 0} (answer : Result U E) → P → OnErr answer P
on_err (Ok u) p = tt
on_err (Err e) p = p
