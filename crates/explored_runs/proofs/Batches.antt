-- A run that was made, or is absent.
use Rattle.std.specs.Prelude.{Result, Ok, Err, IfOk, IfSome}
use Rattle.std.specs.Result.{result_ok}

pub made_or_absent : {T E : Type 0} (P : T → Type 0) (r : Result T E) → IfOk r P → IfSome (result_ok r) P
made_or_absent P (Ok made) is = is
made_or_absent P (Err why) is = tt
