-- Why a search stops, as it is passed on.
use Rattle.std.proofs.Common.{◌≡◌, ℕ, Ok, Err, Result, IsErrAnd, ap, ◌∙◌}
use Rattle.place_search.specs.declared.stop.Stop.{Stop}

abbrev stopped : Stop → Result Unit Stop
stopped stop = Err stop

pub stop_is : (a b : Stop) → stopped a ≡ stopped b → a ≡ b
stop_is a b is = cc

-- a `?` passes on what it got
pub passed_on : (r : Result Unit Stop) (e stop : Stop) → IsErrAnd r (λ (x : Stop). x ≡ e) → stopped e ≡ stopped stop → r ≡ stopped stop
passed_on (Ok u) e stop has is = absurd has
passed_on (Err x) e stop has is = ap stopped has ∙ is

-- and also where the value is a number
abbrev number_stopped : Stop → Result ℕ Stop
number_stopped stop = Err stop

pub number_passed_on : (r : Result Unit Stop) (e stop : Stop) → IsErrAnd r (λ (x : Stop). x ≡ e) → number_stopped e ≡ number_stopped stop → r ≡ stopped stop
number_passed_on r e stop has is = passed_on r e stop has (let same : e ≡ stop = cc in ap stopped same)
