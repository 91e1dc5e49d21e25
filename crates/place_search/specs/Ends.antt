-- An outcome that is noted unless it was found (own).
use Rattle.std.specs.Prelude.{ℕ, ◌≡◌, ◌==◌, ◌&&◌, ◌⊎◌, ◌++◌, ◌∷◌, [], Bool, true, false, List, bytes_eq}
use Rattle.mach_types.specs.declared.events.Entry.{Entry}
use Rattle.mach_types.specs.declared.limits.End.{End}
use Rattle.found_outcomes.specs.Found.{HasBeenFound, same_end}
use Rattle.found_outcomes.specs.declared.findings.OutcomeFound.{OutcomeFound}

-- whether an outcome has this end and this console
abbrev pub is_so : End → List ℕ → OutcomeFound → Bool
is_so end console o = same_end o.end end && bytes_eq o.console console

-- one outcome more, that no other has
pub record IsWithOutcome (end : End) (console : List ℕ) (log : List Entry) (os os' : List OutcomeFound) : Type 0 where
  pub outcome : OutcomeFound
  pub items : os' ≡ os ++ outcome ∷ []
  pub end_is : outcome.end ≡ end
  pub console_is : outcome.console ≡ console
  pub log_is : outcome.log.items ≡ log
  pub new : HasBeenFound os end console → ⊥

-- the outcome was found, or there is one more
abbrev pub AreNoted : End → List ℕ → List Entry → List OutcomeFound → List OutcomeFound → Type 0
AreNoted end console log os os' = (HasBeenFound os end console × (os' ≡ os)) ⊎ IsWithOutcome end console log os os'
