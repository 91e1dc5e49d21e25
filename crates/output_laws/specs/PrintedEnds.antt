-- What is said of the ends of the outcomes that are printed (own).
use Rattle.std.specs.Prelude.{◌≡◌, List, Contains}
use Rattle.mach_types.specs.declared.limits.End.{End}
use Rattle.found_outcomes.specs.declared.findings.OutcomeFound.{OutcomeFound}

-- one of the outcomes has this end
pub record HasEnd (os : List OutcomeFound) (end : End) : Type 0 where
  pub outcome : OutcomeFound
  pub among : Contains os outcome
  pub end_is : outcome.end ≡ end

-- two outcomes have two ends
abbrev pub HasOtherEnd : OutcomeFound → OutcomeFound → Type 0
HasOtherEnd o p = o.end ≡ p.end → ⊥
