-- A family of places that no event leaves, and how runs end there (own).
use Rattle.std.specs.Prelude.{ℕ, ◌≡◌, ◌<◌, ◌≤◌, List, Some, None, Contains}
use Rattle.mach_types.specs.declared.events.Choice.{Choice}
use Rattle.mach_types.specs.declared.events.Entry.{Entry}
use Rattle.mach_types.specs.declared.limits.End.{End}
use Rattle.block_model.specs.Events.{refusal_of}
use Rattle.block_model.specs.Plain.{Plain, here_in_plain, plain_after, plain_over, plain_start}
use Rattle.block_model.specs.Run.{IsBlockRun}
use Rattle.block_model.specs.Setting.{Setting}
use Rattle.block_model.specs.Standing.{IsStanding}
use Rattle.same_places.specs.Places.{IsCarried, IsSamePlace, alone, plain_after_choice}

-- some place of the family is the same as this one
pub record IsVisited (s : Setting) (P : Plain → Type 0) (q : Plain) : Type 0 where
  pub place : Plain
  pub member : P place
  pub same : IsSamePlace s place q

-- a family of places is closed: its runs have no more steps than a machine may have; each of its places is
-- one of a run, and has room for one more event unless the run is over there; the start is visited; and at
-- each place where the run isn't over, each choice of each hart is carried, and the place after its event,
-- where it is allowed, is visited too
pub record IsClosed (s : Setting) (P : Plain → Type 0) : Type 0 where
  pub steps : s.limits.steps ≤ 1000000
  pub stands : (p : Plain) → P p → IsStanding (alone s p)
  pub room : (p : Plain) → P p → plain_over p ≡ None → p.made < s.limits.steps
  pub start : IsVisited s P (plain_start s)
  pub carried : (p : Plain) (h : ℕ) (c : Choice) → P p → plain_over p ≡ None → h < s.limits.harts
      → IsCarried s p h c
  pub next : (p : Plain) (h : ℕ) (c : Choice) → P p → plain_over p ≡ None → h < s.limits.harts
      → refusal_of c (here_in_plain s p h) ≡ None → IsVisited s P (plain_after_choice s p h c)

-- at some place of the family the run is over, with this end and these bytes on the console
pub record HasOutcome (P : Plain → Type 0) (end : End) (console : List ℕ) : Type 0 where
  pub place : Plain
  pub member : P place
  pub over : plain_over place ≡ Some end
  pub console_is : place.kernel.console ≡ console

-- the places after these logs
abbrev pub after_logs : Setting → List (List Entry) → Plain → Type 0
after_logs s logs p = (log : List Entry) × Contains logs log × (plain_after s log ≡ p)

-- a block run that is over, with this end and these bytes on the console
pub record IsRunEnding (s : Setting) (end : End) (console : List ℕ) (log : List Entry) : Type 0 where
  pub run : IsBlockRun s log
  pub over : plain_over (plain_after s log) ≡ Some end
  pub console_is : (plain_after s log).kernel.console ≡ console
