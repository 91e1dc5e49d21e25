-- What a search has to establish of the logs that it visited, so that no event leaves their places (own).
use Rattle.std.specs.Prelude.{ℕ, ◌≡◌, ◌<◌, ◌≤◌, true, List, [], length, None, All, Contains}
use Rattle.mach_types.specs.declared.events.Choice.{Choice}
use Rattle.mach_types.specs.declared.events.Choice.TheVariants as asked
use Rattle.mach_types.specs.declared.events.Entry.{Entry}
use Rattle.mach_types.specs.Kernel.Threads.{Threads, is_ready}
use Rattle.block_model.specs.Events.{refusal_of}
use Rattle.block_model.specs.Plain.{here_in_plain, plain_after, plain_over}
use Rattle.block_model.specs.Run.{IsBlockRun}
use Rattle.block_model.specs.Setting.{Setting}
use Rattle.same_places.specs.Places.{IsCarried, IsSamePlace, plain_after_choice}

-- a choice that has to be tried. That a thread begins to run which isn't ready need not be: it is always
-- refused
abbrev pub IsTried : Threads → Choice → Type 0
IsTried ts asked.Exec = Unit {0}
IsTried ts asked.Drain = Unit {0}
IsTried ts asked.Take = Unit {0}
IsTried ts asked.Done = Unit {0}
IsTried ts asked.Preempt = Unit {0}
IsTried ts (asked.Run t) = is_ready t.0 ts ≡ true
IsTried ts asked.Signal = Unit {0}

-- a log that was visited, after which the run goes on, and a hart and a choice to try there
pub record IsOpen (s : Setting) (logs : List (List Entry)) (log : List Entry) (h : ℕ) (c : Choice)
    : Type 0 where
  pub visited : Contains logs log
  pub goes : plain_over (plain_after s log) ≡ None
  pub lt : h < s.limits.harts
  pub tried : IsTried (plain_after s log).kernel.threads c

-- the event of a choice after a log leads back: after another log that was visited the place is the same
pub record LeadsBack (s : Setting) (logs : List (List Entry)) (log : List Entry) (h : ℕ) (c : Choice)
    : Type 0 where
  pub other : List Entry
  pub visited : Contains logs other
  pub same : IsSamePlace s (plain_after s other) (plain_after_choice s (plain_after s log) h c)

-- the logs are those of a finished search: each is a block run, with room for one more event unless it is
-- over; the empty log is among them; and each choice that has to be tried is carried, and where it is
-- allowed, leads back to one of them
pub record IsSearched (s : Setting) (logs : List (List Entry)) : Type 0 where
  pub steps : s.limits.steps ≤ 1000000
  pub runs : All (IsBlockRun s) logs
  pub room : (log : List Entry) → Contains logs log → plain_over (plain_after s log) ≡ None
      → length log < s.limits.steps
  pub start : Contains logs []
  pub carried : (log : List Entry) (h : ℕ) (c : Choice) → IsOpen s logs log h c
      → IsCarried s (plain_after s log) h c
  pub next : (log : List Entry) (h : ℕ) (c : Choice) → IsOpen s logs log h c
      → refusal_of c (here_in_plain s (plain_after s log) h) ≡ None → LeadsBack s logs log h c
