-- The end of a run at which parts stand with no counts, and what a choice that is made there shows (own).
use Rattle.std.specs.Prelude.{ℕ, ◌≡◌, ◌<◌, List, [], ◌∷◌, ◌++◌, length, None}
use Rattle.mach_types.specs.Events.{choice_of}
use Rattle.mach_types.specs.Limits.{InRange}
use Rattle.mach_types.specs.declared.events.Choice.{Choice}
use Rattle.mach_types.specs.declared.events.Entry.{Entry}
use Rattle.elf_load.specs.declared.image.ImagePage.{ImagePage}
use Rattle.block_model.specs.Plain.{plain_after, plain_over}
use Rattle.block_model.specs.Run.{IsBlockRun}
use Rattle.block_model.specs.Setting.{Setting}
use Rattle.process.specs.declared.parts.Parts.{Parts}
use Rattle.same_places.specs.Places.{plain_after_choice}
use Rattle.same_places.specs.Replayed.{StandAfter}

-- the parts stand at the end of this run, which goes on and has room for one more event; the program has this
-- code; and the hart is one of the machine's
pub record IsGoing (s : Setting) (log : List Entry) (code : List ImagePage) (m : Parts) (h : ℕ) : Type 0 where
  pub run : IsBlockRun s log
  pub stands : StandAfter s log m
  pub limits : InRange s.limits
  pub pages : code ≡ s.program.pages
  pub goes : plain_over (plain_after s log) ≡ None
  pub room : length log < s.limits.steps
  pub lt : h < s.limits.harts

-- there is such a run
pub record MayTry (code : List ImagePage) (m : Parts) (h : ℕ) : Type 0 where
  pub setting : Setting
  pub log : List Entry
  pub going : IsGoing setting log code m h

-- the run with one entry more, that of a choice of hart h
pub record IsLonger (s : Setting) (log : List Entry) (h : ℕ) (c : Choice) (e : Entry) (m' : Parts)
    : Type 0 where
  pub run : IsBlockRun s (log ++ e ∷ [])
  pub stands : StandAfter s (log ++ e ∷ []) m'
  pub hart : e.hart.0 ≡ h
  pub choice : choice_of e ≡ c
  pub next : plain_after s (log ++ e ∷ []) ≡ plain_after_choice s (plain_after s log) h c
