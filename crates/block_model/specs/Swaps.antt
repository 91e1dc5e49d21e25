-- Neighbouring entries that may be exchanged.
use Rattle.std.specs.Prelude.{◌≡◌, ◌≢◌, Bool, true, List, [], ◌∷◌, ◌++◌}
use Rattle.mach_types.specs.Events.{choice_of}
use Rattle.mach_types.specs.declared.events.Entry.{Entry}
use Rattle.block_model.specs.Deciding.{history}
use Rattle.block_model.specs.Here.{Here}
use Rattle.block_model.specs.History.{here_in_history}
use Rattle.block_model.specs.PlainOf.{plain_of}
use Rattle.block_model.specs.Run.{IsBlockRun}
use Rattle.block_model.specs.Setting.{Setting}
use Rattle.block_model.specs.Footprints.{AreApart, Footprint}
use Rattle.block_model.specs.PlainEvents.{footprint, is_plain}

-- what a rule may read where an entry comes after a log
abbrev pub here_after : Setting → List Entry → Entry → Here
here_after s log e = here_in_history s (history s log) e.hart.0

abbrev pub is_plain_after : Setting → List Entry → Entry → Bool
is_plain_after s log e = is_plain (choice_of e) (here_after s log e)

abbrev pub footprint_after : Setting → List Entry → Entry → Footprint
footprint_after s log e = footprint (choice_of e) (here_after s log e)

-- two entries that come one after the other: plain events of different harts, of which neither writes a byte that the other one
-- reads or writes
pub record MaySwap (s : Setting) (earlier : List Entry) (e f : Entry) : Type 0 where
  pub harts : e.hart.0 ≢ f.hart.0
  pub first : is_plain_after s earlier e ≡ true
  pub second : is_plain_after s (earlier ++ e ∷ []) f ≡ true
  pub apart : AreApart (footprint_after s earlier e) (footprint_after s (earlier ++ e ∷ []) f)

-- a log that is a block run too, after which all is the same: files, memory, waiting stores, reservations, the kernel's record,
-- requests, and how it ended
pub record IsEquivalentRun (s : Setting) (log other : List Entry) : Type 0 where
  pub block_run : IsBlockRun s other
  pub same : plain_of s (history s other) ≡ plain_of s (history s log)
