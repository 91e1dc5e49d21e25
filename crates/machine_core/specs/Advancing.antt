-- What an attempt to go on adds to the log.
use Rattle.std.specs.Prelude.{List, [], ◌∷◌}
use Rattle.mach_types.specs.declared.events.Advance.{Advance}
use Rattle.mach_types.specs.declared.events.Advance.TheVariants.{Made, NoneNow, Ended}
use Rattle.mach_types.specs.declared.events.Entry.{Entry}

-- the entry that was made, or nothing
abbrev pub made_in : Advance → List Entry
made_in (Made e) = e ∷ []
made_in NoneNow = []
made_in Ended = []
