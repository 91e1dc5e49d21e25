-- Parts of a process at the place that a log leads to, with no counts (own).
use Rattle.mach_types.specs.declared.events.Entry.{Entry}
use Rattle.std.specs.Prelude.{List}
use Rattle.block_model.specs.Plain.{plain_after}
use Rattle.block_model.specs.Setting.{Setting}
use Rattle.process.specs.Refinement.{IsTied}
use Rattle.process.specs.declared.parts.Parts.{Parts}
use Rattle.same_places.specs.Places.{rested}

abbrev pub StandAfter : Setting → List Entry → Parts → Type 0
StandAfter s log m = IsTied s (rested (plain_after s log)) m
