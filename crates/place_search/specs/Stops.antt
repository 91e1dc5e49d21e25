-- How a search ends that stops before all places are visited (own).
use Rattle.found_outcomes.specs.declared.findings.Closing.{Closing}
use Rattle.std.specs.Prelude.{Option, Some, None}
use Rattle.found_outcomes.specs.declared.findings.Closing.TheVariants as closing
use Rattle.place_search.specs.declared.stop.Stop.{Stop}
use Rattle.place_search.specs.declared.stop.Stop.TheVariants as stop

-- none where it begins again
abbrev pub closing_of : Stop → Option Closing
closing_of stop.Places = Some closing.Places
closing_of stop.Memory = Some closing.Memory
closing_of stop.Unsettled = None
