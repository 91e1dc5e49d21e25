-- The facts of barriers (membarrier(2)): a hart takes the requests that are pending there, and a barrier returns; both are read at the place
-- before the event. A call begins a barrier; that is read at the place after it.
use Rattle.std.specs.Prelude.{ℕ, List, [], ◌∷◌, Option, Some, None}
use Rattle.std.specs.Option.{option_map, option_to_list}
use Rattle.mach_types.specs.Events.{kind_of, nature_of}
use Rattle.mach_types.specs.declared.events.BarrierPart.{BarrierPart}
use Rattle.mach_types.specs.declared.events.BarrierPart.TheVariants.{Apart, Takes, Returns}
use Rattle.mach_types.specs.declared.events.Choice.{Choice}
use Rattle.block_model.specs.Here.{Here}
use Rattle.fact_types.specs.declared.calls.SystemCall.{SystemCall}
use Rattle.fact_types.specs.declared.facts.Fact.{Fact}
use Rattle.fact_types.specs.declared.facts.Fact.TheVariants.{RequestsTaken, BarrierReturns, BarrierBegins}

-- the harts whose barriers' requests are taken, and whether one of these asks for a restart; or that a barrier returns
abbrev pub request_facts_by : BarrierPart → Here → List Fact
request_facts_by Apart here = []
request_facts_by Takes here = RequestsTaken here.requests here.restart ∷ []
request_facts_by Returns here = BarrierReturns ∷ []

abbrev pub request_facts : Choice → Here → List Fact
request_facts c here = request_facts_by (nature_of (kind_of c)).barriers here

-- the harts for which the thread of a call waits after it, where it waits in a barrier: it began that, since none that waits in one makes a
-- call
abbrev pub begun_facts : Option SystemCall → Option ℕ → List Fact
begun_facts None awaits = []
begun_facts (Some c) awaits = option_to_list (option_map BarrierBegins awaits)
