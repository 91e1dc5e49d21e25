-- What the areas of threads look at where an event is tried (own).
use Rattle.std.specs.Prelude.{◌≡◌, ◌&&◌, Bool, Option, map}
use Rattle.std.specs.List.{list_all}
use Rattle.mach_types.specs.declared.events.Tid.{Tid}
use Rattle.process.specs.declared.parts.Parts.{Parts}
use Rattle.settling.specs.Handlers.{has_no_handler}
use Rattle.settling.specs.Looks.{is_kept, look_in}
use Rattle.place_search.specs.declared.sights.Sights.{Sights}

-- what each area looks at in these parts, and whether no signal has a handler there
pub record AreSightsOf (m : Parts) (x : Sights) : Type 0 where
  pub looks : x.looks.items ≡ map (look_in m) m.kernel.areas.items
  pub unhandled : x.unhandled ≡ has_no_handler m.kernel.signals

-- no signal had a handler, and each area is kept in parts after an event, which may be an instruction of a thread
abbrev pub is_left : Sights → Parts → Option Tid → Bool
is_left x after own = x.unhandled && list_all (is_kept after own) x.looks.items
