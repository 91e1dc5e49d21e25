-- The sights with which worked examples begin.
use Rattle.std.proofs.Common.{None, true, false}
use Rattle.mach_types.specs.declared.events.Sight.{Sight}

-- an idle hart, and no thread that could run there
abbrev pub idle : Sight
idle = record {
  idle = true;
  first_ready = None;
  in_barrier = false;
  all_taken = false;
  requested = false;
  stores = 0;
  deliverable = false;
  exec_enabled = false;
  local = false;
  ran = 0;
  credit = 0;
}
