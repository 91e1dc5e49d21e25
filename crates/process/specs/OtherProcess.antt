-- The harts of a process after an event of another process on one hart of their machine.
use Rattle.std.specs.Prelude.{ℕ, ◌==◌, ◌&&◌, ◌||◌, Bool, false, List, if◌then◌else◌, Option}
use Rattle.std.specs.Option.{option_map}
use Rattle.mach_types.specs.declared.user_memory.Write.{Write}
use Rattle.hart_state.specs.declared.hart.HartState.{HartState}
use Rattle.block_model.specs.Here.{Barrier}
use Rattle.block_model.specs.History.{lost_after}
use Rattle.block_model.specs.Requests.{is_about, restarts_at, with_hart, without_hart}

-- a hart once the requests at hart h were taken: its barrier, where its thread waits in one, waits for that hart no longer, and hart h
-- itself has no requests any more
abbrev pub taken_aside : Bool → ℕ → HartState → HartState
taken_aside is_own h x = record x {
  requests = if is_own then 0 else x.requests;
  restart = if is_own then false else x.restart;
  waits = option_map (without_hart h) x.waits;
}

-- hart k after an event of hart h that took the requests there, or didn't, that began this barrier, if it began one, and that made
-- these writes
abbrev pub passed_by : ℕ → ℕ → Bool → Option Barrier → List Write → HartState → HartState
passed_by k h took barrier ws x = record x {
  reserved = lost_after ws x.reserved;
  requests = if (h == k) && took then 0 else if is_about k barrier then with_hart h x.requests else x.requests;
  restart = if (h == k) && took then false else (restarts_at k barrier || x.restart);
  waits = if took then option_map (without_hart h) x.waits else x.waits;
}
