-- Where a process stands, however it came there: its setting, the plain machine, and what stands beside the
-- process on its machine.
use Rattle.std.specs.Prelude.{ℕ, List, suc, if◌then◌else◌, Option, None}
use Rattle.std.specs.Option.{option_map}
use Rattle.mach_types.specs.declared.user_memory.Write.{Write}
use Rattle.block_model.specs.Beside.{Neighbour}
use Rattle.block_model.specs.Here.{Here, Done}
use Rattle.block_model.specs.History.{lost_after}
use Rattle.block_model.specs.Plain.{Plain, apply, here_in_plain, plain_seen}
use Rattle.block_model.specs.Requests.{requests_after, restart_after, without_hart}
use Rattle.block_model.specs.Setting.{Setting, Seen}

pub record Stand : Type 0 where
  pub setting : Setting
  pub plain : Plain
  pub beside : Option Neighbour

-- what a rule may read there, where hart h is asked
abbrev pub here_at : Stand → ℕ → Here
here_at v h = record (here_in_plain v.setting v.plain h) { beside = v.beside }

-- where a machine stands that is seen: its process is alone
abbrev pub stand_of : Seen → Stand
stand_of v = record { setting = v.setting; plain = plain_seen v; beside = None }

-- where a process stands after an event of its hart h, with what stands beside it then
abbrev pub stand_after : Stand → ℕ → Done → Option Neighbour → Stand
stand_after v h d beside = record { setting = v.setting; plain = apply h d v.plain; beside = beside }

-- the plain machine of a process after an event of hart h that isn't one of its own threads': another process's,
-- which made these writes to the segment, or a `take` of a hart on which no thread runs. Reservations of these
-- bytes end; a barrier that the event begins makes its requests at this process's harts too; requests that hart h
-- takes are pending there and waited for no longer; and the event is counted among all that were made. Nothing
-- else changes
abbrev pub aside : ℕ → Done → List Write → Plain → Plain
aside h d writes m = record m {
  reserved = λ k. lost_after writes (m.reserved k);
  requests = λ k. requests_after k h d (m.requests k);
  restart = λ k. restart_after k h d (m.restart k);
  awaits = λ k. if d.took then option_map (without_hart h) (m.awaits k) else m.awaits k;
  made = suc m.made;
}
