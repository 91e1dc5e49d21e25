-- What is kept of one hart, as a rule may read it at a place.
use Rattle.std.specs.Prelude.{ℕ, ◌+◌, List, Option, Some, None, slice_get}
use Rattle.std.specs.Option.{option_map, option_map_or}
use Rattle.mach_types.specs.Registers.{no_registers}
use Rattle.mach_types.specs.declared.threads.Saved.{Saved}
use Rattle.hart_state.specs.declared.hart.HartState.{HartState}
use Rattle.block_model.specs.Here.{Here, runs, waiting_here}
use Rattle.block_model.specs.Ids.{id_of}
use Rattle.block_model.specs.Plain.{Plain, here_in_plain}
use Rattle.block_model.specs.Setting.{Setting}
use Rattle.block_model.specs.Sights.{thread}

-- the file that a hart keeps: its thread's; an idle hart's is all 0
abbrev pub file_on : Here → Option ℕ → Saved
file_on here None = record { file = no_registers; pc = 0 }
file_on here (Some t) = here.file t

-- the id that its thread holds; 0 on an idle hart
abbrev pub id_on : Here → Option ℕ → ℕ
id_on here None = 0
id_on here (Some t) = id_of t here.kernel.ids

-- the state of the hart: its thread, that thread's registers, pc and id; its waiting stores and its reservation; the requests of
-- barriers that are pending there, and what its thread's barrier waits for; how many instructions it executed since a thread began to
-- run there, how many events it made, and its credit
abbrev pub hart_in : Here → ℕ → ℕ → ℕ → HartState
hart_in here ran events credit = record {
  file = (file_on here (runs here)).file;
  pc = (file_on here (runs here)).pc;
  buffer = waiting_here here;
  running = option_map thread (runs here);
  requests = here.requests;
  restart = here.restart;
  waits = here.awaits;
  reserved = here.reserved;
  ran = ran;
  credit = credit;
  events = events;
  cid = id_on here (runs here);
}

-- the file that a hart keeps of its thread
abbrev pub file_of : HartState → Saved
file_of x = record { file = x.file; pc = x.pc }

-- the state of hart h of the plain machine, which knows no credit, with this one
abbrev pub hart_at : Setting → Plain → ℕ → ℕ → HartState
hart_at s p h credit = hart_in (here_in_plain s p h) (p.ran h) (p.events h) credit

-- a hart that made one more event
abbrev pub counted : HartState → HartState
counted x = record x { events = x.events + 1 }

-- the credit of hart h among harts
abbrev pub credit_of : List HartState → ℕ → ℕ
credit_of harts h = option_map_or (λ (x : HartState). x.credit) (slice_get harts h) 0
