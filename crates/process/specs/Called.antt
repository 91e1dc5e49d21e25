-- A call of the thread on a hart that has changed the tables and the pages, and is to be ended there.
use Rattle.std.specs.Prelude.{ℕ, ◌≡◌, List, Some, None}
use Rattle.mach_types.specs.declared.events.Choice.TheVariants as asked
use Rattle.mach_types.specs.declared.threads.Saved.{Saved}
use Rattle.mach_types.specs.declared.user_memory.Write.{Write}
use Rattle.kernel_threads.specs.Table.{IsTable}
use Rattle.block_model.specs.Calls.Answers.{CallDone}
use Rattle.block_model.specs.Events.{done_of, refusal_of}
use Rattle.block_model.specs.Events.Exec.{by_call}
use Rattle.block_model.specs.Here.{runs}
use Rattle.block_model.specs.Stands.{Stand, here_at}
use Rattle.sys_calls.specs.Made.{IsMade}
use Rattle.sys_calls.specs.declared.calling.CallEnd.{CallEnd}
use Rattle.process.specs.Refinement.{IsPlace}
use Rattle.process.specs.declared.parts.Parts.{Parts}

-- at a place of the parts m the event of hart h is the call d of its thread, and it may be made; the tables and the pages are as it
-- leaves them (m'), with this end, these registers and these writes; and the harts are as they were
pub record IsCalled (v : Stand) (h : ℕ) (m m' : Parts) (end : CallEnd) (saved : Saved) (ws : List Write) (d : CallDone) : Type 0 where
  pub place : IsPlace v m h
  pub thread : ℕ
  pub at : runs (here_at v h) ≡ Some thread
  pub free : refusal_of asked.Exec (here_at v h) ≡ None
  pub done : done_of asked.Exec (here_at v h) ≡ by_call (here_at v h) d
  pub made : IsMade (here_at v h) thread m.kernel m.pages m'.kernel m'.pages saved end d
  pub table : IsTable m'.kernel.threads
  pub written : ws ≡ d.entered
  pub harts : m'.harts.items ≡ m.harts.items

-- there is such a place
pub record HasCalled (m' : Parts) (h : ℕ) (end : CallEnd) (saved : Saved) (ws : List Write) : Type 0 where
  pub stand : Stand
  pub before : Parts
  pub done : CallDone
  pub called : IsCalled stand h before m' end saved ws done
