-- The next instruction of a thread that may be executed.
use Rattle.std.specs.Prelude.{ℕ, ◌≡◌, ◌⊎◌, Bool, true, List, Some, None, IfSome}
use Rattle.mach_types.specs.declared.events.Choice.TheVariants as asked
use Rattle.mach_types.specs.declared.user_memory.Write.{Write}
use Rattle.rv_inst.specs.Class.{is_call}
use Rattle.rv_inst.specs.Sizes.{HasAccessSizes}
use Rattle.rv_inst.specs.declared.effects.Effect.{Effect}
use Rattle.block_model.specs.Here.{runs}
use Rattle.block_model.specs.Events.{refusal_of, done_of}
use Rattle.block_model.specs.Events.Exec.{next_effect, next_fault}
use Rattle.block_model.specs.Stands.{Stand, here_at}
use Rattle.block_model.specs.Sequences.{is_inside_here}
use Rattle.page_map.specs.Map.{byte_in, can_write_in}
use Rattle.sys_calls.specs.Made.{IsOwnCall}
use Rattle.process.specs.Harts.{credit_of, hart_at}
use Rattle.process.specs.PlainSteps.{IsPlainStep}
use Rattle.process.specs.Refinement.{IsPlace, IsUncounted}
use Rattle.process.specs.declared.next.Next.{Next}
use Rattle.process.specs.declared.parts.Parts.{Parts}
use Rattle.process.specs.declared.plain.PlainStep.{PlainStep}

-- the step of thread t reads and writes nothing of another process: there is none, or it is a fault, or a call of its own process, or one
-- that kills the process, since it is made inside a sequence
abbrev pub IsOwnStep : Stand → ℕ → ℕ → Next → Type 0
IsOwnStep v h t next =
    (v.beside ≡ None)
    ⊎ ((e : Effect) → next.effect ≡ Some e → next.fault ≡ None → (is_call e ≡ true)
    × ((is_inside_here (here_at v h) t ≡ true) ⊎ IsOwnCall (here_at v h) t))

-- this thread runs on hart h, this is its next instruction there, and it may be executed
pub record IsPlanned (v : Stand) (h : ℕ) (next : Next) : Type 0 where
  pub thread : ℕ
  pub at : runs (here_at v h) ≡ Some thread
  pub effect : next.effect ≡ next_effect (here_at v h) thread
  pub fault : next.fault ≡ next_fault (here_at v h) thread
  pub sizes : IfSome next.effect HasAccessSizes
  pub free : refusal_of asked.Exec (here_at v h) ≡ None
  pub own : IsOwnStep v h thread next

-- there is a place where it is
pub record HasPlan (m : Parts) (h : ℕ) (next : Next) : Type 0 where
  pub stand : Stand
  pub place : IsPlace stand m h
  pub plan : IsPlanned stand h next

-- the thread on hart h may execute its next instruction there, which is a plain one that does this
pub record IsNextStep (v : Stand) (m : Parts) (h : ℕ) (does : PlainStep) : Type 0 where
  pub asked : Effect
  pub plan : IsPlanned v h (record { effect = Some asked; fault = None })
  pub plain : IsPlainStep (byte_in m.pages) (can_write_in m.pages) asked (hart_at v.setting v.plain h (credit_of m.harts.items h)) does

-- there is a place where it is
pub record HasStep (m : Parts) (h : ℕ) (does : PlainStep) : Type 0 where
  pub stand : Stand
  pub place : IsPlace stand m h
  pub next : IsNextStep stand m h does

-- whether the thread that runs on hart h at a place is inside a good sequence is this
abbrev pub IsInside : Bool → Parts → ℕ → Type 0
IsInside inside m h =
    (v : Stand) (t : ℕ) → IsPlace v m h → runs (here_at v h) ≡ Some t → is_inside_here (here_at v h) t ≡ inside

-- at each place where this is planned the parts are those after its event, which is yet to be counted
abbrev pub IsExecuted : Parts → ℕ → Next → Parts → Type 0
IsExecuted m h next m' = (v : Stand) → IsPlace v m h → IsPlanned v h next → IsUncounted v h (done_of asked.Exec (here_at v h)) m m'

-- at each place where this is planned these writes enter memory by its event
abbrev pub HasEntered : Parts → ℕ → Next → List Write → Type 0
HasEntered m h next ws = (v : Stand) → IsPlace v m h → IsPlanned v h next → ws ≡ (done_of asked.Exec (here_at v h)).entered
