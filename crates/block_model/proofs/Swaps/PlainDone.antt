-- What a plain event does, by the few things that it can do.
use Rattle.block_model.proofs.Common.{Choice, Done, Effect, Here, Kernel, List, Saved, Store, Stored, Write, all_stored, next_effect, nothing_with, outcome_of, runs, waiting_here}
use Rattle.std.specs.Prelude.{ℕ, [], ◌∷◌, Option, Some, None}
use Rattle.mach_types.specs.declared.events.Choice.TheVariants as asked
use Rattle.rv_inst.specs.Execution.{Outcome}

-- the files that it set, the plain store that it executed, how many waiting stores entered memory, what was written, its hart's
-- reservation after it, and how many instructions were executed
pub record PlainDone : Type 0 where
  pub files : List (ℕ × Saved)
  pub executed : List Store
  pub drained : ℕ
  pub entered : List Write
  pub reserved : Option ℕ
  pub instructions : ℕ

-- as an event, by which the kernel's record stays as it is
abbrev pub as_done : Kernel → PlainDone → Done
as_done k x = record (nothing_with x.reserved k) {
  files = x.files;
  executed = x.executed;
  drained = x.drained;
  entered = x.entered;
  instructions = x.instructions;
}

-- an instruction of thread t with this outcome
abbrev pub plain_outcome : ℕ → Outcome → PlainDone
plain_outcome t o = record {
  files = (t, record { file = o.regs; pc = o.pc }) ∷ [];
  executed = o.executed;
  drained = 0;
  entered = all_stored o.entered;
  reserved = o.reserved;
  instructions = 1;
}

-- nothing, where this is reserved
abbrev pub plain_nothing : Option ℕ → PlainDone
plain_nothing reserved = record { files = []; executed = []; drained = 0; entered = []; reserved = reserved; instructions = 0 }

-- a drain of a hart with these waiting stores and this reservation
abbrev pub plain_drain : Option ℕ → List Store → PlainDone
plain_drain reserved [] = plain_nothing reserved
plain_drain reserved (w ∷ ws) = record (plain_nothing reserved) { drained = 1; entered = Stored w ∷ [] }

-- an instruction of thread t with this effect; the next one of a thread; and a plain event
abbrev pub plain_effect : Here → ℕ → Option Effect → PlainDone
plain_effect here t None = plain_nothing here.reserved
plain_effect here t (Some e) = plain_outcome t (outcome_of here t e)

abbrev pub plain_exec : Here → Option ℕ → PlainDone
plain_exec here None = plain_nothing here.reserved
plain_exec here (Some t) = plain_effect here t (next_effect here t)

abbrev pub plain_done : Choice → Here → PlainDone
plain_done asked.Exec here = plain_exec here (runs here)
plain_done asked.Drain here = plain_drain here.reserved (waiting_here here)
plain_done c here = plain_nothing here.reserved
