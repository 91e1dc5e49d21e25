-- Walks: stretches of a log in which a thread runs on a hart and executes instructions that make neither a
-- fault nor a call. What other harts do meanwhile shows in what its instructions read (own).
use Rattle.std.specs.Prelude.{ℕ, ◌≡◌, ◌≢◌, ◌==◌, ◌&&◌, ◌⊎◌, Bool, List, [], ◌∷◌, ◌++◌, fold, if◌then◌else◌, Option, None, Some}
use Rattle.std.specs.Option.{option_map_or}
use Rattle.mach_types.specs.Events.{choice_of, is_instruction, kind_of}
use Rattle.mach_types.specs.declared.events.Choice.{Choice}
use Rattle.mach_types.specs.declared.events.Choice.TheVariants as asked
use Rattle.mach_types.specs.declared.events.Entry.{Entry}
use Rattle.mach_types.specs.declared.threads.Saved.{Saved}
use Rattle.elf_load.specs.declared.image.ImagePage.{ImagePage}
use Rattle.rv_inst.specs.Execution.{Outcome, outcome}
use Rattle.rv_inst.specs.declared.effects.Effect.{Effect}
use Rattle.rv_inst.specs.declared.effects.Effect.TheVariants.{Call}
use Rattle.block_model.specs.Deciding.{event}
use Rattle.block_model.specs.Events.Exec.{next_effect, next_fault}
use Rattle.block_model.specs.Events.Take.{done_take}
use Rattle.block_model.specs.Here.{Here, view_of_all}
use Rattle.block_model.specs.History.{History, here_in_history, running}
use Rattle.block_model.specs.Instruction as instruction
use Rattle.block_model.specs.Setting.{Setting}

-- a thread executes its next instruction, which makes neither a fault nor a call
pub record IsPlainExec (here : Here) (t : ℕ) (entry : Entry) : Type 0 where
  pub executes : choice_of entry ≡ asked.Exec
  pub no_fault : next_fault here t ≡ None
  pub no_call : next_effect here t ≢ Some Call

-- the hart takes requests of barriers, which interrupts nothing
pub record IsPlainTake (here : Here) (entry : Entry) : Type 0 where
  pub takes : choice_of entry ≡ asked.Take
  pub quiet : (done_take here).interrupted ≡ None

-- what an entry of a walk's hart may be: the oldest waiting store enters memory, the hart takes requests, or the thread executes such
-- an instruction
abbrev pub IsOfWalk : Here → ℕ → Entry → Type 0
IsOfWalk here t entry = (choice_of entry ≡ asked.Drain) ⊎ (IsPlainTake here entry ⊎ IsPlainExec here t entry)

-- each entry of hart h in a stretch, which comes after a history
abbrev pub AreOfWalk : Setting → ℕ → ℕ → History → List Entry → Type 0
AreOfWalk s h t before [] = Unit {0}
AreOfWalk s h t before (e ∷ rest) =
    (e.hart.0 ≡ h → IsOfWalk (here_in_history s before h) t e)
    × AreOfWalk s h t (event s before e ∷ before) rest

-- a stretch after a history is a walk of thread t on hart h: the thread runs there at its start, and each
-- entry of the hart is one of a walk. The thread then runs there throughout
pub record IsWalk (s : Setting) (h t : ℕ) (before : History) (stretch : List Entry) : Type 0 where
  pub starts : running s h before ≡ Some t
  pub each : AreOfWalk s h t before stretch

-- what an instruction is answered: each byte as its hart sees it, and the hart's reservation
pub record Answer : Type 0 where
  pub seen : ℕ → Option ℕ
  pub reserved : Option ℕ

abbrev pub answer_in : Here → Answer
answer_in here = record { seen = view_of_all here; reserved = here.reserved }

-- whether a choice is to execute an instruction
abbrev pub is_exec : Choice → Bool
is_exec c = is_instruction (kind_of c)

-- what an entry after a history is answered, if it is an instruction of hart h; and what the instructions of
-- hart h are answered in a stretch, in order, each at its place
abbrev pub answered : Setting → ℕ → History → Entry → List Answer
answered s h before e =
    if (e.hart.0 == h) && is_exec (choice_of e) then answer_in (here_in_history s before h) ∷ [] else []

abbrev pub answers : Setting → ℕ → History → List Entry → List Answer
answers s h before [] = []
answers s h before (e ∷ rest) = answered s h before e ++ answers s h (event s before e ∷ before) rest

-- the file that an instruction leaves; and the file after one with this effect, by its equation
abbrev pub file_of : Outcome → Saved
file_of o = record { file = o.regs; pc = o.pc }

abbrev pub file_by : Saved → Answer → Effect → Saved
file_by f a e = file_of (outcome a.seen f.file f.pc a.reserved e)

-- the file after its next instruction, the one at its pc in the pages of the program
abbrev pub file_next : List ImagePage → Saved → Answer → Saved
file_next pages f a = option_map_or (file_by f a) (instruction.next_effect pages f) f

-- the file after as many instructions, one after another, as there are answers
abbrev pub computed : List ImagePage → Saved → List Answer → Saved
computed pages f given = fold (file_next pages) f given
