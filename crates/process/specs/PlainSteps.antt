-- What a plain instruction does: one that sets a register, loads, or begins a store.
use Rattle.std.specs.Prelude.{ℕ, ◌≡◌, ◌<◌, ◌&&◌, ◌++◌, [], ◌∷◌, Bool, false, not, is_some, length, List, Option, Some, None}
use Rattle.std.specs.Option.{option_map_or}
use Rattle.mach_types.specs.Bytes.{IsAccessSize}
use Rattle.mach_types.specs.Registers.{with_register}
use Rattle.mach_types.specs.declared.user_memory.TheConstants.{STORE_BUFFER_CAPACITY}
use Rattle.rv_inst.specs.Class.{is_call, sets_register}
use Rattle.rv_inst.specs.Execution.{fault_in, instruction_gate}
use Rattle.rv_inst.specs.Words.{sum_64}
use Rattle.rv_inst.specs.declared.effects.Effect.{Effect}
use Rattle.rv_inst.specs.declared.effects.Effect.TheVariants as effect
use Rattle.elf_load.specs.declared.image.ImagePage.{ImagePage}
use Rattle.hart_state.specs.State.{hart_after, outcome_on}
use Rattle.hart_state.specs.declared.hart.HartState.{HartState}
use Rattle.block_model.specs.Instruction.{next_effect}
use Rattle.process.specs.Harts.{file_of}
use Rattle.process.specs.declared.plain.PlainStep.{PlainStep}
use Rattle.process.specs.declared.plain.PlainStep.TheVariants as step

-- there is room on the hart for a store that begins to wait
abbrev pub Fits : PlainStep → HartState → Type 0
Fits (step.Value rd value pc) x = Unit {0}
Fits (step.Store w) x = (length x.buffer < STORE_BUFFER_CAPACITY) × IsAccessSize w.size

-- the hart after it
abbrev pub stepped : PlainStep → HartState → HartState
stepped (step.Value rd value pc) x = record x { file = with_register x.file rd value; pc = pc }
stepped (step.Store w) x = record x { pc = sum_64 x.pc 4; buffer = x.buffer ++ w ∷ [] }

-- an instruction with this effect, over these bytes, is no call; the stores that wait on the hart let it be executed, and it makes no
-- fault; it makes no store at once, and the hart is after this step as its outcome leaves it
pub record IsPlainStep (byte : ℕ → Option ℕ) (can_write : ℕ → Bool) (e : Effect) (x : HartState) (does : PlainStep) : Type 0 where
  pub no_call : is_call e ≡ false
  pub allowed : instruction_gate (length x.buffer) (Some e) false ≡ None
  pub no_fault : fault_in byte can_write e ≡ None
  pub fits : Fits does x
  pub hart : stepped does x ≡ hart_after x (outcome_on x byte e)
  pub none_made : (outcome_on x byte e).entered ≡ []

-- the step of an instruction that sets a register and the pc and does nothing else; none of another, and none where there is none
abbrev pub register_step : Option Effect → Option PlainStep
register_step None = None
register_step (Some (effect.Next rd value pc)) = Some (step.Value rd value pc)
register_step (Some (effect.Load at size is_signed rd)) = None
register_step (Some (effect.Store at size value)) = None
register_step (Some (effect.Amo op at size value rd)) = None
register_step (Some (effect.Lr at size rd)) = None
register_step (Some (effect.Sc at size value rd)) = None
register_step (Some (effect.Fence full)) = None
register_step (Some effect.FenceI) = None
register_step (Some effect.Call) = None
register_step (Some effect.Break) = None
register_step (Some effect.Misaligned) = None

-- whether a thread runs on a hart in this state that waits in no barrier, and its next instruction over this code sets a register and
-- the pc and does nothing else
abbrev pub goes_free : List ImagePage → HartState → Bool
goes_free code x = option_map_or sets_register (next_effect code (file_of x)) false && is_some x.running && not (is_some x.waits)
