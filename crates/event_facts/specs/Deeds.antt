-- What a plain event does to stores and to memory, as code keeps it.
use Rattle.std.specs.Prelude.{ℕ, ◌≡◌, List, [], ◌∷◌, if◌then◌else◌, Option, Some, None}
use Rattle.std.specs.Option.{option_map, option_to_list}
use Rattle.mach_types.specs.Bytes.{all_stored}
use Rattle.mach_types.specs.declared.user_memory.Store.{Store}
use Rattle.mach_types.specs.declared.user_memory.Write.{Write}
use Rattle.rv_inst.specs.Accesses.{Bytes, bytes}
use Rattle.rv_inst.specs.Execution.{is_reserved}
use Rattle.rv_inst.specs.Memory.{amo_result}
use Rattle.rv_inst.specs.declared.effects.Effect.{Effect}
use Rattle.rv_inst.specs.declared.effects.Effect.TheVariants as effect
use Rattle.block_model.specs.Here.{Done}
use Rattle.event_facts.specs.declared.deeds.Deed.{Deed}
use Rattle.event_facts.specs.declared.deeds.Range.{Range}

-- the store that it executed; how many waiting stores entered memory; and the writes that entered
abbrev pub executed_in : Deed → List Store
executed_in x = option_to_list x.executed

abbrev pub drained_in : Deed → ℕ
drained_in x = if x.drained then 1 else 0

abbrev pub entered_in : Deed → List Write
entered_in x = all_stored (option_to_list x.entered)

-- it is what an event did
pub record IsDeedOf (d : Done) (x : Deed) : Type 0 where
  pub executed : executed_in x ≡ d.executed
  pub drained : drained_in x ≡ d.drained
  pub entered : entered_in x ≡ d.entered

-- bytes that are read, if any are
abbrev pub bytes_of_range : Range → Bytes
bytes_of_range x = bytes x.at x.size

abbrev pub bytes_of_read : Option Range → Option Bytes
bytes_of_read o = option_map bytes_of_range o

-- a store of so many bytes
abbrev pub store : ℕ → ℕ → ℕ → Store
store at size value = record { at = at; size = size; value = value }

-- the plain store that an instruction with this effect executes
abbrev pub store_executed : Effect → List Store
store_executed (effect.Next rd value to) = []
store_executed (effect.Load at size is_signed rd) = []
store_executed (effect.Store at size value) = store at size value ∷ []
store_executed (effect.Amo op at size value rd) = []
store_executed (effect.Lr at size rd) = []
store_executed (effect.Sc at size value rd) = []
store_executed (effect.Fence full) = []
store_executed effect.FenceI = []
store_executed effect.Call = []
store_executed effect.Break = []
store_executed effect.Misaligned = []

-- the bytes whose number it makes into the one that it stores: an AMO does (RISC-V Unprivileged ISA, chapter "A")
abbrev pub combined_by : Effect → Option Bytes
combined_by (effect.Next rd value to) = None
combined_by (effect.Load at size is_signed rd) = None
combined_by (effect.Store at size value) = None
combined_by (effect.Amo op at size value rd) = Some (bytes at size)
combined_by (effect.Lr at size rd) = None
combined_by (effect.Sc at size value rd) = None
combined_by (effect.Fence full) = None
combined_by effect.FenceI = None
combined_by effect.Call = None
combined_by effect.Break = None
combined_by effect.Misaligned = None

-- and the store that enters memory with it at once, where this is the number that it reads and its hart has this reserved
abbrev pub store_made : ℕ → Option ℕ → Effect → List Store
store_made seen reserved (effect.Next rd value to) = []
store_made seen reserved (effect.Load at size is_signed rd) = []
store_made seen reserved (effect.Store at size value) = []
store_made seen reserved (effect.Amo op at size value rd) = store at size (amo_result op size seen value) ∷ []
store_made seen reserved (effect.Lr at size rd) = []
store_made seen reserved (effect.Sc at size value rd) = if is_reserved reserved at then store at size value ∷ [] else []
store_made seen reserved (effect.Fence full) = []
store_made seen reserved effect.FenceI = []
store_made seen reserved effect.Call = []
store_made seen reserved effect.Break = []
store_made seen reserved effect.Misaligned = []
