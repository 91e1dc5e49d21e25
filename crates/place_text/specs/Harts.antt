-- The lines of a hart: the thread that runs there with its registers, or that none does; the stores that wait, the reservation and the
-- requests of barriers, of each hart; and where a thread runs there, its barrier and the restartable sequence that it names.
use Rattle.std.specs.Prelude.{ℕ, ◌==◌, Bool, List, [], ◌∷◌, ◌++◌, if◌then◌else◌, Option, Some, None, codes}
use Rattle.std.specs.Fmt.{decimal}
use Rattle.std.specs.List.{flat_map}
use Rattle.mach_types.specs.declared.user_memory.Store.{Store}
use Rattle.block_model.specs.Here.{Here, runs, waiting_here}
use Rattle.block_model.specs.Ids.{id_of}
use Rattle.block_model.specs.Sequences.{area_here, named_here}
use Rattle.place_text.specs.Fields.{hart_line, harts_fields, value_or_none, value_text, yes_or_no}
use Rattle.place_text.specs.Registers.{register_lines}
use Rattle.place_text.specs.Sequences.{area_line, names_line}

-- `hart H thread T pc PC id I`: the thread that runs there, its pc and its concurrency id
abbrev pub thread_line : ℕ → ℕ → ℕ → ℕ → List ℕ
thread_line h t pc id =
    hart_line h (codes "thread" ∷ decimal t ∷ codes "pc" ∷ value_text pc ∷ codes "id" ∷ decimal id ∷ [])

-- `hart H store AT SIZE VALUE` for each store that waits, the oldest first, whether or not a thread runs there
abbrev pub store_line : ℕ → Store → List ℕ
store_line h s = hart_line h (codes "store" ∷ value_text s.at ∷ decimal s.size ∷ value_text s.value ∷ [])

unfoldable pub store_lines : ℕ → List Store → List ℕ
store_lines h stores = flat_map (store_line h) stores

-- `hart H reservation AT`, or `none`
abbrev pub reservation_line : ℕ → Option ℕ → List ℕ
reservation_line h reserved = hart_line h (codes "reservation" ∷ value_or_none reserved ∷ [])

-- `hart H requests LIST`: the harts whose barriers' requests are pending there
abbrev pub requests_line : ℕ → ℕ → List ℕ
requests_line h set = hart_line h (codes "requests" ∷ harts_fields set)

-- `hart H restart yes`, or `no`: whether one of them asks for a restart
abbrev pub restart_line : ℕ → Bool → List ℕ
restart_line h restart = hart_line h (codes "restart" ∷ yes_or_no restart ∷ [])

-- what else is kept whether or not a thread runs there
unfoldable pub kept_lines : ℕ → Option ℕ → ℕ → Bool → List ℕ
kept_lines h reserved requests restart = reservation_line h reserved ++ requests_line h requests ++ restart_line h restart

-- `hart H barrier none`, or `waits LIST`: the harts that the barrier of its thread waits for; or `returns`, where all have taken
abbrev pub barrier_fields : Option ℕ → List (List ℕ)
barrier_fields None = codes "none" ∷ []
barrier_fields (Some set) = if set == 0 then codes "returns" ∷ [] else codes "waits" ∷ harts_fields set

unfoldable pub barrier_line : ℕ → Option ℕ → List ℕ
barrier_line h awaits = hart_line h (codes "barrier" ∷ barrier_fields awaits)

-- `hart H idle`
abbrev pub idle_line : ℕ → List ℕ
idle_line h = hart_line h (codes "idle" ∷ [])

-- what is kept of the hart that is asked
abbrev pub kept_here : Here → List ℕ
kept_here here = kept_lines here.hart here.reserved here.requests here.restart

-- the lines of a hart on which thread t runs, and of one on which none runs: whatever stores wait there are shown in both
unfoldable pub running_text : Here → ℕ → List ℕ
running_text here t =
    thread_line here.hart t (here.file t).pc (id_of t here.kernel.ids)
    ++ register_lines here.hart (here.file t).file
    ++ store_lines here.hart (waiting_here here)
    ++ kept_here here
    ++ barrier_line here.hart here.awaits
    ++ area_line here.hart (area_here here t)
    ++ names_line here.hart (named_here here t) (here.file t).pc

unfoldable pub idle_text : Here → List ℕ
idle_text here = idle_line here.hart ++ store_lines here.hart (waiting_here here) ++ kept_here here

abbrev pub hart_text_of : Here → Option ℕ → List ℕ
hart_text_of here None = idle_text here
hart_text_of here (Some t) = running_text here t

-- the lines of the hart that is asked
unfoldable pub hart_text : Here → List ℕ
hart_text here = hart_text_of here (runs here)
