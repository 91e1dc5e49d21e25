-- What a scheduler sees of a hart, told by the hart's state.
use Rattle.machine_core.proofs.Common.{◌≡◌, ℕ, ◌&&◌, List, sym, ap, ◌∙◌, refl, not, Bool, true, false, cond, is_none, is_some, Option, Some, None, option_and_then, option_map, option_map_or, HartState, Here, ImagePage, Saved, runs, sets_register, Tid, is_storable, reached, fault_by, fetched, next_effect, effect_here, effect_on, fault_here, fault_on, is_deliverable_on, is_local_on, thread, file_of, file_on, hart_in, instruction_of, next_fault, next_instruction, arith}
use Rattle.mach_types.specs.Kernel.Signals.{next_for}
use Rattle.rv_inst.proofs.Laws.{local-rows}
use Rattle.rv_inst.specs.Local.{is_register_only}
use Rattle.rv_inst.specs.Meaning.{meaning}
use Rattle.rv_inst.specs.declared.instruction.Inst.{Inst}
use Rattle.process.specs.Delivering.{next_on}

-- the effect that is read from the file of a hart with a thread, and its fault; an idle hart has none
thread_effect : (here : Here) (o : Option ℕ) (idle : Bool) → idle ≡ not (is_some (option_map thread o)) → cond idle None (next_effect here.setting.program.pages (file_on here o)) ≡ effect_on here o
thread_effect here None idle is = rw is refl
thread_effect here (Some t) idle is = rw is refl

pub effect_read : (here : Here) (x : HartState) (n k credit : ℕ) (idle : Bool) → x ≡ hart_in here n k credit → idle ≡ not (is_some x.running)
    → cond idle None (next_effect here.setting.program.pages (file_of x)) ≡ effect_here here
effect_read here x n k credit idle own is =
    ap (λ (y : HartState). cond idle None (next_effect here.setting.program.pages (file_of y))) own
    ∙ thread_effect here (runs here) idle (is ∙ ap (λ (y : HartState). not (is_some y.running)) own)

thread_fault : (here : Here) (o : Option ℕ) (idle : Bool) → idle ≡ not (is_some (option_map thread o))
    → cond idle None (next_fault here.setting.program.pages (reached here) (is_storable here) (file_on here o)) ≡ fault_on here o
thread_fault here None idle is = rw is refl
thread_fault here (Some t) idle is = rw is refl

pub fault_read : (here : Here) (x : HartState) (n k credit : ℕ) (byte : ℕ → Option ℕ) (can_write : ℕ → Bool) (idle : Bool) → x ≡ hart_in here n k credit
    → byte ≡ reached here → can_write ≡ is_storable here → idle ≡ not (is_some x.running) → cond idle None (next_fault here.setting.program.pages byte can_write (file_of x)) ≡ fault_here here
fault_read here x n k credit byte can_write idle own bytes writable is =
    (λ i. cond idle None (next_fault here.setting.program.pages (bytes i) (writable i) (file_of (own i))))
    ∙ thread_fault here (runs here) idle (is ∙ ap (λ (y : HartState). not (is_some y.running)) own)

-- a hart is idle where no thread runs on it
idle_by : (o : Option ℕ) → not (is_some (option_map thread o)) ≡ is_none o
idle_by None = refl
idle_by (Some t) = refl

pub idle_read : (here : Here) (x : HartState) (n k credit : ℕ) → x ≡ hart_in here n k credit → not (is_some x.running) ≡ is_none (runs here)
idle_read here x n k credit is = ap (λ (y : HartState). not (is_some y.running)) is ∙ idle_by (runs here)

-- an instruction touches registers alone, and has no fault, where its effect sets a register and does no more
row_local : (byte : ℕ → Option ℕ) (writable : ℕ → Bool) (word : Option ℕ) (f : Saved) (o : Option Inst) →
    option_map_or sets_register (option_map (λ i. meaning i f.file f.pc) o) false ≡ (option_map_or is_register_only o false && is_none (fault_by byte writable f.pc word (option_map (λ i. meaning i f.file f.pc) o)))
row_local byte writable word f None = refl
row_local byte writable word f (Some i) = sym (local-rows i f.file f.pc byte writable)

pub next_local : (byte : ℕ → Option ℕ) (writable : ℕ → Bool) (pages : List ImagePage) (f : Saved) →
    option_map_or sets_register (next_effect pages f) false ≡ (option_map_or is_register_only (next_instruction pages f) false && is_none (next_fault pages byte writable f))
next_local byte writable pages f = row_local byte writable (fetched pages f.pc) f (instruction_of (fetched pages f.pc))

local_by : (here : Here) (o : Option ℕ) → (is_some (option_map thread o) && option_map_or sets_register (next_effect here.setting.program.pages (file_on here o)) false) ≡ is_local_on here o
local_by here None = refl
local_by here (Some t) = next_local (reached here) (is_storable here) here.setting.program.pages (here.file t)

pub local_read : (here : Here) (x : HartState) (n k credit : ℕ) → x ≡ hart_in here n k credit → (is_some x.running && option_map_or sets_register (next_effect here.setting.program.pages (file_of x)) false) ≡ is_local_on here (runs here)
local_read here x n k credit is = ap (λ (y : HartState). is_some y.running && option_map_or sets_register (next_effect here.setting.program.pages (file_of y)) false) is ∙ local_by here (runs here)

-- a test that is made on a hart with a thread alone
pub tested : (busy idle answer test : Bool) → idle ≡ not busy → idle ≡ false → answer ≡ test → answer ≡ (busy && test)
tested busy idle answer test is off same = grind arith

pub untested : (busy idle answer test : Bool) → idle ≡ not busy → idle ≡ true → answer ≡ not idle → answer ≡ (busy && test)
untested busy idle answer test is on same = grind arith

pub none_is : {X : Type 0} (o : Option X) (b : Bool) → is_some o ≡ not b → b ≡ is_none o
none_is None true e = refl
none_is None false e = cc
none_is (Some x) true e = cc
none_is (Some x) false e = refl

-- a thread is known by its number
pub numbered : (o : Option Tid) → o ≡ option_map thread (option_map (λ (t : Tid). t.0) o)
numbered None = refl
numbered (Some t) = refl

-- whether a signal can be delivered to the thread on a hart
some_next : (here : Here) (o : Option ℕ) → is_some (option_and_then (λ t. next_for t here.kernel.signals) o) ≡ is_deliverable_on here o
some_next here None = refl
some_next here (Some t) = refl

pub deliverable_read : (here : Here) (o : Option ℕ) (b : Bool) → b ≡ is_some o → o ≡ next_on here → b ≡ is_deliverable_on here (runs here)
deliverable_read here o b some is = some ∙ ap is_some is ∙ some_next here (runs here)
