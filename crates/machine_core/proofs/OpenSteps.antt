-- A hart is open to its next instruction where a thread runs that waits in no barrier, and either no store of the hart waits and the
-- instruction is no call, or it sets a register and does nothing else: then it may be executed.
use Rattle.machine_core.proofs.Common.{◌≡◌, ℕ, ◌&&◌, length, sym, ap, ◌∙◌, refl, not, Bool, true, false, is_none, is_some, Option, Some, None, option_map, option_map_or, option_or, and_parts, false≢true, HartState, Here, Effect, runs, sets_register, thread, instruction_gate, is_held, effect_at, fault_at, others_gate, refusal_exec, refusal_exec_by, next_effect, waiting_here, file_of, file_on, hart_in}
use Rattle.std.specs.Prelude.{◌==◌, ◌||◌}
use Rattle.std.proofs.lemmas.Bool.{eqb-true, not-true}
use Rattle.rv_inst.specs.Class.{is_call}
use Rattle.machine_core.proofs.FreeSteps.{free_gates, gates}

-- whether so
abbrev pub is_open_by : Bool → Bool → ℕ → Option Effect → Bool
is_open_by running in_barrier waiting o =
    running && not in_barrier && (waiting == 0 && not (option_map_or is_call o false) || option_map_or sets_register o false)

-- one of two holds
one_of : (x y : Bool) (P : Type 0) → (x || y) ≡ true → (x ≡ true → P) → (y ≡ true → P) → P
one_of true y P is first second = first refl
one_of false y P is first second = second is

-- a call alone waits for other harts, and nothing waits for stores of which there are none
none_waits : (waiting : ℕ) (o : Option Effect) (faults held : Bool) → waiting ≡ 0 → option_map_or is_call o false ≡ false
    → option_or (instruction_gate waiting o faults) (others_gate held o) ≡ None
none_waits waiting o faults held none other = rw (none, other) refl

gates_open : (here : Here) (t : ℕ)
    → (length (waiting_here here) == 0 && not (option_map_or is_call (effect_at here t) false) || option_map_or sets_register (effect_at here t) false) ≡ true → gates here t ≡ None
gates_open here t is =
    let n = length (waiting_here here) in
    let call = option_map_or is_call (effect_at here t) false in
    one_of (n == 0 && not call) (option_map_or sets_register (effect_at here t) false) (gates here t ≡ None) is
    (λ drained.
    let parts = and_parts (n == 0) (not call) drained in
    none_waits n (effect_at here t) (is_some (fault_at here t)) (is_held here t) (eqb-true n 0 parts.0) (not-true call parts.1))
    (free_gates here t)

open_in : (here : Here) (o awaits : Option ℕ)
    → is_open_by (is_some (option_map thread o)) (is_some awaits) (length (waiting_here here)) (next_effect here.setting.program.pages (file_on here o)) ≡ true
    → awaits ≡ here.awaits → refusal_exec_by here o ≡ None
open_in here None awaits is same = absurd (false≢true is)
open_in here (Some t) (Some left) is same = absurd (false≢true is)
open_in here (Some t) None is same = rw (← same) (gates_open here t is)

-- told by the hart's state
pub open_may : (here : Here) (x : HartState) (n k credit : ℕ) → x ≡ hart_in here n k credit
    → is_open_by (is_some x.running) (is_some x.waits) (length x.buffer) (next_effect here.setting.program.pages (file_of x)) ≡ true
    → true ≡ is_none (refusal_exec here)
open_may here x n k credit is may =
    let told : is_open_by (is_some (option_map thread (runs here))) (is_some here.awaits) (length (waiting_here here)) (next_effect here.setting.program.pages (file_on here (runs here))) ≡ true =
    sym (ap (λ (y : HartState). is_open_by (is_some y.running) (is_some y.waits) (length y.buffer) (next_effect here.setting.program.pages (file_of y))) is) ∙ may in
    sym (ap is_none (open_in here (runs here) here.awaits told refl))
