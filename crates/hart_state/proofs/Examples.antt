-- Worked examples, proved by computation: what a hart with one waiting store sees and may do, and reservations.
use Rattle.std.proofs.Common.{◌≡◌, refl, true, false, [], ◌∷◌, List, Some, None}
use Rattle.hart_state.specs.State.{idle_hart, exec_refusal}
use Rattle.hart_state.specs.declared.hart.HartState.{HartState}
use Rattle.mach_types.specs.Registers.{no_registers}
use Rattle.mach_types.specs.declared.events.Why.TheVariants.{Idle, InBarrier, Waiting, FullBuffer}
use Rattle.mach_types.specs.declared.user_memory.Store.{Store}
use Rattle.rv_inst.specs.Execution.{seen_byte, fault_in, instruction_gate, lost_by, outcome}
use Rattle.rv_inst.specs.declared.effects.AmoOp.TheVariants as op
use Rattle.rv_inst.specs.declared.effects.Effect.TheVariants as effect

-- a word that waits at 0x1002
abbrev one_store : List Store
one_store = record { at = 0x1002; size = 4; value = 0x11223344 } ∷ []

-- its second byte is seen, and past its end memory
sees_its_store : seen_byte one_store (λ a. Some 7) 0x1003 ∷ seen_byte one_store (λ a. Some 7) 0x1006 ∷ [] ≡ Some 0x33 ∷ Some 7 ∷ []
sees_its_store = refl

-- a hart on which thread 1 runs, with that store waiting
abbrev busy_hart : HartState
busy_hart = record idle_hart { running = Some (record { 0 = 1 }); buffer = one_store }

-- a fence waits, a load doesn't, a load that faults does; a barrier comes before the store, and no thread before both
gates : exec_refusal busy_hart (Some (effect.Fence true)) false
    ∷ exec_refusal busy_hart (Some (effect.Load 0 8 false 1)) false
    ∷ exec_refusal busy_hart (Some (effect.Load 0 8 false 1)) true
    ∷ exec_refusal (record busy_hart { waits = Some 1 }) (Some (effect.Fence true)) false
    ∷ exec_refusal (record busy_hart { waits = Some 1; running = None }) (Some (effect.Fence true)) false
    ∷ [] ≡ Some Waiting ∷ None ∷ Some Waiting ∷ Some InBarrier ∷ Some Idle ∷ []
gates = refl

-- a ninth plain store finds the buffer full, but one that faults waits
full_buffer : instruction_gate 8 (Some (effect.Store 0 1 0)) false ∷ instruction_gate 8 (Some (effect.Store 0 1 0)) true ∷ [] ≡ Some FullBuffer ∷ Some Waiting ∷ []
full_buffer = refl

-- an AMO at 2 isn't aligned, whether the word can be written or not; one at 4 must be able to write
alignment_first : fault_in (λ a. None) (λ a. false) (effect.Amo op.Add 2 4 0 1) ∷ fault_in (λ a. None) (λ a. false) (effect.Amo op.Add 4 4 0 1) ∷ [] ≡ Some 7 ∷ Some 11 ∷ []
alignment_first = refl

-- a write of the byte before the reserved ones keeps the reservation, one of two bytes from there ends it
overlaps : lost_by 0x1007 1 (Some 0x1008) ∷ lost_by 0x1007 2 (Some 0x1008) ∷ lost_by 0x100f 1 (Some 0x1008) ∷ lost_by 0x1010 8 (Some 0x1008) ∷ [] ≡
    Some 0x1008 ∷ None ∷ None ∷ Some 0x1008 ∷ []
overlaps = refl

-- an SC of the upper word of reserved bytes writes it and ends the reservation; one elsewhere only ends it
reserved_word : (outcome (λ a. Some 0) no_registers 0 (Some 8) (effect.Sc 12 4 5 1)).entered ≡ record { at = 12; size = 4; value = 5 } ∷ []
reserved_word = refl

reserved_elsewhere : (outcome (λ a. Some 0) no_registers 0 (Some 8) (effect.Sc 16 4 5 1)).entered ≡ []
reserved_elsewhere = refl

ended : (outcome (λ a. Some 0) no_registers 0 (Some 8) (effect.Sc 16 4 5 1)).reserved ≡ None
ended = refl
