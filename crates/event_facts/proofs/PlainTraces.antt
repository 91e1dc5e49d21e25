-- A plain event is no fault and no call, has nothing to do with requests of barriers, interrupts no thread, ends no process, and
-- leaves the kernel's record as it was.
use Rattle.std.proofs.Common.{◌≡◌, ℕ, [], ap, ◌∙◌, refl, Option, Some, None}
use Rattle.std.specs.Option.{option_map, option_to_list}
use Rattle.mach_types.specs.Kernel.Signals.{Signalling}
use Rattle.mach_types.specs.declared.events.Choice.{Choice}
use Rattle.block_model.specs.Events.Exec.{next_effect}
use Rattle.block_model.specs.Events.{done_of}
use Rattle.block_model.specs.Here.{Done, Here}
use Rattle.block_model.specs.Sights.{effect_on, fault_on}
use Rattle.process.specs.Harts.{file_on}
use Rattle.event_facts.specs.Areas.{area_facts}
use Rattle.event_facts.specs.Faults.{fault_facts, fault_of, fault_told}
use Rattle.event_facts.specs.Pending.{delivered_by}
use Rattle.event_facts.specs.Requests.{request_facts}
use Rattle.event_facts.specs.Telling.{plain_event_of}
use Rattle.event_facts.specs.declared.areas.AreaBefore.{AreaBefore}
use Rattle.event_facts.specs.declared.telling.PlainEvent.{PlainEvent}
use Rattle.event_facts.specs.declared.telling.PlainEvent.TheVariants.{Instruction, Drain}
use Rattle.event_facts.proofs.PlainKinds.{drain_done, drains, executes, instruction_done}

-- the fault of the thread on a hart, by what a machine shows of it
pub fault_there : (here : Here) (o : Option ℕ) → fault_of here o ≡ option_map (fault_told (effect_on here o) (file_on here o).pc) (fault_on here o)
fault_there here None = refl
fault_there here (Some t) = refl

pub no_plain_fault : (c : Choice) (here : Here) (p : PlainEvent) → plain_event_of c here ≡ Some p → fault_facts c here ≡ []
no_plain_fault c here (Instruction e) is =
    let x = executes c here e is in
    ap (λ k. fault_facts k here) x.choice
    ∙ ap (λ o. option_to_list (fault_of here o)) x.on
    ∙ ap (λ o. option_to_list (option_map (fault_told (next_effect here x.thread) (here.file x.thread).pc) o)) x.none
no_plain_fault c here (Drain w) is = ap (λ k. fault_facts k here) (drains c here w is).choice

pub no_plain_request : (c : Choice) (here : Here) (p : PlainEvent) → plain_event_of c here ≡ Some p → request_facts c here ≡ []
no_plain_request c here (Instruction e) is = ap (λ k. request_facts k here) (executes c here e is).choice
no_plain_request c here (Drain w) is = ap (λ k. request_facts k here) (drains c here w is).choice

pub same_kernel : (c : Choice) (here : Here) (p : PlainEvent) → plain_event_of c here ≡ Some p → (done_of c here).kernel ≡ here.kernel
same_kernel c here (Instruction e) is = ap (λ (d : Done). d.kernel) (instruction_done c here e (executes c here e is))
same_kernel c here (Drain w) is = ap (λ (d : Done). d.kernel) (drain_done c here w (drains c here w is))

pub none_interrupted : (c : Choice) (here : Here) (p : PlainEvent) → plain_event_of c here ≡ Some p → (done_of c here).interrupted ≡ None
none_interrupted c here (Instruction e) is = ap (λ (d : Done). d.interrupted) (instruction_done c here e (executes c here e is))
none_interrupted c here (Drain w) is = ap (λ (d : Done). d.interrupted) (drain_done c here w (drains c here w is))

pub none_ended : (c : Choice) (here : Here) (p : PlainEvent) → plain_event_of c here ≡ Some p → (done_of c here).ended ≡ None
none_ended c here (Instruction e) is = ap (λ (d : Done). d.ended) (instruction_done c here e (executes c here e is))
none_ended c here (Drain w) is = ap (λ (d : Done). d.ended) (drain_done c here w (drains c here w is))

-- the kernel writes nothing in it
pub none_of_kernel : (c : Choice) (here : Here) (p : PlainEvent) → plain_event_of c here ≡ Some p → (before : Option AreaBefore) (after : Here) (t : ℕ)
    → area_facts c None before after t ≡ []
none_of_kernel c here (Instruction e) is before after t = ap (λ k. area_facts k None before after t) (executes c here e is).choice
none_of_kernel c here (Drain w) is before after t = ap (λ k. area_facts k None before after t) (drains c here w is).choice

-- it delivers no signal
pub none_delivered : (c : Choice) (here : Here) (p : PlainEvent) (t : ℕ) (g : Signalling) → plain_event_of c here ≡ Some p → delivered_by c t g ≡ None
none_delivered c here (Instruction e) t g is = ap (λ k. delivered_by k t g) (executes c here e is).choice
none_delivered c here (Drain w) t g is = ap (λ k. delivered_by k t g) (drains c here w is).choice
