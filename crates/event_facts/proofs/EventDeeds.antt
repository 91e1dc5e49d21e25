-- The deed that code finds of a plain event is what the event did.
use Rattle.std.proofs.Common.{◌≡◌, ℕ, List, [], ◌∷◌, refl, sym, ap, ◌∙◌, Bool, true, false, cond, Option, Some}
use Rattle.std.specs.Prelude.{IfSome}
use Rattle.mach_types.specs.Bytes.{all_stored}
use Rattle.mach_types.specs.declared.events.Choice.{Choice}
use Rattle.mach_types.specs.declared.registers.Regs.{Regs}
use Rattle.mach_types.specs.declared.user_memory.Store.{Store}
use Rattle.mach_types.specs.declared.user_memory.Write.TheVariants.{Stored}
use Rattle.rv_inst.specs.Execution.{Outcome, is_reserved, outcome, word_seen}
use Rattle.rv_inst.specs.Memory.{amo_result}
use Rattle.rv_inst.specs.declared.effects.Effect.{Effect}
use Rattle.rv_inst.specs.declared.effects.Effect.TheVariants as effect
use Rattle.block_model.specs.Events.{done_of}
use Rattle.block_model.specs.Here.{Done, Here, view_of_all}
use Rattle.event_facts.specs.Deeds.{IsDeedOf, combined_by, drained_in, store_made, entered_in, store_executed, executed_in, store}
use Rattle.event_facts.specs.Telling.{plain_event_of}
use Rattle.event_facts.specs.declared.deeds.Deed.{Deed}
use Rattle.event_facts.specs.declared.telling.PlainEvent.TheVariants.{Instruction, Drain}
use Rattle.event_facts.proofs.PlainKinds.{drain_done, drains, executes, instruction_done}

-- what an instruction executes, and what enters memory with it, are those of its outcome
no_store : (b : Bool) (x y : Outcome) → x.executed ≡ [] → y.executed ≡ [] → [] ≡ (cond b x y).executed
no_store true x y p q = sym p
no_store false x y p q = sym q

executed_as : (view : ℕ → Option ℕ) (regs : Regs) (pc : ℕ) (r : Option ℕ) (e : Effect) → store_executed e ≡ (outcome view regs pc r e).executed
executed_as view regs pc r (effect.Sc at size value rd) = no_store (is_reserved r at) _ _ refl refl
executed_as view regs pc r e = refl

made_if : (b : Bool) (x y : Outcome) (ws : List Store) → x.entered ≡ ws → y.entered ≡ [] → cond b ws [] ≡ (cond b x y).entered
made_if true x y ws p q = sym p
made_if false x y ws p q = sym q

entered_as : (view : ℕ → Option ℕ) (regs : Regs) (pc seen : ℕ) (r : Option ℕ) (e : Effect) → IfSome (combined_by e) (λ b. seen ≡ word_seen view b.at b.count)
    → store_made seen r e ≡ (outcome view regs pc r e).entered
entered_as view regs pc seen r (effect.Amo op at size value rd) reads = ap (λ n. store at size (amo_result op size n value) ∷ []) reads
entered_as view regs pc seen r (effect.Sc at size value rd) reads = made_if (is_reserved r at) _ _ (store at size value ∷ []) refl refl
entered_as view regs pc seen r e reads = refl

pub instruction_deed : (c : Choice) (here : Here) (e : Effect) (seen : ℕ) (r : Option ℕ) (x : Deed) → plain_event_of c here ≡ Some (Instruction e) → r ≡ here.reserved
    → IfSome (combined_by e) (λ b. seen ≡ word_seen (view_of_all here) b.at b.count) → executed_in x ≡ store_executed e → drained_in x ≡ 0
    → entered_in x ≡ all_stored (store_made seen r e) → IsDeedOf (done_of c here) x
instruction_deed c here e seen r x is same reads executed drained entered =
    let at = executes c here e is in
    let did = instruction_done c here e at in
    let f = here.file at.thread in
    record {
      executed = executed ∙ executed_as (view_of_all here) f.file f.pc here.reserved e ∙ sym (ap (λ (d : Done). d.executed) did);
      drained = drained ∙ sym (ap (λ (d : Done). d.drained) did);
      entered = entered ∙ ap (λ q. all_stored (store_made seen q e)) same
          ∙ ap all_stored (entered_as (view_of_all here) f.file f.pc seen here.reserved e reads)
          ∙ sym (ap (λ (d : Done). d.entered) did);
    }

pub drain_deed : (c : Choice) (here : Here) (w : Store) (x : Deed) → plain_event_of c here ≡ Some (Drain w) → executed_in x ≡ [] → drained_in x ≡ 1
    → entered_in x ≡ Stored w ∷ [] → IsDeedOf (done_of c here) x
drain_deed c here w x is executed drained entered =
    let did = drain_done c here w (drains c here w is) in
    record {
      executed = executed ∙ sym (ap (λ (d : Done). d.executed) did);
      drained = drained ∙ sym (ap (λ (d : Done). d.drained) did);
      entered = entered ∙ sym (ap (λ (d : Done). d.entered) did);
    }
