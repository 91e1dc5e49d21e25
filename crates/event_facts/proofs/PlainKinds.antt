-- The two kinds of plain event: what each of them does.
use Rattle.std.proofs.Common.{◌≡◌, ℕ, List, [], ◌∷◌, refl, sym, ap, ◌∙◌, Bool, true, false, cond, Option, Some, None}
use Rattle.std.specs.Option.{option_map}
use Rattle.std.specs.Prelude.{slice_get}
use Rattle.mach_types.specs.declared.events.Choice.{Choice}
use Rattle.mach_types.specs.declared.events.Choice.TheVariants as asked
use Rattle.mach_types.specs.declared.user_memory.Store.{Store}
use Rattle.mach_types.specs.declared.user_memory.Write.TheVariants.{Stored}
use Rattle.rv_inst.specs.declared.effects.Effect.{Effect}
use Rattle.block_model.specs.Events.{done_of}
use Rattle.block_model.specs.Events.Drain.{done_drain_of}
use Rattle.block_model.specs.Events.Exec.{next_effect, next_fault, outcome_of}
use Rattle.block_model.specs.Here.{Done, Here, nothing, runs, waiting_here}
use Rattle.block_model.specs.PlainEvents.{is_plain_exec_by, is_plain_exec_of}
use Rattle.block_model.specs.Sights.{effect_on}
use Rattle.block_model.proofs.Swaps.PlainDone.{as_done, plain_effect, plain_exec, plain_outcome}
use Rattle.block_model.proofs.Swaps.PlainEvents.{done_is_plain, plain_parts}
use Rattle.event_facts.specs.Facts.{executed_by}
use Rattle.event_facts.specs.Telling.{plain_event_of}
use Rattle.event_facts.specs.declared.telling.PlainEvent.TheVariants.{Instruction, Drain}

-- AN INSTRUCTION

-- thread t runs on the hart, and executes an instruction with this effect
pub record Executes (c : Choice) (here : Here) (e : Effect) : Type 0 where
  pub choice : c ≡ asked.Exec
  pub thread : ℕ
  pub on : runs here ≡ Some thread
  pub next : next_effect here thread ≡ Some e
  pub none : next_fault here thread ≡ None
  pub plain : is_plain_exec_by here (runs here) ≡ true
  pub by : executed_by c here ≡ Some e

same_effect : (e e' : Effect) → option_map Instruction (Some e') ≡ Some (Instruction e) → e' ≡ e
same_effect e e' is = cc

by_runs : (here : Here) (o : Option ℕ) (e : Effect) → runs here ≡ o → option_map Instruction (cond (is_plain_exec_by here o) (effect_on here o) None) ≡ Some (Instruction e)
    → Executes asked.Exec here e
by_runs here None e on is = absurd cc
by_runs here (Some t) e on is = go (is_plain_exec_of (next_fault here t) (next_effect here t)) refl is
  where
    go : (b : Bool) → is_plain_exec_of (next_fault here t) (next_effect here t) ≡ b → option_map Instruction (cond b (next_effect here t) None) ≡ Some (Instruction e)
        → Executes asked.Exec here e
    go false plain is = absurd cc
    go true plain is =
        let parts = plain_parts (next_fault here t) (next_effect here t) plain in
        let same : parts.effect ≡ e = same_effect e parts.effect (sym (ap (option_map Instruction) parts.is) ∙ is) in
        let next : next_effect here t ≡ Some e = parts.is ∙ ap Some same in
        let plain_there : is_plain_exec_by here (runs here) ≡ true = ap (is_plain_exec_by here) on ∙ plain in
        record {
          choice = refl;
          thread = t;
          on = on;
          next = next;
          none = parts.none;
          plain = plain_there;
          by = ap (λ b. cond b (effect_on here (runs here)) None) plain_there ∙ ap (effect_on here) on ∙ next;
        }

pub executes : (c : Choice) (here : Here) (e : Effect) → plain_event_of c here ≡ Some (Instruction e) → Executes c here e
executes asked.Exec here e is = by_runs here (runs here) e refl is
executes asked.Drain here e is = no_drain (slice_get (waiting_here here) 0) is
  where
    no_drain : (o : Option Store) → option_map Drain o ≡ Some (Instruction e) → Executes asked.Drain here e
    no_drain None is = absurd cc
    no_drain (Some w) is = absurd cc
executes c here e is = absurd cc

-- and does this
pub instruction_done : (c : Choice) (here : Here) (e : Effect) (x : Executes c here e) → done_of c here ≡ as_done here.kernel (plain_outcome x.thread (outcome_of here x.thread e))
instruction_done c here e x =
    ap (λ k. done_of k here) x.choice
    ∙ done_is_plain asked.Exec here x.plain
    ∙ ap (λ o. as_done here.kernel (plain_exec here o)) x.on
    ∙ ap (λ o. as_done here.kernel (plain_effect here x.thread o)) x.next

-- A STORE THAT ENTERS MEMORY

-- it is the oldest that waits
pub record Drains (c : Choice) (here : Here) (w : Store) : Type 0 where
  pub choice : c ≡ asked.Drain
  pub oldest : slice_get (waiting_here here) 0 ≡ Some w
  pub by : executed_by c here ≡ None

same_store : (o : Option Store) (w : Store) → option_map Drain o ≡ Some (Drain w) → o ≡ Some w
same_store None w is = absurd cc
same_store (Some v) w is = cc

pub drains : (c : Choice) (here : Here) (w : Store) → plain_event_of c here ≡ Some (Drain w) → Drains c here w
drains asked.Exec here w is = no_instruction (executed_by asked.Exec here) is
  where
    no_instruction : (o : Option Effect) → option_map Instruction o ≡ Some (Drain w) → Drains asked.Exec here w
    no_instruction None is = absurd cc
    no_instruction (Some e) is = absurd cc
drains asked.Drain here w is = record { choice = refl; oldest = same_store (slice_get (waiting_here here) 0) w is; by = refl }
drains c here w is = absurd cc

-- what is done as this store enters memory
abbrev pub drained : Here → Store → Done
drained here w = record (nothing here) { drained = 1; entered = Stored w ∷ [] }

of_oldest : (here : Here) (ws : List Store) (w : Store) → slice_get ws 0 ≡ Some w → done_drain_of here ws ≡ drained here w
of_oldest here [] w is = absurd cc
of_oldest here (v ∷ ws) w is = let same : v ≡ w = cc in ap (drained here) same

pub drain_done : (c : Choice) (here : Here) (w : Store) (x : Drains c here w) → done_of c here ≡ drained here w
drain_done c here w x = ap (λ k. done_of k here) x.choice ∙ of_oldest here (waiting_here here) w x.oldest
