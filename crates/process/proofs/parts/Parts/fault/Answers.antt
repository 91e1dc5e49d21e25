use Rattle.process.proofs.Common.{◌+◌, ◌≡◌, ◌≤◌, true, false, not, arith, refl, sym, ap, ◌∙◌, ℕ, ◌/◌, Option, Some, HartState, Parts, Effect, IsPlace, next_effect, runs, file_on, counted, here_at, has_handler, signalled, holds_signals, has_handler_in}
use Rattle.mach_types.specs.Kernel.Pages.{permission_at}
use Rattle.mach_types.specs.Kernel.Signals.{is_held, with_fault}
use Rattle.mach_types.specs.declared.signal_words.Fault.{Fault}
use Rattle.block_model.specs.Events.Exec.{fault_told}
use Rattle.block_model.specs.Instruction.{told_by}
use Rattle.block_model.specs.Stands.{Stand}
use Rattle.page_map.specs.Map.{permission_in}
use Rattle.process.specs.Harts.{credit_of, hart_at}
use Rattle.mach_types.specs.declared.signals.TheConstants.{LAST_SIGNAL}
use Rattle.mach_types.specs.declared.events.Choice.TheVariants as asked
use Rattle.mach_types.specs.declared.events.Kind.TheVariants as kind
use Rattle.process.proofs.Entries.{killed_as, uncounted_as}
use Rattle.process.proofs.Events.{none_beside}
use Rattle.process.proofs.ExecEvent.{done_killing, done_pending, fault_killing, fault_pending}
use Rattle.process.proofs.HartEvents.{killing_own, pending_own}
use Rattle.process.proofs.Places.{goes_on, hart_is, ran_fits, was_not_stuck}
use Rattle.process.proofs.SignalsOfHarts.{entry_runs, held_named, planned_fault}
use Rattle.process.proofs.parts.Parts.fault.Goals.{After-entry_of-entry}
use Rattle.process.proofs.parts.Parts.fault.Goals as goal

pub overflow_add-state : goal.overflow_add-state
overflow_add-state c = let plan = c.requires in let few = ran_fits plan.stand c.args.self.now c.args.hart.0 c.index_mut-state.result.now plan.place c.index_mut-state.ensures.value in omega (arith, few)

-- the thread has signals, and this is one
named : (c : After-entry_of-entry) → (is_held c.entry_of-entry.result.tid.0 c.args.self.now.kernel.signals ≡ true) × (1 ≤ c.args.signal) × (c.args.signal ≤ LAST_SIGNAL)
named c =
    let plan = c.requires in
    let signal = planned_fault plan.stand c.args.hart.0 _ plan.plan in
    (held_named plan.stand c.args.self.now c.args.hart kind.Exec plan.plan.thread c.index_mut-state.result.now c.entry_of-entry.result plan.place plan.plan.at c.index_mut-state.ensures.value c.entry_of-entry.ensures, signal.0, signal.1)

pub has_handler-requires : goal.has_handler-requires
has_handler-requires c = let is = named (goal.at.has_handler-requires c).After-entry_of-entry in record { held = is.0; lowest = is.1; highest = is.2 }

pub post_fault-requires : goal.post_fault-requires
post_fault-requires c = let is = named (goal.at.post_fault-requires c).After-entry_of-entry in let signal = ap (λ (f : Fault). f.signal) c.told_by-fault.ensures in
    record { held = is.0; lowest = omega (arith, is.1, signal); highest = omega (arith, is.2, signal) }

-- what the fault says here
told_here : (v : Stand) (m : Parts) (h t s : ℕ) (x : HartState) (effect : Option Effect) → IsPlace v m h → x ≡ hart_at v.setting v.plain h (credit_of m.harts.items h)
    → runs (here_at v h) ≡ Some t → effect ≡ next_effect (here_at v h) t
    → told_by (λ a. permission_in m.pages (a / 4096)) x.pc effect s ≡ fault_told (here_at v h) t s
told_here v m h t s x effect place is at its =
    let pages : (λ (a : ℕ). permission_in m.pages (a / 4096)) ≡ permission_at v.plain.kernel.pages = λ i a. place.tied.pages.permissions (a / 4096) i in
    let pc : x.pc ≡ ((here_at v h).file t).pc = ap (λ (y : HartState). y.pc) is ∙ ap (λ (o : Option ℕ). (file_on (here_at v h) o).pc) at in
    ap (λ (permission : ℕ → Option ℕ). told_by permission x.pc effect s) pages
    ∙ ap (λ n. told_by (permission_at v.plain.kernel.pages) n effect s) pc
    ∙ ap (λ o. told_by (permission_at v.plain.kernel.pages) ((here_at v h).file t).pc o s) its

pub returns-then-has_handler : goal.returns-then-has_handler
returns-then-has_handler c v place plan =
    let h = c.args.hart.0 in
    let m = c.args.self.now in
    let x = c.index_mut-state.result.now in
    let s = c.args.signal in
    let z : HartState = record x { ran = x.ran + 1 } in
    let t = plan.thread in
    let here = here_at v h in
    let e = c.entry_of-entry.result in
    let its = entry_runs v m c.args.hart kind.Exec t x e place plan.at c.index_mut-state.ensures.value c.entry_of-entry.ensures in
    let has : has_handler_in e.tid.0 s m.kernel.signals ≡ true = sym c.has_handler.ensures ∙ c.if-has_handler.true in
    let has_here : has_handler here t s ≡ true =
    sym (ap (λ n. has_handler_in n s m.kernel.signals) its ∙ ap (has_handler_in t s) place.tied.tables.signals) ∙ has in
    uncounted_as v h asked.Exec (fault_pending here t s) m _ z place plan.free (done_pending here t s plan.at (sym plan.fault) has_here) (record {
      own = pending_own _ v.setting v.plain h t s x (counted z) (hart_is v m h x place c.index_mut-state.ensures.value) refl;
      harts = none_beside h (fault_pending here t s) _ (record { none_begun = refl; none_taken = refl }) refl;
      pages = place.tied.pages;
      readable = place.tied.readable;
      tables = holds_signals place.tied.tables c.post_fault.new.self (with_fault t (fault_told here t s) v.plain.kernel.signals)
          (c.post_fault.ensures ∙ ap (λ n. with_fault n c.told_by-fault.result m.kernel.signals) its
          ∙ ap (λ (f : Fault). with_fault t f m.kernel.signals) (c.told_by-fault.ensures ∙ ap (λ o. told_by (λ a. permission_in m.pages (a / 4096)) x.pc o s) c.as_ref.ensures.value
          ∙ told_here v m h t s x c.args.effect place (hart_is v m h x place c.index_mut-state.ensures.value) plan.at plan.effect)
          ∙ ap (with_fault t (fault_told here t s)) place.tied.tables.signals);
      ids = λ k u ne runs. refl;
      table = place.tied.table;
      saved = place.tied.saved;
      ended = goes_on v m h (signalled (with_fault t (fault_told here t s) v.plain.kernel.signals) v.plain.kernel) place (was_not_stuck v m h place);
    })

pub returns-else-has_handler : goal.returns-else-has_handler
returns-else-has_handler c v place plan =
    let m = c.args.self.now in
    let x = c.index_mut-state.result.now in
    let s = c.args.signal in
    let here = here_at v c.args.hart.0 in
    let its = entry_runs v m c.args.hart kind.Exec plan.thread x c.entry_of-entry.result place plan.at c.index_mut-state.ensures.value c.entry_of-entry.ensures in
    let lacks_here : has_handler here plan.thread s ≡ false =
    sym (c.has_handler.ensures ∙ ap (λ n. has_handler_in n s m.kernel.signals) its ∙ ap (has_handler_in plan.thread s) place.tied.tables.signals) ∙ c.if-has_handler.false in
    let z : HartState = record x { ran = x.ran + 1 } in
    killed_as v c.args.hart.0 asked.Exec (fault_killing here s) m _ z place plan.free (done_killing here plan.thread s plan.at (sym plan.fault) lacks_here)
    (record { none_begun = refl; none_taken = refl }) refl refl refl refl refl
    (killing_own _ v.setting v.plain c.args.hart.0 s x (counted z) (hart_is v m c.args.hart.0 x place c.index_mut-state.ensures.value) refl)
