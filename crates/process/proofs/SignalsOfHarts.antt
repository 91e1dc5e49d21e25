-- Signals at a place: they are kept of the thread on a hart, a fault's signal is one of 31, and which faults have handlers.
use Rattle.process.proofs.Common.{cond_both, live_in, ◌≡◌, ℕ, ◌≤◌, ◌<◌, sym, ap, ◌∙◌, arith, Bool, true, false, not, cond, eqb, ◌&&◌, ◌||◌, Option, Some, None, get_or, subst, ◌%◌, option_map, Entry, Effect, Hart, HartState, IsPlace, IsPlanned, IsTied, Next, Parts, Running, Stand, entry_from, here_at, runs, thread, Kind, Action, SIGSEGV, Signalling, action_of, is_handler, is_ignored, is_ignored_by_default, with_pending, fault_in, fault_by, fetched, is_storable, reached, running_is, SIGBUS, atomic_write, conditional_write, plain_read, plain_write, reserving_read, access_fault, is_allowed, unless_allowed, HasSignals}
use Rattle.sys_calls.proofs.ThreadSignals.{held_as_live}
use Rattle.mach_types.specs.Kernel.Signals.{is_held, posted}
use Rattle.rv_inst.specs.declared.class.Access.{Access}
use Rattle.rv_inst.specs.declared.effects.Effect.TheVariants as effect
use Rattle.block_model.specs.Instruction.{fetch_fault, next_effect}
use Rattle.block_model.specs.Standing.{IsStanding}
use Rattle.process.proofs.HartStates.{hart_there}
use Rattle.process.proofs.Places.{hart_is, thread_is}

-- THE THREAD ON A HART

-- a thread that runs on a hart of the machine is live, and so its signals are kept
pub held_where_run : (v : Stand) (m : Parts) (h t : ℕ) → IsStanding v → IsTied v.setting v.plain m → h < v.setting.limits.harts
    → runs (here_at v h) ≡ Some t → is_held t m.kernel.signals ≡ true
held_where_run v m h t stands tied lt at =
    let k = v.plain.kernel in
    let state = running_is v.setting.limits.harts h t k.threads k.scheduling stands.sound.tables at in
    ap (is_held t) tied.tables.signals ∙ held_as_live t k.threads k.signals stands.held.signals ∙ live_in t k.threads (Running (record { 0 = h })) state

pub held_at : (v : Stand) (m : Parts) (h t : ℕ) → IsPlace v m h → runs (here_at v h) ≡ Some t → is_held t m.kernel.signals ≡ true
held_at v m h t place at = held_where_run v m h t place.stands place.tied place.lt at

pub has_signals : (v : Stand) (m : Parts) (h : ℕ) → IsStanding v → IsTied v.setting v.plain m → h < v.setting.limits.harts → HasSignals m h
has_signals v m h stands tied lt x t at busy =
    let own = hart_there v.setting v.plain m h x tied lt at in
    held_where_run v m h t.0 stands tied lt (thread_is (runs (here_at v h)) t (sym busy ∙ ap (λ (y : HartState). y.running) own))

-- the thread that an entry of a hart's event names is the one that runs there
pub entry_runs : (v : Stand) (m : Parts) (h : Hart) (k : Kind) (t : ℕ) (x : HartState) (e : Entry) → IsPlace v m h.0 → runs (here_at v h.0) ≡ Some t → x ≡ get_or m.harts.items h.0 x
    → e ≡ entry_from h k x.running x.pc → e.tid.0 ≡ t
entry_runs v m h k t x e place at value is =
    let busy : x.running ≡ Some (thread t) = ap (λ (y : HartState). y.running) (hart_is v m h.0 x place value) ∙ ap (option_map thread) at in
    ap (λ (z : Entry). z.tid.0) (is ∙ ap (λ o. entry_from h k o x.pc) busy)

-- so signals are kept of it
pub held_named : (v : Stand) (m : Parts) (h : Hart) (k : Kind) (t : ℕ) (x : HartState) (e : Entry) → IsPlace v m h.0 → runs (here_at v h.0) ≡ Some t → x ≡ get_or m.harts.items h.0 x
    → e ≡ entry_from h k x.running x.pc → is_held e.tid.0 m.kernel.signals ≡ true
held_named v m h k t x e place at value is = ap (λ n. is_held n m.kernel.signals) (entry_runs v m h k t x e place at value is) ∙ held_at v m h.0 t place at

-- FAULTS

-- a signal, where there is one
abbrev pub IsSignal : Option ℕ → Type 0
IsSignal None = Unit {0}
IsSignal (Some s) = (1 ≤ s) × (s ≤ 31)

is_segv : IsSignal (Some SIGSEGV)
is_segv = (omega arith, omega arith)

is_bus : IsSignal (Some SIGBUS)
is_bus = (omega arith, omega arith)

of_access : (byte : ℕ → Option ℕ) (can_write : ℕ → Bool) (a : Access) → IsSignal (access_fault byte can_write a)
of_access byte can_write a =
    let allowed : IsSignal (unless_allowed (is_allowed byte can_write a)) = cond_both (is_allowed byte can_write a) None (Some SIGSEGV) IsSignal (λ _. tt) (λ _. is_segv) in
    cond_both a.must_align _ _ IsSignal (λ _. cond_both _ (unless_allowed (is_allowed byte can_write a)) (Some SIGBUS) IsSignal (λ _. allowed) (λ _. is_bus)) (λ _. allowed)

of_effect : (byte : ℕ → Option ℕ) (can_write : ℕ → Bool) (e : Effect) → IsSignal (fault_in byte can_write e)
of_effect byte can_write (effect.Load at size is_signed rd) = of_access byte can_write (plain_read at size)
of_effect byte can_write (effect.Store at size value) = of_access byte can_write (plain_write at size)
of_effect byte can_write (effect.Amo op at size value rd) = of_access byte can_write (atomic_write at size)
of_effect byte can_write (effect.Lr at size rd) = of_access byte can_write (reserving_read at size)
of_effect byte can_write (effect.Sc at size value rd) = of_access byte can_write (conditional_write at size)
of_effect byte can_write effect.Break = (omega arith, omega arith)
of_effect byte can_write effect.Misaligned = is_bus
of_effect byte can_write e = tt

of_fetch : (pc : ℕ) (word : Option ℕ) → IsSignal (Some (fetch_fault pc word))
of_fetch pc None = cond_both (eqb (pc % 4) 0) SIGSEGV SIGBUS (λ s. IsSignal (Some s)) (λ _. is_segv) (λ _. is_bus)
of_fetch pc (Some word) = (omega arith, omega arith)

of_next : (byte : ℕ → Option ℕ) (can_write : ℕ → Bool) (pc : ℕ) (word : Option ℕ) (o : Option Effect) → IsSignal (fault_by byte can_write pc word o)
of_next byte can_write pc word None = of_fetch pc word
of_next byte can_write pc word (Some e) = of_effect byte can_write e

-- the signal of a fault
pub planned_fault : (v : Stand) (h : ℕ) (next : Next) → IsPlanned v h next → IsSignal next.fault
planned_fault v h next plan =
    let f = (here_at v h).file plan.thread in
    subst IsSignal (sym plan.fault) (of_next (reached (here_at v h)) (is_storable (here_at v h)) f.pc (fetched v.setting.program.pages f.pc) (next_effect v.setting.program.pages f))
