-- A place of the log at which a choice is allowed: the parts may make its event.
use Rattle.machine_core.proofs.Common.{◌≡◌, ℕ, ◌<◌, length, refl, sym, ap, ◌∙◌, arith, Option, None, Some, Ok, inl, Choice, Entry, Hart, Here, Inside, IsAfter, IsMachine, Parts, done_of, entry_in, here_in_history, here_of, past_of, runs, seen, setting_of, decide, refusal_of, effect_here, effect_on, fault_here, fault_on, stand_of, length-history, same_here, IsPlanned, answered, here_at, allowed_at, MayMake}
use Rattle.mach_types.specs.declared.events.Choice.TheVariants as asked
use Rattle.rv_inst.specs.declared.effects.Effect.TheVariants as effect
use Rattle.block_model.specs.Events.Exec.{next_effect, next_fault}
use Rattle.process.specs.declared.next.Next.{Next}
use Rattle.machine_core.proofs.Readings.{over_read}
use Rattle.machine_core.proofs.MachineSteps.{IsLogPlace, IsStep, place_of, stepped}

pub record IsAllowedPlace (m : Inside) (h : ℕ) (c : Choice) : Type 0 where
  pub place : IsLogPlace (seen m) m.parts h
  pub free : refusal_of c (here_at (stand_of (seen m)) h) ≡ None
  pub goes : m.parts.ended ≡ None
  pub room : length m.log.items < m.limits.steps
  pub lt : h < m.limits.harts

pub allowed_place : (m : Inside) (h : ℕ) (c : Choice) (e : Entry) → IsMachine m → decide (setting_of m) (past_of m) h c ≡ Ok e → IsAllowedPlace m h c
allowed_place m h c e machine is =
    let a = allowed_at (setting_of m) (past_of m) h c e is in
    let long : length (past_of m) ≡ length m.log.items = length-history (setting_of m) m.log.items in
    let past : length (past_of m) < m.limits.steps = a.room in
    let room : length m.log.items < m.limits.steps = omega (arith, long, past) in
    let goes : m.parts.ended ≡ None = over_read m machine ∙ a.goes in
    record {
      place = place_of m h machine goes room a.lt;
      free = ap (refusal_of c) (same_here (seen m) h machine.run) ∙ a.free;
      goes = goes;
      room = room;
      lt = a.lt;
    }

pub may_make : (m : Inside) (h : ℕ) (c : Choice) (e : Entry) → IsMachine m → decide (setting_of m) (past_of m) h c ≡ Ok e → MayMake m.parts h c
may_make m h c e machine is = let at = allowed_place m h c e machine is in record { stand = stand_of (seen m); place = at.place.at; free = at.free }

-- CALLS

abbrev pub call_next : Next
call_next = record { effect = Some effect.Call; fault = None }

-- the next event of the thread on a hart is a call
record IsNextCall (here : Here) : Type 0 where
  pub thread : ℕ
  pub at : runs here ≡ Some thread
  pub effect : Some effect.Call ≡ next_effect here thread
  pub fault : None ≡ next_fault here thread

call_by : (here : Here) (r : Option ℕ) → runs here ≡ r → effect_on here r ≡ Some effect.Call → fault_on here r ≡ None → IsNextCall here
call_by here None at is none = cc
call_by here (Some t) at is none = record { thread = t; at = at; effect = sym is; fault = sym none }

pub planned_call : (m : Inside) (h : ℕ) → IsMachine m → IsAllowedPlace m h asked.Exec → effect_here (here_in_history (setting_of m) (past_of m) h) ≡ Some effect.Call
    → fault_here (here_in_history (setting_of m) (past_of m) h) ≡ None → IsPlanned (stand_of (seen m)) h call_next
planned_call m h machine at is none =
    let here = here_at (stand_of (seen m)) h in
    let same = same_here (seen m) h machine.run in
    let call = call_by here (runs here) refl (ap effect_here same ∙ is) (ap fault_here same ∙ none) in
    record { thread = call.thread; at = call.at; effect = call.effect; fault = call.fault; sizes = tt; free = at.free; own = inl refl }

-- and it was made
pub call_step : (m : Inside) (h : Hart) (e : Entry) (m' : Parts) → IsAllowedPlace m h.0 asked.Exec → e ≡ entry_in asked.Exec (here_at (stand_of (seen m)) h.0)
    → IsAfter (stand_of (seen m)) h.0 (done_of asked.Exec (here_of (seen m) h.0)) m.parts m' → IsStep (seen m) h asked.Exec e m'
call_step m h e m' at is after =
    stepped (seen m) m.parts m' h asked.Exec (Ok e) e at.place (ap Ok is ∙ ap (answered (entry_in asked.Exec (here_at (stand_of (seen m)) h.0))) (sym at.free)) refl after
