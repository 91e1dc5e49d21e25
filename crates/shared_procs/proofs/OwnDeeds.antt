-- What an own event of a process does at two places that differ in what stands beside it. Each such pair of
-- deeds is one of these; a law of own events goes over them, and tells no kinds apart.
use Rattle.mach_types.specs.Events.{is_run as runs_one}
use Rattle.mach_types.specs.Kernel.Signals.{with_fault}
use Rattle.block_model.specs.Events.Exec.{fault_told}
use Rattle.mach_types.specs.declared.events.Choice.TheVariants as asked
use Rattle.mach_types.specs.declared.limits.End.TheVariants.{Killed}
use Rattle.block_model.specs.Events.Exec.{one_instruction}
use Rattle.block_model.specs.Kernel.{signalled}
use Rattle.block_model.proofs.Swaps.Untouched.{fault_same}
use Rattle.shared_procs.proofs.Common.{◌≡◌, ℕ, Bool, true, false, cond, List, [], ◌∷◌, Option, Some, None, is_some, refl, sym, ap, ◌∙◌, subst, by_call, by_effect, by_fault, by_outcome, called_here, Choice, Done, done_done_by, done_drain_of, done_exec_by, done_next, done_of, done_preempt_by, done_run_by, done_signal_by, done_take_by, Effect, fault_by, fetched, has_handler, Here, interruption_here, is_call, is_in_segment, is_storable, kind_of, learnt_by, learnt_exec, learnt_of, memory, next_effect, next_fault, next_for, nothing, outcome_of, reached, runs, Store, waiting_here}
use Rattle.shared_procs.proofs.PrivateReservations.{private}
use Rattle.shared_procs.proofs.SameCalls.{Around, beside}

abbrev pub is_run : Choice → Bool
is_run c = runs_one (kind_of c)

module _ (x : Here) (p q : Around) where
  abbrev a : Here
  a = beside x p

  abbrev b : Here
  b = beside x q

  -- one deed, after which each hart has the reservation that it had, or none; an instruction, which learns the
  -- same at both; a call; requests that are taken, with a restart or without
  pub data OwnDeeds : Done → Done → Type 0 where
    Keeps : (d : Done) → private p.reserved ≡ private q.reserved
        → OwnDeeds (record d { reserved = p.reserved }) (record d { reserved = q.reserved })
    LetsGo : (d : Done) → OwnDeeds d d
    Executes : (t : ℕ) (e : Effect) → private p.reserved ≡ private q.reserved
        → learnt_by a None (Some e) ≡ learnt_by b None (Some e)
        → OwnDeeds (by_outcome a t (outcome_of a t e)) (by_outcome b t (outcome_of b t e))
    Calls : (t : ℕ) → OwnDeeds (by_call a (called_here a t)) (by_call b (called_here b t))
    Takes : (r : Option ℕ) → OwnDeeds (done_take_by a p.restart r) (done_take_by b q.restart r)

  either : (c : Bool) (d e f g : Done) → OwnDeeds d f → OwnDeeds e g → OwnDeeds (cond c d e) (cond c f g)
  either true d e f g first other = first
  either false d e f g first other = other

  -- with a thread or a signal, and without
  each : (f g : Option ℕ → Done) → OwnDeeds (f None) (g None) → ((n : ℕ) → OwnDeeds (f (Some n)) (g (Some n)))
      → (o : Option ℕ) → OwnDeeds (f o) (g o)
  each f g none some None = none
  each f g none some (Some n) = some n

  -- AN INSTRUCTION

  some_there : (at : ℕ) → is_some (reached a at) ≡ is_some (reached b at)
  some_there at = by (is_in_segment at)
    where
      by : (c : Bool) → is_some (cond c (Some (p.other.shared at)) (memory x at))
          ≡ is_some (cond c (Some (q.other.shared at)) (memory x at))
      by true = refl
      by false = refl

  same_fault : (t : ℕ) → next_fault a t ≡ next_fault b t
  same_fault t = by (fetched x.setting.program.pages (x.file t).pc) (next_effect x t)
    where
      by : (word : Option ℕ) (o : Option Effect) → fault_by (reached a) (is_storable a) (x.file t).pc word o
          ≡ fault_by (reached b) (is_storable b) (x.file t).pc word o
      by word None = refl
      by word (Some e) = fault_same (reached a) (reached b) some_there (is_storable a) e

  module _ (kept : private p.reserved ≡ private q.reserved) where
    fault_deeds : (t signal : ℕ) → OwnDeeds (by_fault a t signal) (by_fault b t signal)
    fault_deeds t signal =
        let pending = signalled (with_fault t (fault_told x t signal) x.kernel.signals) x.kernel in
        either (has_handler x t signal) _ _ _ _ (Keeps (record (one_instruction x) { kernel = pending }) kept)
        (Keeps (record (one_instruction x) { ended = Some (Killed signal) }) kept)

    effect_deeds : (t : ℕ) (fault : Option ℕ) (o : Option Effect) → learnt_by a fault o ≡ learnt_by b fault o
        → OwnDeeds (by_effect a t fault o) (by_effect b t fault o)
    effect_deeds t (Some signal) o same = fault_deeds t signal
    effect_deeds t None None same = Keeps (one_instruction x) kept
    effect_deeds t None (Some e) same = either (is_call e) _ _ _ _ (Calls t) (Executes t e kept same)

    exec_deeds : (r : Option ℕ) → learnt_exec a r ≡ learnt_exec b r
        → OwnDeeds (done_exec_by a r) (done_exec_by b r)
    exec_deeds None same = Keeps (nothing x) kept
    exec_deeds (Some t) same =
        let fault = same_fault t in
        let effect = next_effect x t in
        subst (λ f. OwnDeeds (by_effect a t (next_fault a t) effect) (by_effect b t f effect)) fault
        (effect_deeds t (next_fault a t) effect (same ∙ ap (λ f. learnt_by b f effect) (sym fault)))

    -- ANOTHER EVENT

    drain_deeds : (ws : List Store) → OwnDeeds (done_drain_of a ws) (done_drain_of b ws)
    drain_deeds [] = Keeps (nothing x) kept
    drain_deeds (w ∷ ws) = Keeps (done_drain_of x (w ∷ ws)) kept

    next_deeds : (t : ℕ) (next : Option ℕ) → OwnDeeds (done_next a t next) (done_next b t next)
    next_deeds t = each (done_next a t) (done_next b t) (Keeps (nothing x) kept) (λ signal. LetsGo _)

  -- EACH OWN EVENT

  pub own_deeds : (c : Choice) → (is_run c ≡ false → private p.reserved ≡ private q.reserved)
      → learnt_of (kind_of c) a ≡ learnt_of (kind_of c) b → OwnDeeds (done_of c a) (done_of c b)
  own_deeds asked.Exec kept same = exec_deeds (kept refl) (runs x) same
  own_deeds asked.Drain kept same = drain_deeds (kept refl) (waiting_here x)
  own_deeds asked.Take kept same = Takes (runs x)
  own_deeds asked.Done kept same =
      each (done_done_by a) (done_done_by b) (Keeps (nothing x) (kept refl)) (λ t. LetsGo _) (runs x)
  own_deeds asked.Preempt kept same =
      each (done_preempt_by a) (done_preempt_by b) (Keeps (nothing x) (kept refl)) (λ t. LetsGo _) (runs x)
  own_deeds (asked.Run t) kept same = LetsGo (done_run_by x t.0 (interruption_here x t.0))
  own_deeds asked.Signal kept same =
      each (done_signal_by a) (done_signal_by b) (Keeps (nothing x) (kept refl))
      (λ t. next_deeds (kept refl) t (next_for t x.kernel.signals)) (runs x)
