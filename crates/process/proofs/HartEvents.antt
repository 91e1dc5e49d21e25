-- The own hart after each kind of event.
use Rattle.process.proofs.Common.{◌≡◌, ℕ, ◌+◌, ◌<◌, List, ◌∷◌, drop, refl, ◌∙◌, true, Some, None, append-nil, eq-eqb, no_registers, HartState, IsTables, Plain, Saved, Setting, Store, by_call, by_outcome, counted, file_among, files_interrupted, hart_at, here_in_plain, is_ready, runs, thread, entered, hart_after, killed_in_call, done_drain_of, done_preempt_by, done_killed, done_running, id_of, with_id, begun_without, left_idle, ran_runs, add-zero}
use Rattle.mach_types.specs.declared.sequences.Outcome.{Outcome as Comes}
use Rattle.rv_inst.specs.Execution.{Outcome}
use Rattle.process.proofs.ExecEvent.{fault_killing, fault_pending}
use Rattle.process.proofs.HartStates.{own_after}

-- drain
pub drain_own : (credit : ℕ) (s : Setting) (p : Plain) (h : ℕ) (w : Store) (ws : List Store) (x y : HartState) → x ≡ hart_at s p h credit →
    y ≡ record x { buffer = drop 1 x.buffer; events = x.events + 1 } → y ≡ own_after s p h (done_drain_of (here_in_plain s p h) (w ∷ ws)) credit
drain_own credit s p h w ws x y at is = is ∙ rw (at, append-nil, add-zero (p.ran h)) refl

-- preempt
pub preempt_own : (credit : ℕ) (s : Setting) (p : Plain) (h t : ℕ) (x y : HartState) → x ≡ hart_at s p h credit → IsTables s.limits.harts p.kernel.threads p.kernel.scheduling → runs (here_in_plain s p h) ≡ Some t →
    y ≡ record x { file = no_registers; pc = 0; running = None; reserved = None; cid = 0; events = x.events + 1 } → y ≡ own_after s p h (done_preempt_by (here_in_plain s p h) (Some t)) credit
preempt_own credit s p h t x y at tables runs is =
    is ∙ rw (at, append-nil, add-zero (p.ran h), left_idle s.limits.harts h t p.kernel.threads p.kernel.scheduling tables runs) refl

-- run, where the thread begins to run, and where the process is killed
pub run_own : (credit : ℕ) (s : Setting) (p : Plain) (h t : ℕ) (o : Comes) (saved : Saved) (id : ℕ) (x y : HartState) → x ≡ hart_at s p h credit → IsTables s.limits.harts p.kernel.threads p.kernel.scheduling →
    is_ready t p.kernel.threads ≡ true → runs (here_in_plain s p h) ≡ None → h < s.limits.harts → saved ≡ file_among (files_interrupted (here_in_plain s p h) t o) t (p.file t) → id ≡ id_of t (with_id t p.kernel.ids) →
    y ≡ counted (entered (thread t) saved id x) → y ≡ own_after s p h (done_running (here_in_plain s p h) t o) credit
run_own credit s p h t o saved id x y at tables ready idle lt kept its is =
    is ∙ rw (at, append-nil, ran_runs s.limits.harts h t p.kernel.threads p.kernel.scheduling tables ready idle lt, kept, its) refl

pub killed_own : (credit : ℕ) (s : Setting) (p : Plain) (h t : ℕ) (o : Comes) (x y : HartState) → x ≡ hart_at s p h credit → runs (here_in_plain s p h) ≡ None →
    y ≡ counted (begun_without x) → y ≡ own_after s p h (done_killed (here_in_plain s p h) t o) credit
killed_own credit s p h t o x y at idle is = is ∙ rw (at, append-nil, idle) refl

-- a fault, whether its thread has a handler or not
pub pending_own : (credit : ℕ) (s : Setting) (p : Plain) (h t signal : ℕ) (x y : HartState) → x ≡ hart_at s p h credit →
    y ≡ record x { ran = x.ran + 1; events = x.events + 1 } → y ≡ own_after s p h (fault_pending (here_in_plain s p h) t signal) credit
pending_own credit s p h t signal x y at is = is ∙ rw (at, append-nil) refl

pub killing_own : (credit : ℕ) (s : Setting) (p : Plain) (h signal : ℕ) (x y : HartState) → x ≡ hart_at s p h credit →
    y ≡ record x { ran = x.ran + 1; events = x.events + 1 } → y ≡ own_after s p h (fault_killing (here_in_plain s p h) signal) credit
killing_own credit s p h signal x y at is = is ∙ rw (at, append-nil) refl

-- an instruction other than a call
pub plain_own : (credit : ℕ) (s : Setting) (p : Plain) (h t : ℕ) (o : Outcome) (x y : HartState) → x ≡ hart_at s p h credit → runs (here_in_plain s p h) ≡ Some t →
    y ≡ record (hart_after x o) { ran = x.ran + 1; events = x.events + 1 } → y ≡ own_after s p h (by_outcome (here_in_plain s p h) t o) credit
plain_own credit s p h t o x y at runs is = is ∙ rw (at, runs, eq-eqb t t refl) refl

-- a call inside a sequence
pub inside_own : (credit : ℕ) (s : Setting) (p : Plain) (h t : ℕ) (x y : HartState) → x ≡ hart_at s p h credit → runs (here_in_plain s p h) ≡ Some t →
    y ≡ record x { reserved = None; ran = x.ran + 1; events = x.events + 1 } → y ≡ own_after s p h (by_call (here_in_plain s p h) (killed_in_call (here_in_plain s p h))) credit
inside_own credit s p h t x y at runs is = is ∙ rw (at, append-nil, runs) refl
