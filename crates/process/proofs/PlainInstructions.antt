-- An instruction that is performed.
use Rattle.process.proofs.Common.{◌≡◌, ℕ, inl, inr, refl, sym, ◌∙◌, Bool, false, Option, Some, None, get_or, false≢true, is_call, fault_in, Effect, HartState, IsPlace, IsPlanned, Next, Parts, Stand, byte_in, can_write_in, credit_of, done_of, final, hart_at, here_at, refusal_of, runs, exec_refusal, outcome_on, by_outcome, next_effect, next_fault, outcome_of, is_storable, reached, IsOwnStep}
use Rattle.mach_types.specs.declared.events.Choice.TheVariants as asked
use Rattle.rv_inst.specs.Execution.{Outcome}
use Rattle.process.proofs.ExecEvent.{done_plain, no_fault, not_refused, outcome_same}
use Rattle.process.proofs.Places.{goes_on, hart_is, reached_at, storable_at, was_not_stuck}

abbrev pub plain_next : Effect → Next
plain_next e = record { effect = Some e; fault = None }

-- an instruction that isn't a call reads nothing of another process where there is none
is_alone : (v : Stand) (h t : ℕ) (e : Effect) → IsOwnStep v h t (plain_next e) → is_call e ≡ false → v.beside ≡ None
is_alone v h t e (inl alone) other = alone
is_alone v h t e (inr own) other = absurd (false≢true (sym other ∙ (own e refl refl).0))

-- an instruction of the thread t on hart h, over memory as it is reached: the hart, what it does there, and what it asks for
pub record IsPerforming (byte : ℕ → Option ℕ) (can : ℕ → Bool) (v : Stand) (m : Parts) (h t : ℕ) (x : HartState) (e : Effect) : Type 0 where
  pub own : x ≡ hart_at v.setting v.plain h (credit_of m.harts.items h)
  pub outcome : Outcome
  pub same : outcome_on x byte e ≡ outcome
  pub done : done_of asked.Exec (here_at v h) ≡ by_outcome (here_at v h) t outcome
  pub ended : m.ended ≡ final None v.plain.kernel
  pub allowed : exec_refusal x (Some e) false ≡ None
  pub no_fault : fault_in byte can e ≡ None

pub performing_over : (byte : ℕ → Option ℕ) (can : ℕ → Bool) (v : Stand) (m : Parts) (h t : ℕ) (x : HartState) (e : Effect) → byte ≡ reached (here_at v h)
    → can ≡ is_storable (here_at v h) → IsPlace v m h → x ≡ get_or m.harts.items h x → runs (here_at v h) ≡ Some t → next_fault (here_at v h) t ≡ None
    → next_effect (here_at v h) t ≡ Some e → refusal_of asked.Exec (here_at v h) ≡ None → is_call e ≡ false → IsPerforming byte can v m h t x e
performing_over byte can v m h t x e reaches writes place value at fault is free other =
    let here = here_at v h in
    let ran = v.plain.ran h in
    let events = v.plain.events h in
    let credit = credit_of m.harts.items h in
    let own = hart_is v m h x place value in
    record {
      own = own;
      outcome = outcome_of here t e;
      same = outcome_same here t ran events credit x e own at byte reaches;
      done = done_plain here t e at fault is other;
      ended = goes_on v m h v.plain.kernel place (was_not_stuck v m h place);
      allowed = not_refused here t ran events credit x e own at fault is free;
      no_fault = no_fault here t byte can e reaches writes fault is;
    }

-- where it is alone, or reads nothing of another process, memory is that of its pages
pub performing : (v : Stand) (m : Parts) (h : ℕ) (x : HartState) (e : Effect) → IsPlace v m h → (plan : IsPlanned v h (plain_next e)) → is_call e ≡ false
    → x ≡ get_or m.harts.items h x → IsPerforming (byte_in m.pages) (can_write_in m.pages) v m h plan.thread x e
performing v m h x e place plan other value =
    let alone = is_alone v h plan.thread e plan.own other in
    performing_over (byte_in m.pages) (can_write_in m.pages) v m h plan.thread x e (reached_at v m h place alone) (storable_at v m h place alone) place value plan.at
    (sym plan.fault) (sym plan.effect) plan.free other
