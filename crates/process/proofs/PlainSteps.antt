-- A plain instruction that was executed is the one that was planned, and what it did is its event.
use Rattle.process.proofs.Common.{◌≡◌, ℕ, ◌+◌, Bool, true, false, cond, ◌&&◌, List, [], is_some, get_or, set, refl, sym, ap, ◌∙◌, subst, Some, None, option_or, all_stored, is_call, HasAccessSizes, hart_after, is_held, refusal_exec, fetched, Effect, Hart, HartState, ImagePage, IsNextAt, IsPlace, IsNextStep, IsUncounted, Parts, Plain, Setting, Stand, byte_in, by_outcome, can_write_in, counted, credit_of, done_of, exec_refusal, hart_at, here_at, here_in_plain, runs, file_of, stepped, Others, IsPlainStep, IsAlone}
use Rattle.std.specs.Vec.{with_item}
use Rattle.mach_types.specs.declared.events.Choice.TheVariants as asked
use Rattle.rv_inst.specs.Execution.{Outcome}
use Rattle.block_model.specs.Instruction.{next_effect}
use Rattle.process.specs.declared.plain.PlainStep.{PlainStep}
use Rattle.process.proofs.Entries.{uncounted_as}
use Rattle.process.proofs.Events.{none_beside}
use Rattle.process.proofs.ExecGates.{gate_is}
use Rattle.process.proofs.HartEvents.{plain_own}
use Rattle.process.proofs.NextInstruction.{gate_at, next_read, planned}
use Rattle.process.proofs.Places.{hart_is, runs_there}
use Rattle.process.proofs.PlainInstructions.{performing, plain_next}
use Rattle.process.proofs.SavedFiles.{saved_plain}

-- it waits for no other hart
others_of_plain : (held b : Bool) → b ≡ false → None ≡ option_or None (cond (b && held) (Some Others) None)
others_of_plain held true is = absurd cc
others_of_plain held false is = refl

-- it may be executed where a thread runs that waits in no barrier
plain_is_allowed : (s : Setting) (p : Plain) (h credit : ℕ) (x : HartState) (does : PlainStep) (m : Parts) (e : Effect) → x ≡ hart_at s p h credit
    → IsNextAt (here_in_plain s p h) (plain_next e) → is_some x.running ≡ true → is_some x.waits ≡ false
    → IsPlainStep (byte_in m.pages) (can_write_in m.pages) e x does → refusal_exec (here_in_plain s p h) ≡ None
plain_is_allowed s p h credit x does m e own is running free step =
    let allowed : exec_refusal x (Some e) false ≡ None = rw (running, free) step.allowed in
    sym (gate_is (record { setting = s; plain = p; beside = None }) h credit x (plain_next e) None None own is (sym allowed)
    (λ t at. others_of_plain (is_held (here_in_plain s p h) t) (is_call e) step.no_call) (λ i. refl))

-- and it is the next of its thread
pub next_step : (v : Stand) (m : Parts) (h : ℕ) (x : HartState) (does : PlainStep) (code : List ImagePage) (e : Effect)
    → IsPlace v m h → IsAlone code v → x ≡ get_or m.harts.items h x → Some e ≡ next_effect code (file_of x) → HasAccessSizes e
    → is_some x.running ≡ true → is_some x.waits ≡ false → IsPlainStep (byte_in m.pages) (can_write_in m.pages) e x does → IsNextStep v m h does
next_step v m h x does code e place alone value read sizes running free step =
    let own = hart_is v m h x place value in
    let next : IsNextAt (here_at v h) (plain_next e) = next_read v m h x code (fetched code x.pc) (Some e) None place alone.none value alone.pages refl read (sym step.no_fault) in
    let may : None ≡ refusal_exec (here_at v h) = gate_at v h (plain_next e) None alone.none
    (λ at. sym (plain_is_allowed v.setting v.plain h (credit_of m.harts.items h) x does m e own at running free step)) next in
    record {
      asked = e;
      plan = planned v h (plain_next e) alone.none next sizes (sym may);
      plain = subst (λ (y : HartState). IsPlainStep (byte_in m.pages) (can_write_in m.pages) e y does) own step;
    }

-- the parts once it was executed
pub plain_executed : (v : Stand) (m : Parts) (h : Hart) (x y : HartState) (does : PlainStep) → IsPlace v m h.0 → IsNextStep v m h.0 does → x ≡ get_or m.harts.items h.0 x → y ≡ stepped does x
    → IsUncounted v h.0 (done_of asked.Exec (here_at v h.0)) m (record m { harts = with_item m.harts h.0 (record y { ran = y.ran + 1 }) })
plain_executed v m h x y does place next value after =
    let plan = next.plan in
    let step : IsPlainStep (byte_in m.pages) (can_write_in m.pages) next.asked x does = rw (hart_is v m h.0 x place value) next.plain in
    let is = performing v m h.0 x next.asked place plan step.no_call value in
    let d = by_outcome (here_at v h.0) plan.thread is.outcome in
    let z : HartState = record y { ran = y.ran + 1 } in
    let silent : all_stored is.outcome.entered ≡ [] = ap all_stored (sym (ap (λ (o : Outcome). o.entered) is.same) ∙ step.none_made) in
    uncounted_as v h.0 asked.Exec d m _ z place plan.free is.done (record {
      own = plain_own _ v.setting v.plain h.0 plan.thread is.outcome x (counted z) is.own plan.at
          (ap (λ (w : HartState). record w { ran = w.ran + 1; events = w.events + 1 }) (after ∙ step.hart ∙ ap (hart_after x) is.same));
      harts = none_beside h.0 d (set m.harts.items h.0 z) (record { none_begun = refl; none_taken = refl }) silent;
      pages = rw silent place.tied.pages;
      readable = place.tied.readable;
      tables = place.tied.tables;
      ids = λ k u ne runs. refl;
      saved = saved_plain v.plain.file plan.thread (record { file = is.outcome.regs; pc = is.outcome.pc }) h m.kernel.threads place.tied.table (runs_there v m h plan.thread place plan.at) place.tied.saved;
      table = place.tied.table;
      ended = is.ended;
    })
