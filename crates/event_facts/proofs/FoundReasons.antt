-- What code finds of an event is why it kills, where it does.
use Rattle.std.proofs.Common.{◌≡◌, ℕ, ◌-◌, ◌<◌, ◌≤◌, ◌^◌, refl, sym, ap, ◌∙◌, subst, Bool, true, false, cond, eqb, Option, Some, None, is_some}
use Rattle.std.proofs.lemmas.Nat.Bits.{bit_at_above}
use Rattle.std.specs.Option.{option_map, option_map_or, option_or}
use Rattle.std.specs.Prelude.{IfSome}
use Rattle.mach_types.specs.Events.{begun_by, choice_of, choice_with, kind_of, nature_of}
use Rattle.mach_types.specs.Kernel.Signals.{action_of, has_signal}
use Rattle.mach_types.specs.Kernel.SignalFrames.{can_write_frame}
use Rattle.mach_types.specs.Kernel.Threads.{Thread, is_live, state_of, thread_of}
use Rattle.mach_types.specs.declared.events.Choice.{Choice}
use Rattle.mach_types.specs.declared.events.Entry.{Entry}
use Rattle.mach_types.specs.declared.events.Kind.{Kind}
use Rattle.mach_types.specs.declared.events.Tid.{Tid}
use Rattle.mach_types.specs.declared.threads.ThreadState.{ThreadState}
use Rattle.rv_inst.specs.Class.{is_call}
use Rattle.rv_inst.specs.declared.effects.Effect.{Effect}
use Rattle.block_model.specs.Calls.Answers.{call_number}
use Rattle.block_model.specs.Deciding.{number_of, thread_in}
use Rattle.block_model.specs.Events.{done_of, refusal_of}
use Rattle.block_model.specs.Events.Exec.{next_effect, next_fault}
use Rattle.block_model.specs.Events.Signal.{file_interrupted}
use Rattle.block_model.specs.Here.{Here, is_writable, runs}
use Rattle.block_model.specs.Plain.{here_of}
use Rattle.block_model.specs.Run.{IsBlockRun}
use Rattle.block_model.specs.Sequences.{interruption_here}
use Rattle.block_model.specs.Setting.{Seen}
use Rattle.block_model.proofs.Laws.{IsGoodHere, needs_thread, next_event, running_is, same_here}
use Rattle.fact_types.specs.declared.calls.SystemCall.{SystemCall}
use Rattle.fact_types.specs.declared.killing.KillWhy.{KillWhy}
use Rattle.fact_types.specs.declared.killing.KillWhy.TheVariants.{AreaWords, CallInside}
use Rattle.event_facts.specs.Calls.{call_in, call_on, is_calling}
use Rattle.event_facts.specs.Interruptions.{came_by}
use Rattle.event_facts.specs.Killing.{IsReason, called_kills, came_bad, delivery_kills, executing_kills, instruction_kills, killing_of, kills_by, unhandled}
use Rattle.event_facts.specs.Telling.{IsDecided, here_on}
use Rattle.event_facts.proofs.Due.{due}
use Rattle.event_facts.proofs.Killings.{runs_there}

-- SIGNALS

-- a signal that no word has a bit for is in no set
pub far_bit : (set s : ℕ) → set < 2 ^ 64 → 64 ≤ s - 1 → has_signal set s ≡ false
far_bit set s small far = ap (λ n. eqb n 1) (bit_at_above set 64 (s - 1) small far)

-- CALLS

-- a call that can't kill outside of sequences kills inside one alone
pub inside_alone : (found kills : Option KillWhy) (inside : Bool) → found ≡ None → IsReason found kills → IsReason (Some CallInside) (cond inside (Some CallInside) kills)
inside_alone found kills true none reason = refl
inside_alone found None false none reason = tt
inside_alone found (Some why) false none reason = let no : None ≡ Some why = sym none ∙ reason in absurd cc

pub by_inside : (kills : Option KillWhy) (inside : Bool) → inside ≡ true → IsReason (Some CallInside) (cond inside (Some CallInside) kills)
by_inside kills true is = refl
by_inside kills false is = absurd cc

pub by_outside : (found kills : Option KillWhy) (why : KillWhy) (inside : Bool) → found ≡ Some why → inside ≡ false → IsReason found kills
    → IsReason (Some why) (cond inside (Some CallInside) kills)
by_outside found kills why true is out reason = absurd cc
by_outside found kills why false is out reason = subst (λ o. IsReason o kills) is reason

-- the call that the thread on a hart makes
pub call_found : (here : Here) (t : ℕ) (call : SystemCall) (why : KillWhy) → call_on here (Some t) ≡ Some call
    → IsReason (Some why) (called_kills here t call.number) → IsReason (Some why) (executing_kills here t)
call_found here t call why = by (next_fault here t) (next_effect here t)
  where
    this : SystemCall
    this = call_in (here.file t).file

    by_effect : (b : Bool) → cond b (Some this) None ≡ Some call → IsReason (Some why) (called_kills here t call.number)
        → IsReason (Some why) (cond b (called_kills here t (call_number here t)) None)
    by_effect true is reason =
        let same : this ≡ call = cc in
        subst (λ (x : SystemCall). IsReason (Some why) (called_kills here t x.number)) (sym same) reason
    by_effect false is reason = absurd cc

    by : (fault : Option ℕ) (o : Option Effect) → cond (is_calling fault o) (Some this) None ≡ Some call
        → IsReason (Some why) (called_kills here t call.number) → IsReason (Some why) (instruction_kills here t fault o)
    by (Some signal) None is reason = absurd cc
    by (Some signal) (Some e) is reason = absurd cc
    by None None is reason = absurd cc
    by None (Some e) is reason = by_effect (is_call e) is reason

-- KINDS

pub words_reason : (can_write : Bool) → IsReason (Some AreaWords) (cond can_write None (Some AreaWords))
words_reason true = tt
words_reason false = refl

pub delivery_reason : (here : Here) (t : ℕ) (o : Option ℕ) (found : Option KillWhy)
    → IfSome o (λ signal. (can_write : Bool) → IsReason found (unhandled can_write signal here.kernel.signals))
    → IsReason found (delivery_kills here t o)
delivery_reason here t None found reason = tt
delivery_reason here t (Some signal) found reason = reason (can_write_frame (is_writable here) (action_of signal here.kernel.signals) (file_interrupted here t (interruption_here here t)))

-- what an interruption found, or what else there is
pub bad_first : (bad rest : Option KillWhy) (why : KillWhy) → bad ≡ Some why → IsReason (Some why) (option_or bad rest)
bad_first bad rest why is = subst (λ o. IsReason (Some why) (option_or o rest)) (sym is) refl

pub none_bad : (bad rest found : Option KillWhy) → bad ≡ None → IsReason found rest → IsReason found (option_or bad rest)
none_bad bad rest found is reason = subst (λ o. IsReason found (option_or o rest)) (sym is) reason

-- by the thread that an entry names
pub reason_named : (c : Choice) (here : Here) (t : ℕ) (o : Option ℕ) (found : Option KillWhy) → t ≡ number_of o
    → IsReason found (option_or (came_bad (came_by c here)) (kills_by (nature_of (kind_of c)).interruption c here t))
    → IsReason found (killing_of c here o)
reason_named c here t None found is reason = tt
reason_named c here t (Some u) found is reason =
    subst (λ n. IsReason found (option_or (came_bad (came_by c here)) (kills_by (nature_of (kind_of c)).interruption c here n))) is reason

-- THE THREAD OF AN ENTRY

has_state : (o : Option Thread) (st : ThreadState) → option_map (λ th. th.state) o ≡ Some st → is_some o ≡ true
has_state None st is = absurd cc
has_state (Some th) st is = refl

module _ (m : Seen) (e : Entry) (run : IsBlockRun m.setting m.log) (decided : IsDecided m e) where
  abbrev here : Here
  here = here_on m e.hart.0

  pub choice_is : (k : Kind) → e.kind ≡ k → choice_of e ≡ choice_with k e
  choice_is k is = ap (λ x. choice_with x e) is

  -- it runs on its hart, where it has to
  pub runs_now : (c : Choice) → choice_of e ≡ c → begun_by c ≡ None → needs_thread (kind_of c) ≡ true → runs here ≡ Some e.tid.0
  runs_now c is none needs =
      let d = due m e run decided in
      runs_there here c e.tid.0 (sym (ap (λ k. refusal_of k here) is) ∙ d.free) needs
      (ap (λ (x : Entry). x.tid.0) d.is
      ∙ ap (λ k. number_of (thread_in k here)) is
      ∙ ap (λ (o : Option Tid). number_of (option_map_or (λ (t : Tid). Some t.0) o (runs here))) none)

  -- and is live
  good : IsGoodHere here
  good =
      let next = next_event m e (done_of (choice_of e) (here_of m e.hart.0)) run decided refl in
      subst IsGoodHere (same_here m e.hart.0 run) next.good

  pub lives : runs here ≡ Some e.tid.0 → is_live e.tid.0 here.kernel.threads ≡ true
  lives on =
      has_state (thread_of e.tid.0 here.kernel.threads) _
      (running_is m.setting.limits.harts e.hart.0 e.tid.0 here.kernel.threads here.kernel.scheduling good.kernel.tables on)
