-- Each thread has 32 registers at every place of a run.
use Rattle.block_model.proofs.Common.{AllByRecursion, CallDone, Done, Effect, Event, Here, History, IsRunHistory, Kind, Regs, Saved, Setting, answered_wait, argument, child_file, cond_both, done, file, file_among, files_interrupted, frame_read, has_flag, here_in_history, interruption_here, is_reserved, length-take, memory, outcome, requeue, view_of_all, with_register, woken_at_exit, word_at, word_before, words_at, ◌≡◌, ℕ, zero, suc, ◌+◌, List, [], ◌∷◌, length, map, drop, set, length-set, refl, sym, ap, ◌∙◌, arith, subst, Bool, true, false, cond, not, eqb, Option, Some, length-drop, None, ◌++◌, length-append, option_map, slice_index, stack_pointer, take}
use Rattle.mach_types.specs.Kernel.SignalFrames.{restored, returns_with_info, without_info}
use Rattle.mach_types.specs.declared.sequences.Outcome as interruptions
use Rattle.mach_types.specs.declared.sequences.Outcome.TheVariants as comes_to
use Rattle.rv_inst.specs.Execution.{Outcome}
use Rattle.rv_inst.specs.declared.effects.Effect.TheVariants as effect
use Rattle.block_model.specs.Calls.Cloning.{clone_settls, set_if}
use Rattle.block_model.proofs.CallEffects.{Answers, Bears, Begins, Breaks, CallDeed, Ends, Exits, Resumes, Says, Wakes}
use Rattle.block_model.proofs.CallEffects.EachCall.{deed_called}
use Rattle.block_model.proofs.EventEffects.{Calls, EventDeed, Executes, Handles, Restarts, Returns, RunKills, Runs, SignalKills, deed_of}

abbrev pub HasRegisters : Saved → Type 0
HasRegisters f = length f.file.x ≡ 32

abbrev HaveRegisters : List (ℕ × Saved) → Type 0
HaveRegisters files = AllByRecursion (λ (p : ℕ × Saved). HasRegisters p.1) files

-- a register that is set leaves their number
as_many : (regs : Regs) (rd v : ℕ) → length (with_register regs rd v).x ≡ length regs.x
as_many regs rd v =
    cond_both (eqb rd 0) regs (record { x = set regs.x rd v }) (λ (r : Regs). length r.x ≡ length regs.x)
    (λ zero. refl) (λ other. length-set regs.x rd v)

as_many_if : (b : Bool) (rd v : ℕ) (regs : Regs) → length (set_if b rd v regs).x ≡ length regs.x
as_many_if true rd v regs = as_many regs rd v
as_many_if false rd v regs = refl

-- INSTRUCTIONS

module _ (seen : ℕ → Option ℕ) (regs : Regs) (pc : ℕ) (r : Option ℕ) where
  either_many : (b : Bool) (x y : Outcome) → length x.regs.x ≡ length regs.x → length y.regs.x ≡ length regs.x
      → length (cond b x y).regs.x ≡ length regs.x
  either_many true x y p q = p
  either_many false x y p q = q

  as_many_after : (e : Effect) → length (outcome seen regs pc r e).regs.x ≡ length regs.x
  as_many_after (effect.Next rd value to) = as_many regs rd value
  as_many_after (effect.Load at size is_signed rd) = as_many regs rd _
  as_many_after (effect.Amo op at size value rd) = as_many regs rd _
  as_many_after (effect.Lr at size rd) = as_many regs rd _
  as_many_after (effect.Sc at size value rd) =
      either_many (is_reserved r at) _ _ (as_many regs rd 0) (as_many regs rd 1)
  as_many_after e = refl

-- CALLS

woken_have : (here : Here) (us : List ℕ) → ((t : ℕ) → HasRegisters (here.file t))
    → HaveRegisters (map (answered_wait here) us)
woken_have here [] all = tt
woken_have here (u ∷ us) all = (as_many (here.file u).file 10 0 ∙ all u, woken_have here us all)

words_counted : (byte : ℕ → Option ℕ) (at n : ℕ) (ws : List ℕ) → words_at byte at n ≡ Some ws → length ws ≡ n
words_counted byte at zero [] is = refl
words_counted byte at zero (w ∷ ws) is = absurd cc
words_counted byte at (suc n) ws is =
    by_words (word_at byte at 8) (words_at byte (at + 8) n) (λ rest. words_counted byte (at + 8) n rest) ws is
  where
    by_words : (o : Option ℕ) (p : Option (List ℕ)) → ((rest : List ℕ) → p ≡ Some rest → length rest ≡ n)
        → (ws : List ℕ) → word_before o p ≡ Some ws → length ws ≡ suc n
    by_words (Some w) (Some rest) counted ws is =
        let same : w ∷ rest ≡ ws = cc in
        sym (ap (λ (xs : List ℕ). length xs) same) ∙ ap suc (counted rest refl)
    by_words o p counted ws is = absurd cc

frame_counted : (byte : ℕ → Option ℕ) (f : Saved) (ws : List ℕ) → frame_read byte f ≡ Some ws → length ws ≡ 34
unfolding frame_read
frame_counted byte f ws is = by_form (returns_with_info f) is
  where
    short : (o : Option (List ℕ)) → ((us : List ℕ) → o ≡ Some us → length us ≡ 136) → option_map without_info o ≡ Some ws → length ws ≡ 34
    short None counted same = cc
    short (Some us) counted same =
        let long = counted us refl in
        let its : without_info us ≡ ws = cc in
        let dropped = length-drop 38 us in
        let taken = length-take 32 (drop 38 us) in
        let both = length-append (take 32 (drop 38 us)) (slice_index us 21 ∷ 0 ∷ []) in
        sym (ap (λ (xs : List ℕ). length xs) its) ∙ omega (arith, long, dropped, taken, both)

    by_form : (form : Bool) → cond form (option_map without_info (words_at byte (stack_pointer f) 136)) (words_at byte (stack_pointer f) 34) ≡ Some ws → length ws ≡ 34
    by_form true same = short (words_at byte (stack_pointer f) 136) (λ us found. words_counted byte _ 136 us found) same
    by_form false same = words_counted byte _ 34 ws same

restored_has : (ws : List ℕ) → length ws ≡ 34 → HasRegisters (restored ws)
restored_has ws count =
    let dropped = length-drop 1 ws in
    let taken = length-take 31 (drop 1 ws) in
    omega (arith, dropped, taken)

module _ (here : Here) (all : (t : ℕ) → HasRegisters (here.file t)) where
  child_has : (t : ℕ) → HasRegisters (child_file here t)
  child_has t =
      let stack = argument here t 1 in
      let regs = (here.file t).file in
      let first = set_if (not (eqb stack 0)) 2 stack regs in
      let flag = has_flag (argument here t 0) clone_settls in
      let second = set_if flag 4 (argument here t 3) first in
      as_many second 10 0 ∙ as_many_if flag 4 (argument here t 3) first
      ∙ as_many_if (not (eqb stack 0)) 2 stack regs ∙ all t

  call_has : {t number : ℕ} {c : CallDone} → CallDeed here t number c → HaveRegisters c.files
  call_has {t = t} (Says n) = (as_many (here.file t).file 10 n ∙ all t, tt)
  call_has {t = t} (Answers n entered k no_error writes step) = (as_many (here.file t).file 10 n ∙ all t, tt)
  call_has {t = t} (Wakes n more at to listens small) =
      let us = (requeue n more at to listens here.kernel).threads in
      (as_many (here.file t).file 10 (length us) ∙ all t, woken_have here us all)
  call_has {t = t} (Breaks u g waiting keeps stand heeds calm) =
      (as_many (here.file t).file 10 0 ∙ all t, (as_many (here.file u).file 10 _ ∙ all u, tt))
  call_has {t = t} (Exits more) = woken_have here (woken_at_exit here t).threads all
  call_has {t = t} (Bears entered writes free its_number) = (as_many (here.file t).file 10 _ ∙ all t, (child_has t, tt))
  call_has {t = t} (Begins targets restart others no_error its_number) = (all t, tt)
  call_has {t = t} (Resumes words is its) =
      (restored_has words (frame_counted (memory here) (here.file t) words is), tt)
  call_has (Ends entered e writes over) = tt

  -- EVENTS

  interrupted_has : (t : ℕ) (o : interruptions.Outcome) → HaveRegisters (files_interrupted here t o)
  interrupted_has t (comes_to.Aborted at) = (all t, tt)
  interrupted_has t outcome = tt

  handler_has : (t s one two at back : ℕ) → length (with_register (with_register (with_register (with_register
      (with_register (here.file t).file 10 s) 11 one) 12 two) 2 at) 1 back).x ≡ 32
  handler_has t s one two at back =
      let a = with_register (here.file t).file 10 s in
      let b = with_register a 11 one in
      let c = with_register b 12 two in
      let d = with_register c 2 at in
      as_many d 1 back ∙ as_many c 2 at ∙ as_many b 12 two ∙ as_many a 11 one
      ∙ as_many (here.file t).file 10 s ∙ all t

  event_has : {tid : ℕ} {k : Kind} {d : Done} → EventDeed here tid k d → HaveRegisters d.files
  event_has (Calls t e next calls outside) = call_has (deed_called here t)
  event_has (Executes t e next) =
      (as_many_after (view_of_all here) (here.file t).file (here.file t).pc here.reserved e ∙ all t, tt)
  event_has (Restarts t at) = interrupted_has t (interruption_here here t)
  event_has (Returns t at) = (as_many (here.file t).file 10 0 ∙ all t, tt)
  event_has {tid = tid} Runs = interrupted_has tid (interruption_here here tid)
  event_has {tid = tid} RunKills = interrupted_has tid (interruption_here here tid)
  event_has (Handles t signal at) = (handler_has t signal _ _ _ _, tt)
  event_has (SignalKills t signal killer at) = interrupted_has t (interruption_here here t)
  event_has deed = tt

-- RUNS

among_has : (ps : List (ℕ × Saved)) (t : ℕ) (f : Saved) → HaveRegisters ps → HasRegisters f
    → HasRegisters (file_among ps t f)
among_has [] t f all has = has
among_has (p ∷ ps) t f all has =
    elim (eqb p.0 t) as (λ b. HasRegisters (cond b p.1 (file_among ps t f))) [
      | true ↦ all.0
      | false ↦ among_has ps t f all.1 has
    ]

done_has : (s : Setting) (e : Event) (before : History) → ((t : ℕ) → HasRegisters (file s t before))
    → HaveRegisters (done s before e.entry).files
unfolding done
done_has s e before all =
    let here = here_in_history s before e.entry.hart.0 in
    event_has here all (deed_of here e.entry.kind e.entry)

pub has_registers : (s : Setting) (before : History) → IsRunHistory s before → (t : ℕ)
    → HasRegisters (file s t before)
has_registers s [] run t = refl
has_registers s (e ∷ before) run t =
    let all = has_registers s before run.0 in
    among_has e.done.files t (file s t before)
    (subst (λ (x : Event). HaveRegisters x.done.files) (sym run.2) (done_has s e before all)) (all t)
