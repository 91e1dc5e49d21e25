-- A call that isn't made inside a sequence ends its process by a signal exactly where there is a reason to tell: no call does but rseq(2) and
-- rt_sigreturn(2).
use Rattle.std.proofs.Common.{◌≡◌, ℕ, ◌%◌, List, [], ◌∷◌, refl, sym, ap, ◌∙◌, subst, Bool, true, false, cond, eqb, Option, Some, None, Result, Ok, Err, is_some}
use Rattle.std.proofs.lemmas.Bool.{eqb-true}
use Rattle.mach_types.specs.Kernel.Areas.{are_words_writable, registration, unregistration, words_on, words_written}
use Rattle.mach_types.specs.Kernel.PageCalls.{mmap_answer, mprotect_refusal, munmap_refusal}
use Rattle.mach_types.specs.Kernel.Pages.{Pages}
use Rattle.mach_types.specs.Kernel.SignalFrames.{frame_read}
use Rattle.mach_types.specs.declared.barriers.Answer.{Answer}
use Rattle.mach_types.specs.declared.barriers.Answer.TheVariants.{Value, Begin}
use Rattle.mach_types.specs.declared.errors.Errno.{Errno}
use Rattle.mach_types.specs.declared.errors.TheConstants.{EINVAL}
use Rattle.mach_types.specs.declared.sequences.Area.{Area}
use Rattle.block_model.specs.Beside.{Neighbour}
use Rattle.block_model.specs.Calls.{asking_call_of, call_of, called, own_call_of}
use Rattle.block_model.specs.Calls.Affinity.{getaffinity_errors, getcpu, getcpu_errors, sched_getaffinity, sched_setaffinity, setaffinity_errors}
use Rattle.block_model.specs.Calls.Answers.{CallDone, Errors, argument, call_number, int_argument, killed_in_call, said, unless}
use Rattle.block_model.specs.Calls.Barriers.{answers}
use Rattle.block_model.specs.Calls.Beside.{barrier_call, sequence_call}
use Rattle.block_model.specs.Calls.Cloning.{clone, clone_errors}
use Rattle.block_model.specs.Calls.Console.{Span, span_errors, spans_at, total, write, write_errors, write_spans, writev, writev_errors}
use Rattle.block_model.specs.Calls.Ending.{exit, is_last}
use Rattle.block_model.specs.Calls.Futexes.{futex, futex_errors, is_wait, is_wake, requeue_errors, wait_errors}
use Rattle.mach_types.specs.Kernel.Futexes.{operation}
use Rattle.block_model.specs.Calls.Limits.{prlimit_errors}
use Rattle.block_model.specs.Calls.Memory.{changed_unless, mapped_or_refused, mmap, mmap_errors, mprotect, munmap, permission_here, wrote_unless}
use Rattle.mach_types.specs.declared.user_memory.Write.{Write}
use Rattle.block_model.specs.Calls.Policies.{getparam_errors, getscheduler_errors, priority_errors}
use Rattle.block_model.specs.Calls.Sequences.{registers_or_refused, rseq, unregisters, unregisters_or_refused}
use Rattle.block_model.specs.Calls.Signals.{post, refuses_signal, resumed, rt_sigaction, rt_sigprocmask, send, sigaction_errors, sigpending_errors, sigprocmask_errors, tgkill, tgkill_errors, tkill, tkill_errors, waits_in_vain, with_posted}
use Rattle.block_model.specs.Calls.Random.{getrandom_errors}
use Rattle.block_model.specs.Calls.System.{uname_errors}
use Rattle.block_model.specs.Calls.Terminal.{fstat_errors, ioctl_errors}
use Rattle.block_model.specs.Here.{Here, is_writable, memory}
use Rattle.block_model.specs.Ids.{id_of}
use Rattle.block_model.specs.Kernel.{registered}
use Rattle.block_model.specs.Sequences.{area_here}
use Rattle.fact_types.specs.declared.killing.KillWhy.TheVariants.{AreaWords}
use Rattle.event_facts.specs.Killing.{call_kills, kills, registration_kills, return_kills, rseq_kills}

-- a call that ends no process by a signal
abbrev IsCalm : CallDone → Type 0
IsCalm c = kills c.ended ≡ false

module _ (here : Here) (t : ℕ) where
  calm_if : (b : Bool) (x y : CallDone) → IsCalm x → IsCalm y → IsCalm (cond b x y)
  calm_if true x y p q = p
  calm_if false x y p q = q

  calm_unless : (es : Errors) (c : CallDone) → IsCalm c → IsCalm (unless here t es c)
  calm_unless [] c p = p
  calm_unless (e ∷ es) c p = calm_if e.0 _ (unless here t es c) refl (calm_unless es c p)

  -- THE FAMILIES

  calm_spans : (spans : List Span) → IsCalm (write_spans here t spans)
  calm_spans spans = calm_if (eqb (total spans) 0) _ _ refl (calm_unless (span_errors here spans) _ refl)

  calm_write : IsCalm (write here t)
  calm_write = calm_unless (write_errors here t) _ (calm_spans (record { at = argument here t 1; len = argument here t 2 } ∷ []))

  calm_writev : IsCalm (writev here t)
  calm_writev = calm_unless (writev_errors here t) _ (calm_spans (spans_at here (argument here t 1) (argument here t 2)))

  calm_exit : IsCalm (exit here t)
  calm_exit = calm_if (is_last here) _ _ refl refl

  calm_futex : IsCalm (futex here t)
  calm_futex =
      calm_unless (futex_errors here t) _
      (calm_if (is_wait (operation (int_argument here t 1))) _ _ (calm_unless (wait_errors here t) _ refl)
      (calm_if (is_wake (operation (int_argument here t 1))) _ _ refl (calm_unless (requeue_errors here t) _ refl)))

  calm_post : (u sig : ℕ) → IsCalm (post here t u sig)
  calm_post u sig = calm_if (waits_in_vain u (with_posted here u sig)) _ _ refl refl

  calm_send : (u sig : ℕ) → IsCalm (send here t u sig)
  calm_send u sig = calm_unless ((refuses_signal sig, EINVAL) ∷ []) _ (calm_if (eqb sig 0) _ _ refl (calm_post u sig))

  calm_tkill : IsCalm (tkill here t)
  calm_tkill = calm_unless (tkill_errors here t) _ (calm_send (int_argument here t 0) (int_argument here t 1))

  calm_tgkill : IsCalm (tgkill here t)
  calm_tgkill = calm_unless (tgkill_errors here t) _ (calm_send (int_argument here t 1) (int_argument here t 2))

  calm_changed : (o : Option Errno) (pages : Pages) → IsCalm (changed_unless here t o pages)
  calm_changed (Some e) pages = refl
  calm_changed None pages = refl

  calm_wrote : (o : Option Errno) (ws : List Write) → IsCalm (wrote_unless here t o ws)
  calm_wrote (Some e) ws = refl
  calm_wrote None ws = refl

  calm_mapped : (len prot : ℕ) (r : Result ℕ Errno) → IsCalm (mapped_or_refused here t len prot r)
  calm_mapped len prot (Err e) = refl
  calm_mapped len prot (Ok at) = refl

  calm_mmap : IsCalm (mmap here t)
  calm_mmap =
      let len = argument here t 1 in
      let prot = argument here t 2 in
      calm_unless (mmap_errors here t) _ (calm_mapped len prot (mmap_answer (permission_here here) here.kernel.pages.free len prot))

  calm_answers : (a : Answer) → IsCalm (answers here t a)
  calm_answers (Value n) = refl
  calm_answers (Begin targets restart) = refl

  calm_barrier : (o : Option Neighbour) → IsCalm (barrier_call o here t)
  calm_barrier None = calm_answers _
  calm_barrier (Some other) = calm_answers _

  -- those that only ask, by their numbers
  calm_asking : (number : ℕ) → IsCalm (asking_call_of number here t)
  calm_asking number =
      calm_if (eqb number 29) _ _ (calm_unless (ioctl_errors here t) _ refl)
      (calm_if (eqb number 80) _ _ (calm_unless (fstat_errors here t) _ refl)
      (calm_if (eqb number 120) _ _ (calm_unless (getscheduler_errors here t) _ refl)
      (calm_if (eqb number 121) _ _ (calm_unless (getparam_errors here t) _ refl)
      (calm_if (eqb number 125) _ _ (calm_unless (priority_errors here t) _ refl)
      (calm_if (eqb number 126) _ _ (calm_unless (priority_errors here t) _ refl)
      (calm_if (eqb number 136) _ _ (calm_unless (sigpending_errors here t) _ refl)
      (calm_if (eqb number 160) _ _ (calm_unless (uname_errors here t) _ refl)
      (calm_if (eqb number 173) _ _ refl
      (calm_if (eqb number 174) _ _ refl
      (calm_if (eqb number 175) _ _ refl
      (calm_if (eqb number 176) _ _ refl
      (calm_if (eqb number 177) _ _ refl
      (calm_if (eqb number 261) _ _ (calm_unless (prlimit_errors here t) _ refl)
      refl)))))))))))))

  -- THE TWO THAT KILL

  registers_kill : (x : Result Area Errno) → kills (registers_or_refused here t x).ended ≡ is_some (registration_kills here x)
  registers_kill (Err e) = refl
  registers_kill (Ok area) = go (are_words_writable (is_writable here) area)
    where
      go : (b : Bool) → kills (cond b (record (said here t 0) { entered = words_written area (words_on here.hart (id_of t here.kernel.ids)); kernel = registered t area here.kernel }) (killed_in_call here)).ended ≡ is_some (cond b None (Some AreaWords))
      go true = refl
      go false = refl

  unregisters_calm : (x : Result (Unit {0}) Errno) → IsCalm (unregisters_or_refused here t x)
  unregisters_calm (Err e) = refl
  unregisters_calm (Ok done) = go (area_here here t)
    where
      go : (o : Option Area) → IsCalm (unregisters here t o)
      go None = refl
      go (Some area) = calm_if (are_words_writable (is_writable here) area) _ _ refl refl

  rseq_told : (o : Option Neighbour) → kills (sequence_call o here t).ended ≡ is_some (rseq_kills o here t)
  rseq_told (Some other) = refl
  rseq_told None =
      let at = argument here t 0 in
      let len = int_argument here t 1 in
      let flags = int_argument here t 2 in
      let sig = int_argument here t 3 in
      let old = area_here here t in
      go (eqb (flags % 2) 1) (unregistration old at len flags sig) (registration old at len flags sig)
    where
      go : (b : Bool) (x : Result (Unit {0}) Errno) (y : Result Area Errno)
          → kills (cond b (unregisters_or_refused here t x) (registers_or_refused here t y)).ended
          ≡ is_some (cond b None (registration_kills here y))
      go true x y = unregisters_calm x
      go false x y = registers_kill y

  return_told : (words : Option (List ℕ)) → kills (resumed here t words).ended ≡ is_some (return_kills words)
  return_told None = refl
  return_told (Some words) = refl

  -- BY NUMBERS

  -- the call of a number is told rightly
  abbrev IsTold : ℕ → CallDone → Type 0
  IsTold number c = kills c.ended ≡ is_some (call_kills here t number)

  -- that of this number, or one of another number
  at_number : (number k : ℕ) (x y : CallDone) → IsTold k x → (eqb number k ≡ false → IsTold number y) → IsTold number (cond (eqb number k) x y)
  at_number number k x y p q = go (eqb number k) refl
    where
      go : (b : Bool) → eqb number k ≡ b → IsTold number (cond b x y)
      go true is = subst (λ n. IsTold n x) (sym (eqb-true number k is)) p
      go false is = q is

  none_told : (number : ℕ) → eqb number 293 ≡ false → eqb number 139 ≡ false → is_some (call_kills here t number) ≡ false
  none_told number a b = rw (a, b) refl

  told_own : (number : ℕ) → eqb number 293 ≡ false → IsTold number (own_call_of number here t)
  told_own number other =
      at_number number 64 _ _ calm_write (λ _.
      at_number number 66 _ _ calm_writev (λ _.
      at_number number 93 _ _ calm_exit (λ _.
      at_number number 94 _ _ refl (λ _.
      at_number number 96 _ _ refl (λ _.
      at_number number 98 _ _ calm_futex (λ _.
      at_number number 122 _ _ (calm_unless (setaffinity_errors here t) _ refl) (λ _.
      at_number number 123 _ _ (calm_unless (getaffinity_errors here t) _ refl) (λ _.
      at_number number 124 _ _ refl (λ _.
      at_number number 130 _ _ calm_tkill (λ _.
      at_number number 131 _ _ calm_tgkill (λ _.
      at_number number 134 _ _ (calm_unless (sigaction_errors here t) _ refl) (λ _.
      at_number number 135 _ _ (calm_unless (sigprocmask_errors here t) _ refl) (λ _.
      at_number number 139 _ _ (return_told (frame_read (memory here) (here.file t))) (λ another.
      at_number number 168 _ _ (calm_unless (getcpu_errors here t) _ refl) (λ _.
      at_number number 172 _ _ refl (λ _.
      at_number number 178 _ _ refl (λ _.
      at_number number 214 _ _ refl (λ _.
      at_number number 215 _ _ (calm_changed _ _) (λ _.
      at_number number 220 _ _ (calm_unless (clone_errors here t) _ refl) (λ _.
      at_number number 222 _ _ calm_mmap (λ _.
      at_number number 226 _ _ (calm_changed _ _) (λ _.
      at_number number 233 _ _ (calm_wrote _ _) (λ _.
      at_number number 278 _ _ (calm_unless (getrandom_errors here t) _ refl) (λ _.
      calm_asking number ∙ sym (none_told number other another)))))))))))))))))))))))))

  told_call : (number : ℕ) → IsTold number (call_of number here t)
  told_call number =
      at_number number 283 _ _ (calm_barrier here.beside) (λ _.
      at_number number 293 _ _ (rseq_told here.beside) (told_own number))

  pub told_called : kills (called here t).ended ≡ is_some (call_kills here t (call_number here t))
  told_called = told_call (call_number here t)
