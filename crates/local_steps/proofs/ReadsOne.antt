-- Of the files of threads an event reads that of its own thread alone; but who wakes a thread, or breaks its
-- wait, sets that one's too.
use Rattle.local_steps.proofs.Common.{◌≡◌, ◌≢◌, ◌⊎◌, inl, inr, ℕ, List, [], ◌∷◌, map, length, refl, sym, ap, ◌∙◌, subst, Bool, false, eqb_tells, Option, Some, None, CallDone, Done, Effect, Here, Kernel, Saved, answered_wait, argument, broken_wait, by_call, by_outcome, call_number, called, done_exec_by, int_argument, is_call, is_inside_here, is_waiting_state, killed_in_call, next_effect, next_fault, one_instruction, outcome_of, refusal_exec_by, returned, said, state_of, wake, waits, woken}
use Rattle.std.specs.Prelude.{◌==◌, ◌&&◌, if◌then◌else◌, find, zero, suc}
use Rattle.block_model.specs.Calls.Futexes.{Woken, anyone, futex, futex_errors, futex_wait, is_wait, is_wake, move, nobody, requeue, requeue_errors, wake_mask, woken_first}
use Rattle.mach_types.specs.Kernel.Futexes.{hears, operation}
use Rattle.block_model.specs.Kernel.{requeued}
use Rattle.mach_types.specs.Kernel.Threads.{is_waiting_at, longest_waiter, with_woken}
use Rattle.block_model.proofs.Laws.{longest_waits, requeue_by}
use Rattle.mach_types.proofs.Laws.{state_of-with_state_other}
use Rattle.mach_types.specs.declared.threads.ThreadState.TheVariants.{Ready, Waiting}
use Rattle.mach_types.specs.declared.threads.ThreadState.{ThreadState}
use Rattle.std.specs.Option.{option_map_or}
use Rattle.block_model.specs.Calls.{asking_call_of}
use Rattle.block_model.specs.Calls.Answers.{unless}
use Rattle.block_model.specs.Calls.Affinity.{getcpu, sched_getaffinity, sched_setaffinity, sched_yield}
use Rattle.block_model.specs.Beside.{Neighbour}
use Rattle.block_model.specs.Calls.Beside.{barrier_call, sequence_call}
use Rattle.block_model.specs.Calls.Cloning.{clone}
use Rattle.block_model.specs.Calls.Console.{write, writev}
use Rattle.block_model.specs.Calls.Ending.{clearing, exit, exit_group, is_last, last_exits, woken_at_exit}
use Rattle.block_model.specs.Calls.Memory.{brk, madvise, mmap, mprotect, munmap}
use Rattle.block_model.specs.Calls.Numbers.{getpid, gettid, set_tid_address}
use Rattle.block_model.specs.Calls.Random.{getrandom}
use Rattle.block_model.specs.Calls.Signals.{refuses_signal, rt_sigaction, rt_sigprocmask, rt_sigreturn, tgkill, tgkill_errors, tkill, tkill_errors, waits_in_vain, with_posted}
use Rattle.block_model.specs.Kernel.{gone}
use Rattle.mach_types.specs.declared.errors.TheConstants.{EINVAL}
use Rattle.block_model.specs.Events.Exec.{by_fault}

-- files of threads that are the same but for that of thread t
abbrev pub AgreeBut : ℕ → (ℕ → Saved) → (ℕ → Saved) → Type 0
AgreeBut t f g = (u : ℕ) → u ≢ t → f u ≡ g u

abbrev pub with_files : (ℕ → Saved) → Here → Here
with_files f here = record here { file = f }

-- all threads have one file
abbrev pub with_all : Saved → Here → Here
with_all f here = with_files (λ _. f) here

-- thread t waits for nothing
abbrev pub IsAwake : ℕ → Kernel → Type 0
IsAwake t k = waits k.threads t → ⊥

-- WHO IS WOKEN

awake_woken : (v t : ℕ) (k : Kernel) → v ≢ t → IsAwake t k → IsAwake t (woken v k)
awake_woken v t k ne awake waiting = awake (waiting.0, sym (state_of-with_state_other v t (λ e. ne (sym e)) Ready k.threads) ∙ waiting.1)

awake_requeued : (v to t : ℕ) (k : Kernel) → v ≢ t → IsAwake t k → IsAwake t (requeued v to k)
awake_requeued v to t k ne awake waiting =
    let other : t ≢ v = λ e. ne (sym e) in
    awake (waiting.0, sym (state_of-with_state_other v t other (Waiting to) (with_woken v k.threads) ∙ state_of-with_state_other v t other Ready k.threads) ∙ waiting.1)

awake_state : (t : ℕ) (k : Kernel) → IsAwake t k → option_map_or is_waiting_state (state_of t k.threads) false ≡ false
awake_state t k awake = by_state (state_of t k.threads) refl
  where
    by_state : (o : Option ThreadState) → state_of t k.threads ≡ o → option_map_or is_waiting_state o false ≡ false
    by_state (Some (Waiting at)) is = absurd (awake (at, is))
    by_state o is = refl

-- of who listens only those matter that wait: so not a thread that waits for nothing
module _ (t : ℕ) (a b : ℕ → Bool) (agree : (u : ℕ) → u ≢ t → a u ≡ b u) where
  apart : (v : ℕ) (k : Kernel) → waits k.threads v → IsAwake t k → v ≢ t
  apart v k waiting awake same = awake (subst (waits k.threads) same waiting)

  longest_alike : (at : ℕ) (k : Kernel) → IsAwake t k → longest_waiter at a k.threads ≡ longest_waiter at b k.threads
  longest_alike at k awake = λ i. find (λ u. same u i) k.threads.waiters
    where
      by_state : (u : ℕ) (o : Option ThreadState) → state_of u k.threads ≡ o → (is_waiting_at at o && a u) ≡ (is_waiting_at at o && b u)
      by_state u (Some (Waiting c)) was = ap (λ l. (c == at) && l) (agree u (apart u k (c, was) awake))
      by_state u o was = refl

      same : (u : ℕ) → (is_waiting_at at (state_of u k.threads) && a u) ≡ (is_waiting_at at (state_of u k.threads) && b u)
      same u = by_state u (state_of u k.threads) refl

  next_alike : (at : ℕ) (k : Kernel) → IsAwake t k → (x y : ℕ → Woken)
      → ((u : ℕ) → waits k.threads u → u ≢ t → x u ≡ y u) → (o : Option ℕ) → longest_waiter at b k.threads ≡ o
      → option_map_or (λ u. woken_first u (x u)) o (nobody k) ≡ option_map_or (λ u. woken_first u (y u)) o (nobody k)
  next_alike at k awake x y same None is = refl
  next_alike at k awake x y same (Some u) is =
      let waiting = longest_waits at b k.threads u is in
      ap (woken_first u) (same u waiting (apart u k waiting awake))

  move_alike : (n at to : ℕ) (k : Kernel) → IsAwake t k → move n at to a k ≡ move n at to b k
  move_alike zero at to k awake = refl
  move_alike (suc n) at to k awake =
      ap (λ o. option_map_or (λ u. woken_first u (move n at to a (requeued u to k))) o (nobody k)) (longest_alike at k awake)
      ∙ next_alike at k awake (λ u. move n at to a (requeued u to k)) (λ u. move n at to b (requeued u to k))
      (λ u waiting ne. move_alike n at to (requeued u to k) (awake_requeued u to t k ne awake)) (longest_waiter at b k.threads) refl

  requeue_alike : (n more at to : ℕ) (k : Kernel) → IsAwake t k → requeue n more at to a k ≡ requeue n more at to b k
  requeue_alike zero more at to k awake = move_alike more at to k awake
  requeue_alike (suc n) more at to k awake =
      ap (λ o. option_map_or (λ u. woken_first u (requeue n more at to a (woken u k))) o (nobody k)) (longest_alike at k awake)
      ∙ next_alike at k awake (λ u. requeue n more at to a (woken u k)) (λ u. requeue n more at to b (woken u k))
      (λ u waiting ne. requeue_alike n more at to (woken u k) (awake_woken u t k ne awake)) (longest_waiter at b k.threads) refl

module _ (here : Here) (t : ℕ) (f g : ℕ → Saved) (agree : AgreeBut t f g) where
  woken_alike : (n more at to : ℕ) (listens : ℕ → Bool) (k : Kernel) → IsAwake t k
      → map (answered_wait (with_files f here)) (requeue n more at to listens k).threads ≡ map (answered_wait (with_files g here)) (requeue n more at to listens k).threads
  woken_alike =
      requeue_by (λ k done. IsAwake t k → map (answered_wait (with_files f here)) done.threads ≡ map (answered_wait (with_files g here)) done.threads)
      (λ k awake. refl)
      (λ v k rest waiting is awake.
      let ne = apart v k waiting awake in
      let p = agree v ne in
      let q = is (awake_woken v t k ne awake) in
      λ i. answered_wait (with_all (p i) here) v ∷ q i)
      (λ v to k rest waiting is awake.
      let ne = apart v k waiting awake in
      let p = agree v ne in
      let q = is (awake_requeued v to t k ne awake) in
      λ i. answered_wait (with_all (p i) here) v ∷ q i)
    where
      apart : (v : ℕ) (k : Kernel) → waits k.threads v → IsAwake t k → v ≢ t
      apart v k waiting awake same = awake (subst (waits k.threads) same waiting)

  -- futex(2): with the files of those that are woken, and of those that are woken or wait at another word
  abbrev counted_with : Here → ℕ → Woken → List (ℕ × Saved) → CallDone
  counted_with here u done files =
      record { files = (u, returned (length done.threads) (here.file u)) ∷ files; entered = []; kernel = done.kernel; barrier = None; ended = None }

  abbrev woken_by : Here → ℕ → (ℕ → Bool) → Woken
  woken_by here u listens = wake (int_argument here u 2) (argument here u 0) listens here.kernel

  -- who hears the wake of a thread, where these are the files
  abbrev heard : Here → ℕ → (ℕ → Saved) → ℕ → Bool
  heard here u file v = hears (wake_mask here u) (file v)

  abbrev moved_by : Here → ℕ → Woken
  moved_by here u = requeue (int_argument here u 2) (int_argument here u 3) (argument here u 0) (argument here u 4) anyone here.kernel

  abbrev futex_with : Here → ℕ → Woken → List (ℕ × Saved) → List (ℕ × Saved) → CallDone
  futex_with here u done woken moved =
      let op = operation (int_argument here u 1) in
      unless here u (futex_errors here u)
      (if is_wait op then futex_wait here u
      else if is_wake op then counted_with here u done woken
      else unless here u (requeue_errors here u) (counted_with here u (moved_by here u) moved))

  futex_alike : (u : ℕ) → u ≢ t → IsAwake t here.kernel → futex (with_files f here) u ≡ futex (with_files g here) u
  futex_alike u ne awake =
      let p = agree u ne in
      let at = with_all (g u) here in
      let first : futex (with_files f here) u
      ≡ futex_with at u (woken_by at u (heard at u f)) (map (answered_wait (with_files f here)) (woken_by at u (heard at u f)).threads)
      (map (answered_wait (with_files f here)) (moved_by at u).threads) =
      ap (λ (x : Saved).
      let own = with_all x here in
      let done = woken_by own u (heard own u f) in
      futex_with own u done (map (answered_wait (with_files f here)) done.threads) (map (answered_wait (with_files f here)) (moved_by own u).threads)) p in
      let same = requeue_alike t (heard at u f) (heard at u g) (λ v other. ap (hears (wake_mask at u)) (agree v other))
      (int_argument at u 2) 0 (argument at u 0) 0 here.kernel awake in
      let woken = woken_alike (int_argument at u 2) 0 (argument at u 0) 0 (heard at u g) here.kernel awake in
      let moved = woken_alike (int_argument at u 2) (int_argument at u 3) (argument at u 0) (argument at u 4) anyone here.kernel awake in
      first
      ∙ (λ i. futex_with at u (same i) (map (answered_wait (with_files f here)) (same i).threads) (map (answered_wait (with_files f here)) (moved_by at u).threads))
      ∙ (λ i. futex_with at u (woken_by at u (heard at u g)) (woken i) (moved i))

  -- exit(2)
  abbrev exit_with : Here → ℕ → List (ℕ × Saved) → CallDone
  exit_with here u files =
      if is_last here then last_exits here u
      else record { files = files; entered = clearing here u; kernel = gone u (woken_at_exit here u).kernel; barrier = None; ended = None }

  exit_alike : (u : ℕ) → u ≢ t → IsAwake t here.kernel → exit (with_files f here) u ≡ exit (with_files g here) u
  exit_alike u ne awake =
      let p = agree u ne in
      let first : exit (with_files f here) u ≡ exit_with (with_all (g u) here) u (map (answered_wait (with_files f here)) (woken_at_exit here u).threads) =
      ap (λ (x : Saved). exit_with (with_all x here) u (map (answered_wait (with_files f here)) (woken_at_exit here u).threads)) p in
      first ∙ ap (exit_with (with_all (g u) here) u) (woken_alike _ 0 _ 0 anyone here.kernel awake)

  -- tkill(2) and tgkill(2): with whether thread v waits in vain, and the file of its broken wait
  abbrev send_with : Here → ℕ → ℕ → ℕ → Bool → ℕ × Saved → CallDone
  send_with here u v sig vain broken =
      unless here u ((refuses_signal sig, EINVAL) ∷ [])
      (if sig == 0 then said here u 0
      else if vain
      then record { files = (u, returned 0 (here.file u)) ∷ broken ∷ []; entered = []; kernel = woken v (with_posted here v sig); barrier = None; ended = None }
      else record (said here u 0) { kernel = with_posted here v sig })

  abbrev tkill_with : Here → ℕ → Bool → ℕ × Saved → CallDone
  tkill_with here u vain broken = unless here u (tkill_errors here u) (send_with here u (int_argument here u 0) (int_argument here u 1) vain broken)

  abbrev tgkill_with : Here → ℕ → Bool → ℕ × Saved → CallDone
  tgkill_with here u vain broken = unless here u (tgkill_errors here u) (send_with here u (int_argument here u 1) (int_argument here u 2) vain broken)

  -- where thread v waits in vain it isn't t
  not_in_vain : (v sig : ℕ) → v ≡ t → IsAwake t here.kernel → waits_in_vain v (with_posted here v sig) ≡ false
  not_in_vain v sig same awake = rw (awake_state v here.kernel (λ waiting. awake (subst (waits here.kernel.threads) same waiting))) refl

  vain_apart : (v sig : ℕ) → IsAwake t here.kernel
      → (waits_in_vain v (with_posted here v sig) ≡ false) ⊎ (broken_wait (with_files f here) v ≡ broken_wait (with_files g here) v)
  vain_apart v sig awake = elim (eqb_tells v t) [
    | inl p ↦ inl (not_in_vain v sig p.1 awake)
    | inr q ↦ inr (ap (λ (x : Saved). broken_wait (with_all x here) v) (agree v q.1))
  ]

  by_vain : (c : Bool → ℕ × Saved → CallDone) (vain : Bool) (x y : ℕ × Saved) → c false x ≡ c false y → (vain ≡ false) ⊎ (x ≡ y) → c vain x ≡ c vain y
  by_vain c vain x y none (inl is) = ap (λ b. c b x) is ∙ none ∙ sym (ap (λ b. c b y) is)
  by_vain c vain x y none (inr same) = ap (c vain) same

  tkill_alike : (u : ℕ) → u ≢ t → IsAwake t here.kernel → tkill (with_files f here) u ≡ tkill (with_files g here) u
  tkill_alike u ne awake =
      let p = agree u ne in
      let v = int_argument (with_all (g u) here) u 0 in
      let sig = int_argument (with_all (g u) here) u 1 in
      let vain = waits_in_vain v (with_posted here v sig) in
      let first : tkill (with_files f here) u ≡ tkill_with (with_all (g u) here) u vain (broken_wait (with_files f here) v) =
      ap (λ (x : Saved).
      let at = with_all x here in
      tkill_with at u (waits_in_vain (int_argument at u 0) (with_posted here (int_argument at u 0) (int_argument at u 1))) (broken_wait (with_files f here) (int_argument at u 0))) p in
      first ∙ by_vain (tkill_with (with_all (g u) here) u) vain _ _ refl (vain_apart v sig awake)

  tgkill_alike : (u : ℕ) → u ≢ t → IsAwake t here.kernel → tgkill (with_files f here) u ≡ tgkill (with_files g here) u
  tgkill_alike u ne awake =
      let p = agree u ne in
      let v = int_argument (with_all (g u) here) u 1 in
      let sig = int_argument (with_all (g u) here) u 2 in
      let vain = waits_in_vain v (with_posted here v sig) in
      let first : tgkill (with_files f here) u ≡ tgkill_with (with_all (g u) here) u vain (broken_wait (with_files f here) v) =
      ap (λ (x : Saved).
      let at = with_all x here in
      tgkill_with at u (waits_in_vain (int_argument at u 1) (with_posted here (int_argument at u 1) (int_argument at u 2))) (broken_wait (with_files f here) (int_argument at u 1))) p in
      first ∙ by_vain (tgkill_with (with_all (g u) here) u) vain _ _ refl (vain_apart v sig awake)

  -- THE TABLE: each other call reads its own thread's file alone

  barrier_alike : (beside : Option Neighbour) (u : ℕ) → u ≢ t → barrier_call beside (with_files f here) u ≡ barrier_call beside (with_files g here) u
  barrier_alike None u ne = ap (λ (x : Saved). barrier_call None (with_all x here) u) (agree u ne)
  barrier_alike (Some other) u ne = ap (λ (x : Saved). barrier_call (Some other) (with_all x here) u) (agree u ne)

  sequence_alike : (beside : Option Neighbour) (u : ℕ) → u ≢ t → sequence_call beside (with_files f here) u ≡ sequence_call beside (with_files g here) u
  sequence_alike None u ne = ap (λ (x : Saved). sequence_call None (with_all x here) u) (agree u ne)
  sequence_alike (Some other) u ne = ap (λ (x : Saved). sequence_call (Some other) (with_all x here) u) (agree u ne)

  -- the call of any number
  called_alike : (u : ℕ) → u ≢ t → IsAwake t here.kernel → called (with_files f here) u ≡ called (with_files g here) u
  called_alike u ne awake = λ i.
      let at = with_all (agree u ne i) here in
      let number = call_number at u in
      if number == 283 then barrier_alike here.beside u ne i
      else if number == 293 then sequence_alike here.beside u ne i
      else if number == 64 then write at u
      else if number == 66 then writev at u
      else if number == 93 then exit_alike u ne awake i
      else if number == 94 then exit_group at u
      else if number == 96 then set_tid_address at u
      else if number == 98 then futex_alike u ne awake i
      else if number == 122 then sched_setaffinity at u
      else if number == 123 then sched_getaffinity at u
      else if number == 124 then sched_yield at u
      else if number == 130 then tkill_alike u ne awake i
      else if number == 131 then tgkill_alike u ne awake i
      else if number == 134 then rt_sigaction at u
      else if number == 135 then rt_sigprocmask at u
      else if number == 139 then rt_sigreturn at u
      else if number == 168 then getcpu at u
      else if number == 172 then getpid at u
      else if number == 178 then gettid at u
      else if number == 214 then brk at u
      else if number == 215 then munmap at u
      else if number == 220 then clone at u
      else if number == 222 then mmap at u
      else if number == 226 then mprotect at u
      else if number == 233 then madvise at u
      else if number == 278 then getrandom at u
      else asking_call_of number at u

  -- INSTRUCTIONS

  abbrev exec_with : Here → ℕ → CallDone → Option ℕ → Option Effect → Done
  exec_with here u c (Some signal) e = by_fault here u signal
  exec_with here u c None None = one_instruction here
  exec_with here u c None (Some e) =
      if is_call e then by_call here (if is_inside_here here u then killed_in_call here else c) else by_outcome here u (outcome_of here u e)

  pub exec_alike : (u : ℕ) → u ≢ t → IsAwake t here.kernel → done_exec_by (with_files f here) (Some u) ≡ done_exec_by (with_files g here) (Some u)
  exec_alike u ne awake =
      let p = agree u ne in
      let c = called_alike u ne awake in
      λ i. let at = with_all (p i) here in exec_with at u (c i) (next_fault at u) (next_effect at u)

  pub exec_refused_alike : (u : ℕ) → u ≢ t → refusal_exec_by (with_files f here) (Some u) ≡ refusal_exec_by (with_files g here) (Some u)
  exec_refused_alike u ne = ap (λ (x : Saved). refusal_exec_by (with_all x here) (Some u)) (agree u ne)
