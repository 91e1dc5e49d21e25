-- An event is refused and done alike where the files of threads are the same but for that of thread t: where
-- it isn't t's own, t awake; and where it is t's own but no instruction, t waits in no barrier, and is
-- outside its sequence.
use Rattle.local_steps.proofs.Common.{◌≡◌, ◌≢◌, ℕ, List, [], ◌∷◌, refl, sym, ap, ◌∙◌, Bool, true, false, Option, Some, None, Choice, Here, Saved, Tid, done_done_by, done_exec_by, done_of, done_signal_by, done_take_by, done_run, interruption_here, next_for, refusal_exec_by, refusal_of, refusal_done_by, runs, thread_in, waiting_here, is_handler, action_of, took_and_interrupted, Store, area_here, cond, done_drain_of, done_killed, done_running, eqb, eqb_same, files_interrupted, interruption, is_writable, lives_on, memory, refusal_delivery, unless_in_barrier, unless_waiting, NoRequest, NotInBarrier}
use Rattle.mach_types.specs.declared.events.Choice.TheVariants as asked
use Rattle.mach_types.specs.declared.sequences.Outcome.{Outcome}
use Rattle.mach_types.specs.declared.sequences.Outcome.TheVariants as comes_to
use Rattle.local_steps.proofs.ReadsOne.{AgreeBut, IsAwake, exec_alike, exec_refused_alike, with_all, with_files}
use Rattle.block_model.specs.Events.Run.{done_run_by}
use Rattle.block_model.specs.Events.Signal.{done_delivery}
use Rattle.local_steps.proofs.Notions.{IsCalm, IsOutside, with_file}

-- an event is refused and done alike with the one files and the other
pub record IsAlikeFor (here : Here) (f g : ℕ → Saved) (c : Choice) : Type 0 where
  pub refusal : refusal_of c (with_files f here) ≡ refusal_of c (with_files g here)
  pub done : done_of c (with_files f here) ≡ done_of c (with_files g here)

-- EVENTS OF OTHER THREADS

module _ (here : Here) (t : ℕ) (f g : ℕ → Saved) (agree : AgreeBut t f g) where
  abbrev IsApart : Option ℕ → Type 0
  IsApart r = (u : ℕ) → r ≡ Some u → u ≢ t

  done_exec_alike : (r : Option ℕ) → IsApart r → IsAwake t here.kernel → done_exec_by (with_files f here) r ≡ done_exec_by (with_files g here) r
  done_exec_alike None apart awake = refl
  done_exec_alike (Some u) apart awake = exec_alike here t f g agree u (apart u refl) awake

  exec_refused : (r : Option ℕ) → IsApart r → refusal_exec_by (with_files f here) r ≡ refusal_exec_by (with_files g here) r
  exec_refused None apart = refl
  exec_refused (Some u) apart = exec_refused_alike here t f g agree u (apart u refl)

  done_take_alike : (b : Bool) (r : Option ℕ) → IsApart r → done_take_by (with_files f here) b r ≡ done_take_by (with_files g here) b r
  done_take_alike true (Some u) apart = λ i. done_take_by (with_all (agree u (apart u refl) i) here) true (Some u)
  done_take_alike true None apart = refl
  done_take_alike false r apart = refl

  done_done_alike : (r : Option ℕ) → IsApart r → done_done_by (with_files f here) r ≡ done_done_by (with_files g here) r
  done_done_alike None apart = refl
  done_done_alike (Some u) apart = λ i. done_done_by (with_all (agree u (apart u refl) i) here) (Some u)

  done_signal_alike : (r : Option ℕ) → IsApart r → done_signal_by (with_files f here) r ≡ done_signal_by (with_files g here) r
  done_signal_alike None apart = refl
  done_signal_alike (Some u) apart = λ i. done_signal_by (with_all (agree u (apart u refl) i) here) (Some u)

  pub of_other : (c : Choice) → IsApart (thread_in c here) → IsAwake t here.kernel → IsAlikeFor here f g c
  of_other asked.Exec apart awake = record { refusal = exec_refused (runs here) apart; done = done_exec_alike (runs here) apart awake }
  of_other asked.Drain apart awake = record { refusal = refl; done = refl }
  of_other asked.Take apart awake = record { refusal = refl; done = done_take_alike here.restart (runs here) apart }
  of_other asked.Done apart awake = record { refusal = refl; done = done_done_alike (runs here) apart }
  of_other asked.Preempt apart awake = record { refusal = refl; done = refl }
  of_other (asked.Run u) apart awake = record { refusal = refl; done = λ i. done_run (with_all (agree u.0 (apart u.0 refl) i) here) u.0 }
  of_other asked.Signal apart awake = record { refusal = refl; done = done_signal_alike (runs here) apart }

-- EVENTS OF THREAD t

module _ (here : Here) (t : ℕ) (f : ℕ → Saved) (g : Saved) where
  abbrev ahead : Here
  ahead = with_files (with_file t g f) here

  abbrev behind : Here
  behind = with_files f here

  -- what an interruption comes to that restarts nothing does the same, and sets no file
  took_alike : (o : Outcome) → ((at : ℕ) → o ≢ comes_to.Aborted at) → took_and_interrupted ahead t o ≡ took_and_interrupted behind t o
  took_alike (comes_to.Aborted at) kept = absurd (kept at refl)
  took_alike o kept = refl

  ran_alike : (o : Outcome) → ((at : ℕ) → o ≢ comes_to.Aborted at) → done_run_by ahead t o ≡ done_run_by behind t o
  ran_alike (comes_to.Aborted at) kept = absurd (kept at refl)
  ran_alike o kept = refl

  delivered_alike : (signal : ℕ) (o : Outcome) → is_handler (action_of signal here.kernel.signals) ≡ false → ((at : ℕ) → o ≢ comes_to.Aborted at)
      → done_delivery ahead t signal o ≡ done_delivery behind t signal o
  delivered_alike signal (comes_to.Aborted at) none kept = absurd (kept at refl)
  delivered_alike signal (comes_to.Killed why) none kept = refl
  delivered_alike signal comes_to.Nothing none kept = rw none refl
  delivered_alike signal comes_to.Cleared none kept = rw none refl

  no_file : (o : Outcome) → ((at : ℕ) → o ≢ comes_to.Aborted at) → files_interrupted behind t o ≡ []
  no_file (comes_to.Aborted at) kept = absurd (kept at refl)
  no_file o kept = refl

  same_file : with_file t g f t ≡ g
  same_file = rw (eqb_same t) refl

  -- where it is outside its sequence, an interruption comes to the same
  module _ (outside : IsOutside behind t g) where
    abbrev o : Outcome
    o = interruption_here behind t

    comes_alike : interruption_here ahead t ≡ o
    comes_alike = ap (λ (x : Saved). interruption (memory here) (is_writable here) (area_here here t) x.pc) same_file ∙ outside.same

    pub take_alike : done_take_by ahead true (Some t) ≡ done_take_by behind true (Some t)
    take_alike = ap (took_and_interrupted ahead t) comes_alike ∙ took_alike o outside.kept

    pub run_alike : done_run ahead t ≡ done_run behind t
    run_alike = ap (done_run_by ahead t) comes_alike ∙ ran_alike o outside.kept

    pub delivery_alike : (signal : ℕ) → is_handler (action_of signal here.kernel.signals) ≡ false
        → done_delivery ahead t signal (interruption_here ahead t) ≡ done_delivery behind t signal o
    delivery_alike signal none = ap (done_delivery ahead t signal) comes_alike ∙ delivered_alike signal o none outside.kept

    pub run_files : (done_run behind t).files ≡ []
    run_files = by_lives (lives_on behind t o)
      where
        by_lives : (b : Bool) → (cond b (done_running behind t o) (done_killed behind t o)).files ≡ []
        by_lives true = no_file o outside.kept
        by_lives false = no_file o outside.kept

    pub take_files : (done_take_by behind true (Some t)).files ≡ []
    take_files = no_file o outside.kept

    pub delivery_files : (signal : ℕ) → is_handler (action_of signal here.kernel.signals) ≡ false → (done_delivery behind t signal o).files ≡ []
    delivery_files signal none = by_kills o outside.kept
      where
        by_kills : (o : Outcome) → ((at : ℕ) → o ≢ comes_to.Aborted at) → (done_delivery behind t signal o).files ≡ []
        by_kills (comes_to.Aborted at) kept = absurd (kept at refl)
        by_kills (comes_to.Killed why) kept = refl
        by_kills comes_to.Nothing kept = rw none refl
        by_kills comes_to.Cleared kept = rw none refl

  -- it does alike, and sets no file
  pub record IsPassed (c : Choice) : Type 0 where
    pub alike : IsAlikeFor here f (with_file t g f) c
    pub files : (done_of c behind).files ≡ []

  empties : (ws : List Store) → unless_waiting ws ≡ None → ws ≡ []
  empties [] free = refl
  empties (w ∷ ws) free = absurd cc

  take_empties : (b : Bool) → cond b (Some NoRequest) (unless_waiting (waiting_here here)) ≡ None → waiting_here here ≡ []
  take_empties true free = absurd cc
  take_empties false free = empties (waiting_here here) free

  take_passed : (b : Bool) → here.restart ≡ b → runs here ≡ Some t → (b ≡ true → IsOutside behind t g) → IsPassed asked.Take
  take_passed true is at outside = record {
    alike = record { refusal = refl; done = rw (is, at) (sym (take_alike (outside refl))) };
    files = rw (is, at) (take_files (outside refl));
  }
  take_passed false is at outside = record { alike = record { refusal = refl; done = rw is refl }; files = rw is refl }

  signal_passed : (next : Option ℕ) → next_for t here.kernel.signals ≡ next → runs here ≡ Some t
      → ((signal : ℕ) → next ≡ Some signal → is_handler (action_of signal here.kernel.signals) ≡ false)
      → ((signal : ℕ) → next ≡ Some signal → IsOutside behind t g) → IsPassed asked.Signal
  signal_passed None is at unhandled outside = record { alike = record { refusal = refl; done = rw (at, is) refl }; files = rw (at, is) refl }
  signal_passed (Some signal) is at unhandled outside =
      let out = outside signal refl in
      let none = unhandled signal refl in
      record {
        alike = record { refusal = refl; done = rw (at, is) (sym (delivery_alike out signal none)) };
        files = rw (at, is) (delivery_files out signal none);
      }

  -- a signal that is delivered comes where no store waits
  signal_empties : (awaits : Option ℕ) (next : Option ℕ) → unless_in_barrier awaits (refusal_delivery here next) ≡ None → (signal : ℕ) → next ≡ Some signal → waiting_here here ≡ []
  signal_empties (Some left) next free signal is = absurd cc
  signal_empties None None free signal is = absurd cc
  signal_empties None (Some n) free signal is = empties (waiting_here here) free

  returns_none : (r : Option ℕ) → r ≡ Some t → here.awaits ≡ None → refusal_done_by here r ≡ None → ⊥
  returns_none None at none free = absurd cc
  returns_none (Some u) at none free = let is : Some NotInBarrier ≡ None = rw none at free in absurd cc

  some_same : (u v : ℕ) → Some u ≡ Some v → u ≡ v
  some_same u v is = cc

  run_passed : (u : Tid) → u.0 ≡ t → (u.0 ≡ t → IsOutside behind t g) → IsPassed (asked.Run u)
  run_passed u same outside = record {
    alike = record { refusal = refl; done = rw same (sym (run_alike (outside same))) };
    files = rw same (run_files (outside same));
  }

  -- it is refused alike in any case
  pub own_refused : (c : Choice) → c ≢ asked.Exec → refusal_of c behind ≡ refusal_of c ahead
  own_refused asked.Exec other = absurd (other refl)
  own_refused c other = refl

  pub of_own : (c : Choice) → thread_in c here ≡ Some t → c ≢ asked.Exec → here.awaits ≡ None → refusal_of c behind ≡ None → IsCalm c behind t g → IsPassed c
  of_own asked.Exec at other none free calm = absurd (other refl)
  of_own asked.Drain at other none free calm = record { alike = record { refusal = refl; done = refl }; files = drain_files (waiting_here here) }
    where
      drain_files : (ws : List Store) → (done_drain_of behind ws).files ≡ []
      drain_files [] = refl
      drain_files (w ∷ ws) = refl
  of_own asked.Take at other none free calm = take_passed here.restart refl at (λ is. calm.outside (at, take_empties (eqb here.requests 0) free))
  of_own asked.Done at other none free calm = absurd (returns_none (runs here) at none free)
  of_own asked.Preempt at other none free calm = record { alike = record { refusal = refl; done = refl }; files = rw at refl }
  of_own (asked.Run u) at other none free calm = run_passed u (some_same u.0 t at) calm.outside
  of_own asked.Signal at other none free calm =
      signal_passed (next_for t here.kernel.signals) refl at (calm.unhandled refl at)
      (λ signal is. calm.outside (at, signal_empties here.awaits (next_for t here.kernel.signals) (rw at at free) signal is))
