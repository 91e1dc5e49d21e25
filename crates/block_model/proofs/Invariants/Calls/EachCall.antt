-- Each call of the table is fit.
use Rattle.block_model.proofs.Common.{◌≡◌, ℕ, List, [], ◌∷◌, length, map, cond, refl, sym, ap, ◌∙◌, subst, arith, is_some, true, Option, Some, None, CallDone, Here, IsGoodHere, Kernel, PageRun, Setting, ThreadState, Write, answered_wait, broken_wait, call_number, called, clear_of, clears, gone, left, ne_eqb, registered, requeue, restricted, returned, runs, said, signalled, sum_64, taken_by, unregistered, waits, wake, woken, anyone}
use Rattle.mach_types.specs.Kernel.SignalFrames as frame
use Rattle.block_model.proofs.Barriers.Events.{IsAtOthers}
use Rattle.block_model.proofs.CallEffects.{Answers, Bears, Begins, Breaks, CallDeed, ChangesRows, Draws, Ends, EnrolsFor, Exits, Leaves, MovesOff, Prints, Registers, Remaps, Resumes, Same, Says, Signalled, Stays, TableStep, Unregisters, Waits, Wakes}
use Rattle.block_model.proofs.CallEffects.EachCall.{deed_called}
use Rattle.block_model.proofs.Invariants.Calls.Cloning.{fit_child}
use Rattle.block_model.proofs.Invariants.Calls.Conditions.{IsFitTaking, IsApart, apart_none, apart_one, apart_own, fit_kept, fit_moved}
use Rattle.block_model.proofs.Invariants.Calls.Futexes.{apart_woken, kept_requeue}
use Rattle.block_model.proofs.Invariants.Calls.RecordSteps.{IsKept, IsMoved, kept_moved, kept_printed, kept_rows, kept_restricted, kept_signalled, kept_still, kept_twice, kept_woken, moved_after, moved_gone, moved_left, moved_waited, kept_tables}
use Rattle.block_model.proofs.ThreadRecords.{has_state, held_beside, held_registered, held_unregistered}
use Rattle.block_model.proofs.KernelTables.{running_is, waits_elsewhere}
use Rattle.block_model.proofs.SignalTables.{returned_keeps}

-- a thread that runs is live
running_lives : (here : Here) (t : ℕ) → IsGoodHere here → runs here ≡ Some t → has_state t here.kernel.threads ≡ true
running_lives here t good at =
    ap (λ (o : Option ThreadState). is_some o)
    (running_is here.setting.limits.harts here.hart t here.kernel.threads here.kernel.scheduling good.kernel.tables at)

apart_broken : (here : Here) (u : ℕ) → IsGoodHere here → waits here.kernel.threads u → IsApart here (broken_wait here u ∷ [])
apart_broken here u good waiting k v f ne run = rw (ne_eqb u v (waits_elsewhere here.setting.limits.harts k v u here.kernel.threads here.kernel.scheduling good.kernel.tables run waiting)) refl

module _ (here : Here) (t number : ℕ) (good : IsGoodHere here) (at : runs here ≡ Some t) where
  abbrev s : Setting
  s = here.setting

  abbrev h : ℕ
  h = here.hart

  abbrev now : Kernel
  now = here.kernel

  abbrev taken : PageRun
  taken = taken_by number here t

  -- an answer, with a step of the record that moves no other thread
  moving : (n : ℕ) (entered : List Write) (k : Kernel) → IsMoved s h now k → IsFitTaking here taken (record (said here t n) { entered = entered; kernel = k })
  moving n entered k moved = fit_moved here taken _ refl (apart_one here t (returned n (here.file t)) good at) moved

  keeping : (n : ℕ) (entered : List Write) (k : Kernel) → IsKept s now k → IsFitTaking here taken (record (said here t n) { entered = entered; kernel = k })
  keeping n entered k kept = moving n entered k (kept_moved s h now k kept)

  fit_step : (n : ℕ) (entered : List Write) {k : Kernel} → TableStep here t number entered k → IsFitTaking here taken (record (said here t n) { entered = entered; kernel = k })
  fit_step n entered Same = keeping n entered now (kept_still s now good.kernel)
  fit_step n entered (Prints bytes room) = keeping n entered _ (kept_printed s bytes now good.kernel room)
  fit_step n entered (ChangesRows f keeps) = keeping n entered _ (kept_rows s f keeps now good.kernel)
  fit_step n entered Leaves = moving n entered _ (moved_left s h t now good.kernel at)
  fit_step n entered (Waits p none its_number) = moving n entered _ (moved_waited s h t p now good.kernel at)
  fit_step n entered (Stays set below some) = keeping n entered _ (kept_restricted s t set now good.kernel below some)
  fit_step n entered (MovesOff set below some) =
      let k = restricted t set now in
      let kept = kept_restricted s t set now good.kernel below some in
      moving n entered _ (moved_after s h now k (left t k) kept (moved_left s h t k kept.sound (kept.running h ∙ at)))
  fit_step n entered (Registers area alone none writes) =
      keeping n entered _ (kept_tables s now (registered t area now) good.kernel refl refl refl refl (held_registered s.limits.harts t area now (running_lives here t good at) none))
  fit_step n entered Unregisters = keeping n entered _ (kept_tables s now (unregistered t now) good.kernel refl refl refl refl (held_unregistered s.limits.harts t now))
  fit_step n entered (Signalled g keeps stand heeds calm) = keeping n entered _ (kept_signalled s g now good.kernel keeps)
  fit_step n entered (EnrolsFor r) = keeping n entered _ (kept_tables s now _ good.kernel refl refl refl refl (held_beside s.limits.harts now _ refl refl refl refl))
  fit_step n entered (Draws state) = keeping n entered _ (kept_tables s now _ good.kernel refl refl refl refl (held_beside s.limits.harts now _ refl refl refl refl))
  fit_step n entered (Remaps pages stays paged) = record {
    others = λ k ne. refl;
    apart = apart_one here t (returned n (here.file t)) good at;
    pages = stays;
    paged = paged;
    given = omega arith;
    barrier = λ b is. absurd cc;
    kernel = record { tables = good.kernel.tables; allowed = good.kernel.allowed; console = good.kernel.console };
    held = held_beside s.limits.harts now _ refl refl refl refl;
  }

  fit_deed : {c : CallDone} → CallDeed here t number c → IsFitTaking here taken c
  fit_deed (Says n) = keeping n [] now (kept_still s now good.kernel)
  fit_deed (Answers n entered k no_error writes step) = fit_step n entered step
  fit_deed (Wakes n more p to listens small) =
      let done = requeue n more p to listens now in
      fit_kept here taken _ refl
      (apart_own here t (returned (length done.threads) (here.file t)) (map (answered_wait here) done.threads) good at (apart_woken here n more p to listens good))
      (kept_requeue s n more p to listens now good.kernel)
  fit_deed (Breaks u g waiting keeps stand heeds calm) =
      let k = signalled g now in
      let kept = kept_signalled s g now good.kernel keeps in
      fit_kept here taken _ refl (apart_own here t (returned 0 (here.file t)) (broken_wait here u ∷ []) good at (apart_broken here u good waiting))
      (kept_twice s now k (woken u k) kept (kept_woken s u k kept.sound waiting))
  fit_deed (Exits more) =
      let n : ℕ = cond (clears here t) 1 0 in
      let address = clear_of t now.threads in
      let then = (wake n address anyone now).kernel in
      let kept = kept_requeue s n 0 address 0 anyone now good.kernel in
      let moved = moved_gone s h t then kept.sound (kept.running h ∙ at) in
      fit_moved here taken _ refl (apart_woken here n 0 address 0 anyone good) (moved_after s h now then (gone t then) kept moved)
  fit_deed (Bears entered writes free its_number) = fit_child here t entered taken good at free
  fit_deed (Begins set restart others no_error its_number) = record {
    others = λ k ne. refl;
    apart = apart_one here t (record (here.file t) { pc = sum_64 (here.file t).pc 4 }) good at;
    pages = λ n outside may. may;
    paged = λ is. is;
    given = omega arith;
    barrier = λ b is. record {
      others = let same : record { targets = set; restart = restart } ≡ b = cc in subst (IsAtOthers here) same (others good);
      running = λ none. let bad : None ≡ Some t = sym none ∙ at in absurd cc;
      stays = refl;
    };
    kernel = good.kernel;
    held = λ is. is;
  }
  fit_deed (Resumes words is its) =
      fit_kept here taken _ refl (apart_one here t (frame.restored words) good at)
      (kept_signalled s (frame.returned t (Some words) now.signals) now good.kernel (returned_keeps t (Some words) now.signals))
  fit_deed (Ends entered e writes over) = fit_kept here taken _ refl (apart_none here) (kept_still s now good.kernel)

pub fit_called : (here : Here) (t : ℕ) → IsGoodHere here → runs here ≡ Some t
    → IsFitTaking here (taken_by (call_number here t) here t) (called here t)
fit_called here t good at = fit_deed here t (call_number here t) good at (deed_called here t)
