-- What each call of the table leaves, whether its thread runs or not: files whose pc is below 2^64 and handlers that lie there where
-- it was so before, an end that isn't the end of a script, and a live thread where it didn't end the process.
use Rattle.block_model.proofs.Common.{◌≡◌, ℕ, ◌+◌, ◌<◌, ◌≤◌, List, [], ◌∷◌, length, map, filter, refl, sym, ◌∙◌, subst, Bool, true, false, not, cond, eqb, None, arith, AllByRecursion, CallDone, Here, IsSound, Kernel, Ready, Saved, Thread, Waiting, Write, answered_wait, argument, called, clear_of, cleared, clears, clone_child_cleartid, had_child, has_flag, is_thread, left, length-map, nat_tests, new_thread, next_number, numbers, requeue, requeued, restricted, rows_changed, signalled, state_if, sum_64, waited, wake, woken, woken_at_exit, anyone}
use Rattle.std.specs.List.Sorted.{IsStrictlyIncreasing}
use Rattle.std.proofs.lemmas.List.{length_push}
use Rattle.mach_types.specs.Kernel.Threads.{clear_if}
use Rattle.block_model.proofs.Images.{frame_small}
use Rattle.block_model.proofs.CallEffects.{Answers, Bears, Breaks, CallDeed, ChangesRows, Ends, Exits, Leaves, MovesOff, Resumes, Signalled, TableStep, Waits, Wakes}
pub use Rattle.block_model.proofs.CallEffects.{AllStand, NotOpen}
use Rattle.block_model.proofs.CallEffects.EachCall.{deed_called}
use Rattle.block_model.proofs.Invariants.Calls.Futexes.{kept_requeue, requeue_keeps}
use Rattle.block_model.proofs.Pcs.{StandsIn, in_word}
use Rattle.block_model.proofs.SignalTables.{HandlersStand}

abbrev pub FilesStand : List (ℕ × Saved) → Type 0
FilesStand files = AllByRecursion (λ (p : ℕ × Saved). StandsIn p.1) files

-- some thread is live
abbrev pub SomeLive : Kernel → Type 0
SomeLive k = 0 < length k.threads.live

-- how many are
abbrev lives : Kernel → ℕ
lives k = length k.threads.live

pub record IsProperCall (here : Here) (c : CallDone) : Type 0 where
  pub files : AllStand here → FilesStand c.files
  pub handlers : AllStand here → HandlersStand c.kernel.signals
  pub ended : NotOpen c.ended
  pub live : IsSound here.setting here.kernel → SomeLive here.kernel → c.ended ≡ None
      → SomeLive c.kernel

pub not_ended : NotOpen None
not_ended = ((λ is. absurd cc), (λ is. absurd cc))

-- steps of the record that keep how many threads are live
left_lives : (t : ℕ) (k : Kernel) → lives (left t k) ≡ lives k
left_lives t k = length-map k.threads.live (state_if t Ready)

waited_lives : (t at : ℕ) (k : Kernel) → lives (waited t at k) ≡ lives k
waited_lives t at k = length-map k.threads.live (state_if t (Waiting at))

woken_lives : (t : ℕ) (k : Kernel) → lives (woken t k) ≡ lives k
woken_lives t k = length-map k.threads.live (state_if t Ready)

rows_lives : (f : Thread → Thread) (k : Kernel) → lives (rows_changed f k) ≡ lives k
rows_lives f k = length-map k.threads.live f

child_lives : (t : ℕ) (k : Kernel) → lives (had_child t k) ≡ lives k + 1
child_lives t k = length_push k.threads.live (new_thread (k.threads.given + 1))

requeued_lives : (t at : ℕ) (k : Kernel) → lives (requeued t at k) ≡ lives k
requeued_lives t at k = waited_lives t at (woken t k) ∙ woken_lives t k

requeue_lives : (n more at to : ℕ) (listens : ℕ → Bool) (k : Kernel) → lives (requeue n more at to listens k).kernel ≡ lives k
requeue_lives =
    requeue_keeps (λ a b. lives b ≡ lives a) (λ k. refl) (λ u k after waiting rest. rest ∙ woken_lives u k)
    (λ u to k after waiting rest. rest ∙ requeued_lives u to k)

-- neither changes signals
requeue_signals : (n more at to : ℕ) (listens : ℕ → Bool) (k : Kernel) → (requeue n more at to listens k).kernel.signals ≡ k.signals
requeue_signals =
    requeue_keeps (λ a b. b.signals ≡ a.signals) (λ k. refl) (λ u k after waiting rest. rest) (λ u to k after waiting rest. rest)

requeue_stand : (n more at to : ℕ) (listens : ℕ → Bool) (k : Kernel) → HandlersStand k.signals → HandlersStand (requeue n more at to listens k).kernel.signals
requeue_stand n more at to listens k stand = subst HandlersStand (sym (requeue_signals n more at to listens k)) stand

-- a woken thread stays where it stands
woken_stand : (here : Here) (us : List ℕ) → AllStand here → FilesStand (map (answered_wait here) us)
woken_stand here [] stand = tt
woken_stand here (u ∷ us) stand = (stand.threads u, woken_stand here us stand)

-- of two threads or more one stays
rising_apart : (a b : Thread) (rest : List Thread) → IsStrictlyIncreasing (numbers (a ∷ b ∷ rest))
    → a.tid < b.tid
rising_apart a b rest rising = rising 0 (omega arith)

stays_one : (t : ℕ) (a b : Thread) (rest : List Thread) (p q : Bool) → eqb a.tid t ≡ p → eqb b.tid t ≡ q
    → a.tid < b.tid
    → 0 < length (cond (not p) (a ∷ cond (not q) (b ∷ rest) rest) (cond (not q) (b ∷ rest) rest))
stays_one t a b rest true true ea eb lt = absurd (grind (arith, nat_tests))
stays_one t a b rest p q ea eb lt = omega arith

some_stay : (t : ℕ) (live : List Thread) → IsStrictlyIncreasing (numbers live) → 1 < length live
    → 0 < length (filter (λ th. not (is_thread t th)) live)
some_stay t [] rising more = omega arith
some_stay t (a ∷ []) rising more = absurd (omega arith)
some_stay t (a ∷ b ∷ rest) rising more =
    let others = filter (λ th. not (is_thread t th)) rest in
    stays_one t a b others (eqb a.tid t) (eqb b.tid t) refl refl (rising_apart a b rest rising)

-- clone(2)
child_lives_if : (t child at : ℕ) (k : Kernel) (b : Bool)
    → lives (cond b (cleared child at (had_child t k)) (had_child t k)) ≡ lives k + 1
child_lives_if t child at k true = rows_lives (clear_if child at) (had_child t k) ∙ child_lives t k
child_lives_if t child at k false = child_lives t k

child_stand_if : (t child at : ℕ) (k : Kernel) (b : Bool) → HandlersStand k.signals
    → HandlersStand (cond b (cleared child at (had_child t k)) (had_child t k)).signals
child_stand_if t child at k true stand = stand
child_stand_if t child at k false stand = stand

module _ (here : Here) (t number : ℕ) where
  -- a step keeps handlers below 2^64, and all threads
  stand_step : {entered : List Write} {k : Kernel} → TableStep here t number entered k → AllStand here → HandlersStand k.signals
  stand_step (Signalled g keeps stand heeds calm) all = stand all
  stand_step step all = all.handlers

  lives_step : {entered : List Write} {k : Kernel} → TableStep here t number entered k → lives k ≡ lives here.kernel
  lives_step (ChangesRows f keeps) = rows_lives f here.kernel
  lives_step Leaves = left_lives t here.kernel
  lives_step (Waits at none its_number) = waited_lives t at here.kernel
  lives_step (MovesOff set below some) = left_lives t (restricted t set here.kernel)
  lives_step step = refl

  -- a call that doesn't end the process, and after which as many threads are live as before, or more
  proper_going : (c : CallDone) → (AllStand here → FilesStand c.files) → (AllStand here → HandlersStand c.kernel.signals)
      → c.ended ≡ None → lives here.kernel ≤ lives c.kernel → IsProperCall here c
  proper_going c files handlers goes more = record {
    files = files;
    handlers = handlers;
    ended = rw goes not_ended;
    live = λ sound some none. omega arith;
  }

  pc_past : StandsIn (record (here.file t) { pc = sum_64 (here.file t).pc 4 })
  pc_past = in_word (here.file t).pc 4

  proper_deed : {c : CallDone} → CallDeed here t number c → IsProperCall here c
  proper_deed (Answers n entered k no_error writes step) =
      let same = lives_step step in
      proper_going _ (λ all. (pc_past, tt)) (stand_step step) refl (omega arith)
  proper_deed (Wakes n more at to listens small) =
      let same = requeue_lives n more at to listens here.kernel in
      proper_going _ (λ all. (pc_past, woken_stand here (requeue n more at to listens here.kernel).threads all))
      (λ all. requeue_stand n more at to listens here.kernel all.handlers) refl (omega arith)
  proper_deed (Breaks u g waiting keeps stand heeds calm) =
      let same = woken_lives u (signalled g here.kernel) in
      proper_going _ (λ all. (pc_past, (all.threads u, tt))) stand refl (omega arith)
  proper_deed (Exits more) =
      let n : ℕ = cond (clears here t) 1 0 in
      let at = clear_of t here.kernel.threads in
      let same = requeue_lives n 0 at 0 anyone here.kernel in
      record {
        files = λ all. woken_stand here (woken_at_exit here t).threads all;
        handlers = λ all. requeue_stand n 0 at 0 anyone here.kernel all.handlers;
        ended = not_ended;
        live = λ sound some goes.
            let rising = (kept_requeue here.setting n 0 at 0 anyone here.kernel sound).sound.tables.threads.rising in
            some_stay t (wake n at anyone here.kernel).kernel.threads.live rising (omega arith);
      }
  proper_deed (Bears entered writes free its_number) =
      let clears = has_flag (argument here t 0) clone_child_cleartid in
      let more = child_lives_if t (next_number here.kernel) (argument here t 4) here.kernel clears in
      proper_going _ (λ all. (pc_past, (pc_past, tt)))
      (λ all. child_stand_if t (next_number here.kernel) (argument here t 4) here.kernel clears all.handlers) refl (omega arith)
  proper_deed (Resumes words is its) =
      proper_going _ (λ all. (frame_small here all.bytes (here.file t) words is, tt)) (λ all. all.handlers) refl (omega arith)
  proper_deed (Ends entered e writes over) =
      record { files = λ all. tt; handlers = λ all. all.handlers; ended = over; live = λ sound some goes. absurd cc }
  proper_deed other = proper_going _ (λ all. (pc_past, tt)) (λ all. all.handlers) refl (omega arith)

pub proper_called : (here : Here) (t : ℕ) → IsProperCall here (called here t)
proper_called here t = proper_deed here t _ (deed_called here t)
