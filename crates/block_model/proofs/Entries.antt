-- What holds of each entry of a run: its hart is one of the machine, its thread has a number that was given or is none, and its
-- pc is below 2^64.
use Rattle.block_model.proofs.Common.{◌≡◌, ℕ, ◌^◌, ◌<◌, ◌≤◌, ◌+◌, ◌-◌, List, [], ◌∷◌, refl, sym, subst, arith, Bool, true, false, cond, eqb, Option, Some, None, find, is_some, length, All, All-from_recursion, All-head, All-tail, AllByRecursion, Choice, Entry, Event, Here, History, IsAllowedLog, IsRunHistory, IsSound, IsThreads, Saved, Setting, Thread, ThreadState, Threads, byte, choice_of, eqb-true, event, file, file_among, fold, here_in_history, history, is_thread, kernel, number_of, numbers, option_map, pc_in, refusal_of, runs, state_of, thread_in}
use Rattle.mach_types.specs.declared.events.Choice.TheVariants as asked
use Rattle.block_model.proofs.Runs.{allowed_at, length-history, settled}
use Rattle.block_model.proofs.Images.{HaveBytes, start_small, written_small}
use Rattle.block_model.proofs.RunEnds.{proper_at}
use Rattle.block_model.proofs.Invariants.Events.{run_ready}
use Rattle.block_model.proofs.KernelTables.{ready_state, running_is}
use Rattle.block_model.proofs.Pcs.{StandsIn}
use Rattle.block_model.proofs.AddressesOfCalls.{AllStand, FilesStand}
use Rattle.block_model.proofs.SignalTables.{start_stand}

-- P holds of the entry of each event
abbrev AllEntries : (Entry → Type 0) → History → Type 0
AllEntries P before = AllByRecursion (λ (e : Event). P e.entry) before

-- what holds of each event's entry holds of each entry of the log
entries_from : (s : Setting) (P : Entry → Type 0) (log : List Entry) (before : History) → AllEntries P (fold (λ b e. event s b e ∷ b) before log) → AllByRecursion P log × AllEntries P before
entries_from s P [] before all = (tt, all)
entries_from s P (e ∷ log) before all = let p = entries_from s P log (event s before e ∷ before) all in ((p.1.0, p.0), p.1.1)

entries_of : (s : Setting) (P : Entry → Type 0) (log : List Entry) → AllEntries P (history s log) → All P log
unfolding history
entries_of s P log all = All-from_recursion P log (entries_from s P log [] all).0

-- harts
harts_in : (s : Setting) (before : History) → IsRunHistory s before → AllEntries (λ e. e.hart.0 < s.limits.harts) before
harts_in s [] run = tt
harts_in s (e ∷ before) run = ((allowed_at s before e.entry.hart.0 (choice_of e.entry) e.entry run.1).lt, harts_in s before run.0)

pub all_harts : (s : Setting) (log : List Entry) → IsAllowedLog s log → All (λ (e : Entry). e.hart.0 < s.limits.harts) log
all_harts s log run = entries_of s (λ e. e.hart.0 < s.limits.harts) log (harts_in s (history s log) run)

-- the number of a live thread was given
given_step : (t given : ℕ) (th : Thread) (rest : Option Thread) (b : Bool) → eqb th.tid t ≡ b → th.tid ≤ given → (is_some rest ≡ true → t ≤ given)
    → is_some (cond b (Some th) rest) ≡ true → t ≤ given
given_step t given th rest true is low later live = let same : th.tid ≡ t = eqb-true th.tid t is in subst (λ n. n ≤ given) same low
given_step t given th rest false is low later live = later live

given_of : (t given : ℕ) (live : List Thread) → All (λ t. (0 < t) × (t ≤ given)) (numbers live) → is_some (find (is_thread t) live) ≡ true → t ≤ given
given_of t given [] all live = absurd cc
given_of t given (th ∷ ths) all live =
    given_step t given th (find (is_thread t) ths) (eqb th.tid t) refl (All-head (λ t. (0 < t) × (t ≤ given)) th.tid (numbers ths) all).1
    (given_of t given ths (All-tail (λ t. (0 < t) × (t ≤ given)) th.tid (numbers ths) all)) live

pub number_given : (t : ℕ) (ts : Threads) (state : ThreadState) → IsThreads ts → state_of t ts ≡ Some state → t ≤ ts.given
number_given t ts state holds is = given_of t ts.given ts.live holds.given (some_state (find (is_thread t) ts.live) is)
  where
    some_state : (o : Option Thread) → option_map (λ th. th.state) o ≡ Some state → is_some o ≡ true
    some_state None e = cc
    some_state (Some th) e = refl

-- threads: who runs, or begins to run, has a number that was given
runs_given : (s : Setting) (here : Here) (r : Option ℕ) → IsSound s here.kernel → runs here ≡ r → number_of r ≤ here.kernel.threads.given
runs_given s here None sound at = omega arith
runs_given s here (Some t) sound at =
    let tables = sound.tables in
    number_given t here.kernel.threads _ tables.threads (running_is s.limits.harts here.hart t here.kernel.threads here.kernel.scheduling tables at)

starts_given : (s : Setting) (here : Here) (t : ℕ) → IsSound s here.kernel → refusal_of (asked.Run (record { 0 = t })) here ≡ None → t ≤ here.kernel.threads.given
starts_given s here t sound free =
    let state = ready_state (state_of t here.kernel.threads) (run_ready here t free).1 in
    number_given t here.kernel.threads _ sound.tables.threads state

pub thread_given : (s : Setting) (here : Here) (c : Choice) → IsSound s here.kernel → refusal_of c here ≡ None → number_of (thread_in c here) ≤ here.kernel.threads.given
thread_given s here (asked.Run t) sound free = starts_given s here t.0 sound free
thread_given s here c sound free = runs_given s here (runs here) sound refl

-- no event gives more than one number, so that a run gives no more than its limit of events and one
pub given_below : (s : Setting) (before : History) → IsRunHistory s before → (kernel s before).threads.given ≤ length before + 1
given_below s before run = (settled s before run).good.given

pub given_in : (s : Setting) (log : List Entry) → IsAllowedLog s log → (kernel s (history s log)).threads.given ≤ length log + 1
given_in s log run = subst (λ n. (kernel s (history s log)).threads.given ≤ n + 1) (length-history s log) (given_below s (history s log) run)

threads_in : (s : Setting) (before : History) → s.limits.steps < 2 ^ 31 - 1 → IsRunHistory s before → AllEntries (λ e. e.tid.0 < 2 ^ 32) before
threads_in s [] short run = tt
threads_in s (e ∷ before) short run =
    let a = allowed_at s before e.entry.hart.0 (choice_of e.entry) e.entry run.1 in
    let here = here_in_history s before e.entry.hart.0 in
    let low = thread_given s here (choice_of e.entry) (settled s before run.0).good.kernel a.free in
    let few = given_below s before run.0 in
    let room = a.room in
    let fits : number_of (thread_in (choice_of e.entry) here) < 2 ^ 32 = omega arith in
    (subst (λ (y : Entry). y.tid.0 < 2 ^ 32) (sym a.is) fits, threads_in s before short run.0)

pub all_threads : (s : Setting) (log : List Entry) → s.limits.steps < 2 ^ 31 - 1 → IsAllowedLog s log → All (λ (e : Entry). e.tid.0 < 2 ^ 32) log
all_threads s log short run = entries_of s (λ e. e.tid.0 < 2 ^ 32) log (threads_in s (history s log) short run)

-- a thread's file among those that an event set stands below 2^64
pub among_stands : (ps : List (ℕ × Saved)) (t : ℕ) (f : Saved) → FilesStand ps → StandsIn f → StandsIn (file_among ps t f)
among_stands [] t f all small = small
among_stands (p ∷ ps) t f all small = elim (eqb p.0 t) as (λ b. StandsIn (cond b p.1 (file_among ps t f))) [ true ↦ all.0 | false ↦ among_stands ps t f all.1 small ]

-- where the first instruction stands below 2^64, and the program's pages have bytes, each thread and each handler stands below 2^64 at
-- every place of a run
pub all_stand : (s : Setting) (before : History) (h : ℕ) → s.program.entry < 2 ^ 64 → HaveBytes s.program.pages → IsRunHistory s before
    → AllStand (here_in_history s before h)
all_stand s [] h start bytes run = record { threads = λ t. start; handlers = start_stand; bytes = λ a. start_small s.program a bytes }
all_stand s (e ∷ before) h start bytes run =
    let was = all_stand s before e.entry.hart.0 start bytes run.0 in
    let proper = proper_at s e before run in
    record {
      threads = λ t. among_stands e.done.files t (file s t before) (proper.files was) (was.threads t);
      handlers = proper.handlers was;
      bytes = λ a. written_small e.done.entered a (byte s before a) (was.bytes a);
    }

pc_stands : (here : Here) (r : Option ℕ) → ((t : ℕ) → StandsIn (here.file t)) → pc_in here r < 2 ^ 64
pc_stands here None small = omega arith
pc_stands here (Some t) small = small t

addresses_in : (s : Setting) (before : History) → s.program.entry < 2 ^ 64 → HaveBytes s.program.pages → IsRunHistory s before → AllEntries (λ e. e.pc < 2 ^ 64) before
addresses_in s [] start bytes run = tt
addresses_in s (e ∷ before) start bytes run =
    let a = allowed_at s before e.entry.hart.0 (choice_of e.entry) e.entry run.1 in
    let here = here_in_history s before e.entry.hart.0 in
    let stand = all_stand s before e.entry.hart.0 start bytes run.0 in
    (subst (λ (y : Entry). y.pc < 2 ^ 64) (sym a.is) (pc_stands here (thread_in (choice_of e.entry) here) stand.threads), addresses_in s before start bytes run.0)

pub all_addresses : (s : Setting) (log : List Entry) → s.program.entry < 2 ^ 64 → HaveBytes s.program.pages → IsAllowedLog s log → All (λ (e : Entry). e.pc < 2 ^ 64) log
all_addresses s log start bytes run = entries_of s (λ e. e.pc < 2 ^ 64) log (addresses_in s (history s log) start bytes run)
