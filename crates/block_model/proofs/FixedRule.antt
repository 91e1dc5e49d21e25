-- At each place of a run the fixed rule of `solo` has a choice where the machine has one hart, and its choice is made.
use Rattle.block_model.proofs.Common.{◌≡◌, ◌≢◌, ℕ, ◌<◌, ◌+◌, ◌&&◌, ◌||◌, List, [], ◌∷◌, length, find, refl, sym, ap, ◌∙◌, subst, arith, Bool, true, false, not, cond, eqb, ltb, zero, suc, Option, Some, None, Ok, is_none, is_some, Choice, End, Entry, Here, History, IsAllowedLog, IsRunHistory, IsSound, IsTables, Kernel, Neighbour, Others, PageRun, Ready, Running, Setting, Store, Thread, ThreadState, Threads, Waiting, Why, affinity_of, and_right, awaits, call_number, decide, end_of, ended, entry_in, eqb-true, eqb_same, false≢true, first_for, goes_on, has_hart, here_in_history, history, instruction_gate, is_call, is_deliverable_on, is_held, is_inside_here, is_live, is_ready, is_ready_state, is_stuck, is_waiting_state, kernel, le-leb, lies_waiting_on, list_any, lt-ltb, next_effect, next_fault, next_for, not-false, numbers, on, option_map, option_map_or, option_or, others_gate, refusal_delivery, refusal_drain_of, refusal_exec, refusal_exec_by, refusal_of, refusal_run_by, refusal_signal_by, requests, running, running_on, runs, solo_choice, state_of, taken_by, thread, thread_of, times, times_cons, unless, unless_in_barrier, unless_waiting, waiting_here, sorted_from_strictly_increasing}
use Rattle.std.specs.Result.{IsOk}
use Rattle.mach_types.specs.declared.events.Choice.TheVariants as asked
use Rattle.mach_types.specs.declared.limits.End.TheVariants as over
use Rattle.block_model.proofs.Runs.{allowed_at, settled}
use Rattle.block_model.proofs.Barriers.Requests.{IsAwaited, alone_awaits}
use Rattle.block_model.proofs.RunEnds.{some_live, decide-open, is_open}
use Rattle.block_model.proofs.KernelTables.{found_passes, found_sorted, running_none}

-- the choice by what is read of the hart: whether a thread runs there, the first ready thread, whether a signal is deliverable,
-- whether the thread may execute, and how many stores wait
abbrev rule_when_busy : Bool → Option Why → ℕ → Option Choice
rule_when_busy deliverable why stores =
    cond deliverable (cond (ltb 0 stores) (Some asked.Drain) (Some asked.Signal))
    (cond (is_none why) (Some asked.Exec) (cond (ltb 0 stores) (Some asked.Drain) None))

abbrev rule_by : Option ℕ → Option ℕ → Bool → Option Why → ℕ → Option Choice
rule_by running first deliverable why stores =
    cond (is_none running) (option_map asked.Run (option_map thread first)) (rule_when_busy deliverable why stores)

-- what is in a list is found there by a test that it passes, and what is found there is in it
step_found : (p : ℕ → Bool) (t u : ℕ) (us : List ℕ) (b : Bool) → eqb u t ≡ b → 0 < cond b 1 0 + times t us → p t ≡ true
    → (0 < times t us → is_some (find p us) ≡ true) → is_some (cond (p u) (Some u) (find p us)) ≡ true
step_found p t u us true same is passes rest =
    let here : p u ≡ true = ap p (eqb-true u t same) ∙ passes in
    rw here refl
step_found p t u us false other is passes rest =
    elim (p u) as (λ b. is_some (cond b (Some u) (find p us)) ≡ true) [ true ↦ refl | false ↦ rest (omega (arith, is)) ]

pub found_where : (p : ℕ → Bool) (t : ℕ) (us : List ℕ) → 0 < times t us → p t ≡ true → is_some (find p us) ≡ true
found_where p t [] is passes = absurd (omega arith)
found_where p t (u ∷ us) is passes =
    step_found p t u us (eqb u t) refl (subst (λ n. 0 < n) (times_cons t u us) is) passes (λ more. found_where p t us more passes)

in_step : (p : ℕ → Bool) (t u : ℕ) (us : List ℕ) (b : Bool) → cond b (Some u) (find p us) ≡ Some t → (find p us ≡ Some t → 0 < times t us) → 0 < cond (eqb u t) 1 0 + times t us
in_step p t u us true found rest = let same : u ≡ t = cc in rw same (rw (eqb_same t) (omega arith))
in_step p t u us false found rest = let more = rest found in omega arith

pub found_is_in : (p : ℕ → Bool) (t : ℕ) (us : List ℕ) → find p us ≡ Some t → 0 < times t us
found_is_in p t [] found = absurd cc
found_is_in p t (u ∷ us) found = subst (λ n. 0 < n) (sym (times_cons t u us)) (in_step p t u us (p u) found (λ f. found_is_in p t us f))

pub found_where_any : (p : Thread → Bool) (live : List Thread) → list_any p live ≡ true → is_some (find p live) ≡ true
found_where_any p [] any = absurd (false≢true any)
found_where_any p (th ∷ live) any =
    any_step (p th) (find p live) (list_any p live) any (found_where_any p live)
  where
    any_step : (b : Bool) (o : Option Thread) (more : Bool) → (b || more) ≡ true → (more ≡ true → is_some o ≡ true) → is_some (cond b (Some th) o) ≡ true
    any_step true o more any rest = refl
    any_step false o more any rest = rest any

-- where the machine has one hart, which is idle, and threads aren't stuck, the first ready thread that may run there is one
pub goes_somewhere : (ts : Threads) → is_stuck ts ≡ false → 0 < length ts.live → list_any goes_on ts.live ≡ true
goes_somewhere ts unstuck some =
    not-false (list_any goes_on ts.live) (sym (ap (λ b. b && not (list_any goes_on ts.live)) (le-leb 1 (length ts.live) some)) ∙ unstuck)

-- which state the thread that goes on is in: it runs on no hart, so it is ready
ready_by : (k : Kernel) (t : ℕ) (state : ThreadState) → IsTables 1 k.threads k.scheduling → running_on 0 k.threads ≡ None → state_of t k.threads ≡ Some state → not (is_waiting_state state) ≡ true → is_ready t k.threads ≡ true
ready_by k t Ready tables idle is goes = ap (λ o. option_map_or is_ready_state o false) is
ready_by k t (Running h) tables idle is goes =
    let first : h.0 < 1 = tables.below t h is in
    let zero_hart : h.0 ≡ 0 = omega arith in
    absurd (running_none 0 t k.threads idle (is ∙ ap (λ n. Some (on n)) zero_hart))
ready_by k t (Waiting at) tables idle is goes = absurd (false≢true goes)

-- so some thread is ready
pub record SomeReady (k : Kernel) : Type 0 where
  pub thread : ℕ
  pub ready : is_ready thread k.threads ≡ true
  pub live : is_live thread k.threads ≡ true

some_ready_of : (k : Kernel) (o : Option Thread) → IsTables 1 k.threads k.scheduling → running_on 0 k.threads ≡ None → find goes_on k.threads.live ≡ o → is_some o ≡ true → SomeReady k
some_ready_of k None tables idle found some = absurd (false≢true some)
some_ready_of k (Some th) tables idle found some =
    let there : thread_of th.tid k.threads ≡ Some th = found_sorted goes_on k.threads.live th (sorted_from_strictly_increasing (numbers k.threads.live) tables.threads.rising) found in
    record {
      thread = th.tid;
      ready = ready_by k th.tid th.state tables idle (ap (λ (o : Option Thread). option_map (λ th. th.state) o) there) (found_passes goes_on k.threads.live th found);
      live = ap is_some there;
    }

some_ready : (k : Kernel) → IsTables 1 k.threads k.scheduling → running_on 0 k.threads ≡ None → is_stuck k.threads ≡ false → 0 < length k.threads.live → SomeReady k
some_ready k tables idle unstuck some =
    some_ready_of k (find goes_on k.threads.live) tables idle refl (found_where_any goes_on k.threads.live (goes_somewhere k.threads unstuck some))

first_there : (s : Setting) (k : Kernel) → s.limits.harts ≡ 1 → IsSound s k → SomeReady k → is_some (first_for 0 k.scheduling) ≡ true
first_there s k one sound r =
    let at = sound.allowed (omega arith) r.thread r.live in
    let zero_hart : at.0 ≡ 0 = let lt = at.1 in omega arith in
    let once : times r.thread k.scheduling.order ≡ 1 = sound.tables.ready r.thread ∙ ap (λ b. cond b 1 0) r.ready in
    found_where (λ t. has_hart (affinity_of t k.scheduling) 0) r.thread k.scheduling.order (omega arith)
    (subst (λ h. has_hart (affinity_of r.thread k.scheduling) h ≡ true) zero_hart at.2)

-- so the rule has a choice
busy_choice : (deliverable : Bool) (why : Option Why) (stores : ℕ) → ((w : Why) → why ≡ Some w → ltb 0 stores ≡ true)
    → is_some (rule_when_busy deliverable why stores) ≡ true
busy_choice true why stores waits = elim (ltb 0 stores) as (λ b. is_some (cond b (Some asked.Drain) (Some asked.Signal)) ≡ true) [ true ↦ refl | false ↦ refl ]
busy_choice false None stores waits = refl
busy_choice false (Some w) stores waits = rw (waits w refl) refl

-- where a thread waits in no barrier, that refuses nothing
pub in_no_barrier : (awaits : Option ℕ) (why : Option Why) → awaits ≡ None → unless_in_barrier awaits why ≡ why
in_no_barrier None why free = refl
in_no_barrier (Some left) why free = absurd cc

-- where no store waits on any hart of the machine, and the thread waits in no barrier, an instruction is allowed
none_lies : (beside : Option Neighbour) (r : PageRun) (waiting : ℕ → List Store) (n : ℕ) → ((k : ℕ) → k < n → waiting k ≡ [])
    → lies_waiting_on beside r waiting n ≡ false
none_lies beside r waiting zero none = refl
none_lies beside r waiting (suc n) none = rw (none n (omega arith)) (none_lies beside r waiting n (λ k lt. none k (omega arith)))

call_goes : (call held : Bool) → held ≡ false → cond (call && held) (Some Others) None ≡ None
call_goes true held is = rw is refl
call_goes false held is = refl

pub allowed_where_none_waits : (here : Here) (t : ℕ) → here.awaits ≡ None → waiting_here here ≡ []
    → ((k : ℕ) → k < here.setting.limits.harts → here.waiting k ≡ []) → refusal_exec_by here (Some t) ≡ None
allowed_where_none_waits here t free own none =
    let held : is_held here t ≡ false =
    and_right (not (is_inside_here here t)) _ (none_lies here.beside (taken_by (call_number here t) here t) here.waiting here.setting.limits.harts none) in
    let o = next_effect here t in
    let faults = is_some (next_fault here t) in
    let gate : instruction_gate (length (waiting_here here)) o faults ≡ None = ap (λ (ws : List Store). instruction_gate (length ws) o faults) own in
    in_no_barrier here.awaits (option_or (instruction_gate (length (waiting_here here)) o faults) (others_gate (is_held here t) o)) free
    ∙ ap (λ (g : Option Why). option_or g (others_gate (is_held here t) o)) gate ∙ call_goes (option_map_or is_call o false) (is_held here t) held

-- so where the machine has one hart, and an instruction isn't allowed, a store waits
alone_waits : (here : Here) (t : ℕ) (w : Why) (ws : List Store) → here.awaits ≡ None → here.setting.limits.harts ≡ 1 → here.hart ≡ 0
    → waiting_here here ≡ ws → refusal_exec_by here (Some t) ≡ Some w → ltb 0 (length ws) ≡ true
alone_waits here t w (x ∷ ws) apart one first own held = lt-ltb 0 (length (x ∷ ws)) (omega arith)
alone_waits here t w [] apart one first own held =
    let free = allowed_where_none_waits here t apart own (λ k lt. ap here.waiting (let same : k ≡ here.hart = omega arith in same) ∙ own) in
    let bad : None ≡ Some w = sym free ∙ held in
    absurd cc

idle_choice : (first : Option ℕ) → is_some first ≡ true → is_some (option_map asked.Run (option_map thread first)) ≡ true
idle_choice None some = some
idle_choice (Some t) some = refl

chooses_by : (s : Setting) (here : Here) (running : Option ℕ) → here.awaits ≡ None → here.setting.limits.harts ≡ 1 → here.hart ≡ 0 → runs here ≡ running
    → (runs here ≡ None → is_some (first_for 0 here.kernel.scheduling) ≡ true)
    → is_some (rule_by running (first_for 0 here.kernel.scheduling) (is_deliverable_on here (runs here)) (refusal_exec here) (length (waiting_here here))) ≡ true
chooses_by s here None apart one hart at first = idle_choice (first_for 0 here.kernel.scheduling) (first at)
chooses_by s here (Some t) apart one hart at first =
    busy_choice (is_deliverable_on here (runs here)) (refusal_exec here) (length (waiting_here here))
    (λ w held. alone_waits here t w (waiting_here here) apart one hart refl (sym (ap (refusal_exec_by here) at) ∙ held))

-- a place where nothing ended the run is not stuck
pub ended_parts : (process : Option End) (stuck : Bool) → option_or process (cond stuck (Some over.Stuck) None) ≡ None → (process ≡ None) × (stuck ≡ false)
ended_parts None false is = (refl, refl)
ended_parts o b is = absurd cc

-- where the machine has one hart, its thread waits in no barrier
pub apart_when_alone : (s : Setting) (before : History) (h : ℕ) → s.limits.harts ≡ 1 → IsRunHistory s before → awaits h before ≡ None
apart_when_alone s before h one run =
    alone_awaits (λ k. requests k before) (λ k. awaits k before) h
    (subst (λ n. IsAwaited n (λ k. requests k before) (λ k. awaits k before)) one (settled s before run).good.awaited)

pub rule_chooses : (s : Setting) (log : List Entry) → s.limits.harts ≡ 1 → IsAllowedLog s log → end_of s (history s log) ≡ over.Unended → is_some (solo_choice s (history s log)) ≡ true
rule_chooses s log one run end =
    let before = history s log in
    let goes = ended_parts (ended before) (is_stuck (kernel s before).threads) (is_open s before run end).goes in
    let sound = (settled s before run).good.kernel in
    let tables : IsTables 1 (kernel s before).threads (kernel s before).scheduling = subst (λ n. IsTables n (kernel s before).threads (kernel s before).scheduling) one sound.tables in
    chooses_by s (here_in_history s before 0) (runs (here_in_history s before 0)) (apart_when_alone s before 0 one run) one refl refl
    (λ idle. first_there s (kernel s before) one sound (some_ready (kernel s before) tables idle goes.1 (some_live s before run goes.0)))

-- the choice of the rule isn't refused: a thread that is found in the ready list is ready
ready_bool : (b : Bool) → 0 < cond {A = ℕ} b 1 0 → b ≡ true
ready_bool true some = refl
ready_bool false some = absurd (omega arith)

pub run_free : (here : Here) (t : ℕ) → IsSound here.setting here.kernel → runs here ≡ None → first_for here.hart here.kernel.scheduling ≡ Some t → refusal_of (asked.Run (thread t)) here ≡ None
run_free here t sound idle first =
    let k = here.kernel in
    let listed = found_is_in (λ u. has_hart (affinity_of u k.scheduling) here.hart) t k.scheduling.order first in
    let ready : is_ready t k.threads ≡ true = ready_bool (is_ready t k.threads) (subst (λ n. 0 < n) (sound.tables.ready t) listed) in
    let may : has_hart (affinity_of t k.scheduling) here.hart ≡ true = found_passes (λ u. has_hart (affinity_of u k.scheduling) here.hart) k.scheduling.order t first in
    ap (refusal_run_by here t) idle ∙ rw (ready, may) refl

sym_some : (x y : Choice) → Some x ≡ Some y → x ≡ y
sym_some x y is = cc

drain_by : (here : Here) (c : Choice) (ws : List Store) → waiting_here here ≡ ws → cond (ltb 0 (length ws)) (Some asked.Drain) None ≡ Some c → refusal_of c here ≡ None
drain_by here c [] own is = absurd cc
drain_by here c (w ∷ ws) own is =
    let it : asked.Drain ≡ c = sym_some asked.Drain c (sym (ap (λ b. cond b (Some asked.Drain) None) (lt-ltb 0 (length (w ∷ ws)) (omega arith))) ∙ is) in
    subst (λ x. refusal_of x here ≡ None) it (ap refusal_drain_of own)

-- a signal that is deliverable isn't refused where no store waits
deliverable_free : (here : Here) (signal : Option ℕ) → is_some signal ≡ true → waiting_here here ≡ [] → refusal_delivery here signal ≡ None
deliverable_free here None some none = absurd (false≢true some)
deliverable_free here (Some signal) some none = ap unless_waiting none

pub signal_free : (here : Here) (t : ℕ) → here.awaits ≡ None → runs here ≡ Some t → is_deliverable_on here (runs here) ≡ true → waiting_here here ≡ []
    → refusal_of asked.Signal here ≡ None
signal_free here t apart at some none =
    ap (refusal_signal_by here) at
    ∙ in_no_barrier here.awaits (refusal_delivery here (next_for t here.kernel.signals)) apart
    ∙ deliverable_free here (next_for t here.kernel.signals) (sym (ap (is_deliverable_on here) at) ∙ some) none

-- where one is, the rule's choice is its delivery, or a store that enters memory
delivery_by : (here : Here) (t : ℕ) (c : Choice) (ws : List Store) → here.awaits ≡ None → runs here ≡ Some t → is_deliverable_on here (runs here) ≡ true → waiting_here here ≡ ws
    → cond (ltb 0 (length ws)) (Some asked.Drain) (Some asked.Signal) ≡ Some c → refusal_of c here ≡ None
delivery_by here t c [] apart at some own is =
    let it : asked.Signal ≡ c = cc in
    subst (λ x. refusal_of x here ≡ None) it (signal_free here t apart at some own)
delivery_by here t c (w ∷ ws) apart at some own is =
    let it : asked.Drain ≡ c = sym_some asked.Drain c (sym (ap (λ b. cond b (Some asked.Drain) (Some asked.Signal)) (lt-ltb 0 (length (w ∷ ws)) (omega arith))) ∙ is) in
    subst (λ x. refusal_of x here ≡ None) it (ap refusal_drain_of own)

busy_free : (here : Here) (t : ℕ) (c : Choice) (deliverable : Bool) (why : Option Why) → here.awaits ≡ None → runs here ≡ Some t → is_deliverable_on here (runs here) ≡ deliverable
    → refusal_exec here ≡ why → rule_when_busy deliverable why (length (waiting_here here)) ≡ Some c → refusal_of c here ≡ None
busy_free here t c true why apart at some is_why is = delivery_by here t c (waiting_here here) apart at some refl is
busy_free here t c false None apart at none free is =
    let it : asked.Exec ≡ c = cc in
    subst (λ x. refusal_of x here ≡ None) it free
busy_free here t c false (Some why) apart at none held is = drain_by here c (waiting_here here) refl is

idle_free : (here : Here) (c : Choice) (first : Option ℕ) → IsSound here.setting here.kernel → runs here ≡ None → first_for here.hart here.kernel.scheduling ≡ first
    → option_map asked.Run (option_map thread first) ≡ Some c → refusal_of c here ≡ None
idle_free here c None sound idle found is = absurd cc
idle_free here c (Some t) sound idle found is =
    let it : asked.Run (thread t) ≡ c = cc in
    subst (λ x. refusal_of x here ≡ None) it (run_free here t sound idle found)

rule_free : (here : Here) (c : Choice) (running : Option ℕ) → here.awaits ≡ None → IsSound here.setting here.kernel → runs here ≡ running
    → rule_by running (first_for here.hart here.kernel.scheduling) (is_deliverable_on here (runs here)) (refusal_exec here) (length (waiting_here here)) ≡ Some c → refusal_of c here ≡ None
rule_free here c None apart sound at is = idle_free here c (first_for here.hart here.kernel.scheduling) sound at refl is
rule_free here c (Some t) apart sound at is = busy_free here t c (is_deliverable_on here (runs here)) (refusal_exec here) apart at refl refl is

made_where_free : (c : Choice) (here : Here) (why : Option Why) → why ≡ None → IsOk (unless (entry_in c here) why)
made_where_free c here why free = rw free refl

-- it is made where hart 0's thread waits in no barrier, so always where the machine has one hart
pub rule_is_made_apart : (s : Setting) (log : List Entry) (choice : Choice) → IsAllowedLog s log → 0 < s.limits.harts
    → awaits 0 (history s log) ≡ None → end_of s (history s log) ≡ over.Unended → solo_choice s (history s log) ≡ Some choice
    → IsOk (decide s (history s log) 0 choice)
rule_is_made_apart s log choice run harts apart end chosen =
    let here = here_in_history s (history s log) 0 in
    subst IsOk (sym (decide-open s (history s log) 0 choice (is_open s (history s log) run end) harts))
    (made_where_free choice here (refusal_of choice here) (rule_free here choice (runs here) apart (settled s (history s log) run).good.kernel refl chosen))

pub rule_is_made : (s : Setting) (log : List Entry) (choice : Choice) → IsAllowedLog s log → s.limits.harts ≡ 1
    → end_of s (history s log) ≡ over.Unended → solo_choice s (history s log) ≡ Some choice → IsOk (decide s (history s log) 0 choice)
rule_is_made s log choice run one end chosen =
    rule_is_made_apart s log choice run (omega arith) (apart_when_alone s (history s log) 0 one run) end chosen

-- where an instruction is allowed and no signal is deliverable, that is the rule's choice
executes_by : (here : Here) (first running : Option ℕ) → runs here ≡ running → is_deliverable_on here (runs here) ≡ false → refusal_exec here ≡ None
    → rule_by running first (is_deliverable_on here (runs here)) (refusal_exec here) (length (waiting_here here)) ≡ Some asked.Exec
executes_by here first None at none free = let held = sym (ap (refusal_exec_by here) at) ∙ free in absurd cc
executes_by here first (Some t) at none free = rw (none, free) refl

pub executes_when_allowed : (s : Setting) (log : List Entry) (e : Entry) → decide s (history s log) 0 asked.Exec ≡ Ok e
    → is_deliverable_on (here_in_history s (history s log) 0) (running s 0 (history s log)) ≡ false → solo_choice s (history s log) ≡ Some asked.Exec
executes_when_allowed s log e made none =
    let here = here_in_history s (history s log) 0 in
    executes_by here (first_for 0 here.kernel.scheduling) (runs here) refl none (allowed_at s (history s log) 0 asked.Exec e made).free

-- where it has none, the run is over
pub rule_stops : (s : Setting) (log : List Entry) → s.limits.harts ≡ 1 → IsAllowedLog s log → solo_choice s (history s log) ≡ None → end_of s (history s log) ≢ over.Unended
rule_stops s log one run none = λ end. false≢true (ap is_some (sym none) ∙ rule_chooses s log one run end)
