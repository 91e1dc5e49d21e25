-- A thread that begins to run, and one that stays ready since the process is killed first.
use Rattle.process.proofs.Common.{◌≡◌, ◌≢◌, ℕ, suc, ◌<◌, List, [], ◌∷◌, find, map, length, get_or, slice_get, refl, sym, ap, ◌∙◌, subst, arith, Bool, true, false, cond, eqb, Option, Some, None, inl, inr, list_any, IsStrictlyIncreasing, option_map, option_map_or, cases_eq, eqb-true, ne_eqb, AllPairs-from_increasing, area_of, lowest_cid, AreSaved, Area, Done, Hart, HartState, Here, IsPlace, IsUncounted, IsWritten, Kernel, Map, Outcome, Parts, Saved, Stand, Write, counted, credit_of, file_among, files_interrupted, hart_at, harts_that, here_at, holds, interruption_here, lost_unless, refusal_of, Scheduling, without_ready, Thread, Threads, is_ready, is_ready_state, is_thread, state_if, state_of, with_state, Tid, Killed, SIGSEGV, ThreadState, Ready, Running, entered, IsTable, Table, saved_of, with_saved, is_kept, saved_of_others, areas_by_number, HoldsTables, done_killed, done_run, done_running, lives_on, id_of, next_id, with_id, ready_listed, IsChanged, IsReadied, IsWaiting, begun_without, IsSome, is_running_state, numbers, ready_saves_something, holds_past_ids, holds_scheduling, holds_threads, is_running, ran, run_ready, stand_free_id}
use Rattle.mach_types.proofs.Laws.{state_of-with_state_same}
use Rattle.mach_types.specs.declared.events.Choice.TheVariants as asked
use Rattle.mach_types.specs.declared.sequences.Outcome.TheVariants as comes_to
use Rattle.scheduler.specs.Holding.{is_ready as is_listed}
use Rattle.process.proofs.Entries.{uncounted_as}
use Rattle.process.proofs.HartEvents.{killed_own, run_own}
use Rattle.process.proofs.ConcurrencyIds.{held_here, id_with_other, id_with_same, ready_apart}
use Rattle.process.proofs.Interruptions.{begun_beside}
use Rattle.process.proofs.SavedFiles.{saved_ran, none_kept, saved_but_one}
use Rattle.process.proofs.Memory.{pages_written, readable_written}
use Rattle.process.proofs.StuckProcess.{not_stuck, ready_live}
use Rattle.process.proofs.Places.{bytes_at, goes_on, tables_at, writable_at}

-- THREADS

-- who began to run, and is ready again, leaves the threads as they were
abbrev AreRising : List Thread → Type 0
AreRising xs = (i j : ℕ) → i < j → j < length (numbers xs) → get_or (numbers xs) i 0 < get_or (numbers xs) j 0

all_other : (t : ℕ) (st : ThreadState) (xs : List Thread) → ((k : ℕ) → k < length (numbers xs) → get_or (numbers xs) k 0 ≢ t) → map (state_if t st) xs ≡ xs
all_other t st [] other = refl
all_other t st (x ∷ xs) other = rw (ne_eqb x.tid t (other 0 (omega arith))) (ap (λ ys. x ∷ ys) (all_other t st xs (λ k lt. other (suc k) (omega (arith, lt)))))

was_ready : (x : Thread) (rest : Option ThreadState) → option_map (λ (th : Thread). th.state) (Some x) ≡ Some Ready → x.state ≡ Ready
was_ready x rest is = cc

put_back_list : (t : ℕ) (h : Hart) (xs : List Thread) → AreRising xs → option_map (λ (th : Thread). th.state) (find (is_thread t) xs) ≡ Some Ready
    → map (state_if t Ready) (map (state_if t (Running h)) xs) ≡ xs
put_back_list t h [] up is = refl
put_back_list t h (x ∷ xs) up is = go (is_thread t x) refl is (put_back_list t h xs (λ i j lt within. up (suc i) (suc j) (omega (arith, lt)) (omega (arith, within))))
  where
    others : x.tid ≡ t → (k : ℕ) → k < length (numbers xs) → get_or (numbers xs) k 0 ≢ t
    others first k lt same = let more : x.tid < get_or (numbers xs) k 0 = up 0 (suc k) (omega arith) (omega (arith, lt)) in omega (arith, more, first, same)

    go : (b : Bool) → is_thread t x ≡ b → option_map (λ (th : Thread). th.state) (cond b (Some x) (find (is_thread t) xs)) ≡ Some Ready
        → (option_map (λ (th : Thread). th.state) (find (is_thread t) xs) ≡ Some Ready → map (state_if t Ready) (map (state_if t (Running h)) xs) ≡ xs)
        → map (state_if t Ready) (map (state_if t (Running h)) (x ∷ xs)) ≡ x ∷ xs
    go true at found rest =
        let first : x.tid ≡ t = eqb-true x.tid t at in
        let same = all_other t (Running h) xs (others first) in
        let again = all_other t Ready xs (others first) in
        let tail : map (state_if t Ready) (map (state_if t (Running h)) xs) ≡ xs = ap (map (state_if t Ready)) same ∙ again in
        rw (at, at) (ap (λ y. y ∷ map (state_if t Ready) (map (state_if t (Running h)) xs)) (ap (λ st. let y : Thread = record x { state = st } in y) (sym (was_ready x None found))) ∙ ap (λ ys. x ∷ ys) tail)
    go false at found rest = rw (at, at) (ap (λ ys. x ∷ ys) (rest found))

pub put_back : (t : ℕ) (h : Hart) (ts : Threads) → IsStrictlyIncreasing (numbers ts.live) → state_of t ts ≡ Some Ready → with_state t Ready (with_state t (Running h) ts) ≡ ts
put_back t h ts up is =
    ap (λ xs. let us : Threads = record ts { live = xs } in us)
    (put_back_list t h ts.live (λ i j lt within. AllPairs-from_increasing (numbers ts.live) up i j 0 lt within) is)

-- a thread that is ready is in that state, and doesn't run
pub state_ready : (t : ℕ) (ts : Threads) → is_ready t ts ≡ true → state_of t ts ≡ Some Ready
state_ready t ts is = go (state_of t ts) is
  where
    go : (o : Option ThreadState) → option_map_or is_ready_state o false ≡ true → o ≡ Some Ready
    go (Some ThreadState.Ready) e = refl
    go o e = cc

-- something is saved of a thread that may begin to run
pub starter_is_saved : (v : Stand) (m : Parts) (h : Hart) (t : Tid) → IsPlace v m h.0 → refusal_of (asked.Run t) (here_at v h.0) ≡ None
    → (o : Option Saved) → o ≡ saved_of t.0 m.kernel.threads.saved → o ≡ None → ⊥
starter_is_saved v m h t place free o read none =
    let ready : state_of t.0 m.kernel.threads.threads ≡ Some Ready =
    ap (state_of t.0) place.tied.tables.threads ∙ state_ready t.0 v.plain.kernel.threads (run_ready (here_at v h.0) t.0 free).1 in
    missing o none (subst IsSome (sym read) (ready_saves_something t.0 m.kernel.threads place.tied.table ready))
  where
    missing : (o : Option Saved) → o ≡ None → IsSome o → ⊥
    missing None none some = cc
    missing (Some x) none some = cc

-- FILES

-- an interruption sets the file of no other thread
pub file_other : (here : Here) (t u : ℕ) (o : Outcome) (f : Saved) → u ≢ t → file_among (files_interrupted here t o) u f ≡ f
file_other here t u (comes_to.Aborted at) f other = rw (ne_eqb t u (λ e. other (sym e))) refl
file_other here t u o f other = refl

-- what is kept after it of one that is ready again: its file
kept_again : (f g : ℕ → Saved) (t : ℕ) (y : Saved) (old mid new : Table) → mid.saved ≡ with_saved t None old.saved → new.saved ≡ with_saved t (Some y) mid.saved → y ≡ g t
    → ((u : ℕ) → u ≢ t → g u ≡ f u) → AreSaved f old → AreSaved g new
kept_again f g t y old mid new was is own same saved u x at = elim (cases_eq u t) [
  | inl e ↦ rw e (is_kept t y x mid.saved (ap (saved_of t) (sym is) ∙ ap (λ n. saved_of n new.saved) (sym e) ∙ at) ∙ own)
  | inr ne ↦ saved_ran f t old mid was saved u x (sym (saved_of_others t u ne (Some y) mid.saved) ∙ ap (saved_of u) (sym is) ∙ at) ∙ sym (same u ne)
]

-- THE PARTS AFTER IT

module _ (v : Stand) (m : Parts) (h : Hart) (t : Tid) (place : IsPlace v m h.0) (free : refusal_of (asked.Run t) (here_at v h.0) ≡ None) where
  abbrev here : Here
  here = here_at v h.0

  abbrev comes : Outcome
  comes = interruption_here here t.0

  abbrev own_hart : HartState
  own_hart = hart_at v.setting v.plain h.0 (credit_of m.harts.items h.0)

  ready : is_ready t.0 v.plain.kernel.threads ≡ true
  ready = (run_ready here t.0 free).1

  its_next : id_of t.0 (with_id t.0 v.plain.kernel.ids) ≡ next_id v.plain.kernel.ids
  its_next =
      let k = v.plain.kernel in
      let stands : is_running t.0 k.threads ≡ false = ap (λ o. option_map_or is_running_state o false) (state_ready t.0 k.threads ready) in
      id_with_same t.0 k.ids ((place.stands.held.ids place.limits.eight_harts).held t.0 ∙ ap (λ b. cond b 1 0) stands)

  -- how it waits
  pub waiting : (a : Option Area) (n : ℕ) (x : Saved) → a ≡ area_of t.0 (areas_by_number m.kernel.areas.items)
      → n ≡ lowest_cid (harts_that (λ id. list_any (holds id) m.harts.items) 8) → Some x ≡ saved_of t.0 m.kernel.threads.saved → IsWaiting here t.0 h.0 m.pages a x n
  waiting a n x has its kept = record {
    hart = refl;
    bytes = bytes_at v m h.0 place;
    writable = writable_at v m h.0 place;
    area = has ∙ ap (area_of t.0) place.tied.tables.areas;
    file = place.tied.saved t.0 x (sym kept);
    id = its ∙ ap lowest_cid (held_here v m h.0 place);
  }

  -- not all ids are held
  pub some_free : harts_that (λ id. list_any (holds id) m.harts.items) 8 ≢ 255
  some_free all = (stand_free_id v h.0 t.0 place.stands place.limits.eight_harts place.lt free).some (sym (held_here v m h.0 place) ∙ all)

  -- what it comes to
  pub readied : (k : Kernel) (a : Option Area) (n : ℕ) (x y : Saved) (alive : Bool) (m1 : Parts) → a ≡ area_of t.0 (areas_by_number m.kernel.areas.items)
      → n ≡ lowest_cid (harts_that (λ id. list_any (holds id) m.harts.items) 8) → Some x ≡ saved_of t.0 m.kernel.threads.saved
      → (IsWaiting here t.0 h.0 m.pages a x n → IsReadied here t.0 alive y (record m { kernel = k }) m1) → IsReadied here t.0 alive y m m1
  readied k a n x y alive m1 has its kept made =
      let is = made (waiting a n x has its kept) in
      record { lives = is.lives; file = is.file; pages = is.pages; harts = is.harts }

  -- it is in the ready list, and runs once it was taken to
  pub listed : is_listed t.0 m.kernel.ready ≡ true
  listed = ap (is_listed t.0) place.tied.tables.scheduling ∙ ready_listed v.setting.limits.harts t.0 v.plain.kernel.threads v.plain.kernel.scheduling (tables_at v m h.0 place) ∙ ready

  pub runs_then : state_of t.0 (with_state t.0 (Running h) m.kernel.threads.threads) ≡ Some (Running h)
  runs_then =
      state_of-with_state_same t.0 (Running h) m.kernel.threads.threads
      ∙ ap (option_map (λ (_ : ThreadState). Running h)) (ap (state_of t.0) place.tied.tables.threads ∙ state_ready t.0 v.plain.kernel.threads ready)

  -- it runs
  pub begun_running : (m1 m2 : Parts) (x : Saved) (id : ℕ) (file : Table) (order : Scheduling) → IsReadied here t.0 true x m m1 → id ≡ next_id v.plain.kernel.ids
      → IsChanged h.0 (entered t x id) m1.harts.items m2.harts.items → m2.pages ≡ m1.pages
      → m2.kernel ≡ record m.kernel { threads = file; ready = order } → file.threads ≡ with_state t.0 (Running h) m.kernel.threads.threads
      → file.saved ≡ with_saved t.0 None m.kernel.threads.saved → IsTable file → order ≡ without_ready t.0 m.kernel.ready → m2.ended ≡ m.ended
      → IsUncounted v h.0 (done_run here t.0) m m2
  begun_running m1 m2 x id file order is its changed pages kernel threads saved table taken ended =
      let p = v.plain in
      let tables = tables_at v m h.0 place in
      let d = done_running here t.0 comes in
      let lives : lives_on here t.0 comes ≡ true = sym is.lives in
      let same : done_run here t.0 ≡ d = ap (λ b. cond b (done_running here t.0 comes) (done_killed here t.0 comes)) lives in
      let wrote : IsWritten d.entered m.pages m2.pages =
      subst (λ (ws : List Write). IsWritten ws m.pages m2.pages) (ap (λ (e : Done). e.entered) same)
      (subst (λ (n : Map). IsWritten (done_run here t.0).entered m.pages n) (sym pages) is.pages) in
      uncounted_as v h.0 (asked.Run t) d m m2 (entered t x id own_hart) place free same (record {
        own = run_own (credit_of m.harts.items h.0) v.setting p h.0 t.0 comes x id own_hart (counted (entered t x id own_hart)) refl tables ready (run_ready here t.0 free).0 place.lt
            (is.file ∙ ap (λ (e : Done). file_among e.files t.0 (p.file t.0)) same) (its ∙ sym its_next) refl;
        harts = begun_beside h.0 d m.harts.items m1.harts.items m2.harts.items own_hart (entered t x id) (record { none_begun = refl; none_taken = refl }) (place.tied.harts h.0 place.lt)
            (λ k. is.harts k ∙ ap (λ (e : Done). option_map (lost_unless (eqb k h.0) e.entered) (slice_get m.harts.items k)) same) changed;
        pages = pages_written p.kernel.pages v.setting.program.break_at p.byte d.entered m.pages m2.pages place.tied.pages wrote;
        readable = readable_written d.entered m.pages m2.pages place.tied.readable wrote;
        tables = rw kernel (holds_past_ids (holds_scheduling
            (holds_threads place.tied.tables file (with_state t.0 (Running h) p.kernel.threads) (threads ∙ ap (with_state t.0 (Running h)) place.tied.tables.threads))
            order (without_ready t.0 p.kernel.scheduling) (taken ∙ ap (without_ready t.0) place.tied.tables.scheduling)) (with_id t.0 p.kernel.ids));
        ids = λ k u ne runs. id_with_other t.0 u p.kernel.ids (ready_apart v.setting.limits.harts k t.0 u p.kernel.threads p.kernel.scheduling tables ready runs);
        table = rw kernel table;
        saved = rw kernel (saved_but_one p.file (λ u. file_among d.files u (p.file u)) t.0 file (none_kept t.0 m.kernel.threads file saved) (λ u other. file_other here t.0 u comes (p.file u) other)
            (saved_ran p.file t.0 m.kernel.threads file saved place.tied.saved));
        ended = ended ∙ goes_on v m h.0 (ran t.0 h.0 p.kernel) place (not_stuck t.0 (Running h) p.kernel.threads refl (ready_live t.0 p.kernel.threads ready));
      })

  -- the process is killed
  pub begun_killed : (m1 m2 : Parts) (x : Saved) (mid : Table) → IsReadied here t.0 false x m m1
      → IsChanged h.0 begun_without m1.harts.items m2.harts.items → m2.pages ≡ m1.pages
      → mid.threads ≡ with_state t.0 (Running h) m.kernel.threads.threads → mid.saved ≡ with_saved t.0 None m.kernel.threads.saved
      → m2.kernel.threads.threads ≡ with_state t.0 Ready mid.threads → m2.kernel.threads.saved ≡ with_saved t.0 (Some x) mid.saved → IsTable m2.kernel.threads
      → m2.kernel ≡ record m.kernel { threads = m2.kernel.threads } → m2.ended ≡ Some (Killed SIGSEGV)
      → IsUncounted v h.0 (done_run here t.0) m m2
  begun_killed m1 m2 x mid is changed pages ran_threads ran_saved threads saved table others ended =
      let p = v.plain in
      let tables = tables_at v m h.0 place in
      let d = done_killed here t.0 comes in
      let dies : lives_on here t.0 comes ≡ false = sym is.lives in
      let same : done_run here t.0 ≡ d = ap (λ b. cond b (done_running here t.0 comes) (done_killed here t.0 comes)) dies in
      let wrote : IsWritten d.entered m.pages m2.pages =
      subst (λ (ws : List Write). IsWritten ws m.pages m2.pages) (ap (λ (e : Done). e.entered) same)
      (subst (λ (n : Map). IsWritten (done_run here t.0).entered m.pages n) (sym pages) is.pages) in
      let back : with_state t.0 Ready (with_state t.0 (Running h) p.kernel.threads) ≡ p.kernel.threads = put_back t.0 h p.kernel.threads tables.threads.rising (state_ready t.0 p.kernel.threads ready) in
      uncounted_as v h.0 (asked.Run t) d m m2 (begun_without own_hart) place free same (record {
        own = killed_own (credit_of m.harts.items h.0) v.setting p h.0 t.0 comes own_hart (counted (begun_without own_hart)) refl (run_ready here t.0 free).0 refl;
        harts = begun_beside h.0 d m.harts.items m1.harts.items m2.harts.items own_hart begun_without (record { none_begun = refl; none_taken = refl }) (place.tied.harts h.0 place.lt)
            (λ k. is.harts k ∙ ap (λ (e : Done). option_map (lost_unless (eqb k h.0) e.entered) (slice_get m.harts.items k)) same) changed;
        pages = pages_written p.kernel.pages v.setting.program.break_at p.byte d.entered m.pages m2.pages place.tied.pages wrote;
        readable = readable_written d.entered m.pages m2.pages place.tied.readable wrote;
        tables = subst (λ (k : Kernel). HoldsTables k p.kernel) (sym others) (holds_threads place.tied.tables m2.kernel.threads p.kernel.threads
            (threads ∙ ap (with_state t.0 Ready) (ran_threads ∙ ap (with_state t.0 (Running h)) place.tied.tables.threads) ∙ back));
        ids = λ k u ne runs. refl;
        table = table;
        saved = kept_again p.file (λ u. file_among d.files u (p.file u)) t.0 x m.kernel.threads mid m2.kernel.threads ran_saved saved
            (is.file ∙ ap (λ (e : Done). file_among e.files t.0 (p.file t.0)) same) (λ u other. file_other here t.0 u comes (p.file u) other) place.tied.saved;
        ended = ended;
      })
