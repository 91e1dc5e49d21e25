-- A section that began before a grace period began has ended before it ended.
use Rattle.std.proofs.Common.{◌≡◌, ◌≢◌, ℕ, zero, suc, ◌+◌, ◌*◌, ◌<◌, ◌≤◌, ◌%◌, ◌^◌, List, [], ◌∷◌, ◌++◌, ◌⊎◌}
use Rattle.std.proofs.Common.{append_assoc, length, length-append, arith, refl, sym, ap, ◌∙◌, subst, true}
use Rattle.std.proofs.Common.{false, inl, inr, Some, None, Option, pos}
use Rattle.std.proofs.lemmas.Bool.{cases_eq, ne_eqb, false≢true}
use Rattle.mach_types.specs.Events.{choice_of}
use Rattle.mach_types.specs.Registers.{register}
use Rattle.mach_types.specs.declared.events.Choice.TheVariants as asked
use Rattle.mach_types.specs.declared.events.Kind.{Kind}
use Rattle.mach_types.specs.declared.events.Kind.TheVariants as kind
use Rattle.mach_types.specs.declared.threads.ThreadState.{ThreadState}
use Rattle.mach_types.specs.declared.threads.ThreadState.TheVariants.{Ready, Running, Waiting}
use Rattle.mach_types.specs.Kernel.Threads.{Threads, is_live, is_ready, is_ready_state, is_waiting_state}
use Rattle.mach_types.specs.Kernel.Threads.{state_of}
use Rattle.std.specs.Option.{option_map, option_map_or}
use Rattle.mach_types.specs.declared.registers.Regs.{Regs}
use Rattle.mach_types.specs.declared.threads.Saved.{Saved}
use Rattle.rv_inst.specs.Class.{is_call}
use Rattle.rv_inst.specs.Meaning.{meaning}
use Rattle.rv_inst.specs.Memory.{loaded}
use Rattle.rv_inst.specs.declared.effects.Effect.{Effect}
use Rattle.rv_inst.specs.declared.instruction.Inst.{Inst}
use Rattle.rv_inst.specs.declared.instruction.Inst.TheVariants as inst
use Rattle.alone.proofs.Laws.{loaded_word, written_same}
use Rattle.alone.proofs.Means.{means_ld}
use Rattle.alone_laws.specs.Spans.{code_of, seen_at}
use Rattle.block_model.proofs.Laws.{IsStep, file_apart, has_registers, not_ready, one_hart, ready_file_stays}
use Rattle.block_model.proofs.Laws.{running_there, step_of}
use Rattle.block_model.specs.Tables.{IsTables, on}
use Rattle.mach_types.specs.Bytes.{word_at}
use Rattle.block_model.specs.History.{Event, History, file, kernel, running, waiting}
use Rattle.block_model.specs.Run.{IsRunHistory}
use Rattle.block_model.specs.Setting.{Setting}
use Rattle.block_model.specs.Walks.{is_exec}
use Rattle.urcu_lib.specs.Blocks.{AreBlocks, Urcu, counter_bytes, slot_at}
use Rattle.urcu_lib.specs.declared.regs.ReadRegs.{ReadRegs}
use Rattle.urcu_lib.specs.declared.regs.SyncRegs.{SyncRegs}
use Rattle.fence_laws.specs.Entered.{HaveEntered}
use Rattle.fence_laws.specs.Kept.{AreBeside, AreQuiet, IsQuiet}
use Rattle.urcu_lib.specs.Sections.{HaveEnded, IsGrace, IsGraceBegin, IsExecAt, IsGraceEnd, IsSyncStore}
use Rattle.urcu_lib.specs.Sections.{IsSyncing, calls, comes_in, is_in, waits}
use Rattle.urcu_lib.specs.Stretch.{HasFinished, HasNewCounter, HasReturned, IsCounterGrown, IsFirstLoad}
use Rattle.urcu_lib.specs.Stretch.{IsLoaded, IsPassing, Runs, it_rests, it_runs, none_run}
use Rattle.urcu_lib.specs.Registers.{AreSyncRegs}
use Rattle.urcu_lib.specs.Uses.{AreElsewhere, AreUses, HasCome, IsStart, MaySet, acts, counted, goes_on}
use Rattle.urcu_lib.specs.Uses.{returns}
use Rattle.urcu_lib.proofs.CounterLaw.{IsCounter, counted_low, counter_quiet, counter_start, counter_stored}
use Rattle.urcu_lib.proofs.CounterLaw.{in_word, new_count, same_count, seen_last, seen_word}
use Rattle.fence_laws.proofs.ExecLaw.{after_load, exec_of}
use Rattle.urcu_lib.proofs.SlotLaw.{is_later}
use Rattle.urcu_lib.proofs.SyncState.{ArePassed, HasNone, IsOpen, IsOrderly, IsPast, Stands, all_set, base}
use Rattle.urcu_lib.proofs.SyncState.{has_called, has_grown, has_looked, is_over, is_some, left_at, looks}
use Rattle.urcu_lib.proofs.SyncState.{moves, open_next, passes, place_of, quiet_next, some_left, stands_next}
use Rattle.urcu_lib.proofs.SyncSteps.{AreBelow, IsNext, base_is, entered_now, next_first, next_of}
use Rattle.urcu_lib.proofs.SyncSteps.{none_waits, past_last, sync_stores}
use Rattle.fence_laws.proofs.Calls.{outside_of}
use Rattle.fence_laws.proofs.GoingOn.{HasGoneOn, has_gone_on, return_keeps}
use Rattle.fence_laws.proofs.ThreadLaw.{given_at, given_grows, given_since, lived_at, lived_before}
use Rattle.fence_laws.proofs.ThreadLaw.{ComesByCall, child_came, gone_is, is_kept_waiting, runner_lives}
use Rattle.fence_laws.proofs.ThreadLaw.{waiter_came, waiter_keeps, was_given}
use Rattle.urcu_lib.proofs.CallWords.{IsNoCall, ld_none, sync_word}
use Rattle.alone_laws.proofs.Steps.{word_same}
use Rattle.fence_laws.proofs.WordLaw.{exec_drained, quiet_own}

first_uses : (s : Setting) (u : Urcu) (first : ℕ) (since : List Event) (x : History)
    → AreUses s u first (since ++ x) → AreUses s u first x
first_uses s u first [] x uses = uses
first_uses s u first (y ∷ since) x uses = first_uses s u first since x uses.0

first_run : (s : Setting) (since : List Event) (x : History) → IsRunHistory s (since ++ x) → IsRunHistory s x
first_run s [] x run = run
first_run s (y ∷ since) x run = first_run s since x run.0

-- the instruction of a call
called_code : (f : Saved) (x : Effect) (o : Option Inst) → option_map (λ i. meaning i f.file f.pc) o ≡ Some x
    → is_call x ≡ true → (i : Inst) × (o ≡ Some i) × (is_call (meaning i f.file f.pc) ≡ true)
called_code f x None is is_it = absurd cc
called_code f x (Some i) is is_it = (i, refl, ap is_call (same_effect is) ∙ is_it)
  where
    same_effect : {a b : Effect} → Some a ≡ Some b → a ≡ b
    same_effect its = cc

same_inst : {a b : Inst} → Some a ≡ Some b → a ≡ b
same_inst is = cc

-- WHAT A PLACE TELLS

module _ (s : Setting) (u : Urcu) (first at t : ℕ) (f : Regs) (now : History) where
  record IsGrown : Type 0 where
    o : IsOpen s u first at t now
    quiet : AreQuiet (counter_bytes u) o.since
    entered : HaveEntered o.grace now
    five : register f 5 ≡ (base s u first at t now o + 1) % 2 ^ 64

  -- a thread isn't at two places
  apart_from : (k m : ℕ) → k ≡ m → (x : Stands s u first at t f now k)
      → (place_of s u first k x).0 ≢ m → ⊥
  apart_from k m is x other = other (sym (place_of s u first k x).1 ∙ is)

  grown_at : (k : ℕ) → k ≡ 7 → Stands s u first at t f now k → IsGrown
  grown_at k seven (has_grown is o quiet entered five) = record
      { o = o; quiet = quiet; entered = entered; five = five }
  grown_at k seven x = absurd (apart_from k 7 seven x (omega arith))

  called_at : (k : ℕ) → k ≡ 5 → Stands s u first at t f now k
      → (o : IsOpen s u first at t now) × AreQuiet (counter_bytes u) o.since
  called_at k five (has_called is o quiet) = (o, quiet)
  called_at k five x = absurd (apart_from k 5 five x (omega arith))

  -- at the call its number stands in x17, and no grace period goes on
  call_at : (k : ℕ) → k ≡ 4 → Stands s u first at t f now k
      → (register f 17 ≡ 283) × HasNone s u first at t now
  call_at k four (all_set is a b c none) = (c, none)
  call_at k four x = absurd (apart_from k 4 four x (omega arith))

  looked_at : (k : ℕ) → k ≡ 11 → Stands s u first at t f now k → IsPast s u first at t f now
  looked_at k looked (has_looked is x passed shows) = x.past
  looked_at k looked x = absurd (apart_from k 11 looked x (omega arith))

  -- at the load x6 is the address of the slot at which the thread looks, and x7 says how many are left
  abbrev LooksAt : Type 0
  LooksAt = (i : ℕ) × (register f 6 ≡ slot_at u i) × (register f 7 + i ≡ u.readers at)

  looks_at : (k : ℕ) → k ≡ 10 → Stands s u first at t f now k → LooksAt
  looks_at k ten (looks is x passed) = (x.i, x.six, x.seven)
  looks_at k ten x = absurd (apart_from k 10 ten x (omega arith))

  -- at another instruction than the last at least two are left
  abbrev left_of : ℕ → ℕ
  left_of k = left_at (u.readers at) k (register f 7)

  two_by : (k m : ℕ) → k ≡ m → 2 ≤ left_of m → 2 ≤ left_of k
  two_by k m is some = subst (λ n. 2 ≤ left_of n) (sym is) some

  two_left : (k : ℕ) → k ≢ 16 → Stands s u first at t f now k → 2 ≤ left_of k
  two_left k other (is_over is p passed) = absurd (other is)
  two_left k other (looks is x passed) = two_by k 10 is (omega arith)
  two_left k other (has_looked is x passed shows) = two_by k 11 is (omega arith)
  two_left k other (is_some is x passed shows) = two_by k 12 is (omega arith)
  two_left k other (passes is x passed) = two_by k 13 is (omega arith)
  two_left k other (moves is p i lt six x passed) = two_by k 14 is (omega arith)
  two_left k other x = two_by k (place_of s u first k x).0 (place_of s u first k x).1 (omega arith)

  over_at : (k : ℕ) → k ≡ 16 → Stands s u first at t f now k
      → (p : IsPast s u first at t f now) × ArePassed s u first p.opened.grace (u.readers at) now
  over_at k last (is_over is p passed) = (p, passed)
  over_at k last x = absurd (apart_from k 16 last x (omega arith))

same_event : (x y : Event) (xs ys : History) → x ∷ xs ≡ y ∷ ys → x ≡ y
same_event x y xs ys is = cc

same_rest : (x y : Event) (xs ys : History) → x ∷ xs ≡ y ∷ ys → xs ≡ ys
same_rest x y xs ys is = cc

-- LOADS SINCE A PLACE

module _ (s : Setting) (at t : ℕ) (begun : History) where
  none_loaded : (a : ℕ) → IsLoaded s at t a begun begun → ⊥
  none_loaded a l =
      let long : length begun ≡ length (l.since ++ l.event ∷ (l.earlier ++ begun)) = ap
      (λ (b : History). length b) l.parts in
      let one = length-append l.since (l.event ∷ (l.earlier ++ begun)) in
      let two = length-append l.earlier begun in
      let no : ⊥ = omega arith in
      no

  -- an event loads from an address
  abbrev Loads : ℕ → Event → History → Type 0
  Loads a e before = IsExecAt (at + 40) e × (e.entry.tid.0 ≡ t) × (register (file s t before).file 6 ≡ a)

  loaded_next : (a : ℕ) (e : Event) (before : History) → IsLoaded s at t a begun (e ∷ before)
      → IsLoaded s at t a begun before ⊎ Loads a e before
  loaded_next a e before l = by_since l.since l.parts
    where
      by_since : (since : List Event) → e ∷ before ≡ since ++ l.event ∷ (l.earlier ++ begun)
          → IsLoaded s at t a begun before ⊎ Loads a e before
      by_since [] parts =
          let same = same_event e l.event before (l.earlier ++ begun) parts in
          let rest = same_rest e l.event before (l.earlier ++ begun) parts in
          inr (
            subst (IsExecAt (at + 40)) (sym same) l.exec,
            ap (λ (x : Event). x.entry.tid.0) same ∙ l.of,
            ap (λ (b : History). register (file s t b).file 6) rest ∙ l.from,
          )
      by_since (y ∷ ys) parts = inl (record {
        event = l.event;
        since = ys;
        earlier = l.earlier;
        parts = same_rest e y before (ys ++ l.event ∷ (l.earlier ++ begun)) parts;
        exec = l.exec;
        of = l.of;
        from = l.from;
      })

-- WHO IS IN A SYNC BLOCK

module _ (s : Setting) (t : ℕ) where
  -- a thread that lives, and whose number was given at an earlier place, lived before the last event
  lived_last : (old : History) (e : Event) (since : List Event) → IsRunHistory s (e ∷ since ++ old)
      → t ≤ (kernel s old).threads.given → is_live t e.done.kernel.threads ≡ true
      → is_live t (kernel s (since ++ old)).threads ≡ true
  lived_last old e since run low lives =
      let more = given_since s since old run.0 in
      lived_before s e (since ++ old) (step_of s e (since ++ old) run) t (omega arith) lives

  -- an event that executes nothing of the block for the thread leaves it there
  syncing_since : (at : ℕ) (begun old : History) (since : List Event) → IsRunHistory s (since ++ old)
      → t ≤ (kernel s old).threads.given → is_live t (kernel s (since ++ old)).threads ≡ true
      → AreElsewhere at 17 t since → IsSyncing s at t begun old
      → IsSyncing s at t begun (since ++ old)
  syncing_since at begun old [] run low lives elsewhere was = was
  syncing_since at begun old (e ∷ since) run low lives elsewhere was =
      is_in e (since ++ old)
      (syncing_since at begun old since run.0 low (lived_last old e since run low lives) elsewhere.0 was)
      (λ ends. elsewhere.1 ends.exec.executes ends.of (16, omega arith, ends.exec.pc)) lives

  -- the number of a thread whose grace period goes on was given
  grace_given : (at : ℕ) (grace now : History) → IsRunHistory s now → IsGrace at t grace now
      → t ≤ (kernel s now).threads.given
  grace_given at grace now run (calls e begins) =
      let step = step_of s e grace run in
      let of = exec_of s e grace step begins.exec.executes in
      let low = was_given s e grace step t
      (runner_lives s e grace step e.entry.hart.0 t (of.runs ∙ ap Some begins.of)) in
      let more = given_grows s e grace step in
      omega arith
  grace_given at grace now run (waits e before was still) =
      let low = grace_given at grace before run.0 was in
      let more = given_grows s e before (step_of s e before run) in
      omega arith

-- WHO SETS A FILE

module _ (s : Setting) (e : Event) (before : History) (run : IsRunHistory s (e ∷ before)) where
  set_step : IsStep s e before
  set_step = step_of s e before run

  -- an event leaves a thread as it was, and executes nothing for it
  abbrev Leaves : ℕ → Type 0
  Leaves t = (file s t (e ∷ before) ≡ file s t before)
      × (choice_of e.entry ≡ asked.Exec → e.entry.tid.0 ≡ t → ⊥)

  runs_here : (t : ℕ) → choice_of e.entry ≡ asked.Exec → e.entry.tid.0 ≡ t
      → running s e.entry.hart.0 before ≡ Some t
  runs_here t executes of = (exec_of s e before set_step executes).runs ∙ ap Some of

  ready_stays_so : (t : ℕ) → is_ready t (kernel s before).threads ≡ true
      → (e.entry.kind ≡ kind.Run → e.entry.tid.0 ≢ t) → Leaves t
  ready_stays_so t ready other = (
    ready_file_stays s e before t run ready other,
    λ executes of. false≢true
        (sym (not_ready s e before set_step e.entry.hart.0 t (runs_here t executes of)) ∙ ready),
  )

  by_ready : (t : ℕ) → is_ready t (kernel s before).threads ≡ true → (k : Kind) → e.entry.kind ≡ k
      → MaySet s t e before ⊎ Leaves t
  by_ready t ready kind.Run is = by_thread (cases_eq e.entry.tid.0 t)
    where
      by_thread : (e.entry.tid.0 ≡ t) ⊎ (e.entry.tid.0 ≢ t) → MaySet s t e before ⊎ Leaves t
      by_thread (inl same) = inl (inr (is, same))
      by_thread (inr other) = inr (ready_stays_so t ready (λ k same. other same))
  by_ready t ready k is = inr (ready_stays_so t ready (λ run_it same. absurd cc))

  by_hart : (t h : ℕ) → running s h before ≡ Some t → MaySet s t e before ⊎ Leaves t
  by_hart t h there = by_same (cases_eq e.entry.hart.0 h)
    where
      by_same : (e.entry.hart.0 ≡ h) ⊎ (e.entry.hart.0 ≢ h) → MaySet s t e before ⊎ Leaves t
      by_same (inl same) = inl (inl (ap (λ n. running s n before) same ∙ there))
      by_same (inr other) = inr (
        file_apart s h t e before set_step (ne_eqb e.entry.hart.0 h other) there,
        λ executes of. other
            (sym (one_hart s e before set_step h t there e.entry.hart.0 (runs_here t executes of))),
      )

  abbrev ts : Threads
  ts = (kernel s before).threads

  -- it waits, or it doesn't live
  abbrev IsIdle : ℕ → Type 0
  IsIdle t = (is_kept_waiting t (kernel s before).threads ≡ true)
      ⊎ (is_live t (kernel s before).threads ≡ false)

  set_or_left : (t : ℕ) → MaySet s t e before ⊎ (Leaves t ⊎ IsIdle t)
  set_or_left t = by_state (state_of t (kernel s before).threads) refl
    where
      tables : IsTables s.limits.harts ts (kernel s before).scheduling
      tables = set_step.good.kernel.tables

      beside : MaySet s t e before ⊎ Leaves t → MaySet s t e before ⊎ (Leaves t ⊎ IsIdle t)
      beside (inl may) = inl may
      beside (inr leaves) = inr (inl leaves)

      by_state : (o : Option ThreadState) → state_of t (kernel s before).threads ≡ o
          → MaySet s t e before ⊎ (Leaves t ⊎ IsIdle t)
      by_state None is = inr (inr (inr (gone_is t (kernel s before).threads is)))
      by_state (Some Ready) is = beside
          (by_ready t (ap (λ x. option_map_or is_ready_state x false) is) e.entry.kind refl)
      by_state (Some (Running h)) is = beside (by_hart t h.0
          (running_there s.limits.harts h.0 t ts (kernel s before).scheduling tables is))
      by_state (Some (Waiting a)) is = inr (inr (inl (ap (λ x. option_map_or is_waiting_state x false) is)))

  -- so a thread comes to a place by an event that may move it, or stood there before, or waited or is a child
  has_come : (at count kept t : ℕ) → (MaySet s t e before → HasCome s at count kept t e before)
      → (IsIdle t → ⊥) → HasCome s at count kept t e before
  has_come at count kept t asks busy = by_set (set_or_left t)
    where
      by_set : MaySet s t e before ⊎ (Leaves t ⊎ IsIdle t) → HasCome s at count kept t e before
      by_set (inl may) = asks may
      by_set (inr (inl (same, none))) =
          goes_on before [] refl (tt, λ executes of within. none executes of) same
      by_set (inr (inr idle)) = absurd (busy idle)

-- one thread at a time is in one
module _ (s : Setting) (u : Urcu) (first : ℕ) where
  one_syncs : (at t other v : ℕ) (r q : SyncRegs) (begun since : History) → u.syncs at ≡ Some r
      → u.syncs other ≡ Some q → (now : History)
      → AreUses s u first now → IsSyncing s at t begun now → IsSyncing s other v since now
      → (at ≡ other) × (t ≡ v)
  one_syncs at t other v r q begun since block second now uses (comes_in e exec of) (comes_in x again its) =
      (sym exec.pc ∙ again.pc, sym of ∙ its)
  one_syncs at t other v r q begun since block second now uses (comes_in e exec of)
      (is_in x before was still lives) =
      absurd (uses.1.alone other v q since second was
      (record { place = at; regs = r; block = block; exec = exec }))
  one_syncs at t other v r q begun since block second now uses (is_in e before was still lives)
      (comes_in x again its) =
      absurd (uses.1.alone at t r begun block was
      (record { place = other; regs = q; block = second; exec = again }))
  one_syncs at t other v r q begun since block second now uses (is_in e before was still lives)
      (is_in x rest there goes live) =
      one_syncs at t other v r q begun since block second before uses.0 was there

module _ (s : Setting) (u : Urcu) (first : ℕ) (blocks : AreBlocks (code_of s.program.pages) u)
    (start : IsStart s u first) where
  -- WHAT HOLDS AT EACH PLACE

  -- what a thread in a lock block is about to store
  record IsInLock (r : ReadRegs) (f : Regs) (now : History) : Type 0 where
    some : 1 ≤ register f r.scratch
    most : register f r.scratch ≤ counted u.counter first now

  -- a thread at instruction k of a sync block, behind its first
  record IsInSync (at t k : ℕ) (r : SyncRegs) (f : Regs) (now : History) : Type 0 where
    stands : Stands s u first at t f now k
    gp : register f r.gp ≡ u.counter
    slots : register f r.slots ≡ u.slots
    begun : History
    on : IsSyncing s at t begun now

  -- of each thread that lives
  record IsSound (now : History) : Type 0 where
    counter : IsCounter u.counter s first now
    locks : (at t : ℕ) (r : ReadRegs) → u.locks at ≡ Some r → is_live t (kernel s now).threads ≡ true
        → (file s t now).pc ≡ at + 4
        → IsInLock r (file s t now).file now
    syncs : (at t k : ℕ) (r : SyncRegs) → u.syncs at ≡ Some r → 0 < k → k < 17
        → is_live t (kernel s now).threads ≡ true → (file s t now).pc ≡ at + 4 * k
        → IsInSync at t k r (file s t now).file now
    -- one that waits stands in none behind its first instruction
    rests_locks : (at t : ℕ) (r : ReadRegs) → u.locks at ≡ Some r
        → is_kept_waiting t (kernel s now).threads ≡ true → (file s t now).pc ≢ at + 4
    rests_syncs : (at t k : ℕ) (r : SyncRegs) → u.syncs at ≡ Some r → 0 < k → k < 17
        → is_kept_waiting t (kernel s now).threads ≡ true → (file s t now).pc ≢ at + 4 * k

  abbrev Always : History → Type 0
  Always [] = IsSound []
  Always (e ∷ before) = Always before ×
      (counted u.counter first before ≤ counted u.counter first (e ∷ before)) × IsSound (e ∷ before)

  sound : (now : History) → Always now → IsSound now
  sound [] all = all
  sound (e ∷ before) all = all.2

  always_at : (since : List Event) (old : History) → Always (since ++ old) → Always old
  always_at [] old all = all
  always_at (e ∷ since) old all = always_at since old all.0

  grows : (since : List Event) (old : History) → Always (since ++ old)
      → counted u.counter first old ≤ counted u.counter first (since ++ old)
  grows [] old all = omega arith
  grows (e ∷ since) old all = let earlier = grows since old all.0 in let now = all.1 in omega arith

  -- a thread that executes an instruction lives
  actor_lives : (e : Event) (before : History) → IsRunHistory s (e ∷ before)
      → choice_of e.entry ≡ asked.Exec → (t : ℕ) → e.entry.tid.0 ≡ t
      → is_live t (kernel s before).threads ≡ true
  actor_lives e before run executes t of =
      let step = step_of s e before run in
      runner_lives s e before step e.entry.hart.0 t
      ((exec_of s e before step executes).runs ∙ ap Some of)

  -- a thread that lives and whose grace period goes on is in its block
  grace_syncs : (at t : ℕ) (r : SyncRegs) (grace : History) → u.syncs at ≡ Some r → (now : History)
      → IsRunHistory s now → Always now → is_live t (kernel s now).threads ≡ true → IsGrace at t grace now
      → (begun : History) × IsSyncing s at t begun now
  grace_syncs at t r grace block now run all lives (calls e begins) =
      let of = exec_of s e grace (step_of s e grace run) begins.exec.executes in
      let there : (file s t grace).pc ≡ at + 4 * 4 = sym (ap (λ n. (file s n grace).pc) begins.of) ∙ of.pc
      ∙ begins.exec.pc in
      let was = (sound grace all.0).syncs at t 4 r block (omega arith) (omega arith)
      (actor_lives e grace run begins.exec.executes t begins.of) there in (
        was.begun,
        is_in e grace was.on
            (λ ends. let one = begins.exec.pc in let two = ends.exec.pc in let no : ⊥ = omega arith in no)
            lives,
      )
  grace_syncs at t r grace block now run all lives (waits e before was still) =
      let low = grace_given s t at grace before run.0 was in
      let old = grace_syncs at t r grace block before run.0 all.0
      (lived_before s e before (step_of s e before run) t low lives) was in
      (old.0, is_in e before old.1 still lives)

  -- what is known of an event by what holds before it
  orderly : (e : Event) (before : History) → IsRunHistory s (e ∷ before) → AreUses s u first (e ∷ before)
      → Always before
      → ((at t : ℕ) → IsGraceBegin at t e → e.done.ended ≡ None) → IsOrderly s u first e before
  orderly e before run uses all lives = record {
    used = uses.1;
    one = λ at t r grace block on alive x.
        let g = grace_syncs at t r grace block before run.0 all alive on in
        let place : (file s e.entry.tid.0 before).pc ≡ x.place + 4 * 7 =
        (exec_of s e before step x.exec.executes).pc ∙ x.exec.pc in
        let its = (sound before all).syncs x.place e.entry.tid.0 7 x.regs x.block (omega arith)
        (omega arith) (its_actor e.entry.tid.0 x.exec.executes refl) place in
        let same = one_syncs s u first at t x.place e.entry.tid.0 r x.regs g.0 its.begun block x.block before uses.0 g.1 its.on in
        (sym same.1, x.exec.pc ∙ ap (λ n. n + 28) (sym same.0));
    once = λ at t r grace block on begins.
        let of = exec_of s e before step begins.exec.executes in
        let there : (file s t before).pc ≡ at + 4 * 4 = sym (ap (λ n. (file s n before).pc) begins.of) ∙ of.pc
        ∙ begins.exec.pc in
        let its = (sound before all).syncs at t 4 r block (omega arith) (omega arith)
        (its_actor t begins.exec.executes begins.of) there in
        (call_at s u first at t (file s t before).file before 4 refl its.stands).1 grace on;
    anew = λ at t r grace block on alive exec.
        let g = grace_syncs at t r grace block before run.0 all alive on in
        uses.1.alone at t r g.0 block g.1 (record { place = at; regs = r; block = block; exec = exec });
    outside = λ at t r block begins.
        let of = exec_of s e before step begins.exec.executes in
        outside_of s e before step begins.exec.executes
        (ap (code_of s.program.pages) (of.pc ∙ begins.exec.pc)
        ∙ (blocks.syncs at r block).holds 4 inst.Ecall refl) (lives at t begins);
    many = has_registers s before run.0;
    low = counted_low u.counter s first before (sound before all).counter;
  }
    where
      step : IsStep s e before
      step = step_of s e before run

      its_actor : (t : ℕ) → choice_of e.entry ≡ asked.Exec → e.entry.tid.0 ≡ t
          → is_live t (kernel s before).threads ≡ true
      its_actor t executes of = actor_lives e before run executes t of

  -- what sections stored that began before a grace period
  are_below : (now : History) → IsRunHistory s now → AreUses s u first now → Always now → (at t : ℕ)
      → (p : IsPast s u first at t (file s t now).file now) → AreBelow s u first blocks now p.opened.grace
  are_below now run uses all at t p i lt begun b earlier =
      let x = b.event ∷ begun in
      let all_x : Always x = always_at b.since x (subst Always b.parts all) in
      let run_x : IsRunHistory s x = first_run s b.since x (subst (IsRunHistory s) b.parts run) in
      let of = exec_of s b.event begun (step_of s b.event begun run_x) b.locks.exec.executes in
      let holds = (sound begun all_x.0).locks b.locks.place b.event.entry.tid.0 b.locks.regs b.locks.block
      (actor_lives b.event begun run_x b.locks.exec.executes b.event.entry.tid.0 refl)
      (of.pc ∙ b.locks.exec.pc) in
      let o = p.opened in
      let parts : now ≡ (o.since ++ o.call ∷ []) ++ o.grace = o.parts
      ∙ sym (append_assoc o.since (o.call ∷ []) o.grace) in
      let later = is_later b.since (o.since ++ o.call ∷ []) x o.grace (sym b.parts ∙ parts) (omega arith) in
      let all_grace : Always o.grace = always_at (o.since ++ o.call ∷ []) o.grace (subst Always parts all) in
      let more = grows later.0 x (subst Always later.1 all_grace) in
      let same : counted u.counter first o.grace ≡ counted u.counter first (later.0 ++ x) = ap
      (counted u.counter first) later.1 in
      let one = all_x.1 in
      let low = counted_low u.counter s first begun (sound begun all_x.0).counter in
      let some = holds.some in
      let most = holds.most in
      (omega arith, omega arith)

  -- where nothing of a block is executed a thread in it stands as it did
  stands_since : (at t k : ℕ) (f : Regs) (old : History) (since : List Event) → IsRunHistory s (since ++ old)
      → AreUses s u first (since ++ old)
      → Always (since ++ old) → HasGoneOn (since ++ old) → t ≤ (kernel s old).threads.given
      → is_live t (kernel s (since ++ old)).threads ≡ true → AreElsewhere at 17 t since
      → Stands s u first at t f old k
      → Stands s u first at t f (since ++ old) k
  stands_since at t k f old [] run uses all gone low lives elsewhere was = was
  stands_since at t k f old (e ∷ since) run uses all gone low lives elsewhere was =
      let alive = lived_last s t old e since run low lives in
      stands_next s u first at t e (since ++ old) run
      (orderly e (since ++ old) run uses all.0 (λ block thread begins. gone.1)) alive f elsewhere.1 k
      (stands_since at t k f old since run.0 uses.0 all.0 gone.0 low alive elsewhere.0 was)

  -- AN EVENT

  module _ (e : Event) (before : History) (run : IsRunHistory s (e ∷ before))
      (uses : AreUses s u first (e ∷ before)) (all : Always before)
      (gone : HasGoneOn before) (has : IsOrderly s u first e before) where
    old : IsSound before
    old = sound before all

    step : IsStep s e before
    step = step_of s e before run

    -- the counter
    abbrev CounterNext : Type 0
    CounterNext = IsCounter u.counter s first (e ∷ before)
        × (counted u.counter first before ≤ counted u.counter first (e ∷ before))

    counter_next : IsQuiet (counter_bytes u) e ⊎ IsSyncStore u e → CounterNext
    counter_next (inl quiet) =
        let same = same_count u.counter s first e before run old.counter quiet in
        (counter_quiet u.counter s first e before run old.counter quiet, omega arith)
    counter_next (inr x) =
        let executes = x.exec.executes in
        let t = e.entry.tid.0 in
        let stands_at : (file s t before).pc ≡ x.place + 4 * 7 = (exec_of s e before step executes).pc
        ∙ x.exec.pc in
        let its = old.syncs x.place t 7 x.regs x.block (omega arith) (omega arith)
        (actor_lives e before run executes t refl) stands_at in
        let g = grown_at s u first x.place t (file s t before).file before 7 refl its.stands in
        let did = sync_stores s u first blocks x.place x.regs x.block e before run has executes its.gp its.slots x.exec.pc g.o g.quiet g.five in
        let empty = none_waits s u first blocks x.place x.regs x.block e before run has executes its.gp its.slots g.o g.quiet g.entered in
        let small = uses.1.small x in
        let n = counted u.counter first before in
        let drained = exec_drained s e before step executes in
        let new = new_count u.counter s first e before run old.counter (n + 1) did.1 did.2 drained
        (omega arith) (omega arith) small empty in (
          counter_stored u.counter s first e before run old.counter (n + 1) did.1 did.2 drained (omega arith)
              (omega arith) small empty,
          omega arith,
        )

    both : CounterNext
    both = counter_next uses.1.counter

    -- a thread that comes to stand behind another call than a barrier's comes into no block
    module _ (v : ℕ) (c : ComesByCall s e before step v) where
      abbrev its_file : Saved
      its_file = file s c.thread before

      called : (i : Inst) × (code_of s.program.pages (file s c.thread before).pc ≡ Some i)
          × (is_call (meaning i (file s c.thread before).file (file s c.thread before).pc) ≡ true)
      called = called_code (file s c.thread before) c.caller.effect
          (code_of s.program.pages (file s c.thread before).pc) c.caller.is c.caller.calls

      stood : (a : ℕ) → (file s v (e ∷ before)).pc ≡ a + 4 → (file s c.thread before).pc ≡ a
      stood a there =
          let low = blocks.low (file s c.thread before).pc called.0 called.1 in
          let pc : (file s v (e ∷ before)).pc ≡ ((file s c.thread before).pc + 4) % 2 ^ 64 = c.pc in
          omega arith

      not_plain : (a : ℕ) (i : Inst) → code_of s.program.pages a ≡ Some i → IsNoCall i
          → (file s c.thread before).pc ≢ a
      not_plain a i code none same =
          let its = same_inst (sym called.1 ∙ ap (code_of s.program.pages) same ∙ code) in
          false≢true
          (sym (none (file s c.thread before).file (file s c.thread before).pc)
          ∙ ap (λ j. is_call (meaning j (file s c.thread before).file (file s c.thread before).pc)) (sym its)
          ∙ called.2)

      in_no_lock : (at : ℕ) (r : ReadRegs) → u.locks at ≡ Some r → (file s v (e ∷ before)).pc ≢ at + 4
      in_no_lock at r block there =
          let load = inst.Ld r.scratch r.gp (pos 0) in
          not_plain (at + 4 * 0) load ((blocks.locks at r block).holds 0 load refl)
          (ld_none r.scratch r.gp (pos 0)) (stood (at + 4 * 0) (there ∙ omega arith))

      in_no_sync : (at k : ℕ) (r : SyncRegs) → u.syncs at ≡ Some r → 0 < k → k < 17
          → (file s v (e ∷ before)).pc ≢ at + 4 * k
      in_no_sync at zero r block some lt there = omega arith
      in_no_sync at (suc j) r block some lt there = by_word (cases_eq j 4)
        where
          at_j : (file s c.thread before).pc ≡ at + 4 * j
          at_j = stood (at + 4 * j) (there ∙ omega arith)

          by_word : (j ≡ 4) ⊎ (j ≢ 4) → ⊥
          by_word (inl four) =
              let its = old.syncs at c.thread 4 r block (omega arith) (omega arith)
              (runner_lives s e before step e.entry.hart.0 c.thread c.caller.at)
              (at_j ∙ ap (λ n. at + 4 * n) four) in
              c.other (sym c.caller.number
              ∙ (call_at s u first at c.thread (file s c.thread before).file before 4 refl its.stands).0)
          by_word (inr other) =
              let w = sync_word r (u.readers at) j (omega arith) other in
              not_plain (at + 4 * j) w.its ((blocks.syncs at r block).holds j w.its w.is) w.none at_j

    -- nor does one that waited, or is a child
    lock_busy : (at t : ℕ) (r : ReadRegs) → u.locks at ≡ Some r
        → is_live t (kernel s (e ∷ before)).threads ≡ true → (file s t (e ∷ before)).pc ≡ at + 4
        → IsIdle s e before run t → ⊥
    lock_busy at t r block lives there (inl rests) = old.rests_locks at t r block rests
        (sym (waiter_keeps s e before step t rests) ∙ there)
    lock_busy at t r block lives there (inr gone_it) = in_no_lock t
        (child_came s e before step t gone_it lives) at r block there

    sync_busy : (at t k : ℕ) (r : SyncRegs) → u.syncs at ≡ Some r → 0 < k → k < 17
        → is_live t (kernel s (e ∷ before)).threads ≡ true → (file s t (e ∷ before)).pc ≡ at + 4 * k
        → IsIdle s e before run t → ⊥
    sync_busy at t k r block some lt lives there (inl rests) = old.rests_syncs at t k r block some lt rests
        (sym (waiter_keeps s e before step t rests) ∙ there)
    sync_busy at t k r block some lt lives there (inr gone_it) = in_no_sync t
        (child_came s e before step t gone_it lives) at k r block some lt there

    lock_rests : (at t : ℕ) (r : ReadRegs) → u.locks at ≡ Some r → (file s t (e ∷ before)).pc ≡ at + 4
        → (is_kept_waiting t (kernel s before).threads ≡ true) ⊎ ComesByCall s e before step t → ⊥
    lock_rests at t r block there (inl was) = old.rests_locks at t r block was
        (sym (waiter_keeps s e before step t was) ∙ there)
    lock_rests at t r block there (inr c) = in_no_lock t c at r block there

    sync_rests : (at t k : ℕ) (r : SyncRegs) → u.syncs at ≡ Some r → 0 < k → k < 17
        → (file s t (e ∷ before)).pc ≡ at + 4 * k
        → (is_kept_waiting t (kernel s before).threads ≡ true) ⊎ ComesByCall s e before step t → ⊥
    sync_rests at t k r block some lt there (inl was) = old.rests_syncs at t k r block some lt was
        (sym (waiter_keeps s e before step t was) ∙ there)
    sync_rests at t k r block some lt there (inr c) = in_no_sync t c at k r block some lt there

    -- lock
    lock_load : (at : ℕ) (r : ReadRegs) → u.locks at ≡ Some r → choice_of e.entry ≡ asked.Exec
        → e.entry.pc ≡ at
        → IsInLock r (file s e.entry.tid.0 (e ∷ before)).file (e ∷ before)
    lock_load at r block executes pc =
        let t = e.entry.tid.0 in
        let low_counter = blocks.low_counter in
        let w = seen_word u.counter s first before old.counter e.entry.hart.0 in
        let code = (blocks.locks at r block).holds 0 (inst.Ld r.scratch r.gp (pos 0)) refl in
        let exec : IsExecAt at e = record { executes = executes; pc = pc } in
        let after = after_load s e before step executes (at + 4 * 0) (inst.Ld r.scratch r.gp (pos 0))
        (pc ∙ omega arith) code (counter_bytes u) (uses.1.counter_usable executes)
        u.counter r.scratch w.0
        (means_ld (file s t before).file (at + 4 * 0) r.scratch r.gp (pos 0) u.counter u.counter
        (uses.1.lock_gp at r block exec) (omega arith)) (in_word u.counter) w.1 in
        let regs = blocks.lock_regs at r block in
        let value : register (file s t (e ∷ before)).file r.scratch ≡ loaded w.0 8 true =
        ap (λ (x : Saved). register x.file r.scratch) after
        ∙ written_same (file s t before).file r.scratch (loaded w.0 8 true)
        (ne_eqb r.scratch 0 regs.scratch.some)
        (subst (λ n. r.scratch < n) (sym (has.many t)) regs.scratch.low) in
        let is = value ∙ loaded_word w.0 in
        let some = w.2 in
        let most = w.3 in
        let few = w.4 in
        let more = both.1 in
        record { some = omega arith; most = omega arith }

    locks_next : (at t : ℕ) (r : ReadRegs) → u.locks at ≡ Some r
        → is_live t (kernel s (e ∷ before)).threads ≡ true → (file s t (e ∷ before)).pc ≡ at + 4
        → HasCome s at 1 0 t e before
        → IsInLock r (file s t (e ∷ before)).file (e ∷ before)
    locks_next at t r block lives there (acts of executes (zero, lt, pc)) =
        subst (λ n. IsInLock r (file s n (e ∷ before)).file (e ∷ before)) of
        (lock_load at r block executes (pc ∙ omega arith))
    locks_next at t r block lives there (acts of executes (suc k, lt, pc)) =
        let no : ⊥ = omega arith in absurd no
    locks_next at t r block lives there (returns is was stays) = let no : ⊥ = omega arith in absurd no
    locks_next at t r block lives there (goes_on place since parts elsewhere same) =
        let all_place = always_at since place (subst Always parts all) in
        let stood : (file s t place).pc ≡ at + 4 = sym (ap (λ (x : Saved). x.pc) same) ∙ there in
        let run_there = subst (λ (b : History). IsRunHistory s (e ∷ b)) parts run in
        let lived = lived_at s t (e ∷ since) place run_there lives
        (λ is. start.locking at r block (is ∙ stood)) in
        let was = (sound place all_place).locks at t r block lived stood in
        let more = grows since place (subst Always parts all) in
        let now_more = both.1 in
        let is : counted u.counter first before ≡ counted u.counter first (since ++ place) = ap
        (counted u.counter first) parts in
        let value : register (file s t (e ∷ before)).file r.scratch ≡ register
        (file s t place).file r.scratch = ap (λ (x : Saved). register x.file r.scratch) same in
        let some = was.some in
        let most = was.most in
        record { some = omega arith; most = omega arith }

    -- sync
    module _ (at t k : ℕ) (r : SyncRegs) (block : u.syncs at ≡ Some r) (lt : k < 17)
        (lives : is_live t (kernel s (e ∷ before)).threads ≡ true)
        (there : (file s t (e ∷ before)).pc ≡ at + 4 * k) where
      regs : AreSyncRegs r
      regs = blocks.sync_regs at r block

      -- by an instruction of the block
      module _ (j : ℕ) (executes : choice_of e.entry ≡ asked.Exec) (of : e.entry.tid.0 ≡ t)
          (pc : e.entry.pc ≡ at + 4 * j)
          (gp : register (file s e.entry.tid.0 before).file r.gp ≡ u.counter)
          (slots : register (file s e.entry.tid.0 before).file r.slots ≡ u.slots)
          (next : IsNext s u first blocks at r block e before run has executes gp slots j) where
        not_end : IsGraceEnd at t e → ⊥
        not_end ends =
            let last : e.entry.pc ≡ at + 4 * 16 = ends.exec.pc in
            let out = past_last s u first blocks at r block e before run has executes gp slots last in
            let same : at + 4 * 17 ≡ at + 4 * k = sym out ∙ ap (λ n. (file s n (e ∷ before)).pc) of ∙ there in
            let no : ⊥ = omega arith in
            no

        came : (begun : History) → IsSyncing s at t begun (e ∷ before)
            → IsInSync at t k r (file s t (e ∷ before)).file (e ∷ before)
        came begun on =
            let same : at + 4 * next.to ≡ at + 4 * k = sym next.pc ∙ ap (λ n. (file s n (e ∷ before)).pc) of
            ∙ there in
            let to : next.to ≡ k = omega arith in
            record {
              stands = subst (λ n. Stands s u first at n (file s n (e ∷ before)).file (e ∷ before) k) of
                  (subst (λ n. Stands s u first at e.entry.tid.0 (file s e.entry.tid.0 (e ∷ before)).file
                  (e ∷ before) n) to (next.stands (omega arith)));
              gp = sym (ap (λ n. register (file s n (e ∷ before)).file r.gp) of)
                  ∙ next.keeps r.gp regs.gp.some regs.gp_kept ∙ gp;
              slots = sym (ap (λ n. register (file s n (e ∷ before)).file r.slots) of)
                  ∙ next.keeps r.slots regs.slots.some regs.slots_kept ∙ slots;
              begun = begun;
              on = on;
            }

      syncs_next : 0 < k → HasCome s at 17 17 t e before
          → IsInSync at t k r (file s t (e ∷ before)).file (e ∷ before)
      syncs_next some (acts of executes (zero, low, pc)) =
          let exec : IsExecAt at e = record { executes = executes; pc = pc ∙ omega arith } in
          let gp = uses.1.sync_gp at r block exec in
          let slots = uses.1.sync_slots at r block exec in
          came 0 executes of pc gp slots
          (next_first s u first blocks at r block e before run has executes gp slots old.counter uses.0
          (are_below before run.0 uses.0 all at e.entry.tid.0) (pc ∙ omega arith))
          before (comes_in e exec of)
      syncs_next some (acts of executes (suc j, low, pc)) =
          let stands_at : (file s e.entry.tid.0 before).pc ≡ at + 4 * suc j =
          (exec_of s e before step executes).pc ∙ pc in
          let was = old.syncs at e.entry.tid.0 (suc j) r block (omega arith) low
          (actor_lives e before run executes e.entry.tid.0 refl) stands_at in
          let next = next_of s u first blocks at r block e before run has executes was.gp was.slots old.counter uses.0 (are_below before run.0 uses.0 all at e.entry.tid.0) (suc j) pc was.stands in
          came (suc j) executes of pc was.gp was.slots next was.begun
          (is_in e before (subst (λ n. IsSyncing s at n was.begun before) of was.on)
          (not_end (suc j) executes of pc was.gp was.slots next) lives)
      syncs_next some (returns is was stays) =
          let alive = lived_at s t (e ∷ []) before run lives
          (λ same. start.syncing at 5 r block (omega arith) (omega arith) (same ∙ was)) in
          let its = old.syncs at t 5 r block (omega arith) (omega arith) alive was in
          let c = called_at s u first at t (file s t before).file before 5 refl its.stands in
          let same : k ≡ 5 = omega arith in
          let not_exec : choice_of e.entry ≢ asked.Exec = λ executes. false≢true
          (sym (ap is_exec is) ∙ ap is_exec executes) in
          record {
            stands = has_called same
                (open_next s u first at t e before run has (λ ends. not_exec ends.exec.executes) c.0)
                (quiet_next s u first at t e before run has alive c.0 (λ of exec. not_exec exec.executes) c.1);
            gp = return_keeps s e before step is t r.gp regs.gp_kept.not_10 ∙ its.gp;
            slots = return_keeps s e before step is t r.slots regs.slots_kept.not_10 ∙ its.slots;
            begun = its.begun;
            on = is_in e before its.on (λ ends. not_exec ends.exec.executes) lives;
          }
      syncs_next some (goes_on place since parts elsewhere same) =
          let all_place = always_at since place (subst Always parts all) in
          let stood : (file s t place).pc ≡ at + 4 * k = sym (ap (λ (x : Saved). x.pc) same) ∙ there in
          let run_there = subst (λ (b : History). IsRunHistory s (e ∷ b)) parts run in
          let lived = lived_at s t (e ∷ since) place run_there lives
          (λ is. start.syncing at k r block some lt (is ∙ stood)) in
          let low = given_at s t e since place run_there lived in
          let alive_there = lived_last s t place e since run_there low lives in
          let alive : is_live t (kernel s before).threads ≡ true = subst
          (λ (b : History). is_live t (kernel s b).threads ≡ true) (sym parts) alive_there in
          let was = (sound place all_place).syncs at t k r block some lt lived stood in
          let uses_there : AreUses s u first (since ++ place) = subst (AreUses s u first) parts uses.0 in
          let on_there : IsSyncing s at t was.begun before = subst (IsSyncing s at t was.begun) (sym parts)
          (syncing_since s t at was.begun place since run_there.0 low alive_there elsewhere.0 was.on) in
          let there_still = stands_since at t k (file s t place).file place since
          run_there.0 uses_there (subst Always parts all)
          (subst HasGoneOn parts gone) low alive_there elsewhere.0 was.stands in
          let still : Stands s u first at t (file s t place).file before k = subst
          (λ (b : History). Stands s u first at t (file s t place).file b k) (sym parts) there_still in
          record {
            stands = subst (λ (x : Saved). Stands s u first at t x.file (e ∷ before) k) (sym same)
                (stands_next s u first at t e before run has alive (file s t place).file elsewhere.1 k still);
            gp = ap (λ (x : Saved). register x.file r.gp) same ∙ was.gp;
            slots = ap (λ (x : Saved). register x.file r.slots) same ∙ was.slots;
            begun = was.begun;
            on = is_in e before on_there
                (λ ends. elsewhere.1 ends.exec.executes ends.of (16, omega arith, ends.exec.pc)) lives;
          }

    sound_next : IsSound (e ∷ before)
    sound_next = record {
      counter = both.0;
      locks = λ at t r block lives there. locks_next at t r block lives there
          (has_come s e before run at 1 0 t (λ may. uses.1.locking at t r block may there)
          (lock_busy at t r block lives there));
      syncs = λ at t k r block some lt lives there. syncs_next at t k r block lt lives there some
          (has_come s e before run at 17 17 t (λ may. uses.1.syncing at t k r block some lt may there)
          (sync_busy at t k r block some lt lives there));
      rests_locks = λ at t r block rests there. lock_rests at t r block there
          (waiter_came s e before step t rests);
      rests_syncs = λ at t k r block some lt rests there. sync_rests at t k r block some lt there
          (waiter_came s e before step t rests);
    }

  sound_start : IsSound []
  sound_start = record {
    counter = counter_start u.counter s first start.counter start.some start.fits;
    locks = λ at t r block lives there. absurd (start.locking at r block there);
    syncs = λ at t k r block some lt lives there. absurd (start.syncing at k r block some lt there);
    rests_locks = λ at t r block rests there. start.locking at r block there;
    rests_syncs = λ at t k r block some lt rests there. start.syncing at k r block some lt there;
  }

  always : (history : History) → IsRunHistory s history → AreUses s u first history → HasGoneOn history
      → Always history
  always [] run uses gone = sound_start
  always (e ∷ before) run uses gone =
      let all = always before run.0 uses.0 gone.0 in
      let has = orderly e before run uses all (λ at t begins. gone.1) in
      (all, (both e before run uses all gone.0 has).1, sound_next e before run uses all gone.0 has)

  -- what holds before an event of a run
  sound_before : (e : Event) (before : History) → IsRunHistory s (e ∷ before) → AreUses s u first before
      → Always before
  sound_before e before run uses = always before run.0 uses (has_gone_on s e before run)

  -- a thread that executes the last instruction of a sync block has looked at each slot
  at_last : (e : Event) (before : History) → IsRunHistory s (e ∷ before) → AreUses s u first (e ∷ before)
      → (at t : ℕ) (r : SyncRegs) → u.syncs at ≡ Some r → IsGraceEnd at t e
      → IsInSync at t 16 r (file s t before).file before
  at_last e before run uses at t r block ends =
      let all = sound_before e before run uses.0 in
      let of = exec_of s e before (step_of s e before run) ends.exec.executes in
      let there : (file s t before).pc ≡ at + 4 * 16 = sym (ap (λ n. (file s n before).pc) ends.of) ∙ of.pc
      ∙ ends.exec.pc in
      (sound before all).syncs at t 16 r block (omega arith) (omega arith)
      (actor_lives e before run ends.exec.executes t ends.of) there

  pub grace_ends : (e : Event) (before : History) → IsRunHistory s (e ∷ before)
      → AreUses s u first (e ∷ before)
      → (at t : ℕ) (r : SyncRegs) → u.syncs at ≡ Some r → IsGraceEnd at t e → HaveEnded s u at t before
  grace_ends e before run uses at t r block ends i section grace lt on in_section earlier =
      let over = over_at s u first at t (file s t before).file before 16 refl
      (at_last e before run uses at t r block ends).stands in
      let newest = over.0.opened.newest grace on in
      over.1 i lt section in_section (omega arith)

  -- THE SYNC BLOCK IS SOON OVER

  module _ (at t : ℕ) (r : SyncRegs) (block : u.syncs at ≡ Some r) (begun : History)
      (there : (file s t begun).pc ≡ at) where
    abbrev most : ℕ
    most = 11 + 6 * u.readers at

    abbrev left_now : ℕ → History → ℕ
    left_now k now = left_at (u.readers at) k (register (file s t now).file 7)

    -- what is known of the load
    record IsKnown (k : ℕ) (f : Regs) : Type 0 where
      looked : k ≡ 11 → IsPassing f
      tested : k ≡ 12 → IsPassing f × (register f 10 ≢ 0)

    -- each slot that it has loaded is one of those that it has left behind, or the one at which it is
    abbrev AreBehind : ℕ → History → Type 0
    AreBehind k now =
        (a : ℕ) → IsLoaded s at t a begun now
        → (m : ℕ) × (a + 64 * m ≡ u.slots + 64 * u.readers at) × (left_now k now ≤ 6 * m)

    data Goes (now : History) (n : ℕ) : Type 0 where
      has_finished : HasFinished s at t most begun now → Goes now n
      stands_at : (k : ℕ) → k < 17 → (file s t now).pc ≡ at + 4 * k → left_now k now + n ≤ most
          → IsKnown k (file s t now).file → AreBehind k now → Goes now n

    -- so that a load is the first one of its slot
    first_load : (k : ℕ) (now : History) → k ≡ 10 → AreBehind k now
        → LooksAt s u first at t (file s t now).file now → IsFirstLoad s at t begun now
    first_load k now ten behind (i, six, seven) loaded =
        let was = behind (register (file s t now).file 6) loaded in
        by_left (register (file s t now).file 6) (register (file s t now).file 7) was.0 six seven was.1
        (subst (λ j. left_at (u.readers at) j (register (file s t now).file 7) ≤ 6 * was.0) ten was.2)
      where
        by_left : (x y m : ℕ) → x ≡ slot_at u i → y + i ≡ u.readers at
            → x + 64 * m ≡ u.slots + 64 * u.readers at → left_at (u.readers at) 10 y ≤ 6 * m → ⊥
        by_left x y m is left same le = let no : ⊥ = omega arith in no

    -- the slots that it has loaded after an instruction, by which it may load the next one
    behind_next : (e : Event) (before : History) (k to : ℕ) → e.entry.pc ≡ at + 4 * k
        → (k ≡ 10 → LooksAt s u first at t (file s t before).file before)
        → left_now to (e ∷ before) + 1 ≤ left_now k before → AreBehind k before → AreBehind to (e ∷ before)
    behind_next e before k to pc ten falls behind a loaded = by_old
        (loaded_next s at t begun a e before loaded)
      where
        less : (x y m : ℕ) → x + 1 ≤ y → y ≤ 6 * m → x ≤ 6 * m
        less x y m falls le = omega arith

        by_slot : (x b seven i : ℕ) → b ≡ slot_at u i → seven + i ≡ u.readers at → b ≡ a
            → x + 1 ≤ left_at (u.readers at) 10 seven
            → (m : ℕ) × (a + 64 * m ≡ u.slots + 64 * u.readers at) × (x ≤ 6 * m)
        by_slot x b seven i six left same falls = (seven, omega arith, omega arith)

        by_old : IsLoaded s at t a begun before ⊎ Loads s at t begun a e before
            → (m : ℕ) × (a + 64 * m ≡ u.slots + 64 * u.readers at) × (left_now to (e ∷ before) ≤ 6 * m)
        by_old (inl was) =
            let old = behind a was in
            (old.0, old.1, less (left_now to (e ∷ before)) (left_now k before) old.0 falls old.2)
        by_old (inr (exec, of, from)) =
            let place = exec.pc in
            let is : k ≡ 10 = omega arith in
            let at_slot = ten is in
            by_slot (left_now to (e ∷ before)) (register (file s t before).file 6)
            (register (file s t before).file 7) at_slot.0 at_slot.1 at_slot.2 from
            (subst (λ j. left_now to (e ∷ before) + 1 ≤ left_now j before) is falls)

    one_later : (e : Event) (before : History) → HasFinished s at t most begun before
        → HasFinished s at t most begun (e ∷ before)
    one_later e before f = record {
      event = f.event;
      rest = f.rest;
      since = e ∷ f.since;
      parts = ap (λ (b : History). e ∷ b) f.parts;
      ends = f.ends;
      executed = f.executed;
      run = f.run;
      few = f.few;
    }

    not_less : (f : Regs) → IsPassing f × (register f 10 ≢ 0) → register f 5 ≤ register f 10
    not_less f (inl none, some) = absurd (some none)
    not_less f (inr le, some) = le

    -- after an instruction of the block
    after_next : (e : Event) (before : History) (n k : ℕ) (run : IsRunHistory s (e ∷ before))
        (has : IsOrderly s u first e before) (executes_it : choice_of e.entry ≡ asked.Exec)
        (gp : register (file s e.entry.tid.0 before).file r.gp ≡ u.counter)
        (slots : register (file s e.entry.tid.0 before).file r.slots ≡ u.slots)
        → e.entry.tid.0 ≡ t → k < 17 → k ≢ 16 → IsKnown k (file s t before).file
        → (k ≡ 10 → IsPassing (file s t (e ∷ before)).file)
        → left_now k before + n ≤ most → e.entry.pc ≡ at + 4 * k
        → (k ≡ 10 → LooksAt s u first at t (file s t before).file before) → AreBehind k before
        → IsNext s u first blocks at r block e before run has executes_it gp slots k
        → Goes (e ∷ before) (suc n)
    after_next e before n k run has executes_it gp slots of lt other known loads left pc ten behind next =
        let inside = next.inside other in
        let falls = next.falls
        (subst (λ m. k ≡ 12 → register (file s m before).file 5 ≤ register (file s m before).file 10)
        (sym of) (λ is. not_less (file s t before).file (known.tested is))) inside in
        let falls_t = subst
        (λ m. left_at (u.readers at) next.to (register (file s m (e ∷ before)).file 7) + 1
        ≤ left_at (u.readers at) k
        (register (file s m before).file 7)) of falls in
        stands_at next.to inside (sym (ap (λ m. (file s m (e ∷ before)).pc) of) ∙ next.pc)
        (sums (left_at (u.readers at) next.to (register (file s t (e ∷ before)).file 7))
        (left_at (u.readers at) k (register (file s t before).file 7)) falls_t left)
        (record {
          looked = λ is.
              (subst
              (λ m. next.to ≡ 11 → (k ≡ 10 → IsPassing (file s m (e ∷ before)).file)
              → IsPassing (file s m (e ∷ before)).file) of next.looked) is loads;
          tested = λ is.
              (subst
              (λ m. next.to ≡ 12 → (k ≡ 11 → IsPassing (file s m before).file)
              → IsPassing (file s m (e ∷ before)).file × (register (file s m (e
              ∷ before)).file 10 ≢ 0)) of next.tested) is known.looked;
        })
        (behind_next e before k next.to pc ten falls_t behind)
      where
        sums : (a b : ℕ) → a + 1 ≤ b → b + n ≤ most → a + suc n ≤ most
        sums a b falls left = omega arith

    -- the last instruction
    finished_by : (e : Event) (before : History) (m k : ℕ) → IsRunHistory s (e ∷ before)
        → choice_of e.entry ≡ asked.Exec → e.entry.tid.0 ≡ t
        → Runs s at t begun before m → (file s t before).pc ≡ at + 4 * k → left_now k before + m ≤ most
        → k ≡ 16 → HasFinished s at t most begun (e ∷ before)
    finished_by e before m k run executes_it of was place left last =
        let acts_it = exec_of s e before (step_of s e before run) executes_it in
        let pc : e.entry.pc ≡ at + 64 = sym acts_it.pc ∙ ap (λ j. (file s j before).pc) of ∙ place
        ∙ ap (λ j. at + 4 * j) last in
        record {
          event = e;
          rest = before;
          since = [];
          parts = refl;
          ends = record { exec = record { executes = executes_it; pc = pc }; of = of };
          executed = m;
          run = was;
          few = fewer (left_at (u.readers at) k (register (file s t before).file 7))
              (some_left (u.readers at) k (register (file s t before).file 7)) left;
        }
      where
        fewer : (a : ℕ) → 1 ≤ a → a + m ≤ most → m < most
        fewer a some left = omega arith

    goes : (now : History) (n : ℕ) → IsRunHistory s now → AreUses s u first now → HasGoneOn now
        → Runs s at t begun now n → Goes now n
    goes now n run uses gone none_run = stands_at 0 (omega arith) (there ∙ omega arith) (omega arith)
        (record {
          looked = λ is. let no : ⊥ = omega arith in absurd no;
          tested = λ is. let no : ⊥ = omega arith in absurd no;
        })
        (λ a loaded. absurd (none_loaded s at t begun a loaded))
    goes now n run uses gone (it_rests e before m other keeps was) = by_was
        (goes before m run.0 uses.0 gone.0 was)
      where
        not_loaded : (a : ℕ) → IsLoaded s at t a begun (e ∷ before) → IsLoaded s at t a begun before
        not_loaded a loaded = by_old (loaded_next s at t begun a e before loaded)
          where
            by_old : IsLoaded s at t a begun before ⊎ Loads s at t begun a e before
                → IsLoaded s at t a begun before
            by_old (inl old) = old
            by_old (inr loads) = absurd (other loads.0.executes loads.1)

        by_file : (k : ℕ) → k < 17 → (file s t before).pc ≡ at + 4 * k → left_now k before + m ≤ most
            → IsKnown k (file s t before).file → AreBehind k before
            → (file s t (e ∷ before) ≡ file s t before) ⊎ HasReturned s at t e before → Goes (e ∷ before) m
        by_file k lt place left known behind (inl same) =
            stands_at k lt (ap (λ (x : Saved). x.pc) same ∙ place)
            (subst (λ (x : Saved). left_at (u.readers at) k (register x.file 7) + m ≤ most) (sym same) left)
            (subst (λ (x : Saved). IsKnown k x.file) (sym same) known)
            (λ a loaded.
            let was = behind a (not_loaded a loaded) in (
              was.0,
              was.1,
              subst (λ (x : Saved). left_at (u.readers at) k (register x.file 7) ≤ 6 * was.0) (sym same)
                  was.2,
            ))
        by_file k lt place left known behind (inr returned) =
            let was_at = returned.was in
            let five : k ≡ 5 = omega arith in
            let old : left_at (u.readers at) 5 (register (file s t before).file 7) + m ≤ most = subst
            (λ j. left_at (u.readers at) j (register (file s t before).file 7) + m ≤ most) five left in
            stands_at 5 (omega arith) returned.stays old
            (record {
              looked = λ is. let no : ⊥ = omega arith in absurd no;
              tested = λ is. let no : ⊥ = omega arith in absurd no;
            })
            (λ a loaded.
            let was = behind a (not_loaded a loaded) in (
              was.0,
              was.1,
              subst (λ j. left_at (u.readers at) j (register (file s t before).file 7) ≤ 6 * was.0) five
                  was.2,
            ))

        -- a thread that waits may stand at the block's first instruction
        waits_at : (k : ℕ) → k < 17 → (file s t before).pc ≡ at + 4 * k → left_now k before + m ≤ most
            → AreBehind k before → is_kept_waiting t (kernel s before).threads ≡ true → Goes (e ∷ before) m
        waits_at zero lt place left behind rests =
            stands_at 0 lt (waiter_keeps s e before (step_of s e before run) t rests ∙ place) left
            (record {
              looked = λ is. let no : ⊥ = omega arith in absurd no;
              tested = λ is. let no : ⊥ = omega arith in absurd no;
            })
            (λ a loaded. behind a (not_loaded a loaded))
        waits_at (suc j) lt place left behind rests =
            absurd ((sound before (always before run.0 uses.0 gone.0)).rests_syncs at t (suc j) r block
            (omega arith) lt rests place)

        by_set : (k : ℕ) → k < 17 → (file s t before).pc ≡ at + 4 * k → left_now k before + m ≤ most
            → IsKnown k (file s t before).file → AreBehind k before
            → MaySet s t e before ⊎ (Leaves s e before run t ⊎ IsIdle s e before run t) → Goes (e ∷ before) m
        by_set k lt place left known behind (inl may) = by_file k lt place left known behind (keeps (inl may))
        by_set k lt place left known behind (inr (inl (same, none))) = by_file k lt place left known behind
            (inl same)
        by_set k lt place left known behind (inr (inr (inl rests))) = waits_at k lt place left behind rests
        by_set k lt place left known behind (inr (inr (inr gone_it))) = by_file k lt place left known behind
            (keeps (inr gone_it))

        by_was : Goes before m → Goes (e ∷ before) m
        by_was (has_finished f) = has_finished (one_later e before f)
        by_was (stands_at k lt place left known behind) = by_set k lt place left known behind
            (set_or_left s e before run t)
    goes now n run uses gone (it_runs e before m executes_it of good was) = by_was
        (goes before m run.0 uses.0 gone.0 was)
      where
        by_k : (k : ℕ) → k < 17 → (file s t before).pc ≡ at + 4 * k → left_now k before + m ≤ most
            → IsKnown k (file s t before).file → AreBehind k before → (k ≡ 16) ⊎ (k ≢ 16)
            → Goes (e ∷ before) (suc m)
        by_k k lt place left known behind (inl last) = has_finished
            (finished_by e before m k run executes_it of was place left last)
        by_k zero lt place left known behind (inr other) =
            let all = always before run.0 uses.0 gone.0 in
            let has = orderly e before run uses all (λ at t begins. gone.1) in
            let acts_it = exec_of s e before (step_of s e before run) executes_it in
            let pc : e.entry.pc ≡ at = sym acts_it.pc ∙ ap (λ j. (file s j before).pc) of ∙ place
            ∙ omega arith in
            let exec : IsExecAt at e = record { executes = executes_it; pc = pc } in
            let gp = uses.1.sync_gp at r block exec in
            let slots = uses.1.sync_slots at r block exec in
            after_next e before m 0 run has executes_it gp slots of lt other known
            (λ is. let no : ⊥ = omega arith in absurd no) left (pc ∙ omega arith)
            (λ is. let no : ⊥ = omega arith in absurd no) behind
            (next_first s u first blocks at r block e before run has executes_it gp slots
            (sound before all).counter uses.0
            (are_below before run.0 uses.0 all at e.entry.tid.0) pc)
        by_k (suc j) lt place left known behind (inr other) =
            let all = always before run.0 uses.0 gone.0 in
            let has = orderly e before run uses all (λ at t begins. gone.1) in
            let acts_it = exec_of s e before (step_of s e before run) executes_it in
            let here : (file s e.entry.tid.0 before).pc ≡ at + 4 * suc j = ap (λ i. (file s i before).pc) of
            ∙ place in
            let pc : e.entry.pc ≡ at + 4 * suc j = sym acts_it.pc ∙ here in
            let its = (sound before all).syncs at e.entry.tid.0 (suc j) r block (omega arith) lt
            (actor_lives e before run executes_it e.entry.tid.0 refl) here in
            let its_t : Stands s u first at t (file s t before).file before (suc j) =
            subst (λ i. Stands s u first at i (file s i before).file before (suc j)) of its.stands in
            let ten : suc j ≡ 10 → LooksAt s u first at t (file s t before).file before =
            λ is. looks_at s u first at t (file s t before).file before (suc j) is its_t in
            after_next e before m (suc j) run has executes_it its.gp its.slots of lt other known
            (λ is. good (pc ∙ ap (λ i. at + 4 * i) is) (first_load (suc j) before is behind (ten is))) left
            pc ten behind
            (next_of s u first blocks at r block e before run has executes_it its.gp its.slots
            (sound before all).counter uses.0
            (are_below before run.0 uses.0 all at e.entry.tid.0) (suc j) pc its.stands)

        by_was : Goes before m → Goes (e ∷ before) (suc m)
        by_was (has_finished f) = has_finished (one_later e before f)
        by_was (stands_at k lt place left known behind) = by_k k lt place left known behind (cases_eq k 16)

    -- where so many instructions were executed, one of them was the last
    too_many : (a n : ℕ) → 1 ≤ a → a + n ≤ most → most ≤ n → ⊥
    too_many a n some left le = omega arith

    over_by : (now : History) (n : ℕ) → most ≤ n → Goes now n → HasFinished s at t most begun now
    over_by now n le (has_finished f) = f
    over_by now n le (stands_at k lt place left known behind) =
        absurd (too_many (left_at (u.readers at) k (register (file s t now).file 7)) n
        (some_left (u.readers at) k (register (file s t now).file 7)) left le)

    -- the last event of a log may end the process
    at_end : (e : Event) (before : History) (m : ℕ) → IsRunHistory s (e ∷ before)
        → AreUses s u first (e ∷ before) → choice_of e.entry ≡ asked.Exec
        → e.entry.tid.0 ≡ t → Runs s at t begun before m → most ≤ suc m → Goes before m
        → HasFinished s at t most begun (e ∷ before)
    at_end e before m run uses executes_it of was le (has_finished f) = one_later e before f
    at_end e before m run uses executes_it of was le (stands_at k lt place left known behind) =
        by_k (cases_eq k 16)
      where
        two : (k ≢ 16) → 2 ≤ left_at (u.readers at) k (register (file s t before).file 7)
        two other = by_zero k refl
          where
            by_zero : (j : ℕ) → k ≡ j → 2 ≤ left_at (u.readers at) k (register (file s t before).file 7)
            by_zero zero is = subst
                (λ n. 2 ≤ left_at (u.readers at) n (register (file s t before).file 7)) (sym is)
                (omega arith)
            by_zero (suc j) is =
                two_left s u first at t (file s t before).file before k other
                ((sound before (sound_before e before run uses.0)).syncs at t k r block
                (omega arith) lt (actor_lives e before run executes_it t of) place).stands

        by_k : (k ≡ 16) ⊎ (k ≢ 16) → HasFinished s at t most begun (e ∷ before)
        by_k (inl last) = finished_by e before m k run executes_it of was place left last
        by_k (inr other) =
            let no : ⊥ = few (left_at (u.readers at) k (register (file s t before).file 7)) (two other)
            left in
            absurd no
          where
            few : (a : ℕ) → 2 ≤ a → a + m ≤ most → ⊥
            few a some left = omega arith

    pub is_soon_over : (now : History) (n : ℕ) → IsRunHistory s now → AreUses s u first now
        → Runs s at t begun now n → most ≤ n → HasFinished s at t most begun now
    is_soon_over now n run uses none_run le = let no : ⊥ = omega arith in absurd no
    is_soon_over now n run uses (it_rests e before m other keeps was) le =
        one_later e before (over_by before n le (goes before n run.0 uses.0 (has_gone_on s e before run) was))
    is_soon_over now n run uses (it_runs e before m executes_it of good was) le =
        at_end e before m run uses executes_it of was le
        (goes before m run.0 uses.0 (has_gone_on s e before run) was)

  -- THE COUNTER

  -- one grace period of the thread in the block goes on
  one_grace : (at t : ℕ) (r : SyncRegs) (grace other : History) → u.syncs at ≡ Some r → (now : History)
      → IsRunHistory s now → AreUses s u first now
      → Always now → HasGoneOn now → IsGrace at t grace now → IsGrace at t other now → grace ≡ other
  one_grace at t r grace other block now run uses all gone (calls e begins) (calls x again) = refl
  one_grace at t r grace other block now run uses all gone (calls e begins) (waits x before was still) =
      absurd ((orderly e before run uses all.0
      (λ place thread its. gone.1)).once at t r other block was begins)
  one_grace at t r grace other block now run uses all gone (waits e before was still) (calls x begins) =
      absurd ((orderly e before run uses all.0
      (λ place thread its. gone.1)).once at t r grace block was begins)
  one_grace at t r grace other block now run uses all gone (waits e before was still)
      (waits x rest there goes) =
      one_grace at t r grace other block before run.0 uses.0 all.0 gone.0 was there

  -- where the call has returned the thread's hart sees what was stored last before it
  seen_at_return : (at t : ℕ) (r : SyncRegs) → u.syncs at ≡ Some r → (e : Event) (before : History)
      → IsRunHistory s (e ∷ before) → AreUses s u first (e ∷ before)
      → HasGoneOn (e ∷ before) → IsExecAt (at + 20) e → e.entry.tid.0 ≡ t → (grace : History)
      → IsGrace at t grace before
      → word_at (seen_at s e.entry.hart.0 before) u.counter 8 ≡ Some (counted u.counter first grace)
  seen_at_return at t r block e before run uses gone exec of grace on =
      let all = always before run.0 uses.0 gone.0 in
      let has = orderly e before run uses all (λ place thread its. gone.1) in
      let acts_it = exec_of s e before (step_of s e before run) exec.executes in
      let there : (file s e.entry.tid.0 before).pc ≡ at + 4 * 5 = acts_it.pc ∙ exec.pc in
      let its = (sound before all).syncs at e.entry.tid.0 5 r block (omega arith) (omega arith)
      (actor_lives e before run exec.executes e.entry.tid.0 refl) there in
      let c = called_at s u first at e.entry.tid.0
      (file s e.entry.tid.0 before).file before 5 refl its.stands in
      let entered = entered_now s u first blocks at r block e before run has exec.executes its.gp its.slots c.0 in
      let same = one_grace at t r grace c.0.grace block before run.0 uses.0 all gone.0 on
      (subst (λ n. IsGrace at n c.0.grace before) of c.0.on) in
      seen_last u.counter s first before (sound before all).counter
      (none_waits s u first blocks at r block e before run has exec.executes its.gp its.slots c.0 c.1 entered) e.entry.hart.0
      ∙ ap Some
      (base_is s u first blocks at r block e before run has exec.executes its.gp its.slots c.0 c.1
      ∙ ap (counted u.counter first) (sym same))

  -- a number that was seen there is the counter of where the grace period began
  value_at_return : (at t : ℕ) (r : SyncRegs) → u.syncs at ≡ Some r → (e : Event) (before : History)
      → IsRunHistory s (e ∷ before) → AreUses s u first before → (grace back : History) (next : Event)
      (later : List Event) (n : ℕ) → IsGrace at t grace back → before ≡ later ++ next ∷ back
      → IsExecAt (at + 20) next → next.entry.tid.0 ≡ t
      → word_at (seen_at s next.entry.hart.0 back) u.counter 8 ≡ Some n → n ≡ counted u.counter first grace
  value_at_return at t r block e before run uses grace back next later n began parts exec of saw =
      let run_next = first_run s later (next ∷ back) (subst (IsRunHistory s) parts run.0) in
      let uses_next = first_uses s u first later (next ∷ back) (subst (AreUses s u first) parts uses) in
      let gone_next = first_gone later (next ∷ back) (subst HasGoneOn parts (has_gone_on s e before run)) in
      same_number
      (sym saw ∙ seen_at_return at t r block next back run_next uses_next gone_next exec of grace began)
    where
      same_number : {a b : ℕ} → Some a ≡ Some b → a ≡ b
      same_number is = cc

      first_gone : (since : List Event) (x : History) → HasGoneOn (since ++ x) → HasGoneOn x
      first_gone [] x gone = gone
      first_gone (y ∷ since) x gone = first_gone since x gone.0

  -- where the instruction behind the load is executed, x5 is the number above it
  pub new_counter : (e : Event) (before : History) → IsRunHistory s (e ∷ before)
      → AreUses s u first (e ∷ before) → (at t : ℕ) (r : SyncRegs) → u.syncs at ≡ Some r
      → IsExecAt (at + 44) e → e.entry.tid.0 ≡ t → HasNewCounter s u at t before
  new_counter e before run uses at t r block exec of grace back next later n on began parts behind its saw =
      let acts_it = exec_of s e before (step_of s e before run) exec.executes in
      let gone = has_gone_on s e before run in
      let all = always before run.0 uses.0 gone in
      let there : (file s t before).pc ≡ at + 4 * 11 = sym (ap (λ m. (file s m before).pc) of) ∙ acts_it.pc
      ∙ exec.pc in
      let was = (sound before all).syncs at t 11 r block (omega arith) (omega arith)
      (actor_lives e before run exec.executes t of) there in
      let p = looked_at s u first at t (file s t before).file before 11 refl was.stands in
      let same = one_grace at t r grace p.opened.grace block before run.0 uses.0 all gone on p.opened.on in
      let value = value_at_return at t r block e before run uses.0 grace back next later n began parts
      behind its saw in
      p.five ∙ ap (λ m. m + 1) (ap (counted u.counter first) (sym same) ∙ sym value)

  -- and where the last instruction is executed, so is what its hart sees of the counter
  pub counter_grown : (e : Event) (before : History) → IsRunHistory s (e ∷ before)
      → AreUses s u first (e ∷ before)
      → (at t : ℕ) (r : SyncRegs) → u.syncs at ≡ Some r → IsGraceEnd at t e → IsCounterGrown s u at t e before
  counter_grown e before run uses at t r block ends grace back next later n on began parts exec of saw =
      let acts_it = exec_of s e before (step_of s e before run) ends.exec.executes in
      let gone = has_gone_on s e before run in
      let all = always before run.0 uses.0 gone in
      let over = over_at s u first at t (file s t before).file before 16 refl
      (at_last e before run uses at t r block ends).stands in
      let c = (sound before all).counter in
      let same = one_grace at t r grace over.0.opened.grace block before run.0 uses.0 all gone on over.0.opened.on in
      let value = value_at_return at t r block e before run uses.0 grace back next later n began parts
      exec of saw in
      let quiet = is_quiet_last uses.1.counter all in
      word_same (counter_bytes u) (seen_at s e.entry.hart.0 (e ∷ before)) (seen_at s e.entry.hart.0 before)
      (λ a has. ap Some (quiet_own (counter_bytes u) s e before run quiet a has)) u.counter 8
      (in_word u.counter)
      ∙ by_hart c over.0 (acts_it.runs ∙ ap Some ends.of) (cases_eq c.hart e.entry.hart.0)
      ∙ ap Some over.0.count
      ∙ ap (λ m. Some (m + 1)) (ap (counted u.counter first) (sym same) ∙ sym value)
    where
      is_quiet_last : IsQuiet (counter_bytes u) e ⊎ IsSyncStore u e → Always before
          → IsQuiet (counter_bytes u) e
      is_quiet_last (inl quiet) all = quiet
      is_quiet_last (inr x) all =
          let of = exec_of s e before (step_of s e before run) x.exec.executes in
          let place : (file s e.entry.tid.0 before).pc ≡ x.place + 4 * 7 = of.pc ∙ x.exec.pc in
          let its = (sound before all).syncs x.place e.entry.tid.0 7 x.regs x.block (omega arith)
          (omega arith) (actor_lives e before run x.exec.executes e.entry.tid.0 refl) place in
          let last = at_last e before run uses at t r block ends in
          let same =
          (one_syncs s u first at t x.place e.entry.tid.0 r x.regs last.begun its.begun block x.block before uses.0 last.on its.on).0 in
          let first_pc = x.exec.pc in
          let last_pc = ends.exec.pc in
          let no : ⊥ = omega arith in
          absurd no

      by_hart : (c : IsCounter u.counter s first before)
          (p : IsPast s u first at t (file s t before).file before) → running s e.entry.hart.0 before ≡ Some t
          → (c.hart ≡ e.entry.hart.0) ⊎ (c.hart ≢ e.entry.hart.0)
          → word_at (seen_at s e.entry.hart.0 before) u.counter 8 ≡ Some (counted u.counter first before)
      by_hart c p runs_it (inl same) = ap (λ h. word_at (seen_at s h before) u.counter 8) (sym same) ∙ c.seen
      by_hart c p runs_it (inr other) = seen_last u.counter s first before c
          (λ h. beside h (cases_eq h c.hart)) e.entry.hart.0
        where
          beside : (h : ℕ) → (h ≡ c.hart) ⊎ (h ≢ c.hart) → AreBeside (counter_bytes u) (waiting h before)
          beside h (inl same) =
              p.apart h
              (λ its. other
              (sym same ∙ one_hart s e before (step_of s e before run) h t its e.entry.hart.0 runs_it))
          beside h (inr apart_it) = c.others h apart_it
