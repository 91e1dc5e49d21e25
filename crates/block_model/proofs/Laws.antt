-- The laws that crates above cite: what is decided at a place, what an event that is allowed did, and where a log begins.
use Rattle.block_model.proofs.Common.{◌≡◌, ◌≢◌, ℕ, ◌≤◌, ◌<◌, ◌-◌, ◌^◌, List, [], ◌∷◌, ◌++◌, length, All, arith, refl, sym, ap, ◌∙◌, subst, append-nil, append_assoc, Some, None, Ok, Err, AllAnswer, AreSignalsOfLive, Ask, Choice, Done, End, Ended, Entry, Full, History, IsAllowedLog, IsBlockRun, IsChosen, IsHeld, IsRunHistory, IsSolo, NoHart, NotEnabled, Plain, Seen, Setting, apply, choice_at, choice_of, decide, decide_in, done_of, end_of, entry_in, event, events, here_in_history, here_of, history, le-leb, lt-leb, next_entry, over_at, plain_after, plain_over, plain_solo, played, ran, refusal_of, script_of, sight_in, solo_choice, solo_rule, unless, Sight}
use Rattle.std.specs.Result.{IsOk}
use Rattle.mach_types.specs.declared.limits.End.TheVariants.{Unended}
use Rattle.block_model.specs.Stands.{stand_of}
use Rattle.block_model.specs.Plain.{plain_seen}
use Rattle.block_model.specs.PlainOf.{plain_of}
use Rattle.block_model.specs.PlainSays.{SaysOf}
use Rattle.block_model.proofs.PlainAgreement as agrees
use Rattle.block_model.proofs.PlainAgreement.{agreement_decide, agreement_here, good_after, plain-append, plain-made}
use Rattle.block_model.proofs.Runs.{IsAllowed, allowed}
use Rattle.block_model.proofs.Barriers.Return.{have_returned}
use Rattle.block_model.proofs.Choosing as choices
use Rattle.block_model.proofs.Counts as counts
use Rattle.block_model.proofs.RunEnds as ends
use Rattle.block_model.proofs.Entries as entries
use Rattle.block_model.proofs.IdsOfRuns as run_ids
use Rattle.block_model.proofs.PlainMachine as plain_runs
use Rattle.block_model.proofs.Replay as replay
use Rattle.block_model.proofs.FixedRule as rules
use Rattle.block_model.proofs.Runs as run_laws
use Rattle.block_model.proofs.Whole.{allowed_is_whole}
pub use Rattle.block_model.proofs.TablesOfCalls.{IsAgreed, agreed_called}
pub use Rattle.block_model.proofs.Addresses.{IsProper, proper_of}
pub use Rattle.block_model.proofs.AddressesOfCalls.{AllStand, FilesStand, NotOpen}
pub use Rattle.block_model.proofs.AreasBeside.{no_area_after}
pub use Rattle.block_model.proofs.Pages.{IsPaged, paged_start}
pub use Rattle.block_model.proofs.Barriers.Requests.{IsAwaited, IsAwaitedBy, alone_awaits}
pub use Rattle.block_model.proofs.Barriers.Events.{IsAtOthers, IsBegun, IsFitBarriers, IsStill}
pub use Rattle.block_model.proofs.Images.{HaveBytes, image_bytes, loaded_is_laid_out, none_in_gap, one_setting, start_small, written_small}
pub use Rattle.block_model.proofs.CallEffects.EachCall.{called_begins_none}
pub use Rattle.block_model.proofs.Choosing.{drain_free, none_waits, return_free, take_free}
pub use Rattle.block_model.proofs.Choosing.{no_call_held, none_of_both, some_hart_goes_on, luck_of_other, luck_of_own, all_chosen_next, is_choice_same, chosen_start, chosen_shorter, next_is_none}
pub use Rattle.block_model.proofs.Entries.{among_stands, thread_given}
pub use Rattle.block_model.proofs.EventEffects.{IsNext as IsNextInstruction}
pub use Rattle.block_model.proofs.FileSteps.{Aborts, Answered, AtBirth, AtHandler, AtRun, AtTake, ByCall, ByInstruction}
pub use Rattle.block_model.proofs.FileSteps.{FileStays, FileStep, IsInterrupted, file_step}
pub use Rattle.block_model.specs.Standing.{IsGoodHere, IsSound, IsStanding, MayEnter}
pub use Rattle.block_model.proofs.PlaceInvariant.{IsFit, IsGood, good_here, good_next}
pub use Rattle.block_model.proofs.RunEnds.{ends_by_process, end_of-ended, end_of-limit}
pub use Rattle.block_model.proofs.EventMakers.{IsOfKernel, interrupts_none, is_by_kernel, keeps_record, may_interrupt, of_kernel, writes_none}
pub use Rattle.block_model.proofs.EventNeeds.{has_thread, leaving_does, leaving_runs, leaving_waits, moved_leaving, needs_no_barrier, needs_thread, waits_in_none}
pub use Rattle.block_model.proofs.KernelWrites.{call_writes, event_writes}
pub use Rattle.block_model.proofs.WritableBytes.{AllWritable, IsWritable, first_writable, none_passes}
pub use Rattle.block_model.proofs.HartSets.{some_hart, with_hart-itself, with_hart-or, with_hart-other, without_hart-and, without_hart-has, without_hart-itself, without_hart-other}
pub use Rattle.block_model.proofs.KernelCalls.{child_not_held, child_same, ended_idle, order_has, requeued_same, state_over, tables_allowed, tables_child, tables_ended, tables_requeued, tables_waited, tables_woken, waited_idle, woken_same, order_has as ready_listed}
pub use Rattle.block_model.proofs.IdsOnHarts.{IsHeldOnHart, is_held_below, is_held_by}
pub use Rattle.block_model.proofs.Runs.{allowed_at, good_of, history-append, history-nil, length-history, decided_is}
pub use Rattle.block_model.proofs.OwnEvents.{IsAreaAfter, new_area, no_area, own_area, ran_before, stays_area}
pub use Rattle.block_model.proofs.OtherThreads.{aside_called, ready_not_waiting}
pub use Rattle.block_model.proofs.ReadyFiles.{IsReadyKept, area_stays, ready_deed, ready_file_stays, ready_stays}
pub use Rattle.block_model.proofs.RegisterFiles.{HasRegisters, has_registers}
pub use Rattle.block_model.proofs.SignalTables.{HandlersStand, start_stand}
pub use Rattle.block_model.proofs.RunSteps.{IsStep, drains_none, file_apart, not_ready, one_hart, runs_apart, step_of, waits_apart}
pub use Rattle.block_model.proofs.Standing.{HasFreeId, SameSegment, stand_aside, stand_fit, stand_free_id, stand_next, stand_taken}
pub use Rattle.block_model.proofs.Sequences.{Begins, Elsewhere, IsOf, Own, SequenceStep, TakesIn, sequence_step}
pub use Rattle.block_model.proofs.Stretches.{HasStayed, HasSteps, IsLent, Steps, is_lent, stays, steps_of, worked_keeps}
pub use Rattle.block_model.proofs.ThreadRecords.{areas_changed, areas_fit, live_changed, registered_areas, signals_stay}
pub use Rattle.block_model.proofs.Invariants.Calls.Futexes.{longest_waits, requeue_by, requeue_keeps}
pub use Rattle.block_model.proofs.KernelTables.{any_live, its_ready, left_idle, running_idle, running_is, running_there, waits_elsewhere, state_now, tables_left, tables_ran, tables_start, ran_runs}
pub use Rattle.block_model.proofs.Barriers.OutsideSequences.{in_no_barrier}
pub use Rattle.block_model.proofs.Pcs.{StandsIn}
pub use Rattle.block_model.proofs.PlainAgreement.{plain-nil as start_plain}
pub use Rattle.block_model.proofs.PlainMachine.{IsSolo-append, plain_makes, IsSolo-nil as start_solo}
pub use Rattle.block_model.proofs.Replay.{played-nil, played-append, length-answers, answers_itself, is_refused, is_bad, played_read-all}
pub use Rattle.block_model.proofs.FixedRule.{executes_when_allowed}
pub use Rattle.block_model.proofs.Invariants.Events.{ready_apart, run_ready}

-- a log of which every entry is allowed is a block run
pub block_run : (s : Setting) (log : List Entry) → IsAllowedLog s log → IsBlockRun s log
block_run s log run = record { allowed = run; whole = allowed_is_whole s (history s log) run; barriers = have_returned s (history s log) run }

-- a run that goes on is a run
pub run_on : (v : Seen) (h : ℕ) (c : Choice) (e : Entry) → IsBlockRun v.setting v.log → decide v.setting (history v.setting v.log) h c ≡ Ok e → IsBlockRun v.setting (v.log ++ e ∷ [])
run_on v h c e run is = block_run v.setting (v.log ++ e ∷ []) (run_laws.IsAllowedLog-append v.setting v.log h c e run.allowed is)

-- an empty log is a run
pub start_run : (s : Setting) → IsBlockRun s []
start_run s = block_run s [] (run_laws.IsAllowedLog-nil s)

-- as many events were made as the log has entries
pub plain_made : (v : Seen) → IsBlockRun v.setting v.log → (plain_seen v).made ≡ length v.log
plain_made v run = plain-made v.setting v.log run.allowed

-- what is decided hangs on the plain machine alone
pub decided : (v : Seen) (h : ℕ) (c : Choice) → IsBlockRun v.setting v.log → decide v.setting (history v.setting v.log) h c ≡ decide_in (length v.log) (plain_over (plain_seen v)) c (here_of v h)
decided v h c run = agreement_decide v.setting v.log h c run.allowed ∙ ap (λ n. decide_in n (plain_over (plain_seen v)) c (here_of v h)) (plain-made v.setting v.log run.allowed)

-- where the run has ended
pub after_end : (v : Seen) (h : ℕ) (c : Choice) (e : End) → IsBlockRun v.setting v.log → plain_over (plain_seen v) ≡ Some e → decide v.setting (history v.setting v.log) h c ≡ Err (Ended e)
after_end v h c e run over = decided v h c run ∙ ap (λ o. decide_in (length v.log) o c (here_of v h)) over

-- where the log is full
pub at_limit : (v : Seen) (h : ℕ) (c : Choice) → IsBlockRun v.setting v.log → plain_over (plain_seen v) ≡ None → v.setting.limits.steps ≤ length v.log → decide v.setting (history v.setting v.log) h c ≡ Err Full
at_limit v h c run goes full = decided v h c run ∙ (ap (λ o. decide_in (length v.log) o c (here_of v h)) goes ∙ rw (le-leb v.setting.limits.steps (length v.log) full) refl)

-- where the machine has no such hart
pub at_no_hart : (v : Seen) (h : ℕ) (c : Choice) → IsBlockRun v.setting v.log → plain_over (plain_seen v) ≡ None → length v.log < v.setting.limits.steps → v.setting.limits.harts ≤ h → decide v.setting (history v.setting v.log) h c ≡ Err (NotEnabled NoHart)
at_no_hart v h c run goes room past = decided v h c run ∙ (ap (λ o. decide_in (length v.log) o c (here_of v h)) goes ∙ rw (lt-leb v.setting.limits.steps (length v.log) room, le-leb v.setting.limits.harts h past) refl)

-- elsewhere the conditions of the choice decide
pub at_kind : (v : Seen) (h : ℕ) (c : Choice) → IsBlockRun v.setting v.log → plain_over (plain_seen v) ≡ None → length v.log < v.setting.limits.steps → h < v.setting.limits.harts →
    decide v.setting (history v.setting v.log) h c ≡ unless (entry_in c (here_of v h)) (refusal_of c (here_of v h))
at_kind v h c run goes room lt = decided v h c run ∙ (ap (λ o. decide_in (length v.log) o c (here_of v h)) goes ∙ rw (lt-leb v.setting.limits.steps (length v.log) room, lt-leb v.setting.limits.harts h lt) refl)

-- an event that is allowed, and did this
pub record IsNext (v : Seen) (e : Entry) (d : Done) : Type 0 where
  pub lt : e.hart.0 < v.setting.limits.harts
  pub room : length v.log < v.setting.limits.steps
  pub goes : plain_over (plain_seen v) ≡ None
  pub free : refusal_of (choice_of e) (here_of v e.hart.0) ≡ None
  pub is : e ≡ entry_in (choice_of e) (here_of v e.hart.0)
  pub good : IsGoodHere (here_of v e.hart.0)
  pub fit : IsFit (here_of v e.hart.0) d
  pub next : plain_after v.setting (v.log ++ e ∷ []) ≡ apply e.hart.0 d (plain_seen v)
  pub run : IsBlockRun v.setting (v.log ++ e ∷ [])

pub next_event : (v : Seen) (e : Entry) (d : Done) → IsBlockRun v.setting v.log → decide v.setting (history v.setting v.log) e.hart.0 (choice_of e) ≡ Ok e → d ≡ done_of (choice_of e) (here_of v e.hart.0) → IsNext v e d
next_event v e d run is done =
    let a : IsAllowed (length v.log) (plain_over (plain_seen v)) (choice_of e) (here_of v e.hart.0) e = allowed (length v.log) (plain_over (plain_seen v)) (choice_of e) (here_of v e.hart.0) e (sym (decided v e.hart.0 (choice_of e) run) ∙ is) in
    let good = good_here v.setting (plain_seen v) e.hart.0 a.lt (good_after v.setting v.log run.allowed) in
    record {
      lt = a.lt;
      room = a.room;
      goes = a.goes;
      free = a.free;
      is = a.is;
      good = good;
      fit = subst (IsFit (here_of v e.hart.0)) (sym done) (good_of (choice_of e) (here_of v e.hart.0) good a.free);
      next = plain-append v.setting v.log e ∙ ap (λ d. apply e.hart.0 d (plain_seen v)) (sym done);
      run = run_on v e.hart.0 (choice_of e) e run is;
    }

-- what a rule may read of the plain machine is what is read by looking back
pub same_here : (v : Seen) (h : ℕ) → IsBlockRun v.setting v.log → here_of v h ≡ here_in_history v.setting (history v.setting v.log) h
same_here v h run = agreement_here v.setting v.log h run.allowed

-- each hart of each place is good
pub good_at : (v : Seen) → IsBlockRun v.setting v.log → IsGood v.setting (plain_seen v)
good_at v run = good_after v.setting v.log run.allowed

-- runs and their histories, as lists

-- what a run goes on from is a run
pub run_before : (s : Setting) (log more : List Entry) → IsBlockRun s (log ++ more) → IsBlockRun s log
run_before s log [] run = subst (λ (l : List Entry). IsBlockRun s l) (append-nil log) run
run_before s log (e ∷ more) run =
    let longer = run_before s (log ++ e ∷ []) more (subst (λ (l : List Entry). IsBlockRun s l) (sym (append_assoc log (e ∷ []) more)) run) in
    let shorter : IsRunHistory s (event s (history s log) e ∷ history s log) = subst (IsRunHistory s) (history-append s log e) longer.allowed in
    block_run s log shorter.0

-- a run has no more entries than the step limit
pub within_limit : (s : Setting) (log : List Entry) → IsBlockRun s log → length log ≤ s.limits.steps
within_limit s log run = ends.within_limit s log run.allowed

-- each entry is of a hart of the machine, its thread's number fits 32 bits where the step limit is small, and its pc fits 64 where
-- that of the first instruction does and the program's pages have bytes
pub all_harts : (s : Setting) (log : List Entry) → IsBlockRun s log → All (λ (e : Entry). e.hart.0 < s.limits.harts) log
all_harts s log run = entries.all_harts s log run.allowed

pub all_threads : (s : Setting) (log : List Entry) → s.limits.steps < 2 ^ 31 - 1 → IsBlockRun s log → All (λ (e : Entry). e.tid.0 < 2 ^ 32) log
all_threads s log short run = entries.all_threads s log short run.allowed

pub all_addresses : (s : Setting) (log : List Entry) → s.program.entry < 2 ^ 64 → HaveBytes s.program.pages → IsBlockRun s log
    → All (λ (e : Entry). e.pc < 2 ^ 64) log
all_addresses s log start bytes run = entries.all_addresses s log start bytes run.allowed

-- ends

-- the end of a run that is open
pub end_of-open : (s : Setting) (before : History) → over_at s before ≡ None → length before < s.limits.steps → end_of s before ≡ Unended
end_of-open s before goes room = ends.end_of-open s before (record { goes = goes; room = room })

-- a run that ends as a script does is open: nothing ended it, and its log has room
pub is_open : (s : Setting) (before : History) → IsRunHistory s before → end_of s before ≡ Unended → (over_at s before ≡ None) × (length before < s.limits.steps)
is_open s before run end = let x = ends.is_open s before run end in (x.goes, x.room)

-- scripts

-- what a script makes is the block run that answers it, and no other log is
pub played_is_run : (s : Setting) (lines : List Ask) (log : List Entry) → played s lines ≡ Ok log → IsBlockRun s log × AllAnswer lines log
played_is_run s lines log is = let made = replay.played_is_run s lines log is in (block_run s log made.0, made.1)

pub run_is_played : (s : Setting) (lines : List Ask) (log : List Entry) → IsBlockRun s log → AllAnswer lines log → played s lines ≡ Ok log
run_is_played s lines log run all = replay.run_is_played s lines log run.allowed all

-- a block run is made by the script that it is
pub replays : (s : Setting) (log : List Entry) → IsBlockRun s log → played s (script_of log) ≡ Ok log
replays s log run = replay.replays s log run.allowed

-- the plain machine

-- its state is what is read by looking back
pub same_state : (v : Seen) → IsBlockRun v.setting v.log → plain_seen v ≡ plain_of v.setting (history v.setting v.log)
same_state v run = agrees.agreement v.setting v.log run.allowed

-- over a finished run's choices it makes the run, and says what is read from the log
pub plain_solo_log : (s : Setting) (log : List Entry) → IsBlockRun s log → IsSolo s log → end_of s (history s log) ≢ Unended → (plain_solo s s.limits.steps).log ≡ log
plain_solo_log s log run solo over = plain_runs.plain_solo_log s log run.allowed solo over

pub plain_solo_says : (s : Setting) (log : List Entry) → IsBlockRun s log → IsSolo s log → end_of s (history s log) ≢ Unended → SaysOf s log (plain_solo s s.limits.steps).machine
plain_solo_says s log run solo over = plain_runs.plain_solo_says s log run.allowed solo over

-- the fixed rule

pub rule_is_made : (s : Setting) (log : List Entry) (c : Choice) → s.limits.harts ≡ 1 → IsBlockRun s log → end_of s (history s log) ≡ Unended → solo_choice s (history s log) ≡ Some c → IsOk (decide s (history s log) 0 c)
rule_is_made s log c one run end chosen = rules.rule_is_made s log c run.allowed one end chosen

-- where the machine has one hart and the rule has no choice, the run is over
pub rule_stops : (s : Setting) (log : List Entry) → s.limits.harts ≡ 1 → IsBlockRun s log → solo_choice s (history s log) ≡ None → end_of s (history s log) ≢ Unended
rule_stops s log one run none end = rules.rule_stops s log one run.allowed none end

-- its choice is the one by what a scheduler sees of hart 0
pub rule_is_read : (s : Setting) (log : List Entry) (credit : ℕ) (seen : Sight) → seen ≡ sight_in (here_in_history s (history s log) 0) (ran 0 (history s log)) credit → solo_choice s (history s log) ≡ solo_rule seen
rule_is_read s log credit seen is = ap solo_rule (sym is)

-- the choice of `run`

-- it is allowed, and its entry is the one that is decided
pub choice_is_allowed : (s : Setting) (seed : ℕ) (log : List Entry) (h : ℕ) (c : Choice) → IsBlockRun s log → choice_at s seed h (history s log) ≡ Some c
    → refusal_of c (here_in_history s (history s log) h) ≡ None
choice_is_allowed s seed log h c run chosen = choices.choice_is_allowed s seed log h c run.allowed chosen

pub choice_decides : (s : Setting) (seed : ℕ) (log : List Entry) (h : ℕ) (c : Choice) → IsBlockRun s log → choice_at s seed h (history s log) ≡ Some c
    → decide s (history s log) h c ≡ Ok (entry_in c (here_in_history s (history s log) h))
choice_decides s seed log h c run chosen = choices.choice_decides s seed log h c run.allowed chosen

-- a log of choices goes on by the entry that a hart makes next
pub chosen_more : (s : Setting) (seed : ℕ) (log : List Entry) (h : ℕ) (e : Entry) → IsBlockRun s log → IsChosen s seed log → next_entry s seed h (history s log) ≡ Some e
    → IsBlockRun s (log ++ e ∷ []) × IsChosen s seed (log ++ e ∷ []) × (e.hart.0 ≡ h)
chosen_more s seed log h e run chosen next =
    let more = choices.chosen_more s seed log h e run.allowed chosen next in
    (block_run s (log ++ e ∷ []) more.0, more.1, more.2)

-- what a machine that makes an event needs of its place

-- the place is good
pub place_good : (v : Seen) (h : ℕ) → IsBlockRun v.setting v.log → h < v.setting.limits.harts → IsGoodHere (here_of v h)
place_good v h run lt = good_here v.setting (plain_seen v) h lt (good_after v.setting v.log run.allowed)

-- a hart makes no more events, and executes no more instructions, than there are entries
pub events_few : (v : Seen) (h : ℕ) → IsBlockRun v.setting v.log → (plain_seen v).events h ≤ length v.log
events_few v h run =
    let same : (plain_seen v).events h ≡ events h (history v.setting v.log) = ap (λ (m : Plain). m.events h) (same_state v run) in
    omega (arith, same, counts.events_few h (history v.setting v.log), length-history v.setting v.log)

pub ran_few : (v : Seen) (h : ℕ) → IsBlockRun v.setting v.log → (plain_seen v).ran h ≤ length v.log
ran_few v h run =
    let same : (plain_seen v).ran h ≡ ran h (history v.setting v.log) = ap (λ (m : Plain). m.ran h) (same_state v run) in
    omega (arith, same, counts.ran_few v.setting h (history v.setting v.log) run.allowed, length-history v.setting v.log)

-- areas, signals and ids

-- what the record holds for threads
held_at : (v : Seen) → IsBlockRun v.setting v.log → IsHeld v.setting.limits.harts (plain_seen v).kernel
held_at v run =
    subst (λ (m : Plain). IsHeld v.setting.limits.harts m.kernel) (sym (same_state v run)) (run_ids.held_in v.setting (history v.setting v.log) run.allowed)

-- masks and pending signals are kept of the live threads alone, in the same order
pub live_signals : (v : Seen) → IsBlockRun v.setting v.log → AreSignalsOfLive (plain_seen v).kernel.threads (plain_seen v).kernel.signals
live_signals v run = (held_at v run).signals

-- where a block run has come to its process stands
pub standing : (v : Seen) → IsBlockRun v.setting v.log → IsStanding (stand_of v)
standing v run =
    let made : (plain_seen v).made ≡ length v.log = plain_made v run in
    record {
      good = λ h lt. place_good v h run lt;
      sound = (good_at v run).kernel;
      held = held_at v run;
      events = λ h. let few = events_few v h run in omega arith;
      ran = λ h. let few = ran_few v h run in omega arith;
      given = (good_at v run).given;
    }
