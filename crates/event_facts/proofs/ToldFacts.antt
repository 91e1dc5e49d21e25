-- What is told of a plain event are its facts, and what is kept of lines afterwards are those of the longer log.
use Rattle.std.proofs.Common.{◌≡◌, ◌≢◌, ℕ, ◌<◌, List, [], ◌∷◌, ◌++◌, length, map, drop, refl, sym, ap, ◌∙◌, subst, eqb, Bool, true, false, cond, Option, Some}
use Rattle.std.proofs.lemmas.Bool.{eqb-false, eqb-true}
use Rattle.mach_types.proofs.Laws.{eqb_same}
use Rattle.mach_types.specs.Events.{choice_of}
use Rattle.mach_types.specs.declared.events.Entry.{Entry}
use Rattle.mach_types.specs.Kernel.Threads.{state_of}
use Rattle.mach_types.specs.Registers.{register}
use Rattle.mach_types.specs.declared.registers.Regs.{Regs}
use Rattle.mach_types.specs.declared.threads.Saved.{Saved}
use Rattle.mach_types.specs.declared.user_memory.Store.{Store}
use Rattle.rv_inst.specs.declared.effects.Effect.{Effect}
use Rattle.block_model.specs.Deciding.{number_of, thread_in}
use Rattle.block_model.specs.Events.{done_of}
use Rattle.block_model.specs.Events.Exec.{outcome_of}
use Rattle.block_model.specs.Footprints.{bytes_of_all, have_byte}
use Rattle.block_model.specs.Here.{Done, Here, memory, runs, view, view_of_all}
use Rattle.block_model.specs.History.{Event, History, file, here_in_history}
use Rattle.block_model.specs.PlainEvents.{is_plain}
use Rattle.block_model.specs.Run.{IsBlockRun}
use Rattle.block_model.specs.Setting.{Seen, Setting}
use Rattle.block_model.proofs.Laws.{history-append}
use Rattle.block_model.proofs.Swaps.PlainDone.{as_done, plain_outcome}
use Rattle.process.specs.Harts.{file_on}
use Rattle.fact_types.specs.declared.facts.Fact.{Fact}
use Rattle.fact_types.specs.declared.facts.Fact.TheVariants.{Waits}
use Rattle.event_facts.specs.Deeds.{IsDeedOf, drained_in, entered_in, executed_in}
use Rattle.event_facts.specs.Facts.{changed_registers, entered_facts, facts_by, facts_of, memory_facts, own_registers, reading_facts, register_fact, register_facts}
use Rattle.event_facts.specs.Lines.{line_behind, memory_source, next_line, numbered, waiting_on}
use Rattle.event_facts.specs.Reservations.{all_lost, own_facts}
use Rattle.event_facts.specs.Sources.{source_at, source_over}
use Rattle.event_facts.specs.Telling.{IsDecided, changed_facts, effect_in, here_on, past_of, plain_event_of, register_by, register_set, registers_on}
use Rattle.event_facts.specs.Tied.{AreLinesOf, kept_on, kept_source, line_in}
use Rattle.event_facts.specs.declared.deeds.Deed.{Deed}
use Rattle.event_facts.specs.declared.lines.Lines.{Lines}
use Rattle.event_facts.specs.declared.telling.PlainEvent.{PlainEvent}
use Rattle.event_facts.specs.declared.telling.PlainEvent.TheVariants.{Instruction, Drain}
use Rattle.event_facts.proofs.Due.{due, past_after, what_is_done}
use Rattle.event_facts.proofs.Lists.{five_pieces}
use Rattle.event_facts.proofs.OwnRegisters.{none_seen, seen_there}
use Rattle.event_facts.proofs.PlainKinds.{Executes, drain_done, drains, executes, instruction_done}
use Rattle.event_facts.proofs.SetRegisters.{many_on, one_told, others_stay}

-- WHAT IS TOLD BEFORE THE EVENT IS MADE

-- a byte comes from where the lines of the history say
pub same_sources : (harts : ℕ) (before : History) (x : Lines) (h : ℕ) → AreLinesOf harts before x → h < harts → kept_source x h ≡ source_at h before
same_sources harts before x h tied lt = λ i a. source_over (tied.waiting h lt i) a (memory_source (tied.written a i))

-- facts that were appended one kind after the other
pub memory_told : (s : Setting) (before : History) (h : ℕ) (o : Option Effect) (deed : Deed) (x : Lines) (line : ℕ) (r : Option ℕ) (f0 f1 f2 f3 f4 f5 : List Fact)
    → AreLinesOf s.limits.harts before x → h < s.limits.harts → line ≡ next_line before → r ≡ (here_in_history s before h).reserved
    → f1 ≡ f0 ++ reading_facts (view (here_in_history s before h)) (kept_source x h) o
    → f2 ≡ f1 ++ map Waits (executed_in deed)
    → f3 ≡ f2 ++ entered_facts (memory (here_in_history s before h)) (line_behind (kept_on x h) line (drained_in deed)) [] (entered_in deed)
    → f4 ≡ f3 ++ own_facts o r r
    → f5 ≡ f4 ++ all_lost h before (entered_in deed) s.limits.harts
    → f5 ≡ f0 ++ memory_facts s before h true o (executed_in deed) (drained_in deed) (entered_in deed) (here_in_history s before h).reserved
memory_told s before h o deed x line r f0 f1 f2 f3 f4 f5 tied lt line_is same p1 p2 p3 p4 p5 =
    let here = here_in_history s before h in
    five_pieces f0 f1 f2 f3 f4 f5 _ _ _ _ _
    (p1 ∙ ap (λ source. f0 ++ reading_facts (view here) source o) (same_sources s.limits.harts before x h tied lt))
    p2
    (p3 ∙ (λ i. f2 ++ entered_facts (memory here) (line_behind (tied.waiting h lt i) (line_is i) (drained_in deed)) [] (entered_in deed)))
    (p4 ∙ (λ i. f3 ++ own_facts o (same i) (same i)))
    p5

-- ALL FACTS

abbrev registers_in : Here → Regs
registers_in x = (file_on x (runs x)).file

module _ (m m' : Seen) (entry : Entry) (run : IsBlockRun m.setting m.log) (decided : IsDecided m entry) (made : m' ≡ record m { log = m.log ++ entry ∷ [] }) where
  abbrev before : History
  before = past_of m

  abbrev here : Here
  here = here_on m entry.hart.0

  abbrev did : Done
  did = done_of (choice_of entry) here

  -- what a rule may read once the event did this
  abbrev after : Done → Here
  after d = here_in_history m.setting (record { entry = entry; done = d } ∷ before) entry.hart.0

  facts_here : facts_of m.setting before entry ≡ facts_by m.setting before entry did
  unfolding facts_of
  facts_here = ap (facts_by m.setting before entry) (what_is_done m.setting before entry)

  -- the registers after an instruction are those of its outcome
  registers_after : (e : Effect) (x : Executes (choice_of entry) here e) → registers_on m' entry.hart.0 ≡ (outcome_of here x.thread e).regs
  registers_after e x =
      let o = outcome_of here x.thread e in
      let saved : Saved = record { file = o.regs; pc = o.pc } in
      ap (λ (z : Seen). registers_on z entry.hart.0) made
      ∙ ap (λ past. registers_in (here_in_history m.setting past entry.hart.0)) (history-append m.setting m.log entry)
      ∙ ap (λ (d : Done). registers_in (after d)) (what_is_done m.setting before entry ∙ instruction_done (choice_of entry) here e x)
      ∙ ap (λ q. (file_on (after (as_done here.kernel (plain_outcome x.thread o))) q).file) x.on
      ∙ ap (λ b. (cond b saved (file m.setting x.thread before)).file) (eqb_same x.thread)

  thread_is : (e : Effect) (x : Executes (choice_of entry) here e) → entry.tid.0 ≡ x.thread
  thread_is e x =
      ap (λ (z : Entry). z.tid.0) (due m entry run decided).is
      ∙ ap (λ k. number_of (thread_in k here)) x.choice
      ∙ ap number_of x.on

  -- of an instruction
  instruction_facts : (e : Effect) (deed : Deed) (regs : Regs) → plain_event_of (choice_of entry) here ≡ Some (Instruction e) → IsDeedOf did deed
      → regs ≡ registers_on m entry.hart.0
      → facts_of m.setting before entry
      ≡ memory_facts m.setting before entry.hart.0 true (Some e) (executed_in deed) (drained_in deed) (entered_in deed) here.reserved ++ changed_facts entry (Instruction e) regs m'
  instruction_facts e deed regs is its same =
      let x = executes (choice_of entry) here e is in
      let plain : is_plain (choice_of entry) here ≡ true = ap (λ k. is_plain k here) x.choice ∙ x.plain in
      let o = outcome_of here x.thread e in
      let saved : Saved = record { file = o.regs; pc = o.pc } in
      let executed = sym its.executed in
      let drained = sym its.drained in
      let entered = sym its.entered in
      let earlier = sym (same ∙ ap (λ q. (file_on here q).file) x.on) in
      let later = sym (registers_after e x) in
      facts_here
      ∙ (λ i. memory_facts m.setting before entry.hart.0 (plain i) (x.by i) (executed i) (drained i) (entered i) did.reserved ++ own_registers here entry.tid.0 did)
      ∙ ap (λ (d : Done). memory_facts m.setting before entry.hart.0 true (Some e) (executed_in deed) (drained_in deed) (entered_in deed) here.reserved ++ own_registers here entry.tid.0 d)
      (instruction_done (choice_of entry) here e x)
      ∙ ap (λ l. memory_facts m.setting before entry.hart.0 true (Some e) (executed_in deed) (drained_in deed) (entered_in deed) here.reserved ++ l)
      (ap (λ t. own_registers here t (as_done here.kernel (plain_outcome x.thread o))) (thread_is e x)
      ∙ ap (changed_registers (here.file x.thread).file)
      (seen_there (runs here) (state_of x.thread here.kernel.threads) x.thread (cond (eqb x.thread x.thread) saved (here.file x.thread)) x.on)
      ∙ ap (λ b. register_facts (here.file x.thread).file (cond b saved (here.file x.thread)).file) (eqb_same x.thread)
      ∙ (λ i. register_facts (earlier i) (later i)))

  -- of a store that enters memory
  drain_facts : (w : Store) (deed : Deed) (regs : Regs) → plain_event_of (choice_of entry) here ≡ Some (Drain w) → IsDeedOf did deed
      → facts_of m.setting before entry
      ≡ memory_facts m.setting before entry.hart.0 true (effect_in (Drain w)) (executed_in deed) (drained_in deed) (entered_in deed) here.reserved ++ changed_facts entry (Drain w) regs m'
  drain_facts w deed regs is its =
      let x = drains (choice_of entry) here w is in
      let plain : is_plain (choice_of entry) here ≡ true = ap (λ k. is_plain k here) x.choice in
      let what = drain_done (choice_of entry) here w x in
      let executed = sym its.executed in
      let drained = sym its.drained in
      let entered = sym its.entered in
      let reserved = ap (λ (d : Done). d.reserved) what in
      let t = entry.tid.0 in
      let files = ap (own_registers here t) what ∙ none_seen (runs here) (state_of t here.kernel.threads) t (here.file t).file (here.file t) refl in
      facts_here ∙ (λ i. memory_facts m.setting before entry.hart.0 (plain i) (x.by i) (executed i) (drained i) (entered i) (reserved i) ++ files i)

  pub all_facts : (event : PlainEvent) (deed : Deed) (regs : Regs) → plain_event_of (choice_of entry) here ≡ Some event → IsDeedOf did deed
      → regs ≡ registers_on m entry.hart.0
      → facts_of m.setting before entry
      ≡ memory_facts m.setting before entry.hart.0 true (effect_in event) (executed_in deed) (drained_in deed) (entered_in deed) here.reserved ++ changed_facts entry event regs m'
  all_facts (Instruction e) deed regs is its same = instruction_facts e deed regs is its same
  all_facts (Drain w) deed regs is its same = drain_facts w deed regs is its

  -- of the registers that one is told which the event sets
  pub set_alone : (event : PlainEvent) → plain_event_of (choice_of entry) here ≡ Some event → IsBlockRun m'.setting m'.log
      → changed_facts entry event (registers_on m entry.hart.0) m'
      ≡ register_fact (registers_on m entry.hart.0) (registers_on m' entry.hart.0) (register_by event)
  set_alone (Instruction e) is run' =
      let x = executes (choice_of entry) here e is in
      let f = here.file x.thread in
      let earlier : registers_on m entry.hart.0 ≡ f.file = ap (λ q. (file_on here q).file) x.on in
      one_told (registers_on m entry.hart.0) (registers_on m' entry.hart.0) (register_set e)
      (many_on m entry.hart.0 run) (many_on m' entry.hart.0 run')
      (λ k other. ap (λ (r : Regs). register r k) (registers_after e x)
      ∙ others_stay (view_of_all here) f.file f.pc here.reserved e k other
      ∙ ap (λ (r : Regs). register r k) (sym earlier))
  set_alone (Drain w) is run' = refl

  -- THE LINES

  waiting_after : (deed : Deed) (line : ℕ) (x y : Lines) → IsDeedOf did deed → line ≡ next_line before → AreLinesOf m.setting.limits.harts before x
      → kept_on y entry.hart.0 ≡ drop (drained_in deed) (kept_on x entry.hart.0 ++ map (numbered line) (executed_in deed))
      → ((k : ℕ) → k ≢ entry.hart.0 → kept_on y k ≡ kept_on x k)
      → (k : ℕ) → k < m.setting.limits.harts → (b : Bool) → eqb entry.hart.0 k ≡ b
      → kept_on y k ≡ cond b (drop did.drained (waiting_on k before ++ map (numbered (next_line before)) did.executed)) (waiting_on k before)
  waiting_after deed line x y its line_is tied own others k lt true is =
      let same = eqb-true entry.hart.0 k is in
      let waited = ap (kept_on x) same ∙ tied.waiting k lt in
      ap (kept_on y) (sym same) ∙ own ∙ (λ i. drop (its.drained i) (waited i ++ map (numbered (line_is i)) (its.executed i)))
  waiting_after deed line x y its line_is tied own others k lt false is =
      others k (λ same. eqb-false entry.hart.0 k is (sym same)) ∙ tied.waiting k lt

  pub lines_after : (deed : Deed) (line : ℕ) (x y : Lines) → IsDeedOf did deed → line ≡ next_line before → AreLinesOf m.setting.limits.harts before x
      → length y.waiting.items ≡ length x.waiting.items
      → kept_on y entry.hart.0 ≡ drop (drained_in deed) (kept_on x entry.hart.0 ++ map (numbered line) (executed_in deed))
      → ((k : ℕ) → k ≢ entry.hart.0 → kept_on y k ≡ kept_on x k)
      → ((a : ℕ) → line_in y a ≡ cond (have_byte (bytes_of_all (entered_in deed)) a) line (line_in x a))
      → AreLinesOf m'.setting.limits.harts (past_of m') y
  lines_after deed line x y its line_is tied count own others wrote =
      let newest : Event = record { entry = entry; done = did } in
      let base : AreLinesOf m.setting.limits.harts (newest ∷ before) y = record {
        harts = count ∙ tied.harts;
        waiting = λ k lt. waiting_after deed line x y its line_is tied own others k lt (eqb entry.hart.0 k) refl;
        written = λ a. wrote a ∙ (λ i. cond (have_byte (bytes_of_all (its.entered i)) a) (line_is i) (tied.written a i));
      } in
      let past : newest ∷ before ≡ past_of m' =
      sym (past_after m m' entry made ∙ ap (λ (d : Done). let e : Event = record { entry = entry; done = d } in e ∷ before) (what_is_done m.setting before entry)) in
      subst (λ n. AreLinesOf n (past_of m') y) (sym (ap (λ (z : Seen). z.setting.limits.harts) made))
      (subst (λ p. AreLinesOf m.setting.limits.harts p y) past base)
