-- What code tells of an event that isn't plain are its facts, and what is kept of lines afterwards are those of the longer log.
use Rattle.std.proofs.Common.{◌≡◌, ℕ, ◌+◌, ◌<◌, List, [], ◌∷◌, ◌++◌, length, map, refl, sym, ap, ◌∙◌, subst, eqb, Bool, true, false, cond, Option, None, append-nil, arith, drop, Vec, Global}
use Rattle.std.specs.List.{flat_map, range_with_len}
use Rattle.std.proofs.lemmas.List.FromFn.{get_or-map-range_with_len}
use Rattle.std.proofs.lemmas.Option.{unwrap_or-slice_get}
use Rattle.mach_types.proofs.Laws.{eqb_same}
use Rattle.mach_types.specs.Events.{choice_of}
use Rattle.mach_types.specs.declared.events.Entry.{Entry}
use Rattle.mach_types.specs.declared.registers.Regs.{Regs}
use Rattle.mach_types.specs.declared.user_memory.Store.{Store}
use Rattle.mach_types.specs.declared.user_memory.Write.{Write}
use Rattle.block_model.specs.Deciding.{number_of, thread_in}
use Rattle.block_model.specs.Events.{done_of}
use Rattle.block_model.specs.Footprints.{bytes_of_all, have_byte}
use Rattle.block_model.specs.Here.{Done, Here, runs}
use Rattle.block_model.specs.History.{Event, History, here_in_history, lost_after, reservation}
use Rattle.block_model.specs.PlainEvents.{is_plain}
use Rattle.block_model.specs.Run.{IsBlockRun}
use Rattle.block_model.specs.Setting.{Seen, Setting}
use Rattle.process.specs.Harts.{file_on}
use Rattle.fact_types.specs.declared.facts.Fact.{Fact}
use Rattle.event_facts.specs.Facts.{facts_by, facts_of, kernel_fact, memory_facts, own_registers}
use Rattle.event_facts.specs.KernelEvents.{all_reservations, changed_own, kernel_facts, lost_from, registers_after, reservation_in}
use Rattle.event_facts.specs.Lines.{next_line, numbered, waiting_on}
use Rattle.event_facts.specs.Reservations.{all_lost, ended_facts, lost_facts}
use Rattle.event_facts.specs.Telling.{IsDecided, here_on, past_of, plain_event_of}
use Rattle.event_facts.specs.Tied.{AreLinesOf, items_at, line_in}
use Rattle.event_facts.specs.declared.lines.Lines.{Lines}
use Rattle.event_facts.specs.declared.lines.Numbered.{Numbered}
use Rattle.event_facts.proofs.Due.{due, past_after, what_is_done}
use Rattle.event_facts.proofs.KeptPieces.{kept_pieces}
use Rattle.event_facts.proofs.KernelDeeds.{executes_none, is_quiet, not_plain, own_told}

-- RESERVATIONS

-- that of a hart among those that were kept
pub reservation_kept : (before : History) (harts h : ℕ) → h < harts → reservation_in (all_reservations before harts) h ≡ reservation h before
reservation_kept before harts h lt =
    let from_0 : 0 + h ≡ h = omega arith in
    unwrap_or-slice_get (all_reservations before harts) h None ∙ get_or-map-range_with_len (λ k. reservation k before) 0 harts h h None lt from_0

-- what is lost, by those that were kept
lost_kept : (h : ℕ) (before : History) (ws : List Write) (harts : ℕ)
    → flat_map (lost_from h (all_reservations before harts) ws) (range_with_len 0 harts) ≡ all_lost h before ws harts
lost_kept h before ws harts =
    kept_pieces (λ k. reservation k before) (λ k (o : Option ℕ). let l : List Fact = cond (eqb h k) [] (lost_facts k o ws) in l) harts

module _ (m m' : Seen) (entry : Entry) (run : IsBlockRun m.setting m.log) (decided : IsDecided m entry) (made : m' ≡ record m { log = m.log ++ entry ∷ [] })
    (other : plain_event_of (choice_of entry) (here_on m entry.hart.0) ≡ None) where
  abbrev before : History
  before = past_of m

  abbrev h : ℕ
  h = entry.hart.0

  abbrev t : ℕ
  t = entry.tid.0

  abbrev here : Here
  here = here_on m h

  abbrev harts : ℕ
  harts = m.setting.limits.harts

  abbrev did : Done
  did = done_of (choice_of entry) here

  abbrev newest : Event
  newest = record { entry = entry; done = did }

  plain : is_plain (choice_of entry) here ≡ false
  plain = not_plain (choice_of entry) here (due m entry run decided).free other

  -- the place after it
  past : past_of m' ≡ newest ∷ before
  past = past_after m m' entry made ∙ ap (λ (d : Done). let e : Event = record { entry = entry; done = d } in e ∷ before) (what_is_done m.setting before entry)

  same_setting : m'.setting ≡ m.setting
  same_setting = ap (λ (z : Seen). z.setting) made

  after : here_on m' h ≡ here_in_history m.setting (newest ∷ before) h
  after = λ i. here_in_history (same_setting i) (past i) h

  -- THE FACTS

  -- its thread is the one that is named there
  thread_is : t ≡ number_of (thread_in (choice_of entry) here)
  thread_is = ap (λ (z : Entry). z.tid.0) (due m entry run decided).is

  facts_here : facts_of m.setting before entry ≡ facts_by m.setting before entry did
  unfolding facts_of
  facts_here = ap (facts_by m.setting before entry) (what_is_done m.setting before entry)

  -- by kinds
  apart : facts_of m.setting before entry
      ≡ (map (kernel_fact (next_line before)) did.entered ++ ended_facts here.reserved did.reserved ++ all_lost h before did.entered harts)
      ++ changed_own (choice_of entry) (file_on here (runs here)).file (registers_after (here_in_history m.setting (newest ∷ before) h) t)
  apart =
      let quiet = is_quiet (choice_of entry) here plain in
      let none = executes_none (choice_of entry) here plain in
      facts_here
      ∙ (λ i. memory_facts m.setting before h (plain i) (none i) (quiet.executed i) (quiet.drained i) did.entered did.reserved ++ own_registers here t did)
      ∙ ap (λ (l : List Fact). (map (kernel_fact (next_line before)) did.entered ++ ended_facts here.reserved did.reserved ++ all_lost h before did.entered harts) ++ l)
      (own_told here t (choice_of entry) (due m entry run decided).free thread_is plain)

  -- the hart's reservation after it
  reserved_after : (here_on m' h).reserved ≡ did.reserved
  reserved_after = ap (λ (x : Here). x.reserved) after ∙ ap (λ b. cond b did.reserved (lost_after did.entered (reservation h before))) (eqb_same h)

  pub kernel_told : (registers : Regs) (reserved : List (Option ℕ)) (written : List Write) (line : ℕ) → registers ≡ (file_on here (runs here)).file
      → reserved ≡ all_reservations before harts → written ≡ did.entered → line ≡ next_line before
      → kernel_facts m' entry registers reserved written line ≡ facts_of m.setting before entry
  kernel_told registers reserved written line own kept wrote number =
      let lt = (due m entry run decided).lt in
      let reservation_is = ap (λ (l : List (Option ℕ)). reservation_in l h) kept ∙ reservation_kept before harts h lt in
      let count = ap (λ (z : Setting). z.limits.harts) same_setting in
      (λ i. map (kernel_fact (number i)) (wrote i)
      ++ ended_facts (reservation_is i) (reserved_after i)
      ++ flat_map (lost_from h (kept i) (wrote i)) (range_with_len 0 (count i))
      ++ changed_own (choice_of entry) (own i) (registers_after (after i) t))
      ∙ (λ i. map (kernel_fact (next_line before)) did.entered
      ++ ended_facts here.reserved did.reserved
      ++ lost_kept h before did.entered harts i
      ++ changed_own (choice_of entry) (file_on here (runs here)).file (registers_after (here_in_history m.setting (newest ∷ before) h) t))
      ∙ sym apart

  -- THE LINES

  -- none waits that didn't
  waiting_same : (k : ℕ) → waiting_on k (newest ∷ before) ≡ waiting_on k before
  waiting_same k =
      let quiet = is_quiet (choice_of entry) here plain in
      go (eqb h k) did.drained did.executed quiet.drained quiet.executed
    where
      go : (own : Bool) (n : ℕ) (ws : List Store) → n ≡ 0 → ws ≡ []
          → cond own (drop n (waiting_on k before ++ map (numbered (next_line before)) ws)) (waiting_on k before) ≡ waiting_on k before
      go true n ws zero none = (λ i. drop (zero i) (waiting_on k before ++ map (numbered (next_line before)) (none i))) ∙ append-nil (waiting_on k before)
      go false n ws zero none = refl

  pub kernel_lines : (written : List Write) (line : ℕ) (x y : Lines) → written ≡ did.entered → line ≡ next_line before → AreLinesOf harts before x
      → y.waiting ≡ x.waiting
      → ((a : ℕ) → line_in y a ≡ cond (have_byte (bytes_of_all written) a) line (line_in x a))
      → AreLinesOf m'.setting.limits.harts (past_of m') y
  kernel_lines written line x y wrote number tied same lines =
      let base : AreLinesOf harts (newest ∷ before) y = record {
        harts = ap (λ (v : Vec (Vec Numbered Global) Global). length v.items) same ∙ tied.harts;
        waiting = λ k lt. ap (λ (v : Vec (Vec Numbered Global) Global). items_at v.items k) same ∙ tied.waiting k lt ∙ sym (waiting_same k);
        written = λ a. lines a ∙ (λ i. cond (have_byte (bytes_of_all (wrote i)) a) (number i) (tied.written a i));
      } in
      subst (λ n. AreLinesOf n (past_of m') y) (sym (ap (λ (z : Setting). z.limits.harts) same_setting))
      (subst (λ p. AreLinesOf harts p y) (sym past) base)
