-- The stores that are told to wait are those that wait, each executed in its line; and a byte was written in the line that is told to have
-- written it last, and is as that left it.
use Rattle.std.proofs.Common.{◌≡◌, ◌≢◌, ℕ, zero, suc, ◌+◌, ◌-◌, ◌<◌, ◌≤◌, List, [], ◌∷◌, ◌++◌, length, map, drop, eqb, refl, sym, ap, ◌∙◌, subst, arith, Bool, true, false, cond, All, Contains, length-append}
use Rattle.std.proofs.lemmas.List.{drop-map, map-append}
use Rattle.std.proofs.lemmas.List.Elements.{All-append, All-contains_itself, All-drop, All-map, All-nil, All-weaker}
use Rattle.mach_types.specs.Events.{choice_of}
use Rattle.mach_types.specs.declared.events.Entry.{Entry}
use Rattle.mach_types.specs.declared.user_memory.Store.{Store}
use Rattle.block_model.specs.Deciding.{done, history}
use Rattle.block_model.specs.Events.{done_of}
use Rattle.block_model.specs.Footprints.{bytes_of_all, have_byte}
use Rattle.block_model.specs.Here.{Done}
use Rattle.block_model.specs.History.{Event, History, byte, is_of_hart, waiting}
use Rattle.block_model.specs.Plain.{Plain, here_of, plain_seen}
use Rattle.block_model.specs.Run.{IsBlockRun}
use Rattle.block_model.specs.Setting.{Seen, Setting}
use Rattle.block_model.proofs.Laws.{history-append, history-nil, next_event, run_before, same_here, same_state}
use Rattle.block_model.proofs.Swaps.Logs.{last_decided}
use Rattle.block_model.proofs.Swaps.Untouched.{untouched}
use Rattle.event_facts.specs.Lines.{next_line, numbered, waiting_on, written_in}
use Rattle.event_facts.specs.Told.{AreExecuted, AreWaiting, IsAsWritten, IsExecuted, executed_last, first_of, is_written_last, stores_of}
use Rattle.event_facts.specs.declared.lines.Numbered.{Numbered}
use Rattle.event_facts.proofs.Due.{what_is_done}

-- BYTES OF MEMORY

-- the line of a byte is one of the lines so far
later_line : (b : Bool) (n w : ℕ) → w ≤ n → cond b (n + 1) w ≤ suc n
later_line true n w le = omega arith
later_line false n w le = omega arith

-- and what it left is what is there, after one event more
later_byte : (s : Setting) (e : Event) (before : History) (a : ℕ) (b : Bool) → have_byte (bytes_of_all e.done.entered) a ≡ b → IsAsWritten s before a
    → byte s (e ∷ before) a ≡ byte s (first_of (cond b (next_line before) (written_in before a)) (e ∷ before)) a
later_byte s e before a true is was =
    let none : suc (length before) - (length before + 1) ≡ 0 = omega arith in
    ap (λ k. byte s (drop k (e ∷ before)) a) (sym none)
later_byte s e before a false is was =
    let le = was.line in
    let one : suc (length before) - written_in before a ≡ suc (length before - written_in before a) = omega arith in
    untouched e.done.entered a (byte s before a) is ∙ was.same ∙ ap (λ k. byte s (drop k (e ∷ before)) a) (sym one)

-- and it wrote the byte
later_wrote : (s : Setting) (e : Event) (before : History) (a : ℕ) (b : Bool) → have_byte (bytes_of_all e.done.entered) a ≡ b → IsAsWritten s before a
    → cond b (next_line before) (written_in before a) ≢ 0 → is_written_last (first_of (cond b (next_line before) (written_in before a)) (e ∷ before)) a ≡ true
later_wrote s e before a true is was some =
    let none : suc (length before) - (length before + 1) ≡ 0 = omega arith in
    ap (λ k. is_written_last (drop k (e ∷ before)) a) none ∙ is
later_wrote s e before a false is was some =
    let le = was.line in
    let one : suc (length before) - written_in before a ≡ suc (length before - written_in before a) = omega arith in
    ap (λ k. is_written_last (drop k (e ∷ before)) a) one ∙ was.wrote some

-- and no line since
none_at : (e : Event) (before : History) (a k n : ℕ) → suc (length before) - n ≡ k → n ≤ suc (length before) → have_byte (bytes_of_all e.done.entered) a ≡ false
    → (n ≤ length before → is_written_last (first_of n before) a ≡ false) → is_written_last (drop k (e ∷ before)) a ≡ false
none_at e before a zero n far le own others = own
none_at e before a (suc k) n far le own others =
    let within : n ≤ length before = omega arith in
    let same : length before - n ≡ k = omega arith in
    ap (λ j. is_written_last (drop j before) a) (sym same) ∙ others within

later_since : (s : Setting) (e : Event) (before : History) (a : ℕ) (b : Bool) → have_byte (bytes_of_all e.done.entered) a ≡ b → IsAsWritten s before a
    → (n : ℕ) → cond b (next_line before) (written_in before a) < n → n ≤ suc (length before) → is_written_last (first_of n (e ∷ before)) a ≡ false
later_since s e before a true is was n more le = absurd (omega arith)
later_since s e before a false is was n more le = none_at e before a (suc (length before) - n) n refl le is (was.since n more)

pub as_written : (s : Setting) (before : History) (a : ℕ) → IsAsWritten s before a
as_written s [] a = record { line = omega arith; wrote = λ some. absurd (some refl); since = λ n more le. absurd (omega arith); same = refl }
as_written s (e ∷ before) a =
    let was = as_written s before a in
    record {
      line = later_line (have_byte (bytes_of_all e.done.entered) a) (length before) (written_in before a) was.line;
      wrote = later_wrote s e before a (have_byte (bytes_of_all e.done.entered) a) refl was;
      since = later_since s e before a (have_byte (bytes_of_all e.done.entered) a) refl was;
      same = later_byte s e before a (have_byte (bytes_of_all e.done.entered) a) refl was;
    }

-- STORES THAT WAIT

stores_numbered : (line : ℕ) (ws : List Store) → stores_of (map (numbered line) ws) ≡ ws
stores_numbered line [] = refl
stores_numbered line (w ∷ ws) = ap (λ xs. w ∷ xs) (stores_numbered line ws)

stores_step : (b : Bool) (n : ℕ) (kept : List Numbered) (line : ℕ) (executed : List Store)
    → stores_of (cond b (drop n (kept ++ map (numbered line) executed)) kept) ≡ cond b (drop n (stores_of kept ++ executed)) (stores_of kept)
stores_step true n kept line executed =
    let store : Numbered → Store = λ w. w.store in
    sym (drop-map store n (kept ++ map (numbered line) executed))
    ∙ ap (drop n) (map-append store kept (map (numbered line) executed) ∙ ap (λ (ws : List Store). stores_of kept ++ ws) (stores_numbered line executed))
stores_step false n kept line executed = refl

module _ (s : Setting) (init : List Entry) (e : Entry) (run : IsBlockRun s (init ++ e ∷ [])) (h : ℕ) where
  abbrev did : Done
  did = done s (history s init) e

  abbrev earlier : Seen
  earlier = record { setting = s; seed = 0; log = init }

  abbrev later : Seen
  later = record { setting = s; seed = 0; log = init ++ e ∷ [] }

  -- what waits after one entry more
  waiting_next : waiting h (history s (init ++ e ∷ [])) ≡ cond (eqb e.hart.0 h) (drop did.drained (waiting h (history s init) ++ did.executed)) (waiting h (history s init))
  waiting_next =
      let none = run_before s init (e ∷ []) run in
      let next = next_event earlier e (done_of (choice_of e) (here_of earlier e.hart.0)) none (last_decided s init e run) refl in
      let is : done_of (choice_of e) (here_of earlier e.hart.0) ≡ did =
      ap (done_of (choice_of e)) (same_here earlier e.hart.0 none) ∙ sym (what_is_done s (history s init) e) in
      ap (λ (m : Plain). m.waiting h) (sym (same_state later run) ∙ next.next)
      ∙ ap (λ (d : Done). cond (eqb e.hart.0 h) (drop d.drained ((plain_seen earlier).waiting h ++ d.executed)) ((plain_seen earlier).waiting h)) is
      ∙ ap (λ (m : Plain). cond (eqb e.hart.0 h) (drop did.drained (m.waiting h ++ did.executed)) (m.waiting h)) (same_state earlier none)

  told_next : AreWaiting h (history s init) → AreWaiting h (history s (init ++ e ∷ []))
  told_next was =
      ap (λ (past : History). stores_of (waiting_on h past)) (history-append s init e)
      ∙ stores_step (eqb e.hart.0 h) did.drained (waiting_on h (history s init)) (next_line (history s init)) did.executed
      ∙ ap (λ (ws : List Store). cond (eqb e.hart.0 h) (drop did.drained (ws ++ did.executed)) ws) was
      ∙ sym waiting_next

-- a store that was executed in its line is so after one event more
kept_executed : (h : ℕ) (e : Event) (before : History) (w : Numbered) → IsExecuted h before w → IsExecuted h (e ∷ before) w
kept_executed h e before w was =
    let le = was.within in
    let within : w.line ≤ suc (length before) = omega arith in
    let one : suc (length before) - w.line ≡ suc (length before - w.line) = omega arith in
    record {
      within = within;
      executed = subst (λ k. Contains (executed_last h (drop k (e ∷ before))) w.store) (sym one) was.executed;
    }

-- and so is one that this event executes
new_executed : (h : ℕ) (e : Event) (before : History) (w : Store) → is_of_hart h e ≡ true → Contains e.done.executed w
    → IsExecuted h (e ∷ before) (numbered (next_line before) w)
new_executed h e before w own has =
    let within : length before + 1 ≤ suc (length before) = omega arith in
    let none : suc (length before) - (length before + 1) ≡ 0 = omega arith in
    record {
      within = within;
      executed = subst (λ k. Contains (executed_last h (drop k (e ∷ before))) w) (sym none)
          (subst (λ b. Contains (cond b e.done.executed []) w) (sym own) has);
    }

executed_next : (h : ℕ) (e : Event) (before : History) (b : Bool) → is_of_hart h e ≡ b → AreExecuted h before
    → All (λ w. IsExecuted h (e ∷ before) w)
    (cond b (drop e.done.drained (waiting_on h before ++ map (numbered (next_line before)) e.done.executed)) (waiting_on h before))
executed_next h e before true is was =
    All-drop (λ w. IsExecuted h (e ∷ before) w) e.done.drained (waiting_on h before ++ map (numbered (next_line before)) e.done.executed)
    (All-append (λ w. IsExecuted h (e ∷ before) w) (waiting_on h before) (map (numbered (next_line before)) e.done.executed)
    (All-weaker (λ w. IsExecuted h before w) (λ w. IsExecuted h (e ∷ before) w) (kept_executed h e before) (waiting_on h before) was)
    (All-map (λ w. IsExecuted h (e ∷ before) w) (numbered (next_line before)) e.done.executed
    (All-weaker (λ (w : Store). Contains e.done.executed w) (λ (w : Store). IsExecuted h (e ∷ before) (numbered (next_line before) w))
    (λ w has. new_executed h e before w is has) e.done.executed (All-contains_itself e.done.executed))))
executed_next h e before false is was =
    All-weaker (λ w. IsExecuted h before w) (λ w. IsExecuted h (e ∷ before) w) (kept_executed h e before) (waiting_on h before) was

pub told_executed : (h : ℕ) (before : History) → AreExecuted h before
told_executed h [] = All-nil (λ w. IsExecuted h [] w)
told_executed h (e ∷ before) = executed_next h e before (is_of_hart h e) refl (told_executed h before)

-- a log by its last entry
record Ends (log : List Entry) : Type 0 where
  init : List Entry
  last : Entry
  is : log ≡ init ++ last ∷ []

ends : (x : Entry) (xs : List Entry) → Ends (x ∷ xs)
ends x [] = record { init = []; last = x; is = refl }
ends x (y ∷ ys) = let rest = ends y ys in record { init = x ∷ rest.init; last = rest.last; is = ap (λ (l : List Entry). x ∷ l) rest.is }

pub told_stores : (n : ℕ) (s : Setting) (log : List Entry) → length log ≡ n → IsBlockRun s log → (h : ℕ) → AreWaiting h (history s log)
told_stores n s [] count run h = subst (AreWaiting h) (sym (history-nil s)) refl
told_stores zero s (x ∷ xs) count run h = absurd (omega arith)
told_stores (suc n) s (x ∷ xs) count run h =
    let whole = ends x xs in
    let longer = subst (IsBlockRun s) whole.is run in
    let fewer : length whole.init ≡ n = omega (arith, ap length whole.is, length-append whole.init (whole.last ∷ [])) in
    subst (λ (l : List Entry). AreWaiting h (history s l)) (sym whole.is)
    (told_next s whole.init whole.last longer h (told_stores n s whole.init fewer (run_before s whole.init (whole.last ∷ []) longer) h))
