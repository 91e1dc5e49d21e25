-- Calls whose threads go on: an answer, with bytes printed, or with writes; what a call comes to that answers, is refused or ends the
-- process; and calls by which a thread leaves its hart.
use Rattle.sys_calls.proofs.Common.{cases_eq, ne_eqb, eq-eqb, ◌≡◌, ℕ, Bool, true, false, cond, List, [], ◌∷◌, ◌++◌, length, Some, None, Result, Err, refl, sym, ap, subst, ◌∙◌, CallEnd, Errno, Here, HoldsTables, IsRemapped, IsTables, Kernel, Map, Ready, Saved, Write, file_among, on, register, with_ready, without_id, Threads, running_on, runs, state_of, with_state, Table, saved_of, left, CallDone, refused, returned, said, wrote, running_is, state_now, AreTables, IsAnswered, IsCaller, IsEntered, AreSaved, HasPages, IsAnswer, IsMade, StandsSo, barrier_of, gives_up, process_end, inl, inr, pos, forget, with_saved, printed, negative, left_idle}
use Rattle.mach_types.specs.declared.limits.End.{End}
use Rattle.kernel_threads.proofs.Laws.{saved_of-forget_other, saved_of-forget_same, is_kept, saved_of_others}
use Rattle.block_model.specs.Record as record_of
use Rattle.sys_calls.specs.declared.calling.CallEnd.TheVariants as over
use Rattle.sys_calls.specs.Answered.{answer_of}
use Rattle.sys_calls.proofs.KernelWrites.{entered_none, pages_entered, pages_kept}
use Rattle.sys_calls.proofs.Laws.{holds_console, holds_past_pages, holds_left}
use Rattle.sys_calls.proofs.CallerTables.{caller_runs, runs_there}

-- what is kept of threads depends on what is saved alone
pub saved_alike : (file : ℕ → Saved) (before after : Table) → after.saved ≡ before.saved → AreSaved file before → AreSaved file after
saved_alike file before after same all u x at = all u x (ap (saved_of u) (sym same) ∙ at)

-- a call whose thread goes on: its answer, its writes, a record, and the files of other threads
pub answered_with : (h : Here) (t : ℕ) (k k' : Kernel) (m m' : Map) (ws written : List Write) (answer : Result ℕ Errno) (r : record_of.Kernel)
    (others : List (ℕ × Saved)) → HoldsTables k' r → r.ids ≡ h.kernel.ids → r.pages ≡ h.kernel.pages
    → running_on h.hart r.threads ≡ running_on h.hart h.kernel.threads → IsEntered m m' ws → written ≡ ws
    → (AreSaved h.file k.threads → AreSaved (λ u. file_among others u (h.file u)) k'.threads)
    → (saved_of t k.threads.saved ≡ None → saved_of t k'.threads.saved ≡ None)
    → IsAnswered h t k m k' m' written answer
    (record { files = (t, returned (answer_of answer) (h.file t)) ∷ others; entered = ws; kernel = r; barrier = None; ended = None })
answered_with h t k k' m m' ws written answer r others held ids pages hart entered writes kept quiet = record {
  tables = held;
  ids = ids;
  pages = pages_kept h m m' (record { files = []; entered = ws; kernel = r; barrier = None; ended = None }) entered pages;
  code = entered.code;
  told = writes;
  hart = hart;
  at_once = refl;
  goes_on = refl;
  others = others;
  files = refl;
  kept = kept;
  quiet = quiet;
}

-- one that leaves the other threads as they are
pub answered_changed : (h : Here) (t : ℕ) (k k' : Kernel) (m m' : Map) (ws written : List Write) (answer : Result ℕ Errno) (r : record_of.Kernel)
    → HoldsTables k' r → r.ids ≡ h.kernel.ids → r.pages ≡ h.kernel.pages
    → running_on h.hart r.threads ≡ running_on h.hart h.kernel.threads → IsEntered m m' ws → written ≡ ws
    → k'.threads.saved ≡ k.threads.saved
    → IsAnswered h t k m k' m' written answer (record (said h t (answer_of answer)) { entered = ws; kernel = r })
answered_changed h t k k' m m' ws written answer r held ids pages hart entered writes same =
    answered_with h t k k' m m' ws written answer r [] held ids pages hart entered writes
    (saved_alike h.file k.threads k'.threads same) (λ q. ap (saved_of t) same ∙ q)

-- an answer, and writes
pub answered_wrote : (h : Here) (t : ℕ) (k : Kernel) (m m' : Map) (answer : Result ℕ Errno) (ws : List Write) → HoldsTables k h.kernel → IsEntered m m' ws
    → IsAnswered h t k m k m' ws answer (record (said h t (answer_of answer)) { entered = ws })
answered_wrote h t k m m' answer ws told entered =
    answered_changed h t k k m m' ws ws answer h.kernel told refl refl refl entered refl refl

-- an answer, and nothing else
pub answered_said : (h : Here) (t : ℕ) (k : Kernel) (m : Map) (answer : Result ℕ Errno) (c : CallDone) → HoldsTables k h.kernel → c ≡ said h t (answer_of answer)
    → IsAnswered h t k m k m [] answer c
answered_said h t k m answer c told is =
    subst (IsAnswered h t k m k m [] answer) (sym is) (answered_wrote h t k m m answer [] told (entered_none m))

-- an answer, and bytes on the console
pub answered_printed : (h : Here) (t : ℕ) (k : Kernel) (console : List ℕ) (m : Map) (answer : Result ℕ Errno) (bytes : List ℕ)
    (c : CallDone) → HoldsTables k h.kernel → console ≡ k.console ++ bytes → answer_of answer ≡ length bytes → c ≡ wrote h t bytes
    → IsAnswered h t k m (record k { console = console }) m [] answer c
answered_printed h t k console m answer bytes c told now count is =
    subst (IsAnswered h t k m (record k { console = console }) m [] answer)
    (ap (λ n. record (said h t n) { kernel = printed bytes h.kernel }) count ∙ sym is)
    (answered_changed h t k (record k { console = console }) m m [] [] answer (printed bytes h.kernel)
    (holds_console told console (h.kernel.console ++ bytes) (now ∙ ap (λ (x : List ℕ). x ++ bytes) told.console))
    refl refl refl (entered_none m) refl refl)

-- a call that changes pages answers, and changes nothing else of the tables
pub answered_remapped : (h : Here) (t : ℕ) (k : Kernel) (m m' : Map) (written : List Write) (answer : Result ℕ Errno) (c : CallDone) → HoldsTables k h.kernel → IsRemapped h t m m' written answer c
    → IsAnswered h t k m k m' written answer c
answered_remapped h t k m m' written answer c told done = record {
  tables = subst (HoldsTables k) (sym done.kernel) (holds_past_pages told c.kernel.pages);
  ids = ap (λ (r : record_of.Kernel). r.ids) done.kernel;
  pages = λ has. done.pages;
  code = done.code;
  told = done.told;
  hart = ap (λ (r : record_of.Kernel). running_on h.hart r.threads) done.kernel;
  at_once = done.at_once;
  goes_on = done.goes_on;
  others = [];
  files = done.files;
  kept = λ all. all;
  quiet = λ q. q;
}

-- nothing is kept of the caller, whose file comes first
pub kept_own : (t : ℕ) (x : Saved) (file : ℕ → Saved) (others : List (ℕ × Saved)) (table : Table) → saved_of t table.saved ≡ None
    → AreSaved (λ u. file_among others u (file u)) table → AreSaved (λ u. file_among ((t, x) ∷ others) u (file u)) table
kept_own t x file others table quiet all u y at = elim (cases_eq t u) [
  | inl same ↦ let no : Some y ≡ None = sym at ∙ ap (λ n. saved_of n table.saved) (sym same) ∙ quiet in cc
  | inr ne ↦ rw (ne_eqb t u ne) (all u y at)
]

pub own_first : (t : ℕ) (x f : Saved) (others : List (ℕ × Saved)) → file_among ((t, x) ∷ others) t f ≡ x
own_first t x f others = rw (eq-eqb t t refl) refl

-- the caller of a call that answers runs on
pub answered_runs : (h : Here) (t here : ℕ) (k k' : Kernel) (m m' : Map) (written : List Write) (answer : Result ℕ Errno) (c : CallDone) → h.hart ≡ here → HoldsTables k h.kernel → IsCaller k here t
    → IsAnswered h t k m k' m' written answer c → AreTables k' → runs c.kernel.threads t
answered_runs h t here k k' m m' written answer c hart told caller done tables =
    let holds = subst (λ (ts : Threads). IsTables tables.0 ts k'.ready) done.tables.threads tables.1 in
    let there : running_on here c.kernel.threads ≡ Some t =
    ap (λ n. running_on n c.kernel.threads) (sym hart) ∙ done.hart ∙ ap (λ n. running_on n h.kernel.threads) hart ∙ ap (running_on here) (sym told.threads) ∙ caller.runs in
    (record { 0 = here }, running_is tables.0 here t c.kernel.threads k'.ready holds there)

-- what a call comes to that answers
pub made_answered : (h : Here) (t here : ℕ) (k k' : Kernel) (m m' : Map) (saved saved' : Saved) (written : List Write) (answer : Result ℕ Errno) (end : CallEnd) (c : CallDone)
    → h.hart ≡ here → HoldsTables k h.kernel → HasPages h m → saved ≡ h.file t → IsCaller k here t → IsAnswered h t k m k' m' written answer c → AreTables k'
    → saved' ≡ returned (answer_of answer) saved → gives_up end ≡ false → ((u : ℕ) (ts : Threads) → runs ts u → StandsSo end u ts) → barrier_of end ≡ None → process_end end ≡ None → IsAnswer end saved' → IsMade h t k m k' m' saved' end c
made_answered h t here k k' m m' saved saved' written answer end c hart told has file caller done tables after stays runs_on in_none ends answers =
    let own : List (ℕ × Saved) = (t, returned (answer_of answer) (h.file t)) ∷ done.others in
    let files : c.files ≡ own = done.files in
    record {
      tables = done.tables;
      ids = done.ids ∙ ap (λ (b : Bool). cond b (without_id t h.kernel.ids) h.kernel.ids) (sym stays);
      kept = λ all. subst (λ (fs : List (ℕ × Saved)). AreSaved (λ u. file_among fs u (h.file u)) k'.threads) (sym files)
          (kept_own t (returned (answer_of answer) (h.file t)) h.file done.others k'.threads (done.quiet caller.quiet) (done.kept all));
      own = after ∙ ap (returned (answer_of answer)) file ∙ sym (own_first t (returned (answer_of answer) (h.file t)) (h.file t) done.others)
          ∙ ap (λ (fs : List (ℕ × Saved)). file_among fs t (h.file t)) (sym files);
      pages = done.pages has;
      code = done.code;
      hart = done.hart ∙ ap (λ n. running_on n h.kernel.threads) hart ∙ ap (running_on here) (sym told.threads) ∙ caller.runs
          ∙ ap (λ (b : Bool). cond b None (Some t)) (sym stays);
      stands = runs_on t c.kernel.threads (answered_runs h t here k k' m m' written answer c hart told caller done tables);
      barrier = in_none ∙ sym done.at_once;
      ended = ends ∙ sym done.goes_on;
      answer = answers;
    }

-- a call that is refused
pub made_refused : (h : Here) (t here : ℕ) (k : Kernel) (m : Map) (saved saved' : Saved) (e : Errno) (end : CallEnd) (c : CallDone) → h.hart ≡ here
    → HoldsTables k h.kernel → HasPages h m → saved ≡ h.file t → IsCaller k here t → c ≡ refused h t e → saved' ≡ returned (negative e.0) saved
    → gives_up end ≡ false → ((u : ℕ) (ts : Threads) → runs ts u → StandsSo end u ts) → barrier_of end ≡ None → process_end end ≡ None
    → IsAnswer end saved' → IsMade h t k m k m saved' end c
made_refused h t here k m saved saved' e end c hart told has file caller is =
    made_answered h t here k k m m saved saved' [] (Err e) end c hart told has file caller (answered_said h t k m (Err e) c told is) caller.tables

-- a call that ends the process
pub made_ended : (h : Here) (t here : ℕ) (k : Kernel) (m m' : Map) (saved : Saved) (written ws : List Write) (e e' : End) → h.hart ≡ here
    → HoldsTables k h.kernel → saved ≡ h.file t → IsCaller k here t → HasPages h m → IsEntered m m' written → written ≡ ws → e ≡ e'
    → IsMade h t k m k m' saved (over.ProcessEnd e) (record { files = []; entered = ws; kernel = h.kernel; barrier = None; ended = Some e' })
made_ended h t here k m m' saved written ws e e' hart told file caller has entered writes end = record {
  tables = told;
  ids = refl;
  kept = λ all. all;
  own = file;
  pages = pages_entered h m m' ws (subst (IsEntered m m') writes entered) has;
  code = entered.code;
  hart = ap (λ n. running_on n h.kernel.threads) hart ∙ ap (running_on here) (sym told.threads) ∙ caller.runs;
  stands = subst (λ (ts : Threads). runs ts t) told.threads (caller_runs k here t caller);
  barrier = refl;
  ended = ap Some end;
  answer = tt;
}

-- what is kept of the others, once one is gone
pub kept_gone : (t : ℕ) (file : ℕ → Saved) (before after : Table) → after.saved ≡ forget t before.saved → AreSaved file before → AreSaved file after
kept_gone t file before after is all u x at =
    let there : saved_of u (forget t before.saved) ≡ Some x = ap (saved_of u) (sym is) ∙ at in
    elim (cases_eq u t) [
      | inl same ↦ let no : Some x ≡ None = sym there ∙ ap (λ n. saved_of n (forget t before.saved)) same ∙ saved_of-forget_same t before.saved in cc
      | inr ne ↦ all u x (sym (saved_of-forget_other t u ne before.saved) ∙ there)
    ]

-- what is kept of a thread that left is its file
pub kept_left : (t : ℕ) (x : Saved) (file : ℕ → Saved) (before after : Table) → after.saved ≡ with_saved t (Some x) before.saved
    → AreSaved file before → AreSaved (λ u. file_among ((t, x) ∷ []) u (file u)) after
kept_left t x file before after is all u y at =
    let there : saved_of u (with_saved t (Some x) before.saved) ≡ Some y = ap (saved_of u) (sym is) ∙ at in
    elim (cases_eq t u) [
      | inl same ↦ rw (eq-eqb t u same) (is_kept t x y before.saved (ap (λ n. saved_of n (with_saved t (Some x) before.saved)) same ∙ there))
      | inr ne ↦ rw (ne_eqb t u ne) (all u y (sym (saved_of_others t u (λ e. ne (sym e)) (Some x) before.saved) ∙ there))
    ]

-- a call whose thread gave up its hart with the answer 0, and which changed the record so, but not its pages
pub made_gone : (h : Here) (t here : ℕ) (k k' : Kernel) (m : Map) (saved' : Saved) (end : CallEnd) (after : record_of.Kernel) → h.hart ≡ here → HasPages h m → after.pages ≡ h.kernel.pages
    → HoldsTables k' after → after.ids ≡ without_id t h.kernel.ids → k'.threads.saved ≡ with_saved t (Some saved') k.threads.saved
    → saved' ≡ returned 0 (h.file t) → running_on here after.threads ≡ None → gives_up end ≡ true → StandsSo end t after.threads → barrier_of end ≡ None → process_end end ≡ None → IsAnswer end saved'
    → IsMade h t k m k' m saved' end (record (said h t 0) { kernel = after })
made_gone h t here k k' m saved' end after hart has same_pages held ids kept file idle gives stands in_none ends answers =
    record {
      tables = held;
      ids = ids ∙ ap (λ (b : Bool). cond b (without_id t h.kernel.ids) h.kernel.ids) (sym gives);
      kept = λ all. kept_left t (returned 0 (h.file t)) h.file k.threads k'.threads (kept ∙ ap (λ (x : Saved). with_saved t (Some x) k.threads.saved) file) all;
      own = file ∙ sym (own_first t (returned 0 (h.file t)) (h.file t) []);
      pages = pages_kept h m m (record (said h t 0) { kernel = after }) (entered_none m) same_pages has;
      code = λ a. refl;
      hart = ap (λ n. running_on n after.threads) hart ∙ idle ∙ ap (λ (b : Bool). cond b None (Some t)) (sym gives);
      stands = stands;
      barrier = in_none;
      ended = ends;
      answer = answers;
    }

-- a thread left its hart, and is ready; before, the record was this one
pub made_left : (h : Here) (t here : ℕ) (k k1 k' : Kernel) (m : Map) (saved saved' : Saved) (end : CallEnd) (before : record_of.Kernel) → h.hart ≡ here → HasPages h m → before.pages ≡ h.kernel.pages
    → HoldsTables k1 before → before.ids ≡ h.kernel.ids → saved ≡ h.file t → k1.threads.saved ≡ k.threads.saved → IsCaller k1 here t
    → saved' ≡ returned 0 saved → k'.threads.threads ≡ with_state t Ready k1.threads.threads → k'.threads.saved ≡ with_saved t (Some saved') k1.threads.saved
    → k'.ready ≡ with_ready t k1.ready → k' ≡ record k1 { threads = k'.threads; ready = k'.ready } → end ≡ over.Leave (pos 0) → register saved'.file 10 ≡ 0
    → IsMade h t k m k' m saved' end (record (said h t 0) { kernel = left t before })
made_left h t here k k1 k' m saved saved' end before hart has same_pages held ids file same caller after threads' saved'is ready' others is a0 =
    let ready_now = ap (λ (ts : Threads). state_of t (with_state t Ready ts)) (sym held.threads) ∙ state_now t Ready (on here) k1.threads.threads (runs_there k1 here t caller) in
    let idle = left_idle caller.tables.0 here t k1.threads.threads k1.ready caller.tables.1 caller.runs in
    made_gone h t here k k' m saved' end (left t before) hart has same_pages
    (subst (λ (x : Kernel). HoldsTables x (left t before)) (sym others) (holds_left held t k'.threads k'.ready threads' ready')) (ap (without_id t) ids)
    (saved'is ∙ ap (with_saved t (Some saved')) same) (after ∙ ap (returned 0) file)
    (ap (λ (ts : Threads). running_on here (with_state t Ready ts)) (sym held.threads) ∙ idle)
    (ap gives_up is) (subst (λ (e : CallEnd). StandsSo e t (left t before).threads) (sym is) ready_now) (ap barrier_of is) (ap process_end is) (subst (λ (e : CallEnd). IsAnswer e saved') (sym is) (sym a0))
