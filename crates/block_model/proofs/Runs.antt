-- What an entry that is decided tells, what is good at each place of a run, and that a run that goes on is a run; what holds of the harts
-- and of the kernel's record at each place of a block run.
use Rattle.block_model.proofs.Common.{◌≡◌, ℕ, ◌<◌, refl, ap, ◌∙◌, Bool, true, false, cond, Option, Some, None, Result, Ok, Err, length, leb, ◌+◌, List, [], ◌∷◌, ◌++◌, sym, arith, subst, ◌≢◌, All, All-from_recursion, Choice, End, Entry, Event, Full, Here, History, IsAllowedLog, IsGoodHere, IsRunHistory, IsSound, NoHart, NotEnabled, Refused, Setting, Store, Why, awaits, can_be_written, choice_of, decide, decide_in, done, done_of, each_byte, entry_in, event, fold, fold-append, here_in_history, history, kernel, leb-false, on, over_at, plain_next, plain_start, refusal_of, running, unless, waiting}
use Rattle.mach_types.specs.declared.events.Choice.TheVariants as asked
use Rattle.block_model.proofs.PlainEvents.{plain_of, IsCounted, counted_next, applied}
use Rattle.block_model.proofs.AllowedHarts.{start_allowed}
use Rattle.block_model.proofs.Barriers.Requests.{awaited_start}
use Rattle.block_model.proofs.KernelTables.{tables_start, running_is, same_hart}
use Rattle.block_model.proofs.PlaceInvariant.{IsGood, IsFit, good_here, good_next}
use Rattle.block_model.proofs.EventEffects.{deed_of}
use Rattle.block_model.proofs.Invariants.EachEvent.{fit_deed}
use Rattle.block_model.specs.Layouts.{IsLaidOut}
use Rattle.block_model.proofs.Pages.{IsPaged, paged_start}

-- an entry that is decided: the run goes on, the log has room, the hart is one of the machine, no condition fails, and it is the
-- entry of its choice
pub record IsAllowed (made : ℕ) (over : Option End) (c : Choice) (here : Here) (e : Entry) : Type 0 where
  pub goes : over ≡ None
  pub room : made < here.setting.limits.steps
  pub lt : here.hart < here.setting.limits.harts
  pub free : refusal_of c here ≡ None
  pub is : e ≡ entry_in c here

past : (b : Bool) (w : Refused) (r : Result Entry Refused) (e : Entry) → cond b (Err w) r ≡ Ok e → (b ≡ false) × (r ≡ Ok e)
past true w r e h = cc
past false w r e h = (refl, h)

pub allowed : (made : ℕ) (over : Option End) (c : Choice) (here : Here) (e : Entry) → decide_in made over c here ≡ Ok e → IsAllowed made over c here e
allowed made (Some x) c here e is = cc
allowed made None c here e is =
    let p = past (leb here.setting.limits.steps made) Full _ e is in
    let q = past (leb here.setting.limits.harts here.hart) (NotEnabled NoHart) _ e p.1 in
    go (refusal_of c here) refl (leb-false here.setting.limits.steps made p.0) (leb-false here.setting.limits.harts here.hart q.0) q.1
  where
    go : (o : Option Why) → refusal_of c here ≡ o → made < here.setting.limits.steps → here.hart < here.setting.limits.harts → unless (entry_in c here) o ≡ Ok e → IsAllowed made None c here e
    go None free room lt d = record { goes = refl; room = room; lt = lt; free = free; is = cc }
    go (Some why) free room lt d = cc

pub allowed_at : (s : Setting) (before : History) (h : ℕ) (c : Choice) (e : Entry) → decide s before h c ≡ Ok e → IsAllowed (length before) (over_at s before) c (here_in_history s before h) e
unfolding decide
allowed_at s before h c e is = allowed (length before) (over_at s before) c (here_in_history s before h) e is

-- the entry of a choice answers it
pub choice_in : (c : Choice) (here : Here) → choice_of (entry_in c here) ≡ c
choice_in (asked.Run t) here = refl
choice_in c here = refl

-- what is decided is of the hart and the choice that were asked
pub decided_is : (s : Setting) (before : History) (h : ℕ) (c : Choice) (e : Entry) → decide s before h c ≡ Ok e → (e.hart.0 ≡ h) × (choice_of e ≡ c)
decided_is s before h c e d =
    let a = allowed_at s before h c e d in
    (ap (λ (x : Entry). x.hart.0) a.is, ap choice_of a.is ∙ choice_in c (here_in_history s before h))

-- an event that isn't refused is fit
pub good_of : (c : Choice) (here : Here) → IsGoodHere here → refusal_of c here ≡ None → IsFit here (done_of c here)
good_of c here good free =
    let x = entry_in c here in
    let same : choice_of x ≡ c = choice_in c here in
    subst (λ o. IsFit here (done_of o here)) same
    (fit_deed here x (deed_of here x.kind x) good (ap (λ o. refusal_of o here) same ∙ free))

-- the machine when it starts
good_start : (s : Setting) → IsGood s (plain_start s)
good_start s = record {
  within = λ h. tt;
  few = λ h. omega arith;
  idle = λ h none. refl;
  given = omega arith;
  busy = λ h left waits. absurd cc;
  empty = λ h left waits. refl;
  awaited = awaited_start s.limits.harts;
  restart = λ k is. absurd cc;
  kernel = record { tables = tables_start s.limits.harts; allowed = start_allowed s.limits.harts; console = omega arith };
}

-- one more entry is one more event
pub history-append : (s : Setting) (log : List Entry) (entry : Entry) → history s (log ++ entry ∷ []) ≡ event s (history s log) entry ∷ history s log
unfolding history
history-append s log entry = fold-append (λ before e. event s before e ∷ before) [] log (entry ∷ [])

-- an empty log has no event
pub history-nil : (s : Setting) → history s [] ≡ []
unfolding history
history-nil s = refl

folded_length : (s : Setting) (log : List Entry) (before : History) → length (fold (λ b e. event s b e ∷ b) before log) ≡ length before + length log
folded_length s [] before = omega arith
folded_length s (e ∷ log) before = folded_length s log (event s before e ∷ before) ∙ omega arith

-- as many events as entries
pub length-history : (s : Setting) (log : List Entry) → length (history s log) ≡ length log
unfolding history
length-history s log = folded_length s log [] ∙ omega arith

-- one entry of the log
pub applied_entry : (s : Setting) (before : History) (entry : Entry) → IsCounted before → plain_next s (plain_of s before) entry ≡ plain_of s (event s before entry ∷ before)
unfolding done
applied_entry s before entry few = applied s before (event s before entry) few

-- what holds at each place of a run
pub record IsSettled (s : Setting) (before : History) : Type 0 where
  pub counted : IsCounted before
  pub good : IsGood s (plain_of s before)

-- what an allowed event does is fit
fit_entry : (s : Setting) (before : History) (e : Entry) → IsSettled s before → decide s before e.hart.0 (choice_of e) ≡ Ok e → IsFit (here_in_history s before e.hart.0) (done s before e)
unfolding done
fit_entry s before e was is =
    let a = allowed_at s before e.hart.0 (choice_of e) e is in
    good_of (choice_of e) (here_in_history s before e.hart.0) (good_here s (plain_of s before) e.hart.0 a.lt was.good) a.free

settled_next : (s : Setting) (before : History) (e : Event) → IsSettled s before → IsFit (here_in_history s before e.entry.hart.0) e.done → IsSettled s (e ∷ before)
settled_next s before e was fit = record {
  counted = counted_next before e was.counted fit.drained;
  good = subst (IsGood s) (applied s before e was.counted) (good_next s (plain_of s before) e.entry.hart.0 e.done was.good fit);
}

pub settled : (s : Setting) (before : History) → IsRunHistory s before → IsSettled s before
settled s [] run = record { counted = λ h. omega arith; good = good_start s }
settled s (e ∷ before) run =
    let was = settled s before run.0 in
    settled_next s before e was (subst (λ (x : Event). IsFit (here_in_history s before e.entry.hart.0) x.done) (sym run.2) (fit_entry s before e.entry was run.1))

-- what each event of a run did was fit
pub fit_at : (s : Setting) (e : Event) (before : History) → IsRunHistory s (e ∷ before) → IsFit (here_in_history s before e.entry.hart.0) e.done
fit_at s e before run = subst (λ (x : Event). IsFit (here_in_history s before e.entry.hart.0) x.done) (sym run.2) (fit_entry s before e.entry (settled s before run.0) run.1)

-- a run that goes on is a run
pub IsAllowedLog-append : (s : Setting) (log : List Entry) (h : ℕ) (c : Choice) (e : Entry) → IsAllowedLog s log → decide s (history s log) h c ≡ Ok e → IsAllowedLog s (log ++ e ∷ [])
IsAllowedLog-append s log h c e run d =
    let p = decided_is s (history s log) h c e d in
    let again : decide s (history s log) e.hart.0 (choice_of e) ≡ Ok e = ap (λ k. decide s (history s log) k (choice_of e)) p.0 ∙ ap (decide s (history s log) h) p.1 ∙ d in
    rw history-append (run, again, refl)

pub IsAllowedLog-nil : (s : Setting) → IsAllowedLog s []
unfolding history
IsAllowedLog-nil s = tt

-- what a run goes on from is a run
pub run_before : (s : Setting) (rest : List Entry) (before : History) → IsRunHistory s (fold (λ b e. event s b e ∷ b) before rest) → IsRunHistory s before
run_before s [] before run = run
run_before s (e ∷ rest) before run = (run_before s rest (event s before e ∷ before) run).0

-- harts
pub one_hart : (s : Setting) (log : List Entry) (h k t : ℕ) → IsAllowedLog s log → running s h (history s log) ≡ Some t → running s k (history s log) ≡ Some t → h ≡ k
one_hart s log h k t run here there =
    let record_at = kernel s (history s log) in
    let tables = (settled s (history s log) run).good.kernel.tables in
    let states : Some (on h) ≡ Some (on k) =
    sym (running_is s.limits.harts h t record_at.threads record_at.scheduling tables here) ∙ running_is s.limits.harts k t record_at.threads record_at.scheduling tables there in
    let same : on h ≡ on k = cc in
    same_hart h k same

pub writable_stores : (s : Setting) (log : List Entry) (h : ℕ) → IsAllowedLog s log → All (λ (w : Store). each_byte (can_be_written s (history s log)) w.at w.size ≡ true) (waiting h (history s log))
writable_stores s log h run =
    All-from_recursion (λ (w : Store). each_byte (can_be_written s (history s log)) w.at w.size ≡ true) (waiting h (history s log)) ((settled s (history s log) run).good.within h)

-- barriers: a thread that waits in one runs, and no store waits on its hart
pub waiter_runs : (s : Setting) (before : History) (h left : ℕ) → IsRunHistory s before → awaits h before ≡ Some left → running s h before ≢ None
waiter_runs s before h left run waits = (settled s before run).good.busy h left waits

pub waiter_stores : (s : Setting) (before : History) (h left : ℕ) → IsRunHistory s before → awaits h before ≡ Some left → waiting h before ≡ []
waiter_stores s before h left run waits = (settled s before run).good.empty h left waits

-- the kernel's record
pub sound_record : (s : Setting) (log : List Entry) → IsAllowedLog s log → IsSound s (kernel s (history s log))
sound_record s log run = (settled s (history s log) run).good.kernel

-- the pages
paged_at : (s : Setting) (before : History) → IsLaidOut s.program → IsRunHistory s before → IsPaged s (kernel s before).pages
paged_at s [] laid run = paged_start s laid
paged_at s (e ∷ before) laid run = (fit_at s e before run).paged (paged_at s before laid run.0)

pub paged_pages : (s : Setting) (log : List Entry) → IsLaidOut s.program → IsAllowedLog s log → IsPaged s (kernel s (history s log)).pages
paged_pages s log laid run = paged_at s (history s log) laid run
