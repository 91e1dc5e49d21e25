-- A run has no more entries than the step limit, no event leaves it open, and while it isn't ended some thread is live; where a run goes
-- on, where it has room, and how it ends.
use Rattle.block_model.proofs.Common.{◌≡◌, ◌≢◌, refl, ◌≤◌, List, [], ◌∷◌, length, sym, arith, subst, Option, Some, None, ℕ, ◌<◌, ap, ◌∙◌, Bool, true, false, cond, Err, leb, Choice, End, Ended, Entry, Event, Full, Here, History, IsAllowedLog, IsRunHistory, Refused, Setting, choice_of, decide, decide_in, done, done_of, end_of, ended, entry_in, here_in_history, history, is_stuck, kernel, le-leb, leb-false, leb-true, lt-leb, option_or, over_at, refusal_of, unless}
use Rattle.mach_types.specs.declared.limits.End.TheVariants as over
use Rattle.block_model.specs.Deciding.{end_unless}
use Rattle.block_model.proofs.Runs.{allowed_at, choice_in, length-history, settled}
use Rattle.block_model.proofs.Addresses.{IsProper, proper_of}
use Rattle.block_model.proofs.AddressesOfCalls.{NotOpen, SomeLive}

-- a run has no more entries than the step limit
within : (s : Setting) (before : History) → IsRunHistory s before → length before ≤ s.limits.steps
within s [] run = omega arith
within s (e ∷ before) run = let room = (allowed_at s before e.entry.hart.0 (choice_of e.entry) e.entry run.1).room in omega arith

pub within_limit : (s : Setting) (log : List Entry) → IsAllowedLog s log → length log ≤ s.limits.steps
within_limit s log run = subst (λ n. n ≤ s.limits.steps) (length-history s log) (within s (history s log) run)

-- what each event of a run left
pub proper_done : (s : Setting) (before : History) (e : Entry) → IsProper (here_in_history s before e.hart.0) (done s before e)
unfolding done
proper_done s before e = proper_of (here_in_history s before e.hart.0) e.kind e

pub proper_at : (s : Setting) (e : Event) (before : History) → IsRunHistory s (e ∷ before) → IsProper (here_in_history s before e.entry.hart.0) e.done
proper_at s e before run =
    subst (λ (x : Event). IsProper (here_in_history s before e.entry.hart.0) x.done) (sym run.2) (proper_done s before e.entry)

-- what a choice does ends a process by its exit or by a signal, if it ends one
pub ends_by_process : (here : Here) (c : Choice) → NotOpen (done_of c here).ended
ends_by_process here c =
    subst (λ d. NotOpen (done_of d here).ended) (choice_in c here) (proper_of here (entry_in c here).kind (entry_in c here)).ended

-- nothing that is done leaves a run open, or ends it as one that is stuck
either_end : (o p : Option End) → NotOpen o → NotOpen p → NotOpen (option_or o p)
either_end None p first later = later
either_end (Some e) p first later = first

never_open : (s : Setting) (before : History) → IsRunHistory s before → NotOpen (ended before)
never_open s [] run = ((λ is. absurd cc), (λ is. absurd cc))
never_open s (e ∷ before) run = either_end e.done.ended (ended before) (proper_at s e before run).ended (never_open s before run.0)

pub not_open : (s : Setting) (before : History) → IsRunHistory s before → ended before ≢ Some over.Unended
not_open s before run = (never_open s before run).0

-- while the process isn't ended some thread is live
pub neither : (o p : Option End) → option_or o p ≡ None → (o ≡ None) × (p ≡ None)
neither None p is = (refl, is)
neither (Some e) p is = absurd cc

pub some_live : (s : Setting) (before : History) → IsRunHistory s before → ended before ≡ None → SomeLive (kernel s before)
some_live s [] run none = omega arith
some_live s (e ∷ before) run none =
    let p = neither e.done.ended (ended before) none in
    (proper_at s e before run).live (settled s before run.0).good.kernel (some_live s before run.0 p.1) p.0

-- a run that is still open: nothing ended it, and its log has room
pub record IsOpen (s : Setting) (before : History) : Type 0 where
  pub goes : over_at s before ≡ None
  pub room : length before < s.limits.steps

-- the end at a place
pub end_of-ended : (s : Setting) (before : History) (e : End) → over_at s before ≡ Some e → end_of s before ≡ e
unfolding end_of
end_of-ended s before e is = ap (end_unless s (length before)) is

pub end_of-limit : (s : Setting) (before : History) → over_at s before ≡ None → s.limits.steps ≤ length before → end_of s before ≡ over.Limit
unfolding end_of
end_of-limit s before goes full = ap (end_unless s (length before)) goes ∙ rw (le-leb s.limits.steps (length before) full) refl

pub end_of-open : (s : Setting) (before : History) → IsOpen s before → end_of s before ≡ over.Unended
unfolding end_of
end_of-open s before x = ap (end_unless s (length before)) x.goes ∙ rw (lt-leb s.limits.steps (length before) x.room) refl

-- what is decided where the run has ended, where the log is full, and else
pub decide-ended : (s : Setting) (before : History) (h : ℕ) (c : Choice) (e : End) → over_at s before ≡ Some e → decide s before h c ≡ Err (Ended e)
unfolding decide
decide-ended s before h c e is = ap (λ o. decide_in (length before) o c (here_in_history s before h)) is

pub decide-full : (s : Setting) (before : History) (h : ℕ) (c : Choice) → over_at s before ≡ None → s.limits.steps ≤ length before → decide s before h c ≡ Err Full
unfolding decide
decide-full s before h c goes full = ap (λ o. decide_in (length before) o c (here_in_history s before h)) goes ∙ rw (le-leb s.limits.steps (length before) full) refl

pub decide-open : (s : Setting) (before : History) (h : ℕ) (c : Choice) → IsOpen s before → h < s.limits.harts →
    decide s before h c ≡ unless (entry_in c (here_in_history s before h)) (refusal_of c (here_in_history s before h))
unfolding decide
decide-open s before h c x lt =
    ap (λ o. decide_in (length before) o c (here_in_history s before h)) x.goes
    ∙ rw (lt-leb s.limits.steps (length before) x.room, lt-leb s.limits.harts h lt) refl

-- what ended a run is not the end of a script
final_not_open : (process : Option End) (stuck : Bool) → process ≢ Some over.Unended → option_or process (cond stuck (Some over.Stuck) None) ≢ Some over.Unended
final_not_open (Some e) stuck other = other
final_not_open None true other = λ is. absurd cc
final_not_open None false other = λ is. absurd cc

pub over_not_open : (s : Setting) (before : History) → IsRunHistory s before → over_at s before ≢ Some over.Unended
over_not_open s before run = final_not_open (ended before) (is_stuck (kernel s before).threads) (not_open s before run)

-- so a run that ends as a script does is open
open_parts : (s : Setting) (before : History) (o : Option End) (full : Bool) → over_at s before ≡ o → leb s.limits.steps (length before) ≡ full → IsRunHistory s before → end_of s before ≡ over.Unended → IsOpen s before
open_parts s before (Some e) full at is run end = absurd (over_not_open s before run (at ∙ ap Some (sym (end_of-ended s before e at) ∙ end)))
open_parts s before None true at is run end = let limit = end_of-limit s before at (leb-true _ _ is) in absurd cc
open_parts s before None false at is run end = record { goes = at; room = leb-false _ _ is }

pub is_open : (s : Setting) (before : History) → IsRunHistory s before → end_of s before ≡ over.Unended → IsOpen s before
is_open s before run end = open_parts s before (over_at s before) (leb s.limits.steps (length before)) refl refl run end

-- a run that ends otherwise refuses each choice
refused_by : (s : Setting) (before : History) (h : ℕ) (c : Choice) (o : Option End) (full : Bool) → over_at s before ≡ o → leb s.limits.steps (length before) ≡ full → end_of s before ≢ over.Unended → (why : Refused) × (decide s before h c ≡ Err why)
refused_by s before h c (Some e) full at is over = (Ended e, decide-ended s before h c e at)
refused_by s before h c None true at is over = (Full, decide-full s before h c at (leb-true s.limits.steps (length before) is))
refused_by s before h c None false at is over = absurd (over (end_of-open s before (record { goes = at; room = leb-false s.limits.steps (length before) is })))

pub is_over : (s : Setting) (before : History) (h : ℕ) (c : Choice) → end_of s before ≢ over.Unended → (why : Refused) × (decide s before h c ≡ Err why)
is_over s before h c over = refused_by s before h c (over_at s before) (leb s.limits.steps (length before)) refl refl over
