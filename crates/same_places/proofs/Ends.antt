-- The places of a closed family are those that runs come to.
use Rattle.std.proofs.Common.{◌≡◌, ℕ, ◌+◌, ◌<◌, ◌≤◌, List, [], ◌∷◌, ◌++◌, length, Some, None, Ok, fold, All, refl, sym, ap, ◌∙◌, subst, arith, append-nil, append_assoc}
use Rattle.std.proofs.lemmas.List.Elements.{All-contains}
use Rattle.mach_types.specs.Events.{choice_of}
use Rattle.mach_types.specs.Kernel.Threads.{Threads}
use Rattle.mach_types.specs.declared.events.Choice.{Choice}
use Rattle.mach_types.specs.declared.events.Entry.{Entry}
use Rattle.mach_types.specs.declared.limits.End.{End}
use Rattle.block_model.specs.Deciding.{entry_in, event, over_at}
use Rattle.block_model.specs.Events.{done_of, refusal_of}
use Rattle.block_model.specs.Here.{Done}
use Rattle.block_model.specs.History.{console}
use Rattle.block_model.specs.Plain.{Plain, apply, here_in_plain, here_of, plain_next, plain_over, plain_seen, plain_start}
use Rattle.block_model.specs.Run.{IsBlockRun, IsRunHistory}
use Rattle.block_model.specs.Setting.{Seen, Setting, with_steps}
use Rattle.block_model.specs.Standing.{IsStanding}
use Rattle.block_model.proofs.Laws.{history-append, next_event, plain_made, run_before, same_state, stand_fit, stand_next, standing, start_plain, start_run}
unfoldable use Rattle.block_model.specs.Deciding.{history}
unfoldable use Rattle.block_model.specs.Plain.{plain_after}
use Rattle.same_places.specs.Closed.{HasOutcome, IsClosed, IsRunEnding, IsVisited, after_logs}
use Rattle.same_places.specs.FreeRuns.{IsFreeFrom, IsFreeRun, free_decide}
use Rattle.same_places.specs.Places.{IsSamePlace, alone, plain_after_choice, rested}
use Rattle.same_places.proofs.Carried.{free_answer}
use Rattle.same_places.proofs.FreeSteps.{allowed}
use Rattle.same_places.proofs.Transfers.{recounted, same_recounted, same_same}

-- counts of a place don't matter for the place after an event
pub same_applied : (s : Setting) (x q k : Plain) (h : ℕ) (d : Done) → IsSamePlace s x (apply h d (recounted k q)) → IsSamePlace s x (apply h d q)
same_applied s x q k h d same = record {
  harts = same.harts;
  files = same.files;
  pages = record { permissions = same.pages.permissions; bytes = same.pages.bytes; free = same.pages.free; break_at = same.pages.break_at };
  tables = same.tables;
  over = same.over;
}

-- the place after an event of one that is visited is visited
step_visited : (s : Setting) (n : ℕ) (P : Plain → Type 0) (q k : Plain) (h : ℕ) (c : Choice) → IsClosed s P → IsVisited s P q → IsStanding (alone (with_steps n s) (recounted k q)) → k.made < n → n ≤ 1000000
    → plain_over q ≡ None → h < s.limits.harts → refusal_of c (here_in_plain (with_steps n s) q h) ≡ None → IsVisited s P (plain_after_choice (with_steps n s) q h c)
step_visited s n P q k h c closed at stands room high goes lt free =
    let same = same_recounted s at.place q k at.same in
    let going : plain_over at.place ≡ None = sym at.same.over ∙ goes in
    let carried = closed.carried at.place h c at.member going lt in
    let may = free_answer (entry_in c (here_in_plain (with_steps n s) q h)) (entry_in c (here_in_plain s at.place h)) (refusal_of c (here_in_plain (with_steps n s) q h)) (refusal_of c (here_in_plain s at.place h))
    (carried.answer n (recounted k q) stands room high same) free in
    let next = closed.next at.place h c at.member going lt may in
    let after = same_applied s (plain_after_choice s at.place h c) q k h (done_of c (here_in_plain (with_steps n s) q h)) (carried.after n (recounted k q) stands room high same may) in
    record {
      place = next.place;
      member = next.member;
      same = same_same s next.place (plain_after_choice s at.place h c) (plain_after_choice (with_steps n s) q h c) next.same after;
    }

-- RUNS WITHOUT A LIMIT

pub record IsThere (s : Setting) (P : Plain → Type 0) (q : Plain) : Type 0 where
  pub stands : IsStanding (alone s q)
  pub visited : IsVisited s P q

start_there : (s : Setting) (P : Plain → Type 0) → IsClosed s P → IsThere s P (plain_start s)
start_there s P closed =
    let v : Seen = record { setting = s; seed = 0; log = [] } in
    record { stands = subst (λ (p : Plain). IsStanding (alone s p)) (start_plain s) (standing v (start_run s)); visited = closed.start }

-- it stands there too with the counts of the place that was visited, and those of no hart
stands_there : (s : Setting) (p q : Plain) → IsSamePlace s p q → IsStanding (alone s p) → IsStanding (alone s q) → IsStanding (alone s (recounted (rested p) q))
stands_there s p q same its stands = record {
  good = stands.good;
  sound = stands.sound;
  held = stands.held;
  events = λ h. omega arith;
  ran = λ h. omega arith;
  given = subst (λ (ts : Threads). ts.given ≤ p.made + 1) (sym same.tables.threads) its.given;
}

step_there : (s : Setting) (P : Plain → Type 0) (q : Plain) (e : Entry) → IsClosed s P → IsThere s P q → free_decide s q e.hart.0 (choice_of e) ≡ Ok e → IsThere s P (plain_next s q e)
step_there s P q e closed there is =
    let h = e.hart.0 in
    let c = choice_of e in
    let a = allowed 0 (plain_over q) c (here_in_plain s q h) e is in
    let at = there.visited in
    let going : plain_over at.place ≡ None = sym at.same.over ∙ a.goes in
    let d = done_of c (here_in_plain s q h) in
    record {
      stands = stand_next (alone s q) h d None (λ can. refl) a.lt there.stands (stand_fit (alone s q) h c there.stands a.lt a.free) d.entered;
      visited = step_visited s s.limits.steps P q (rested at.place) h c closed at (stands_there s at.place q at.same (closed.stands at.place at.member) there.stands)
          (closed.room at.place at.member going) closed.steps a.goes a.lt a.free;
    }

run_there : (s : Setting) (P : Plain → Type 0) (log : List Entry) (q : Plain) → IsClosed s P → IsThere s P q → IsFreeFrom s q log → IsThere s P (fold (plain_next s) q log)
run_there s P [] q closed there free = there
run_there s P (e ∷ log) q closed there free = run_there s P log (plain_next s q e) closed (step_there s P q e closed there free.0) free.1

outcome_at : (s : Setting) (P : Plain → Type 0) (q : Plain) (e : End) → IsVisited s P q → plain_over q ≡ Some e → HasOutcome P e q.kernel.console
outcome_at s P q e at over = record { place = at.place; member = at.member; over = sym at.same.over ∙ over; console_is = sym at.same.tables.console }

pub free_outcome : (s : Setting) (P : Plain → Type 0) (log : List Entry) (e : End) → IsClosed s P → IsFreeRun s log → plain_over (plain_after s log) ≡ Some e → HasOutcome P e (plain_after s log).kernel.console
unfolding plain_after
free_outcome s P log e closed free over = outcome_at s P (plain_after s log) e (run_there s P log (plain_start s) closed (start_there s P closed) free).visited over

-- RUNS UNDER A LIMIT

run_visited : (s : Setting) (n : ℕ) (P : Plain → Type 0) (rest log : List Entry) → IsClosed s P → n ≤ 1000000 → IsBlockRun (with_steps n s) (log ++ rest) → IsVisited s P (plain_after (with_steps n s) log)
    → IsVisited s P (plain_after (with_steps n s) (log ++ rest))
run_visited s n P [] log closed high run at = rw append-nil at
run_visited s n P (e ∷ rest) log closed high run at =
    let t = with_steps n s in
    let v : Seen = record { setting = t; seed = 0; log = log } in
    let joined : (log ++ e ∷ []) ++ rest ≡ log ++ e ∷ rest = append_assoc log (e ∷ []) rest in
    let whole : IsBlockRun t ((log ++ e ∷ []) ++ rest) = subst (λ (l : List Entry). IsBlockRun t l) (sym joined) run in
    let longer : IsBlockRun t (log ++ e ∷ []) = run_before t (log ++ e ∷ []) rest whole in
    let before : IsBlockRun t log = run_before t log (e ∷ []) longer in
    let last : IsRunHistory t (event t (history t log) e ∷ history t log) = subst (IsRunHistory t) (history-append t log e) longer.allowed in
    let next = next_event v e (done_of (choice_of e) (here_of v e.hart.0)) before last.1 refl in
    let made : (plain_seen v).made ≡ length log = plain_made v before in
    let room : length log < n = next.room in
    let there : IsVisited s P (plain_after_choice t (plain_after t log) e.hart.0 (choice_of e)) = step_visited s n P (plain_after t log) (plain_after t log) e.hart.0 (choice_of e) closed at (standing v before)
    (omega arith) high next.goes next.lt next.free in
    subst (λ (l : List Entry). IsVisited s P (plain_after t l)) joined
    (run_visited s n P rest (log ++ e ∷ []) closed high whole (subst (IsVisited s P) (sym next.next) there))

pub block_outcome : (s : Setting) (n : ℕ) (P : Plain → Type 0) (log : List Entry) (e : End) → IsClosed s P → n ≤ 1000000 → IsBlockRun (with_steps n s) log → over_at (with_steps n s) (history (with_steps n s) log) ≡ Some e
    → HasOutcome P e (console (with_steps n s) (history (with_steps n s) log))
block_outcome s n P log e closed high run over =
    let t = with_steps n s in
    let v : Seen = record { setting = t; seed = 0; log = log } in
    let same = same_state v run in
    let start : IsVisited s P (plain_after t []) = subst (IsVisited s P) (sym (start_plain t)) closed.start in
    let out = outcome_at s P (plain_after t log) e (run_visited s n P log [] closed high run start) (ap plain_over same ∙ over) in
    record { place = out.place; member = out.member; over = out.over; console_is = out.console_is ∙ ap (λ (p : Plain). p.kernel.console) same }

pub sound_outcome : (s : Setting) (logs : List (List Entry)) (e : End) (out : List ℕ) → All (IsBlockRun s) logs → HasOutcome (after_logs s logs) e out → (log : List Entry) × IsRunEnding s e out log
sound_outcome s logs e out runs has =
    let log = has.member.0 in
    let is = has.member.2 in
    (log, record { run = All-contains (IsBlockRun s) logs log runs has.member.1; over = ap plain_over is ∙ has.over; console_is = ap (λ (p : Plain). p.kernel.console) is ∙ has.console_is })
