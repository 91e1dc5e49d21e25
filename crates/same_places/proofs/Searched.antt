-- What a search found makes its places closed.
use Rattle.std.proofs.Common.{◌≡◌, ℕ, ◌<◌, Bool, true, false, List, [], length, Option, Some, None, Err, Contains, refl, sym, ap, ◌∙◌, subst, arith, inl, inr, ◌⊎◌}
use Rattle.std.proofs.lemmas.List.Elements.{All-contains}
use Rattle.mach_types.specs.declared.events.Choice.{Choice}
use Rattle.mach_types.specs.declared.events.Choice.TheVariants as asked
use Rattle.mach_types.specs.declared.events.Entry.{Entry}
use Rattle.mach_types.specs.declared.events.Tid.{Tid}
use Rattle.mach_types.specs.declared.events.Why.{Why}
use Rattle.mach_types.specs.declared.events.Why.TheVariants.{Busy, NotReady}
use Rattle.mach_types.specs.Kernel.Threads.{Threads, is_ready, running_on}
use Rattle.block_model.specs.Events.{refusal_of}
use Rattle.block_model.specs.Events.Run.{refusal_run_by}
use Rattle.block_model.specs.Deciding.{entry_in}
use Rattle.block_model.specs.Here.{Here, runs}
use Rattle.block_model.specs.Plain.{Plain, here_in_plain, plain_after, plain_over, plain_start}
use Rattle.block_model.specs.Run.{IsBlockRun}
use Rattle.block_model.specs.Setting.{Seen, Setting, with_steps}
use Rattle.block_model.specs.Standing.{IsStanding}
use Rattle.block_model.proofs.Laws.{plain_made, standing, start_plain}
use Rattle.process.specs.Refinement.{answer_to, answered}
use Rattle.same_places.specs.Closed.{IsClosed, IsVisited, after_logs}
use Rattle.same_places.specs.Places.{IsCarried, IsSamePlace, alone, plain_after_choice}
use Rattle.same_places.specs.Searched.{IsSearched, IsTried, LeadsBack}

pub same_itself : (s : Setting) (p : Plain) → IsSamePlace s p p
same_itself s p = record {
  harts = λ h lt. refl;
  files = λ t kept. refl;
  pages = record { permissions = λ n. refl; bytes = λ a. refl; free = refl; break_at = refl };
  tables = record { threads = refl; signals = refl; scheduling = refl; areas = refl; barriers = refl; console = refl; random = refl };
  over = refl;
}

-- WHERE A THREAD IS NOT READY

-- why it can't begin to run
why_not : Option ℕ → Why
why_not (Some u) = Busy
why_not None = NotReady

refused_by : (here : Here) (t : ℕ) (o : Option ℕ) → is_ready t here.kernel.threads ≡ false → refusal_run_by here t o ≡ Some (why_not o)
unfolding why_not
refused_by here t (Some u) not_ready = refl
refused_by here t None not_ready = rw not_ready refl

unready_answer : (s : Setting) (p : Plain) (h : ℕ) (t : Tid) → is_ready t.0 p.kernel.threads ≡ false → answer_to (alone s p) h (asked.Run t) ≡ Err (why_not (running_on h p.kernel.threads))
unready_answer s p h t not_ready =
    let here = here_in_plain s p h in
    ap (answered (entry_in (asked.Run t) here)) (refused_by here t.0 (runs here) not_ready)

-- and that is so at each place that is the same
unready_carried : (s : Setting) (p : Plain) (h : ℕ) (t : Tid) → is_ready t.0 p.kernel.threads ≡ false → IsCarried s p h (asked.Run t)
unready_carried s p h t not_ready = record {
  answer = λ n q stands room high same.
      let threads = same.tables.threads in
      unready_answer (with_steps n s) q h t (ap (is_ready t.0) threads ∙ not_ready)
      ∙ ap (λ (ts : Threads). Err (why_not (running_on h ts))) threads ∙ sym (unready_answer s p h t not_ready);
  after = λ n q stands room high same free.
      let bad : Some (why_not (running_on h p.kernel.threads)) ≡ None = sym (refused_by (here_in_plain s p h) t.0 (runs (here_in_plain s p h)) not_ready) ∙ free in
      absurd cc;
}

unready_refused : (s : Setting) (p : Plain) (h : ℕ) (t : Tid) → is_ready t.0 p.kernel.threads ≡ false → refusal_of (asked.Run t) (here_in_plain s p h) ≡ None → ⊥
unready_refused s p h t not_ready free =
    let bad : Some (why_not (running_on h p.kernel.threads)) ≡ None = sym (refused_by (here_in_plain s p h) t.0 (runs (here_in_plain s p h)) not_ready) ∙ free in
    cc

-- EACH CHOICE

either : (b : Bool) → (b ≡ true) ⊎ (b ≡ false)
either true = inl refl
either false = inr refl

-- what holds of each choice that is tried, and where a thread that isn't ready would begin to run
each_choice : (ts : Threads) (Q : Choice → Type 0) → ((c : Choice) → IsTried ts c → Q c) → ((t : Tid) → is_ready t.0 ts ≡ false → Q (asked.Run t)) → (c : Choice) → Q c
each_choice ts Q tried other asked.Exec = tried asked.Exec tt
each_choice ts Q tried other asked.Drain = tried asked.Drain tt
each_choice ts Q tried other asked.Take = tried asked.Take tt
each_choice ts Q tried other asked.Done = tried asked.Done tt
each_choice ts Q tried other asked.Preempt = tried asked.Preempt tt
each_choice ts Q tried other (asked.Run t) = elim (either (is_ready t.0 ts)) [ inl ready ↦ tried (asked.Run t) ready | inr not_ready ↦ other t not_ready ]
each_choice ts Q tried other asked.Signal = tried asked.Signal tt

module _ (s : Setting) (logs : List (List Entry)) (found : IsSearched s logs) where
  run_of : (log : List Entry) → Contains logs log → IsBlockRun s log
  run_of log in_logs = All-contains (IsBlockRun s) logs log found.runs in_logs

  stands_at : (log : List Entry) → Contains logs log → IsStanding (alone s (plain_after s log))
  stands_at log in_logs = let v : Seen = record { setting = s; seed = 0; log = log } in standing v (run_of log in_logs)

  carried_at : (log : List Entry) (h : ℕ) (c : Choice) → Contains logs log → plain_over (plain_after s log) ≡ None → h < s.limits.harts → IsCarried s (plain_after s log) h c
  carried_at log h c in_logs goes lt =
      each_choice (plain_after s log).kernel.threads (IsCarried s (plain_after s log) h)
      (λ d tried. found.carried log h d (record { visited = in_logs; goes = goes; lt = lt; tried = tried }))
      (λ t not_ready. unready_carried s (plain_after s log) h t not_ready) c

  next_at : (log : List Entry) (h : ℕ) (c : Choice) → Contains logs log → plain_over (plain_after s log) ≡ None → h < s.limits.harts → refusal_of c (here_in_plain s (plain_after s log) h) ≡ None
      → LeadsBack s logs log h c
  next_at log h c in_logs goes lt =
      each_choice (plain_after s log).kernel.threads (λ d. refusal_of d (here_in_plain s (plain_after s log) h) ≡ None → LeadsBack s logs log h d)
      (λ d tried. found.next log h d (record { visited = in_logs; goes = goes; lt = lt; tried = tried }))
      (λ t not_ready free. absurd (unready_refused s (plain_after s log) h t not_ready free)) c

  visited_at : (log : List Entry) (h : ℕ) (c : Choice) → LeadsBack s logs log h c → IsVisited s (after_logs s logs) (plain_after_choice s (plain_after s log) h c)
  visited_at log h c back = record { place = plain_after s back.other; member = (back.other, back.visited, refl); same = back.same }

  room_at : (log : List Entry) → Contains logs log → plain_over (plain_after s log) ≡ None → (plain_after s log).made < s.limits.steps
  room_at log in_logs goes =
      let v : Seen = record { setting = s; seed = 0; log = log } in
      let made : (plain_after s log).made ≡ length log = plain_made v (run_of log in_logs) in
      let room = found.room log in_logs goes in
      omega arith

  pub closed_by : IsClosed s (after_logs s logs)
  closed_by = record {
    steps = found.steps;
    stands = λ p member. subst (λ (q : Plain). IsStanding (alone s q)) member.2 (stands_at member.0 member.1);
    room = λ p member goes. subst (λ (q : Plain). q.made < s.limits.steps) member.2 (room_at member.0 member.1 (ap plain_over member.2 ∙ goes));
    start = record { place = plain_start s; member = ([], found.start, start_plain s); same = same_itself s (plain_start s) };
    carried = λ p h c member goes lt. subst (λ (q : Plain). IsCarried s q h c) member.2 (carried_at member.0 h c member.1 (ap plain_over member.2 ∙ goes) lt);
    next = λ p h c member goes lt free.
        subst (λ (q : Plain). IsVisited s (after_logs s logs) (plain_after_choice s q h c)) member.2
        (visited_at member.0 h c (next_at member.0 h c member.1 (ap plain_over member.2 ∙ goes) lt (ap (λ (q : Plain). refusal_of c (here_in_plain s q h)) member.2 ∙ free)));
  }
