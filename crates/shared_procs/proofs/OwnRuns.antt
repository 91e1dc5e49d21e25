-- Two pair runs in which a process does the same and learns the same: it is the same after them, and at each
-- place of both where it made so many entries.
use Rattle.std.proofs.Math.Seq.{drop-append_seam}
use Rattle.shared_procs.proofs.Common.{◌≡◌, ◌≢◌, ℕ, ◌++◌, Bool, true, false, cond, List, [], ◌∷◌, Option, Some, None, append_assoc, drop, is_some, length, length-append, refl, sym, ap, ◌∙◌, subst, arith, apply_two, AreOfImages, belongs, Choice, choice_of, Done, done_as, done_of, Entry, event_two, half, here_in_plain, here_two, IsPairRun, IsPairRunHistory, IsSameProcess, learnt_of, neighbour, own_choice, own_entries, OwnEntry, Pair, pair_after, pair_history, pair_start, PairEvent, PairHistory, PairSetting, Plain, plain_start, running_on, Setting, setting, own_entry}
use Rattle.shared_procs.proofs.BarrierReturns.{goes_on_to, history_more, run_before}
use Rattle.shared_procs.proofs.Halves.{own_half}
use Rattle.shared_procs.proofs.HartsApart.{apart, event_of}
use Rattle.shared_procs.proofs.OthersEvents.{kind_is, made, not_own, own_acts, own_runs}
use Rattle.shared_procs.proofs.OwnDeeds.{is_run}
use Rattle.shared_procs.proofs.OwnSteps.{closed, closed_alike, own_next, own_next_is, own_state, same_process, where_one_runs}
use Rattle.shared_procs.proofs.PairPremises.{lies_inside, no_area}
use Rattle.shared_procs.proofs.PrivateReservations.{private}
use Rattle.shared_procs.proofs.SameCalls.{Around, beside}
use Rattle.shared_procs.proofs.SameEvents.{own_done, own_part}

-- AN OWN EVENT IN BOTH

-- what stands beside a process at a hart
abbrev around : PairSetting → Pair → Bool → ℕ → Around
around s m p h =
    let x : Plain = half p m in
    record { reserved = x.reserved h; requests = x.requests h; restart = x.restart h; awaits = x.awaits h; other = neighbour s m p }

-- what an entry of process p does to it, and what it leaves of it
abbrev done_by : PairSetting → Bool → Pair → Entry → Done
done_by s p m its = done_as s m p its.hart.0 (own_choice (choice_of its))

abbrev own_after : PairSetting → Bool → Pair → Entry → Plain
own_after s p m its = own_next its.hart.0 (own_part (done_by s p m its)) (own_state (half p m))

module _ (s : PairSetting) (e : PairEvent) (before : PairHistory) (p : Bool) (run : IsPairRunHistory s (e ∷ before)) (own : belongs (pair_after s before) p e.entry ≡ true) where
  abbrev now : Pair
  now = pair_after s before

  acts : e.process ≡ p
  acts = ap (λ (y : PairEvent). y.process) run.2 ∙ own_acts now p e.entry e.entry.kind ((apart s before run.0).one e.entry.hart.0) own

  done_own : e.done ≡ done_by s p now e.entry
  done_own = made s e before run ∙ ap (λ q. done_by s q now e.entry) acts

  left_own : own_state (half p (pair_after s (e ∷ before))) ≡ own_after s p now e.entry
  left_own =
      ap (λ q. own_state (half p (apply_two e.entry.hart.0 q e.done now))) acts ∙ ap own_state (own_half e.entry.hart.0 p e.done now)
      ∙ own_next_is e.entry.hart.0 e.done (half p now)
      (λ k other. (event_of s e before run).fit.others k other ∙ ap (λ q. running_on k (half q now).kernel.threads) acts)
      ∙ ap (λ (d : Done). own_next e.entry.hart.0 (own_part d) (own_state (half p now))) done_own

still_same : (o a b : Option ℕ) → o ≢ None → where_one_runs o a ≡ where_one_runs o b → a ≡ b
still_same None a b runs same = absurd (runs refl)
still_same (Some t) a b runs same = same

module _ (s s' : PairSetting) (p : Bool) (m m' : Pair) (same : setting s p ≡ setting s' p) (are : own_state (half p m) ≡ own_state (half p m')) (its : Entry) where
  abbrev h : ℕ
  h = its.hart.0

  abbrev c : Choice
  c = own_choice (choice_of its)

  abbrev x : Plain
  x = half p m

  abbrev y : Plain
  y = half p m'

  abbrev there : Around
  there = around s' m' p h

  place_is : here_in_plain (setting s' p) (own_state y) h ≡ here_in_plain (setting s p) (own_state x) h
  place_is = ap (λ z. here_in_plain z (own_state y) h) (sym same) ∙ ap (λ z. here_in_plain (setting s p) z h) (sym are)

  reserved_is : running_on h x.kernel.threads ≢ None → private (x.reserved h) ≡ private (y.reserved h)
  reserved_is runs =
      still_same (running_on h x.kernel.threads) (private (x.reserved h)) (private (y.reserved h)) runs
      (ap (λ (z : Plain). z.reserved h) are
      ∙ ap (λ (z : Plain). where_one_runs (running_on h z.kernel.threads) (private (y.reserved h))) (sym are))

  own_alike : x.kernel.areas ≡ [] → (is_run c ≡ false → running_on h x.kernel.threads ≢ None)
      → learnt_of its.kind (here_two s m p h) ≡ learnt_of its.kind (here_two s' m' p h)
      → is_some (done_by s p m its).barrier ≡ is_some (done_by s' p m' its).barrier → own_after s p m its ≡ own_after s' p m' its
  own_alike areas runs learns waits =
      let place = here_in_plain (setting s p) (own_state x) h in
      let learnt = subst (λ k. learnt_of k (here_two s m p h) ≡ learnt_of k (beside place there)) (sym (kind_is its its.kind))
      (learns ∙ ap (λ z. learnt_of its.kind (beside z there)) place_is) in
      let done = own_done place (around s m p h) there areas c (λ other. reserved_is (runs other)) learnt
      (waits ∙ ap (λ z. is_some (done_of c (beside z there)).barrier) place_is)
      ∙ ap (λ z. own_part (done_of c (beside z there))) (sym place_is) in
      let all = closed_alike s.limits.harts (done_of c (here_two s m p h)) (done_of c (here_two s' m' p h)) x y are done
      ∙ ap (λ (z : Setting). own_part (closed z.limits.harts y (done_of c (here_two s' m' p h)))) same in
      ap (λ d. own_next h d (own_state x)) all ∙ ap (own_next h (own_part (done_by s' p m' its))) are

-- BOTH RUNS

-- what holds after an own event, and before any other one, of the own entries and of the process, holds after each event
own_or_not : (s : PairSetting) (p : Bool) (images : AreOfImages s) (e : PairEvent) (before : PairHistory) → IsPairRunHistory s (e ∷ before)
    → (Q : List OwnEntry → Plain → Type 0)
    → (belongs (pair_after s before) p e.entry ≡ true → Q (own_entry s p e before ∷ own_entries s p before) (own_state (half p (pair_after s (e ∷ before)))))
    → Q (own_entries s p before) (own_state (half p (pair_after s before)))
    → Q (own_entries s p (e ∷ before)) (own_state (half p (pair_after s (e ∷ before))))
own_or_not s p images e before run Q own older = by (belongs (pair_after s before) p e.entry) refl
  where
    by : (mine : Bool) → belongs (pair_after s before) p e.entry ≡ mine
        → Q (cond mine (own_entry s p e before ∷ own_entries s p before) (own_entries s p before)) (own_state (half p (pair_after s (e ∷ before))))
    by true is = own is
    by false is = subst (Q (own_entries s p before)) (sym (not_own s e before run p (lies_inside s e before images run) is)) older

module _ (s s' : PairSetting) (p : Bool) (images : AreOfImages s) (images' : AreOfImages s') (same : setting s p ≡ setting s' p) where
  abbrev Alike : PairHistory → PairHistory → Type 0
  Alike before before' = own_state (half p (pair_after s before)) ≡ own_state (half p (pair_after s' before'))

  start_alike : Alike [] []
  start_alike = by p same
    where
      by : (q : Bool) → setting s q ≡ setting s' q → own_state (half q (pair_start s)) ≡ own_state (half q (pair_start s'))
      by true is = ap (λ z. own_state (plain_start z)) is
      by false is = ap (λ z. own_state (plain_start z)) is

  both_own : (e e' : PairEvent) (before before' : PairHistory) → IsPairRunHistory s (e ∷ before) → IsPairRunHistory s' (e' ∷ before')
      → belongs (pair_after s before) p e.entry ≡ true → belongs (pair_after s' before') p e'.entry ≡ true
      → own_entry s p e before ≡ own_entry s' p e' before' → Alike before before' → Alike (e ∷ before) (e' ∷ before')
  both_own e e' before before' run run' own own' learnt are =
      let m = pair_after s before in
      let m' = pair_after s' before' in
      let its : e.entry ≡ e'.entry = ap (λ (z : OwnEntry). z.entry) learnt in
      let learns : learnt_of e.entry.kind (here_two s m p e.entry.hart.0) ≡ learnt_of e.entry.kind (here_two s' m' p e.entry.hart.0) =
      ap (λ (z : OwnEntry). z.learnt) learnt ∙ ap (λ (z : Entry). learnt_of z.kind (here_two s' m' p z.hart.0)) (sym its) in
      let waits : is_some (done_by s p m e.entry).barrier ≡ is_some (done_by s' p m' e.entry).barrier =
      sym (ap (λ (d : Done). is_some d.barrier) (done_own s e before p run own)) ∙ ap (λ (z : OwnEntry). z.waits) learnt
      ∙ ap (λ (d : Done). is_some d.barrier) (done_own s' e' before' p run' own' ∙ ap (done_by s' p m') (sym its)) in
      left_own s e before p run own
      ∙ own_alike s s' p m m' same are e.entry (no_area s p before run.0) (λ other. own_runs m p e.entry e.entry.kind own other) learns waits
      ∙ ap (own_after s' p m') its ∙ sym (left_own s' e' before' p run' own')

  -- a run without own entries
  none_own : (before' : PairHistory) → IsPairRunHistory s' before' → [] ≡ own_entries s' p before' → Alike [] before'
  none_own [] run' = λ is. start_alike
  none_own (e' ∷ before') run' =
      own_or_not s' p images' e' before' run' (λ own x. [] ≡ own → own_state (half p (pair_start s)) ≡ x) (λ mine is. absurd (cc)) (none_own before' run'.0)

  -- one whose newest own entry is that of e
  newest_own : (e : PairEvent) (before : PairHistory) → IsPairRunHistory s (e ∷ before) → belongs (pair_after s before) p e.entry ≡ true
      → ((past : PairHistory) → IsPairRunHistory s' past → own_entries s p before ≡ own_entries s' p past → Alike before past)
      → (before' : PairHistory) → IsPairRunHistory s' before' → own_entry s p e before ∷ own_entries s p before ≡ own_entries s' p before'
      → Alike (e ∷ before) before'
  newest_own e before run own older [] run' = λ is. absurd cc
  newest_own e before run own older (e' ∷ before') run' =
      own_or_not s' p images' e' before' run'
      (λ all x. own_entry s p e before ∷ own_entries s p before ≡ all → own_state (half p (pair_after s (e ∷ before))) ≡ x)
      (λ mine is. both_own e e' before before' run run' own mine (cc) (older before' run'.0 (cc))) (newest_own e before run own older before' run'.0)

  alike_after : (before before' : PairHistory) → IsPairRunHistory s before → IsPairRunHistory s' before'
      → own_entries s p before ≡ own_entries s' p before' → Alike before before'
  alike_after [] before' run run' = none_own before' run'
  alike_after (e ∷ before) before' run run' =
      own_or_not s p images e before run (λ own x. own ≡ own_entries s' p before' → x ≡ own_state (half p (pair_after s' before')))
      (λ own. newest_own e before run own (λ past. alike_after before past run.0) before' run') (alike_after before before' run.0 run')

  pub is_the_same : (before before' : PairHistory) → IsPairRunHistory s before → IsPairRunHistory s' before'
      → own_entries s p before ≡ own_entries s' p before' → IsSameProcess (half p (pair_after s before)) (half p (pair_after s' before'))
  is_the_same before before' run run' is =
      same_process (half p (pair_after s before)) (half p (pair_after s' before')) (alike_after before before' run run' is)

-- AT EACH PLACE

-- the own entries of a beginning are the oldest ones
abbrev AreOldest : List OwnEntry → List OwnEntry → Type 0
AreOldest own all = (new : List OwnEntry) × (all ≡ new ++ own)

without_one : (own all : List OwnEntry) (x : OwnEntry) (mine : Bool) → AreOldest (cond mine (x ∷ own) own) all → AreOldest own all
without_one own all x true its = (its.0 ++ x ∷ [], its.1 ∙ sym (append_assoc its.0 (x ∷ []) own))
without_one own all x false its = its

older_own : (s : PairSetting) (p : Bool) (past : PairHistory) (later : List Entry)
    → AreOldest (own_entries s p past) (own_entries s p (goes_on_to s past later))
older_own s p past [] = ([], refl)
older_own s p past (e ∷ later) =
    let event = event_two s past e in
    without_one (own_entries s p past) (own_entries s p (goes_on_to s past (e ∷ later))) (own_entry s p event past) (belongs (pair_after s past) p e)
    (older_own s p (event ∷ past) later)

same_oldest : (ns ms xs ys : List OwnEntry) → ns ++ xs ≡ ms ++ ys → length xs ≡ length ys → xs ≡ ys
same_oldest ns ms xs ys same count =
    let more : length ns ≡ length ms =
    omega (arith, length-append ns xs, length-append ms ys, ap (λ (own : List OwnEntry). length own) same) in
    sym (drop-append_seam ns xs) ∙ ap (λ n. drop n (ns ++ xs)) more ∙ ap (drop (length ms)) same ∙ drop-append_seam ms ys

pub same_at_each : (s s' : PairSetting) (log later log' later' : List Entry) (p : Bool) → AreOfImages s → AreOfImages s' → setting s p ≡ setting s' p
    → IsPairRun s (log ++ later) → IsPairRun s' (log' ++ later')
    → own_entries s p (pair_history s (log ++ later)) ≡ own_entries s' p (pair_history s' (log' ++ later'))
    → length (own_entries s p (pair_history s log)) ≡ length (own_entries s' p (pair_history s' log'))
    → IsSameProcess (half p (pair_after s (pair_history s log))) (half p (pair_after s' (pair_history s' log')))
same_at_each s s' log later log' later' p images images' same run run' entries count =
    let past = pair_history s log in
    let past' = pair_history s' log' in
    let here = history_more s log later in
    let here' = history_more s' log' later' in
    let own = older_own s p past later in
    let own' = older_own s' p past' later' in
    let oldest : own_entries s p past ≡ own_entries s' p past' =
    same_oldest own.0 own'.0 (own_entries s p past) (own_entries s' p past')
    (sym (ap (own_entries s p) here ∙ own.1) ∙ entries ∙ ap (own_entries s' p) here' ∙ own'.1) count in
    is_the_same s s' p images images' same past past' (run_before s later past (subst (IsPairRunHistory s) here run))
    (run_before s' later' past' (subst (IsPairRunHistory s') here' run')) oldest
