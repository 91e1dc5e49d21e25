-- How long stores wait, as a run goes on.
use Rattle.std.proofs.Common.{◌≡◌, ℕ, ◌+◌, ◌-◌, ◌<◌, ◌≤◌, zero, suc, Bool, true, false, cond, eqb, List, [], ◌∷◌, ◌++◌, length, length-append, length-drop, take, drop, get_or, set, Option, Some, None, inl, inr, replicate, refl, sym, ap, ◌∙◌, subst, arith, append-nil, All}
use Rattle.std.specs.List.{AllByRecursion}
use Rattle.std.specs.Prelude.{min}
use Rattle.std.proofs.lemmas.Bool.{cases_eq, eqb-true, ne_eqb}
use Rattle.std.proofs.lemmas.List.{get_or-set_other, get_or-set_same, length-map, length-replicate, length-set, length-take}
use Rattle.std.proofs.lemmas.List.Elements.{All-replicate, All-set, All-weaker, recursion_from_All}
use Rattle.mach_types.proofs.Laws.{eqb_same, kind_back}
use Rattle.mach_types.specs.Events.{choice_of, kind_of, maker_of, nature_of}
use Rattle.mach_types.specs.Limits.{InRange}
use Rattle.mach_types.specs.declared.events.Choice.{Choice}
use Rattle.mach_types.specs.declared.events.Choice.TheVariants as asked
use Rattle.mach_types.specs.declared.events.Entry.{Entry}
use Rattle.mach_types.specs.declared.events.Kind.{Kind}
use Rattle.mach_types.specs.declared.events.Maker.{Maker}
use Rattle.mach_types.specs.declared.events.Maker.TheVariants.{Thread, Buffer, Kernel}
use Rattle.mach_types.specs.declared.user_memory.Store.{Store}
use Rattle.rv_inst.specs.Class.{is_call, is_plain_store}
use Rattle.rv_inst.specs.declared.effects.Effect.{Effect}
use Rattle.rv_inst.proofs.Laws.{plain-waits}
use Rattle.block_model.specs.Deciding.{event, history}
use Rattle.block_model.specs.Events.{done_of, refusal_of}
use Rattle.block_model.specs.Events.Drain.{done_drain_of, refusal_drain_of}
use Rattle.block_model.specs.Events.Exec.{by_call, by_effect, by_outcome, called_here, done_exec_by, has_handler, next_effect, next_fault, outcome_of, refusal_exec_by}
use Rattle.block_model.specs.Here.{Done, Here, runs, view_of_all, waiting_here}
use Rattle.block_model.specs.History.{Event, History, here_in_history, waiting}
use Rattle.block_model.specs.Run.{IsBlockRun, IsRunHistory}
use Rattle.block_model.specs.Setting.{Seen, Setting}
use Rattle.block_model.proofs.Laws.{IsStep, is_by_kernel, of_kernel, history-append, history-nil, length-history, run_before, step_of, waits_apart, within_limit}
use Rattle.drawings.specs.declared.drawing.Drawing.{Drawing}
use Rattle.drawn_runs.specs.declared.manner.Manner.{Manner}
use Rattle.drawn_machine.specs.OnTheWay.{GoesOn, IsOnItsWay}
use Rattle.drawn_machine.specs.declared.hart_clock.Mark.{Mark}
use Rattle.drawn_machine.specs.Waits.{Clock, clock, clock_after, clock_behind, clock_by, clock_made, counts_of, first_clock, no_waits, oldest_waits, wait_counts, wait_counts_in, waits, waits_behind, waits_by, waits_made, with_wait, with_waits}
use Rattle.drawn_machine.specs.declared.store_waits.TheConstants.{LONG_WAIT}
use Rattle.drawn_machine.proofs.Inside.{of_the_machine}

-- WHAT AN EVENT DID

-- it executed so many instructions, so many stores entered memory, and it executed at most so many stores
pub record HasDone (n m most : ℕ) (d : Done) : Type 0 where
  pub instructions : d.instructions ≡ n
  pub drained : d.drained ≡ m
  pub executed : length d.executed ≤ most

-- neither
abbrev pub IsIdle : Done → Type 0
IsIdle d = HasDone 0 0 0 d

either : (n m most : ℕ) (b : Bool) (x y : Done) → HasDone n m most x → HasDone n m most y → HasDone n m most (cond b x y)
either n m most true x y one other = one
either n m most false x y one other = other

one_entered : (here : Here) (ws : List Store) → refusal_drain_of ws ≡ None → HasDone 0 1 0 (done_drain_of here ws)
one_entered here [] free = absurd cc
one_entered here (w ∷ ws) free = record { instructions = refl; drained = refl; executed = omega arith }

one_at_most : (b : Bool) → cond b 1 0 ≤ 1
one_at_most true = omega arith
one_at_most false = omega arith

one_store : (here : Here) (t : ℕ) (e : Effect) → length (outcome_of here t e).executed ≤ 1
one_store here t e =
    let is = plain-waits (view_of_all here) (here.file t).file (here.file t).pc here.reserved e in
    let one = one_at_most (is_plain_store e) in
    omega (arith, is, one)

executed_effect : (here : Here) (t : ℕ) (fault : Option ℕ) (o : Option Effect) → HasDone 1 0 1 (by_effect here t fault o)
executed_effect here t (Some signal) o =
    either 1 0 1 (has_handler here t signal) _ _
    (record { instructions = refl; drained = refl; executed = omega arith })
    (record { instructions = refl; drained = refl; executed = omega arith })
executed_effect here t None None = record { instructions = refl; drained = refl; executed = omega arith }
executed_effect here t None (Some e) =
    either 1 0 1 (is_call e) (by_call here (called_here here t)) (by_outcome here t (outcome_of here t e))
    (record { instructions = refl; drained = refl; executed = omega arith })
    (record { instructions = refl; drained = refl; executed = one_store here t e })

one_executed : (here : Here) (r : Option ℕ) → refusal_exec_by here r ≡ None → HasDone 1 0 1 (done_exec_by here r)
one_executed here None free = absurd cc
one_executed here (Some t) free = executed_effect here t (next_fault here t) (next_effect here t)

-- by its kind
abbrev pub IsMadeBy : Maker → Done → Type 0
IsMadeBy Thread d = HasDone 1 0 1 d
IsMadeBy Buffer d = HasDone 0 1 0 d
IsMadeBy Kernel d = IsIdle d

abbrev pub IsOfKind : Kind → Done → Type 0
IsOfKind k d = IsMadeBy (nature_of k).maker d

idle_event : (here : Here) (c : Choice) → is_by_kernel (maker_of c) ≡ true → IsIdle (done_of c here)
idle_event here c is =
    let did = of_kernel here c is in
    record { instructions = did.instructions; drained = did.drained; executed = let none = ap length did.executed in omega arith }

of_choice : (here : Here) (c : Choice) → refusal_of c here ≡ None → IsOfKind (kind_of c) (done_of c here)
of_choice here asked.Exec free = one_executed here (runs here) free
of_choice here asked.Drain free = one_entered here (waiting_here here) free
of_choice here c free = idle_event here c refl

of_event : (s : Setting) (e : Event) (before : History) → IsStep s e before → IsOfKind e.entry.kind e.done
of_event s e before step =
    let here = here_in_history s before e.entry.hart.0 in
    let c = choice_of e.entry in
    let P : Kind → Done → Type 0 = IsOfKind in
    subst (λ (d : Done). P e.entry.kind d) (sym step.did)
    (subst (λ (k : Kind). P k (done_of c here)) (kind_back e.entry.kind e.entry.tid) (of_choice here c step.free))

-- at most one of each
pub record IsFew (d : Done) : Type 0 where
  pub instructions : d.instructions ≤ 1
  pub drained : d.drained ≤ 1
  pub executed : length d.executed ≤ 1

few_done : (n m most : ℕ) (d : Done) → n ≤ 1 → m ≤ 1 → most ≤ 1 → HasDone n m most d → IsFew d
few_done n m most d one two three did = record {
  instructions = omega (arith, did.instructions);
  drained = omega (arith, did.drained);
  executed = omega (arith, did.executed);
}

few_made : (m : Maker) (d : Done) → IsMadeBy m d → IsFew d
few_made Thread d did = few_done 1 0 1 d (omega arith) (omega arith) (omega arith) did
few_made Buffer d did = few_done 0 1 0 d (omega arith) (omega arith) (omega arith) did
few_made Kernel d did = few_done 0 0 0 d (omega arith) (omega arith) (omega arith) did

few_of_kind : (k : Kind) (d : Done) → IsOfKind k d → IsFew d
few_of_kind k d did = few_made (nature_of k).maker d did

-- CLOCKS

clock_own : (h : ℕ) (e : Event) (before : History) → eqb e.entry.hart.0 h ≡ true → clock h (e ∷ before) ≡ clock_after e (clock h before)
clock_own h e before own = ap (λ (b : Bool). cond b (clock_after e (clock h before)) (clock h before)) own

clock_apart : (h : ℕ) (e : Event) (before : History) → eqb e.entry.hart.0 h ≡ false → clock h (e ∷ before) ≡ clock h before
clock_apart h e before apart = ap (λ (b : Bool). cond b (clock_after e (clock h before)) (clock h before)) apart

-- each waiting store has its mark
abbrev AreMarked : ℕ → History → Type 0
AreMarked h before = length (clock h before).marks ≡ length (waiting h before)

marked_own : (s : Setting) (h : ℕ) (e : Event) (before : History) → IsStep s e before → eqb e.entry.hart.0 h ≡ true → e.entry.hart.0 ≡ h
    → AreMarked h before → AreMarked h (e ∷ before)
marked_own s h e before step own same was =
    let c = clock h before in
    let d = e.done in
    let mark : Mark = record { instructions = c.instructions + d.instructions; pc = e.entry.pc } in
    let new = replicate (length d.executed) mark in
    let is : length (clock h (e ∷ before)).marks ≡ length (drop d.drained (c.marks ++ new)) = ap (λ (c : Clock). length c.marks) (clock_own h e before own) in
    let waits : length (waiting h (e ∷ before)) ≡ length (drop d.drained (waiting h before ++ d.executed)) =
    subst (λ (k : ℕ). length (waiting k (e ∷ before)) ≡ length (drop d.drained (waiting k before ++ d.executed))) same
    (ap (λ (ws : List Store). length ws) step.waits) in
    omega (
      arith,
      is,
      waits,
      was,
      length-drop d.drained (c.marks ++ new),
      length-append c.marks new,
      length-replicate (length d.executed) mark,
      length-drop d.drained (waiting h before ++ d.executed),
      length-append (waiting h before) d.executed,
    )

marked_apart : (h : ℕ) (e : Event) (before : History) → eqb e.entry.hart.0 h ≡ false → AreMarked h before → AreMarked h (e ∷ before)
marked_apart h e before apart was =
    ap (λ (c : Clock). length c.marks) (clock_apart h e before apart) ∙ was
    ∙ sym (ap (λ (ws : List Store). length ws) (waits_apart h e before apart))

marked_next : (s : Setting) (h : ℕ) (e : Event) (before : History) (b : Bool) → IsStep s e before → eqb e.entry.hart.0 h ≡ b
    → AreMarked h before → AreMarked h (e ∷ before)
marked_next s h e before true step own was = marked_own s h e before step own (eqb-true e.entry.hart.0 h own) was
marked_next s h e before false step apart was = marked_apart h e before apart was

marked : (s : Setting) (h : ℕ) (before : History) → IsRunHistory s before → AreMarked h before
marked s h [] run = refl
marked s h (e ∷ before) run =
    marked_next s h e before (eqb e.entry.hart.0 h) (step_of s e before run) refl (marked s h before run.0)

-- it counts an instruction an event at most
counted_next : (h : ℕ) (e : Event) (before : History) (b : Bool) → IsFew e.done → eqb e.entry.hart.0 h ≡ b
    → (clock h before).instructions ≤ length before → (clock h (e ∷ before)).instructions ≤ length before + 1
counted_next h e before true few own was =
    let is : (clock h (e ∷ before)).instructions ≡ (clock h before).instructions + e.done.instructions =
    ap (λ (c : Clock). c.instructions) (clock_own h e before own) in
    omega (arith, is, was, few.instructions)
counted_next h e before false few apart was =
    let is : (clock h (e ∷ before)).instructions ≡ (clock h before).instructions =
    ap (λ (c : Clock). c.instructions) (clock_apart h e before apart) in
    omega (arith, is, was)

few_instructions : (s : Setting) (h : ℕ) (before : History) → IsRunHistory s before → (clock h before).instructions ≤ length before
few_instructions s h [] run = omega arith
few_instructions s h (e ∷ before) run =
    let few = few_of_kind e.entry.kind e.done (of_event s e before (step_of s e before run)) in
    let next = counted_next h e before (eqb e.entry.hart.0 h) few refl (few_instructions s h before run.0) in
    omega (arith, next)

-- what is counted from outside is what the event did
same_clock : (n m k pc n' m' k' : ℕ) (c : Clock) → n ≡ n' → m ≡ m' → k ≡ k' → clock_by n m k pc c ≡ clock_by n' m' k' pc c
same_clock n m k pc n' m' k' c a b d =
    ap (λ (x : ℕ). clock_by x m k pc c) a ∙ ap (λ (x : ℕ). clock_by n' x k pc c) b ∙ ap (λ (x : ℕ). clock_by n' m' x pc c) d

unmoved : (pc : ℕ) (c : Clock) → c ≡ clock_by 0 0 0 pc c
unmoved pc c =
    let number : c.instructions ≡ c.instructions + 0 = omega arith in
    let list : c.marks ≡ c.marks ++ [] = sym (append-nil c.marks) in
    ap (λ (n : ℕ). let x : Clock = record { instructions = n; marks = c.marks } in x) number
    ∙ ap (λ (ms : List Mark). let x : Clock = record { instructions = c.instructions + 0; marks = ms } in x) list

unmoved_by : (e : Event) (c : Clock) → IsIdle e.done → c ≡ clock_after e c
unmoved_by e c idle =
    unmoved e.entry.pc c
    ∙ same_clock 0 0 0 e.entry.pc e.done.instructions e.done.drained (length e.done.executed) c (sym idle.instructions) (sym idle.drained)
    (let none = idle.executed in omega (arith, none))

behind_made : (m : Maker) (e : Event) (c : Clock) (waiting : ℕ) → IsMadeBy m e.done
    → waiting ≡ length c.marks + length e.done.executed - e.done.drained → clock_made m e.entry.pc waiting c ≡ clock_after e c
behind_made Thread e c waiting did is =
    same_clock 1 0 (waiting - length c.marks) e.entry.pc e.done.instructions e.done.drained (length e.done.executed) c (sym did.instructions)
    (sym did.drained)
    (omega (arith, is, did.drained))
behind_made Buffer e c waiting did is =
    same_clock 0 1 0 e.entry.pc e.done.instructions e.done.drained (length e.done.executed) c (sym did.instructions) (sym did.drained)
    (let none = did.executed in omega (arith, none))
behind_made Kernel e c waiting did is = unmoved_by e c did

behind_of_kind : (k : Kind) (e : Event) (c : Clock) (waiting : ℕ) → IsOfKind k e.done
    → waiting ≡ length c.marks + length e.done.executed - e.done.drained → clock_behind k e.entry.pc waiting c ≡ clock_after e c
behind_of_kind k e c waiting did is = behind_made (nature_of k).maker e c waiting did is

none_entered : (d : Done) (c : Clock) → d.drained ≡ 0 → [] ≡ waits_by d c
none_entered d c none = ap (λ (n : ℕ). oldest_waits n c) (sym none)

waits_by_maker : (m : Maker) (d : Done) (c : Clock) → IsMadeBy m d → waits_made m c ≡ waits_by d c
waits_by_maker Thread d c did = none_entered d c did.drained
waits_by_maker Buffer d c did = ap (λ (n : ℕ). oldest_waits n c) (sym did.drained)
waits_by_maker Kernel d c did = none_entered d c did.drained

waits_of_kind : (k : Kind) (d : Done) (c : Clock) → IsOfKind k d → waits_behind k c ≡ waits_by d c
waits_of_kind k d c did = waits_by_maker (nature_of k).maker d c did

-- COUNTS

with-waits-append : (xs ys counts : List ℕ) → with_waits (xs ++ ys) counts ≡ with_waits xs (with_waits ys counts)
with-waits-append [] ys counts = refl
with-waits-append (x ∷ xs) ys counts = ap (with_wait x) (with-waits-append xs ys counts)

few_at : (n : ℕ) (counts : List ℕ) (k : ℕ) → AllByRecursion (λ (m : ℕ). m ≤ n) counts → get_or counts k 0 ≤ n
few_at n [] k few = omega arith
few_at n (m ∷ counts) zero few = few.0
few_at n (m ∷ counts) (suc k) few = few_at n counts k few.1

-- where one count grows by 1, none is above the greatest by more
pub few_more : (n : ℕ) (counts : List ℕ) (k : ℕ) → All (λ (m : ℕ). m ≤ n) counts
    → All (λ (m : ℕ). m ≤ n + 1) (set counts k (get_or counts k 0 + 1))
few_more n counts k few =
    let at = few_at n counts k (recursion_from_All (λ (m : ℕ). m ≤ n) counts few) in
    All-set (λ (m : ℕ). m ≤ n + 1) counts k (get_or counts k 0 + 1) (omega arith)
    (All-weaker (λ (m : ℕ). m ≤ n) (λ (m : ℕ). m ≤ n + 1) (λ m is. omega (arith, is)) counts few)

few_counts : (all : List ℕ) → All (λ (m : ℕ). m ≤ length all) (counts_of all)
unfolding no_waits
few_counts [] = All-replicate (λ (m : ℕ). m ≤ 0) (LONG_WAIT + 1) 0 (omega arith)
few_counts (wait ∷ all) =
    let more : All (λ (m : ℕ). m ≤ length all + 1) (with_wait wait (counts_of all)) =
    few_more (length all) (counts_of all) (min wait LONG_WAIT) (few_counts all) in
    All-weaker (λ (m : ℕ). m ≤ length all + 1) (λ (m : ℕ). m ≤ suc (length all)) (λ m is. omega (arith, is))
    (with_wait wait (counts_of all)) more

few_waits_by : (d : Done) (c : Clock) → d.drained ≤ 1 → length (waits_by d c) ≤ 1
few_waits_by d c one =
    omega (
      arith,
      one,
      length-map (take d.drained c.marks) (λ (mark : Mark). c.instructions - mark.instructions),
      length-take d.drained c.marks,
    )

few_waits : (s : Setting) (before : History) → IsRunHistory s before → length (waits before) ≤ length before
few_waits s [] run = omega arith
few_waits s (e ∷ before) run =
    let c = clock e.entry.hart.0 before in
    let few = few_of_kind e.entry.kind e.done (of_event s e before (step_of s e before run)) in
    omega (arith, few_waits s before run.0, few_waits_by e.done c few.drained, length-append (waits_by e.done c) (waits before))

-- so no count is above the number of events
few_in : (s : Setting) (log : List Entry) → IsBlockRun s log → All (λ (m : ℕ). m ≤ length log) (wait_counts (history s log))
few_in s log run =
    let before = history s log in
    All-weaker (λ (m : ℕ). m ≤ length (waits before)) (λ (m : ℕ). m ≤ length log)
    (λ m is. omega (arith, is, few_waits s before run.allowed, length-history s log)) (wait_counts before) (few_counts (waits before))

pub few_wait_counts : (s : Setting) (log : List Entry) → IsBlockRun s log → length log ≤ 1000000
    → All (λ (m : ℕ). m ≤ 1000000) (wait_counts (history s log))
few_wait_counts s log run short =
    All-weaker (λ (m : ℕ). m ≤ length log) (λ (m : ℕ). m ≤ 1000000) (λ m is. omega (arith, is, short)) (wait_counts (history s log))
    (few_in s log run)

-- A RUN AS IT GOES ON

-- each hart has its clock, and the counts are those of the run so far
pub record IsTracked (now : Seen) (cs : List Clock) (ns : List ℕ) : Type 0 where
  pub harts : now.setting.limits.harts ≤ length cs
  pub clocks : (h : ℕ) (d : Clock) → h < length cs → get_or cs h d ≡ clock h (history now.setting now.log)
  pub counts : ns ≡ wait_counts_in now

pub none_waited : (now : Seen) → now.log ≡ [] → wait_counts_in now ≡ no_waits
none_waited now empty =
    ap wait_counts (ap (λ (log : List Entry). history now.setting log) empty ∙ history-nil now.setting)

pub tracked_first : (now : Seen) (cs : List Clock) (ns : List ℕ) → now.log ≡ [] → now.setting.limits.harts ≤ length cs
    → All (λ (c : Clock). c ≡ first_clock) cs → ns ≡ no_waits → IsTracked now cs ns
tracked_first now cs ns empty few first none = record {
  harts = few;
  clocks = λ h d below. first h d below
      ∙ sym (ap (clock h) (ap (λ (log : List Entry). history now.setting log) empty ∙ history-nil now.setting));
  counts = none ∙ sym (none_waited now empty);
}

-- behind one entry more
module _ (now : Seen) (x : Entry) (cs : List Clock) (ns : List ℕ) (stores : ℕ) (is : IsTracked now cs ns)
    (run : IsBlockRun now.setting (now.log ++ x ∷ [])) (here : x.hart.0 < length cs)
    (count : stores ≡ length (waiting x.hart.0 (history now.setting (now.log ++ x ∷ [])))) where
  abbrev before : History
  before = history now.setting now.log

  abbrev e : Event
  e = event now.setting before x

  abbrev h : ℕ
  h = x.hart.0

  abbrev c : Clock
  c = get_or cs h first_clock

  run_history : IsRunHistory now.setting (e ∷ before)
  run_history = subst (IsRunHistory now.setting) (history-append now.setting now.log x) run.allowed

  step : IsStep now.setting e before
  step = step_of now.setting e before run_history

  pub its_clock : c ≡ clock h before
  its_clock = is.clocks h first_clock here

  its_marks : length c.marks ≡ length (waiting h before)
  its_marks = ap (λ (c : Clock). length c.marks) its_clock ∙ marked now.setting h before run_history.0

  pub its_kind : IsOfKind x.kind e.done
  its_kind = of_event now.setting e before step

  pub its_stores : stores ≡ length c.marks + length e.done.executed - e.done.drained
  its_stores =
      let after : length (waiting h (history now.setting (now.log ++ x ∷ []))) ≡ length (drop e.done.drained (waiting h before ++ e.done.executed)) =
      ap (λ (b : History). length (waiting h b)) (history-append now.setting now.log x) ∙ ap (λ (ws : List Store). length ws) step.waits in
      let marks = its_marks in
      omega (
        arith,
        count,
        after,
        marks,
        length-drop e.done.drained (waiting h before ++ e.done.executed),
        length-append (waiting h before) e.done.executed,
      )

  next_clock : clock_behind x.kind x.pc stores c ≡ clock h (e ∷ before)
  next_clock =
      behind_of_kind x.kind e c stores its_kind its_stores ∙ ap (clock_after e) its_clock
      ∙ sym (clock_own h e before (eqb_same h))

  next_clocks : (k : ℕ) (d : Clock) → k < length (set cs h (clock_behind x.kind x.pc stores c))
      → get_or (set cs h (clock_behind x.kind x.pc stores c)) k d ≡ clock k (e ∷ before)
  next_clocks k d below =
      let within : k < length cs = omega (arith, below, length-set cs h (clock_behind x.kind x.pc stores c)) in
      elim (cases_eq h k) [
        | inl same ↦ subst (λ (k : ℕ). get_or (set cs h (clock_behind x.kind x.pc stores c)) k d ≡ clock k (e ∷ before)) same
            (get_or-set_same cs h (clock_behind x.kind x.pc stores c) d here ∙ next_clock)
        | inr apart ↦ get_or-set_other cs h k (clock_behind x.kind x.pc stores c) d (λ same. apart (sym same)) ∙ is.clocks k d within
            ∙ sym (clock_apart k e before (ne_eqb h k apart))
      ]

  next_counts : with_waits (waits_behind x.kind c) ns ≡ wait_counts (e ∷ before)
  next_counts =
      ap (λ (xs : List ℕ). with_waits xs ns) (waits_of_kind x.kind e.done c its_kind ∙ ap (waits_by e.done) its_clock)
      ∙ ap (with_waits (waits_by e.done (clock h before))) is.counts
      ∙ sym (with-waits-append (waits_by e.done (clock h before)) (waits before) no_waits)

  tracked_by : IsTracked (record now { log = now.log ++ x ∷ [] }) (set cs h (clock_behind x.kind x.pc stores c)) (with_waits (waits_behind x.kind c) ns)
  tracked_by =
      let after = sym (history-append now.setting now.log x) in
      record {
        harts = omega (arith, length-set cs h (clock_behind x.kind x.pc stores c), is.harts);
        clocks = λ k d below. next_clocks k d below ∙ ap (clock k) after;
        counts = next_counts ∙ ap wait_counts after;
      }

  one_by : stores ≤ length c.marks + 1
  one_by =
      let few = few_of_kind x.kind e.done its_kind in
      omega (arith, its_stores, few.executed)

  instructions_by : c.instructions ≤ length now.log
  instructions_by =
      omega (
        arith,
        ap (λ (c : Clock). c.instructions) its_clock,
        few_instructions now.setting h before run_history.0,
        length-history now.setting now.log,
      )

  few_by : All (λ (m : ℕ). m ≤ length now.log) ns
  few_by =
      subst (All (λ (m : ℕ). m ≤ length now.log)) (sym is.counts)
      (few_in now.setting now.log (run_before now.setting now.log (x ∷ []) run))

-- where one more event was made, it can be counted
pub record IsCountable (x : Entry) (cs : List Clock) (ns : List ℕ) (stores : ℕ) : Type 0 where
  pub hart : x.hart.0 < length cs
  pub instructions : (get_or cs x.hart.0 first_clock).instructions < 1000000
  pub one : stores ≤ length (get_or cs x.hart.0 first_clock).marks + 1
  pub few : All (λ (m : ℕ). m < 1000000) ns

-- a machine that made one more event
pub record IsNextOf (now next : Seen) (x : Entry) : Type 0 where
  pub made : next ≡ record now { log = now.log ++ x ∷ [] }
  pub run : IsBlockRun next.setting next.log
  pub short : next.setting.limits.steps ≤ 1000000

pub runs_on : (now next : Seen) (x : Entry) → IsNextOf now next x → IsBlockRun now.setting (now.log ++ x ∷ [])
runs_on now next x is = subst (λ (v : Seen). IsBlockRun v.setting v.log) is.made is.run

pub hart_of_next : (now next : Seen) (x : Entry) → IsNextOf now next x → x.hart.0 < now.setting.limits.harts
hart_of_next now next x is =
    let before = history now.setting now.log in
    let run : IsRunHistory now.setting (event now.setting before x ∷ before) =
    subst (IsRunHistory now.setting) (history-append now.setting now.log x) (runs_on now next x is).allowed in
    of_the_machine now.setting before x.hart.0 (choice_of x) x run.1

pub countable : (now next : Seen) (x : Entry) (cs : List Clock) (ns : List ℕ) (stores : ℕ) → IsNextOf now next x → IsTracked now cs ns
    → stores ≡ length (waiting x.hart.0 (history next.setting next.log)) → IsCountable x cs ns stores
countable now next x cs ns stores is tracked count =
    let run = runs_on now next x is in
    let here : x.hart.0 < length cs = omega (arith, hart_of_next now next x is, tracked.harts) in
    let its : stores ≡ length (waiting x.hart.0 (history now.setting (now.log ++ x ∷ []))) =
    count ∙ ap (λ (v : Seen). length (waiting x.hart.0 (history v.setting v.log))) is.made in
    let short : length now.log < 1000000 =
    omega (
      arith,
      within_limit next.setting next.log is.run,
      is.short,
      ap (λ (v : Seen). length v.log) is.made,
      length-append now.log (x ∷ []),
    ) in
    record {
      hart = here;
      instructions = omega (arith, short, instructions_by now x cs ns stores tracked run here its);
      one = one_by now x cs ns stores tracked run here its;
      few = All-weaker (λ (m : ℕ). m ≤ length now.log) (λ (m : ℕ). m < 1000000) (λ m is. omega (arith, is, short)) ns
          (few_by now x cs ns stores tracked run here its);
    }

pub tracked_more : (now next : Seen) (x : Entry) (cs ds : List Clock) (ns ms : List ℕ) (stores : ℕ) → IsNextOf now next x
    → IsTracked now cs ns → stores ≡ length (waiting x.hart.0 (history next.setting next.log))
    → ds ≡ set cs x.hart.0 (clock_behind x.kind x.pc stores (get_or cs x.hart.0 first_clock))
    → ms ≡ with_waits (waits_behind x.kind (get_or cs x.hart.0 first_clock)) ns → IsTracked next ds ms
tracked_more now next x cs ds ns ms stores is tracked count clocks counts =
    let run = runs_on now next x is in
    let here : x.hart.0 < length cs = omega (arith, hart_of_next now next x is, tracked.harts) in
    let its : stores ≡ length (waiting x.hart.0 (history now.setting (now.log ++ x ∷ []))) =
    count ∙ ap (λ (v : Seen). length (waiting x.hart.0 (history v.setting v.log))) is.made in
    let c = get_or cs x.hart.0 first_clock in
    let by = tracked_by now x cs ns stores tracked run here its in
    let at_next : IsTracked next (set cs x.hart.0 (clock_behind x.kind x.pc stores c)) (with_waits (waits_behind x.kind c) ns) =
    subst (λ (v : Seen). IsTracked v (set cs x.hart.0 (clock_behind x.kind x.pc stores c)) (with_waits (waits_behind x.kind c) ns)) (sym is.made) by in
    let same_counts = subst (IsTracked next (set cs x.hart.0 (clock_behind x.kind x.pc stores c))) (sym counts) at_next in
    subst (λ (ds : List Clock). IsTracked next ds ms) (sym clocks) same_counts

is_next : (s : Setting) (now next : Seen) (x : Entry) → now.setting ≡ s → InRange s.limits → next ≡ record now { log = now.log ++ x ∷ [] }
    → IsBlockRun next.setting next.log → IsNextOf now next x
is_next s now next x same range made run = record {
  made = made;
  run = run;
  short = omega (
    arith,
    range.most_steps,
    ap (λ (s : Setting). s.limits.steps) same,
    ap (λ (v : Seen). v.setting.limits.steps) made,
  );
}

pub next_on : (m : Manner) (s : Setting) (now next : Seen) (d after : Drawing) (x : Entry) → now.setting ≡ s → InRange s.limits
    → next ≡ record now { log = now.log ++ x ∷ [] } → GoesOn now d next after → IsOnItsWay m now d → IsNextOf now next x
next_on m s now next d after x same range made goes way = is_next s now next x same range made (goes m way).block_run

pub short_now : (m : Manner) (s : Setting) (now : Seen) (d : Drawing) → now.setting ≡ s → InRange s.limits → IsOnItsWay m now d
    → length now.log ≤ 1000000
short_now m s now d same range way =
    omega (arith, within_limit now.setting now.log way.block_run, range.most_steps, ap (λ (s : Setting). s.limits.steps) same)

pub hart_there : (now next : Seen) (x : Entry) → IsNextOf now next x → x.hart.0 < next.setting.limits.harts
hart_there now next x is =
    omega (arith, hart_of_next now next x is, ap (λ (v : Seen). v.setting.limits.harts) is.made)
