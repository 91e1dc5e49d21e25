-- Where a run goes on some hart can make an event. Where a store waits, its hart can. Where none does, each hart can whose thread waits
-- in no barrier; and where the thread of one waits in a barrier, a hart can that has to take its request. Else a ready thread may begin to
-- run on a hart.
use Rattle.std.proofs.Common.{◌≡◌, ◌≢◌, ℕ, zero, suc, ◌+◌, ◌*◌, ◌/◌, ◌%◌, ◌^◌, ◌<◌, ◌≤◌, ◌&&◌, ◌||◌, ◌⊎◌, inl, inr, Bool, true, false, not, cond, eqb, ltb, List, [], ◌∷◌, filter, find, length, Option, Some, None, is_none, is_some, refl, sym, ap, ◌∙◌, subst, arith, div-add-mod'}
use Rattle.std.specs.List.{list_any}
use Rattle.std.specs.Option.{option_or, option_map_or}
use Rattle.std.proofs.lemmas.Bool.{cases_eq, eq-eqb, eqb-true, false≢true, lt-ltb, ne_eqb}
use Rattle.std.proofs.lemmas.Map.Views.{any-filter_same}
use Rattle.std.proofs.lemmas.Nat.{mod_below, pow_pos}
use Rattle.std.proofs.lemmas.Nat.Bits.{bit_at_cat_low}
use Rattle.mach_types.proofs.Laws.{has_hart-past, has_hart-within}
use Rattle.mach_types.specs.Kernel.Pages.{PageRun}
use Rattle.mach_types.specs.Kernel.Scheduling.{Scheduling, affinity_of, first_for, has_hart}
use Rattle.mach_types.specs.Kernel.Threads.{is_ready}
use Rattle.mach_types.specs.declared.events.Entry.{Entry}
use Rattle.mach_types.specs.declared.events.Why.{Why}
use Rattle.mach_types.specs.declared.events.Why.TheVariants.{Others}
use Rattle.mach_types.specs.declared.user_memory.Store.{Store}
use Rattle.rv_inst.specs.Class.{is_call}
use Rattle.rv_inst.specs.Execution.{instruction_gate}
use Rattle.draw_policies.specs.Acting.{can_act}
use Rattle.drawings.specs.Scenes.{is_able, may_begin, startable}
use Rattle.block_model.specs.Calls.Answers.{call_number}
use Rattle.block_model.specs.Beside.{Neighbour}
use Rattle.block_model.specs.Calls.Memory.{lies_waiting_on, taken_by}
use Rattle.block_model.specs.Deciding.{history}
use Rattle.block_model.specs.Events.Exec.{is_held, next_effect, next_fault, others_gate, refusal_exec, refusal_exec_by}
use Rattle.block_model.specs.Events.Preempt.{unless_in_barrier}
use Rattle.block_model.specs.Here.{Here, runs, waiting_here}
use Rattle.block_model.specs.History.{History, awaits, here_in_history, kernel, ran, requests, waiting}
use Rattle.block_model.specs.Run.{IsBlockRun}
use Rattle.block_model.specs.Sequences.{is_inside_here}
use Rattle.block_model.specs.Setting.{Seen, Setting}
use Rattle.block_model.specs.Sights.{is_all_taken, sight_in}
use Rattle.block_model.specs.Tables.{IsTables}
use Rattle.block_model.specs.Plain.{Plain}
use Rattle.block_model.specs.PlainOf.{plain_of}
use Rattle.block_model.proofs.Laws.{IsAwaited, IsGood, IsGoodHere, good_at, ready_listed, same_state, some_hart}
use Rattle.drawn_runs.specs.DrawnRuns.{by_number, scene_at}
use Rattle.drawn_runs.proofs.Places.{good_place}
use Rattle.drawn_runs.proofs.ReadyNumbers.{ready_is_listed}

-- where no store waits on any hart of the machine, a thread that waits in no barrier may execute
abbrev NoneWaits : Here → Type 0
NoneWaits here = (k : ℕ) → k < here.setting.limits.harts → here.waiting k ≡ []

none_lies : (beside : Option Neighbour) (r : PageRun) (stores : ℕ → List Store) (n : ℕ)
    → ((k : ℕ) → k < n → stores k ≡ []) → lies_waiting_on beside r stores n ≡ false
none_lies beside r stores zero none = refl
none_lies beside r stores (suc n) none =
    rw (none n (omega arith)) (none_lies beside r stores n (λ k below. none k (omega arith)))

off_by_second : (a b : Bool) → b ≡ false → (a && b) ≡ false
off_by_second true b is = is
off_by_second false b is = refl

call_goes : (call held : Bool) → held ≡ false → cond (call && held) (Some Others) None ≡ None
call_goes true held is = rw is refl
call_goes false held is = refl

pub exec_free : (here : Here) (t : ℕ) → runs here ≡ Some t → here.awaits ≡ None → waiting_here here ≡ [] → NoneWaits here
    → refusal_exec here ≡ None
exec_free here t busy apart own none =
    let held : is_held here t ≡ false =
    off_by_second (not (is_inside_here here t)) _
    (none_lies here.beside (taken_by (call_number here t) here t) here.waiting here.setting.limits.harts none) in
    let effect = next_effect here t in
    let faults = is_some (next_fault here t) in
    let gate : instruction_gate (length (waiting_here here)) effect faults ≡ None =
    ap (λ (ws : List Store). instruction_gate (length ws) effect faults) own in
    ap (refusal_exec_by here) busy
    ∙ ap
    (λ (o : Option ℕ). unless_in_barrier o
    (option_or (instruction_gate (length (waiting_here here)) effect faults) (others_gate (is_held here t) effect)))
    apart
    ∙ ap (λ (g : Option Why). option_or g (others_gate (is_held here t) effect)) gate
    ∙ call_goes (option_map_or is_call effect false) (is_held here t) held

-- tests of two that hold by one, or by both
by_second : (a b : Bool) → b ≡ true → (a || b) ≡ true
by_second true b is = refl
by_second false b is = is

by_first : (a b : Bool) → a ≡ true → (a || b) ≡ true
by_first true b is = refl
by_first false b is = absurd (false≢true is)

by_both : (a b : Bool) → a ≡ true → b ≡ true → (a && b) ≡ true
by_both true b is other = other
by_both false b is other = absurd (false≢true is)

-- whether a hart can, by the thread that runs there and by what its barrier waits for
abbrev asks : Here → Bool
asks here = not (eqb here.requests 0)

abbrev acts_by : Here → Bool → Option ℕ → Option ℕ → Bool
acts_by here startable running waits =
    cond (is_none running) (asks here || startable)
    (cond (is_some waits) (asks here || is_all_taken waits) (is_none (refusal_exec here) || ltb 0 (length (waiting_here here))))

-- a hart can on which a store waits: a thread runs there, which waits in no barrier
has_none : (stores : List Store) → stores ≡ [] → ltb 0 (length stores) ≡ true → ⊥
has_none stores none some = false≢true (sym (ap (λ (ws : List Store). ltb 0 (length ws)) none) ∙ some)

acts_with_stores : (here : Here) (since : ℕ) (startable : Bool) → IsGoodHere here → ltb 0 (length (waiting_here here)) ≡ true
    → can_act (sight_in here since 0) startable ≡ true
acts_with_stores here since startable good some = go (runs here) here.awaits refl refl
  where
    go : (running waits : Option ℕ) → runs here ≡ running → here.awaits ≡ waits → acts_by here startable running waits ≡ true
    go None waits idle at = absurd (has_none (waiting_here here) (good.idle here.hart idle) some)
    go (Some t) (Some left) busy at = absurd (has_none (waiting_here here) (good.empty left at) some)
    go (Some t) None busy apart = by_second (is_none (refusal_exec here)) (ltb 0 (length (waiting_here here))) some

-- so can an idle one at which a request is pending, or where a thread may begin to run
acts_idle : (here : Here) (since : ℕ) (startable : Bool) → runs here ≡ None → (asks here || startable) ≡ true
    → can_act (sight_in here since 0) startable ≡ true
acts_idle here since startable idle may = ap (λ (o : Option ℕ). acts_by here startable o here.awaits) idle ∙ may

-- one whose barrier can return
acts_returning : (here : Here) (since t left : ℕ) (startable : Bool) → runs here ≡ Some t → here.awaits ≡ Some left → left ≡ 0
    → can_act (sight_in here since 0) startable ≡ true
acts_returning here since t left startable busy waits over =
    ap (λ (o : Option ℕ). acts_by here startable o here.awaits) busy ∙ ap (λ (o : Option ℕ). acts_by here startable (Some t) o) waits
    ∙ by_second (asks here) (eqb left 0) (eq-eqb left 0 over)

-- and, where no store waits, one whose thread waits in no barrier
acts_apart : (here : Here) (since t : ℕ) (startable : Bool) → runs here ≡ Some t → here.awaits ≡ None → waiting_here here ≡ []
    → NoneWaits here → can_act (sight_in here since 0) startable ≡ true
acts_apart here since t startable busy apart own none =
    ap (λ (o : Option ℕ). acts_by here startable o here.awaits) busy ∙ ap (λ (o : Option ℕ). acts_by here startable (Some t) o) apart
    ∙ by_first (is_none (refusal_exec here)) (ltb 0 (length (waiting_here here)))
    (ap is_none (exec_free here t busy apart own none))

-- and any at which a request is pending
acts_when_asked : (here : Here) (since : ℕ) (startable : Bool) → asks here ≡ true → waiting_here here ≡ [] → NoneWaits here
    → can_act (sight_in here since 0) startable ≡ true
acts_when_asked here since startable asked own none = go (runs here) here.awaits refl refl
  where
    go : (running waits : Option ℕ) → runs here ≡ running → here.awaits ≡ waits → acts_by here startable running waits ≡ true
    go None waits idle at = by_first (asks here) startable asked
    go (Some t) (Some left) busy at = by_first (asks here) (eqb left 0) asked
    go (Some t) None busy apart =
        by_first (is_none (refusal_exec here)) (ltb 0 (length (waiting_here here)))
        (ap is_none (exec_free here t busy apart own none))

-- a hart that can, where the first so many harts are open
pub record SomeAble (s : Setting) (before : History) (opened : ℕ) : Type 0 where
  pub hart : ℕ
  pub lt : hart < s.limits.harts
  pub able : is_able (scene_at s before) opened hart ≡ true

-- a place where no store waits, and where barriers and requests go together, and threads and the ready list
record IsQuiet (s : Setting) (before : History) : Type 0 where
  pub none : (k : ℕ) → k < s.limits.harts → waiting k before ≡ []
  pub tables : IsTables s.limits.harts (kernel s before).threads (kernel s before).scheduling
  pub awaited : IsAwaited s.limits.harts (λ k. requests k before) (λ k. awaits k before)

-- whether a thread may begin to run on a hart
abbrev begins_at : Setting → History → ℕ → ℕ → Bool
begins_at s before opened h = ltb 0 (length (startable opened h (by_number (kernel s before))))

-- there a hart can at which a request is pending
asked_able : (s : Setting) (before : History) (opened h : ℕ) → h < s.limits.harts → IsQuiet s before
    → not (eqb (requests h before) 0) ≡ true → SomeAble s before opened
asked_able s before opened h below quiet asked = record {
  hart = h;
  lt = below;
  able = acts_when_asked (here_in_history s before h) (ran h before) (begins_at s before opened h) asked (quiet.none h below)
      quiet.none;
}

-- a request is pending at each hart for which a barrier waits
not_zero : (n : ℕ) → n ≢ 0 → not (eqb n 0) ≡ true
not_zero n some = ap not (ne_eqb n 0 some)

asks_some : (set h : ℕ) → has_hart set h ≡ true → set ≢ 0
asks_some set h has none =
    false≢true (sym (has_hart-past 0 0 h (omega arith) (omega arith)) ∙ ap (λ (n : ℕ). has_hart n h) (sym none) ∙ has)

-- so a hart can on which a thread runs, or one for which that thread waits
barrier_able : (s : Setting) (before : History) (opened h t left : ℕ) → h < s.limits.harts → IsQuiet s before
    → runs (here_in_history s before h) ≡ Some t → awaits h before ≡ Some left → SomeAble s before opened
barrier_able s before opened h t left below quiet busy waits = elim (cases_eq left 0) [
  | inl over ↦ record {
    hart = h;
    lt = below;
    able = acts_returning (here_in_history s before h) (ran h before) t left (begins_at s before opened h) busy waits over;
  }
  | inr some ↦
      let found = some_hart left some in
      let asked = quiet.awaited.pending h left found.0 waits found.1 in
      asked_able s before opened found.0 (quiet.awaited.below h left found.0 waits found.1) quiet
      (not_zero (requests found.0 before) (asks_some (requests found.0 before) h asked))
]

running_able : (s : Setting) (before : History) (opened h t : ℕ) (o : Option ℕ) → h < s.limits.harts → IsQuiet s before
    → runs (here_in_history s before h) ≡ Some t → awaits h before ≡ o → SomeAble s before opened
running_able s before opened h t None below quiet busy apart = record {
  hart = h;
  lt = below;
  able = acts_apart (here_in_history s before h) (ran h before) t (begins_at s before opened h) busy apart (quiet.none h below)
      quiet.none;
}
running_able s before opened h t (Some left) below quiet busy waits = barrier_able s before opened h t left below quiet busy waits

-- and so does any hart, if a thread may begin to run there where it is idle
hart_able : (s : Setting) (before : History) (opened h : ℕ) (o : Option ℕ) → h < s.limits.harts → IsQuiet s before
    → runs (here_in_history s before h) ≡ o
    → (not (eqb (requests h before) 0) || begins_at s before opened h) ≡ true → SomeAble s before opened
hart_able s before opened h None below quiet idle may = record {
  hart = h;
  lt = below;
  able = acts_idle (here_in_history s before h) (ran h before) (begins_at s before opened h) idle may;
}
hart_able s before opened h (Some t) below quiet busy may =
    running_able s before opened h t (awaits h before) below quiet busy refl

-- a ready thread that may run on some hart may begin to run on an open one, or on that one

-- a hart among the first so many of a set is in the set
low_hart : (set opened h : ℕ) → h < opened → has_hart (set % 2 ^ opened) h ≡ true → has_hart set h ≡ true
low_hart set opened h low has =
    let whole : set / 2 ^ opened * 2 ^ opened + set % 2 ^ opened ≡ set = div-add-mod' set (2 ^ opened) in
    ap (λ (n : ℕ). has_hart n h) (sym whole)
    ∙ ap (λ (b : ℕ). eqb b 1) (bit_at_cat_low (set / 2 ^ opened) opened (set % 2 ^ opened) h low) ∙ has

open_hart : (set opened h harts : ℕ) → opened ≤ harts → h < harts → has_hart set h ≡ true
    → (k : ℕ) × (k < harts) × (may_begin opened k set ≡ true)
open_hart set opened h harts few below has = elim (cases_eq (set % 2 ^ opened) 0) [
  | inl none ↦ (
    h,
    below,
    by_both (has_hart set h) (ltb h opened || eqb (set % 2 ^ opened) 0) has
        (by_second (ltb h opened) (eqb (set % 2 ^ opened) 0) (eq-eqb (set % 2 ^ opened) 0 none)),
  )
  | inr some ↦
      let found = some_hart (set % 2 ^ opened) some in
      let k = found.0 in
      let low : k < opened = has_hart-within (set % 2 ^ opened) opened k (mod_below set (2 ^ opened) (pow_pos opened)) found.1 in (
        k,
        omega arith,
        by_both (has_hart set k) (ltb k opened || eqb (set % 2 ^ opened) 0) (low_hart set opened k low found.1)
            (by_first (ltb k opened) (eqb (set % 2 ^ opened) 0) (lt-ltb k opened low)),
      )
]

-- a list in which a test holds of something isn't empty
some_of_any : (test : ℕ → Bool) (us : List ℕ) → list_any test us ≡ true → ltb 0 (length us) ≡ true
some_of_any test [] any = absurd (false≢true any)
some_of_any test (u ∷ us) any = lt-ltb 0 (length (u ∷ us)) (omega arith)

begins : (s : Scheduling) (opened h t : ℕ) → list_any (λ u. eqb u t) s.order ≡ true → may_begin opened h (affinity_of t s) ≡ true
    → ltb 0 (length (startable opened h s)) ≡ true
begins s opened h t listed passes =
    let may : ℕ → Bool = λ u. may_begin opened h (affinity_of u s) in
    let kept = any-filter_same (λ u. eqb u t) may (may t) (λ u is. ap may (eqb-true u t is)) s.order in
    some_of_any (λ u. eqb u t) (filter may s.order) (kept ∙ by_both (may t) (list_any (λ u. eqb u t) s.order) passes listed)

-- what is found in a list is in it
found_in : (p : ℕ → Bool) (t : ℕ) (us : List ℕ) → find p us ≡ Some t → (p t ≡ true) × (list_any (λ u. eqb u t) us ≡ true)
found_in p t [] found = absurd cc
found_in p t (u ∷ us) found = go (p u) refl (found_in p t us) found
  where
    go : (b : Bool) → p u ≡ b → (find p us ≡ Some t → (p t ≡ true) × (list_any (λ u. eqb u t) us ≡ true))
        → cond b (Some u) (find p us) ≡ Some t → (p t ≡ true) × ((eqb u t || list_any (λ u. eqb u t) us) ≡ true)
    go true is below found =
        let same : u ≡ t = cc in
        (ap p (sym same) ∙ is, by_first (eqb u t) (list_any (λ u. eqb u t) us) (eq-eqb u t same))
    go false is below found =
        let rest = below found in
        (rest.0, by_second (eqb u t) (list_any (λ u. eqb u t) us) rest.1)

-- so at such a place, where the first ready thread that may run on some hart is this one, some hart can
ready_able : (s : Setting) (before : History) (opened h t : ℕ) → opened ≤ s.limits.harts → h < s.limits.harts → IsQuiet s before
    → first_for h (kernel s before).scheduling ≡ Some t → SomeAble s before opened
ready_able s before opened h t few below quiet first =
    let k = kernel s before in
    let found = found_in (λ u. has_hart (affinity_of u k.scheduling) h) t k.scheduling.order first in
    let ready : is_ready t k.threads ≡ true = sym (ready_listed s.limits.harts t k.threads k.scheduling quiet.tables) ∙ found.1 in
    let at = open_hart (affinity_of t k.scheduling) opened h s.limits.harts few below found.0 in
    hart_able s before opened at.0 (runs (here_in_history s before at.0)) at.1 quiet refl
    (by_second (not (eqb (requests at.0 before) 0)) (begins_at s before opened at.0)
    (begins (by_number k) opened at.0 t (ready_is_listed k.threads t quiet.tables.threads ready) at.2))

-- a hart has something to do: a request is pending there, a thread runs there, or a ready one may
pub record HasWork (s : Setting) (before : History) : Type 0 where
  pub hart : ℕ
  pub lt : hart < s.limits.harts
  pub idle : runs (here_in_history s before hart) ≡ None
      → (not (eqb (requests hart before) 0) || is_some (first_for hart (kernel s before).scheduling)) ≡ true

idle_able : (s : Setting) (before : History) (opened h : ℕ) (o : Option ℕ) → opened ≤ s.limits.harts → h < s.limits.harts
    → IsQuiet s before → first_for h (kernel s before).scheduling ≡ o
    → (not (eqb (requests h before) 0) || is_some o) ≡ true → SomeAble s before opened
idle_able s before opened h (Some t) few below quiet first may = ready_able s before opened h t few below quiet first
idle_able s before opened h None few below quiet first may =
    asked_able s before opened h below quiet (asked (not (eqb (requests h before) 0)) may)
  where
    asked : (b : Bool) → (b || false) ≡ true → b ≡ true
    asked true is = refl
    asked false is = is

quiet_able : (s : Setting) (before : History) (opened : ℕ) (work : HasWork s before) (o : Option ℕ) → opened ≤ s.limits.harts
    → IsQuiet s before → runs (here_in_history s before work.hart) ≡ o → SomeAble s before opened
quiet_able s before opened work None few quiet idle =
    idle_able s before opened work.hart (first_for work.hart (kernel s before).scheduling) few work.lt quiet refl (work.idle idle)
quiet_able s before opened work (Some t) few quiet busy =
    running_able s before opened work.hart t (awaits work.hart before) work.lt quiet busy refl

-- a hart on which a store waits, if there is one
find_waiting : (stores : ℕ → List Store) (n : ℕ)
    → ((k : ℕ) × (k < n) × (ltb 0 (length (stores k)) ≡ true)) ⊎ ((k : ℕ) → k < n → stores k ≡ [])
find_waiting stores zero = inr (λ k below. absurd (omega arith))
find_waiting stores (suc n) = go (stores n) refl (find_waiting stores n)
  where
    go : (ws : List Store) → stores n ≡ ws
        → ((k : ℕ) × (k < n) × (ltb 0 (length (stores k)) ≡ true)) ⊎ ((k : ℕ) → k < n → stores k ≡ [])
        → ((k : ℕ) × (k < suc n) × (ltb 0 (length (stores k)) ≡ true)) ⊎ ((k : ℕ) → k < suc n → stores k ≡ [])
    go (w ∷ ws) is rest =
        inl (n, omega arith, ap (λ (xs : List Store). ltb 0 (length xs)) is ∙ lt-ltb 0 (length (w ∷ ws)) (omega arith))
    go [] is (inl found) = let below = found.1 in inl (found.0, omega arith, found.2)
    go [] is (inr none) =
        inr (λ k below. elim (cases_eq k n) [ inl same ↦ ap stores same ∙ is | inr other ↦ none k (omega arith) ])

-- what holds of the barriers that are waited in and of the tables at each place of a block run
all_good : (s : Setting) (log : List Entry) → IsBlockRun s log → IsGood s (plain_of s (history s log))
all_good s log run =
    let v : Seen = record { setting = s; seed = 0; log = log } in
    subst (λ (m : Plain). IsGood s m) (same_state v run) (good_at v run)

quiet_at : (s : Setting) (log : List Entry) → IsBlockRun s log → ((k : ℕ) → k < s.limits.harts → waiting k (history s log) ≡ [])
    → IsQuiet s (history s log)
quiet_at s log run none =
    let good = all_good s log run in
    record { none = none; tables = good.kernel.tables; awaited = good.awaited }

-- so where a hart has something to do some hart can
able_by : (s : Setting) (log : List Entry) (opened : ℕ) → IsBlockRun s log → opened ≤ s.limits.harts → HasWork s (history s log)
    → ((k : ℕ) × (k < s.limits.harts) × (ltb 0 (length (waiting k (history s log))) ≡ true))
    ⊎ ((k : ℕ) → k < s.limits.harts → waiting k (history s log) ≡ [])
    → SomeAble s (history s log) opened
able_by s log opened run few work (inl found) =
    let before = history s log in
    record {
      hart = found.0;
      lt = found.1;
      able = acts_with_stores (here_in_history s before found.0) (ran found.0 before) (begins_at s before opened found.0)
          (good_place s log found.0 run found.1) found.2;
    }
able_by s log opened run few work (inr none) =
    quiet_able s (history s log) opened work (runs (here_in_history s (history s log) work.hart)) few (quiet_at s log run none) refl

pub some_able : (s : Setting) (log : List Entry) (opened : ℕ) → IsBlockRun s log → opened ≤ s.limits.harts
    → HasWork s (history s log) → SomeAble s (history s log) opened
some_able s log opened run few work =
    able_by s log opened run few work (find_waiting (λ k. waiting k (history s log)) s.limits.harts)
