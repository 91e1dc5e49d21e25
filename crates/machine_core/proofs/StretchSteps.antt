-- Instructions that touch registers alone, one after another, as `run` chooses them on credit: what becomes of the parts of a
-- machine and of its log.
use Rattle.machine_core.proofs.Common.{◌≡◌, ◌≢◌, ℕ, ◌+◌, ◌-◌, ◌<◌, ◌≤◌, ◌&&◌, List, [], ◌∷◌, ◌++◌, length, map, refl, sym, ap, ◌∙◌, subst, arith, Bool, true, false, eqb, ltb, get_or, set, slice_get, Option, None, Some, Ok, is_none, is_some, append-nil, suc, eq-eqb, ◌⊎◌, inl, inr, option_and_then, option_map, option_map_or, with_item, cases_eq, ne_eqb, same_Some, slice_get-get_or, InRange, Choice, Entry, Hart, HartState, History, ImagePage, IsBlockRun, Parts, Saved, Seen, Setting, Sight, executed, here_in_history, ran, sets_register, Tid, Effect, draws, pick, Generator, generator_in, word, Pick, after_pick-settled, all_chosen, choice_at, credit_at, has_ended, next_entry, pick_at, entry_in, history, over_at, done_of, refusal_of, Here, is_writable, memory, runs, next_effect, here_of, plain_after, plain_over, is_local_on, sight_in, stand_of, Stretch, advanced, goes_on, longest, stepped, Steps, length-history, same_here, same_state, credit_of, file_of, file_on, hart_at, IsAfter, answer_to, answered, followed, generators_after, is_followed, is_picked, append_assoc, and_parts, and_from, has_credit, on_credit, file_after, credited, entry_exec, get_set_other, get_set_same, in_list, thread_is, add-zero, free_event}
use Rattle.std.proofs.lemmas.List.{length-append}
use Rattle.mach_types.specs.Registers.{with_register}
use Rattle.mach_types.specs.declared.events.Choice.TheVariants as asked
use Rattle.mach_types.specs.declared.events.Kind.TheVariants as kind
use Rattle.rv_inst.specs.declared.effects.Effect.TheVariants as effect
use Rattle.process.specs.EventOutcomes.{entry_from}
use Rattle.machine_core.proofs.ChoiceCredits.{choice_where, pick_read}
use Rattle.machine_core.proofs.MachineCredits.{IsSettled, mapped_itself, not_ended, settled_next, tied_with}
use Rattle.machine_core.proofs.Sights.{next_local}
use Rattle.machine_core.proofs.MachineSteps.{IsLogPlace, stepped as stepped_by, log_place}

-- an instruction that sets a register and the pc, and does nothing else
pub record IsLocal (pages : List ImagePage) (f : Saved) : Type 0 where
  pub rd : ℕ
  pub value : ℕ
  pub to : ℕ
  pub effect : next_effect pages f ≡ Some (effect.Next rd value to)

local_of : (pages : List ImagePage) (f : Saved) (o : Option Effect) → next_effect pages f ≡ o → option_map_or sets_register o false ≡ true → IsLocal pages f
local_of pages f None at sets = cc
local_of pages f (Some (effect.Next rd value to)) at sets = record { rd = rd; value = value; to = to; effect = at }
local_of pages f (Some e) at sets = cc

-- what is known where a stretch goes on
pub record GoesOn (pages : List ImagePage) (a : Stretch) : Type 0 where
  pub credit : ltb 0 a.credit ≡ true
  pub sets : option_map_or sets_register (next_effect pages a.file) false ≡ true
  pub instruction : IsLocal pages a.file

pub goes_on_is : (pages : List ImagePage) (a : Stretch) → goes_on pages a ≡ true → GoesOn pages a
goes_on_is pages a goes =
    let sets = and_parts (ltb 0 a.credit && ltb (length a.pcs) longest) (option_map_or sets_register (next_effect pages a.file) false) goes in
    record {
      credit = (and_parts (ltb 0 a.credit) (ltb (length a.pcs) longest) sets.0).0;
      sets = sets.1;
      instruction = local_of pages a.file (next_effect pages a.file) refl sets.1;
    }

-- a machine's parts at a log of choices that goes on, with a thread on a hart in this state
pub record IsOnWay (s : Setting) (seed : ℕ) (log : List Entry) (m : Parts) (words : List Generator) (h : Hart) (t : Tid) (x : HartState) : Type 0 where
  pub run : IsBlockRun s log
  pub settled : IsSettled s seed log m words true
  pub limits : InRange s.limits
  pub goes : m.ended ≡ None
  pub lt : h.0 < s.limits.harts
  pub there : slice_get m.harts.items h.0 ≡ Some x
  pub busy : x.running ≡ Some t
  pub no_barrier : x.waits ≡ None

abbrev at_log : Setting → ℕ → List Entry → Seen
at_log s seed log = record { setting = s; seed = seed; log = log }

-- the place there, and the state of the hart, which is the plain machine's
module _ (s : Setting) (seed : ℕ) (log : List Entry) (m : Parts) (words : List Generator) (h : Hart) (t : Tid) (x : HartState) (way : IsOnWay s seed log m words h t x) where
  place_on : length log < s.limits.steps → IsLogPlace (at_log s seed log) m h.0
  place_on room = log_place (at_log s seed log) m h.0 way.run way.settled.tied way.limits way.goes room way.lt

  pub own_is : x ≡ hart_at s (plain_after s log) h.0 (credit_of m.harts.items h.0)
  own_is = same_Some x (hart_at s (plain_after s log) h.0 (credit_of m.harts.items h.0)) (sym way.there ∙ way.settled.tied.harts h.0 way.lt)

  -- so its thread runs there, with its file, and waits in no barrier
  pub runs_is : runs (here_of (at_log s seed log) h.0) ≡ Some t.0
  runs_is = thread_is (runs (here_of (at_log s seed log) h.0)) t (sym way.busy ∙ ap (λ (y : HartState). y.running) own_is)

  file_is : file_of x ≡ (here_of (at_log s seed log) h.0).file t.0
  file_is =
      let here = here_of (at_log s seed log) h.0 in
      ap file_of own_is ∙ ap (λ o. let f : Saved = record { file = (file_on here o).file; pc = (file_on here o).pc } in f) runs_is

  waits_is : (here_of (at_log s seed log) h.0).awaits ≡ None
  waits_is = sym (ap (λ (y : HartState). y.waits) own_is) ∙ way.no_barrier

  -- and the run goes on
  not_ended_on : length log < s.limits.steps → has_ended s (history s log) ≡ false
  not_ended_on room =
      let long = length-history s log in
      let goes : over_at s (history s log) ≡ None = sym (way.settled.tied.ended ∙ ap plain_over (same_state (at_log s seed log) way.run)) ∙ way.goes in
      not_ended s (history s log) goes (omega (arith, long, room))

-- the hart's state after such an instruction, but for its credit
abbrev moved : HartState → ℕ → ℕ → ℕ → HartState
moved x rd value to = record x { file = with_register x.file rd value; pc = to; ran = x.ran + 1; events = x.events + 1 }

-- and with it
abbrev pub after_one : Stretch → ℕ → HartState → HartState
after_one next credit x = record x { file = next.file.file; pc = next.file.pc; credit = credit; ran = x.ran + 1; events = x.events + 1 }

-- the parts with this state of the hart
abbrev with_state : Parts → ℕ → HartState → Parts
with_state m h y = record m { harts = with_item m.harts h y }

-- what the instruction does to them
record IsMoved (v : Seen) (m : Parts) (h : Hart) (t : Tid) (x : HartState) (rd value to : ℕ) : Type 0 where
  pub free : refusal_of asked.Exec (here_of v h.0) ≡ None
  pub entry : entry_in asked.Exec (here_of v h.0) ≡ executed h t x.pc
  pub after : IsAfter (stand_of v) h.0 (done_of asked.Exec (here_of v h.0)) m (with_state m h.0 (moved x rd value to))

move : (s : Setting) (seed : ℕ) (log : List Entry) (m : Parts) (words : List Generator) (h : Hart) (t : Tid) (x : HartState) (rd value to : ℕ)
    → IsOnWay s seed log m words h t x → length log < s.limits.steps → next_effect s.program.pages (file_of x) ≡ Some (effect.Next rd value to)
    → IsMoved (at_log s seed log) m h t x rd value to
move s seed log m words h t x rd value to way room is =
    let v = stand_of (at_log s seed log) in
    let place = (place_on s seed log m words h t x way room).at in
    let got : x ≡ get_or m.harts.items h.0 x = same_Some x (get_or m.harts.items h.0 x) (sym way.there ∙ slice_get-get_or m.harts.items h.0 x (in_list v m h.0 place)) in
    let event = free_event v m h x s.program.pages rd value to place (record { none = refl; pages = refl }) got (sym is) (ap is_some way.busy) (ap is_some way.no_barrier) in
    record {
      free = event.0;
      entry = sym (entry_exec (credit_of m.harts.items h.0) s (plain_after s log) h x (own_is s seed log m words h t x way)) ∙ entry_busy x.running way.busy;
      after = event.1;
    }
  where
    entry_busy : (o : Option Tid) → o ≡ Some t → entry_from h kind.Exec o x.pc ≡ executed h t x.pc
    entry_busy o busy = rw busy refl

-- what is seen of the hart, and picked for it: the instruction, on credit
pick_on_credit : (seen : Sight) (w : ℕ) → seen.idle ≡ false → seen.in_barrier ≡ false → has_credit seen ≡ true → pick seen w ≡ Some (on_credit seen)
unfolding pick
pick_on_credit seen w busy free credit = rw (busy, free, credit) refl

no_draw_on_credit : (seen : Sight) → seen.idle ≡ false → seen.in_barrier ≡ false → has_credit seen ≡ true → draws seen ≡ false
no_draw_on_credit seen busy free credit = rw (busy, free, credit) refl

next_by : (s : Setting) (seed h : ℕ) (before : History) (o : Option Choice) → choice_at s seed h before ≡ o
    → next_entry s seed h before ≡ option_map (λ c. entry_in c (here_in_history s before h)) o
unfolding next_entry
next_by s seed h before o is = ap (option_map (λ c. entry_in c (here_in_history s before h))) is

state_is : (pages : List ImagePage) (x : HartState) (a : Stretch) (rd value to k : ℕ) → a.file ≡ file_of x → next_effect pages a.file ≡ Some (effect.Next rd value to) → k ≡ a.credit - 1
    → (let z : HartState = record (moved x rd value to) { credit = k } in z) ≡ after_one (stepped pages a) (a.credit - 1) x
state_is pages x a rd value to k file is left =
    let f : (stepped pages a).file ≡ (let g : Saved = record { file = with_register x.file rd value; pc = to } in g) =
    ap (λ o. option_map_or (file_after a.file) o a.file) is ∙ ap (λ g. file_after g (effect.Next rd value to)) file in
    ap (λ (g : Saved). let z : HartState = record x { file = g.file; pc = g.pc; credit = k; ran = x.ran + 1; events = x.events + 1 } in z) (sym f)
    ∙ ap (λ n. after_one (stepped pages a) n x) left

hart_by : (xs : List HartState) (h k : ℕ) (x y y1 : HartState) (o : Option Pick) (p : Pick) → slice_get xs h ≡ Some x → o ≡ Some p → is_picked asked.Exec (Some p) ≡ true
    → credited asked.Exec (Some p) true y1 ≡ y
    → slice_get (set xs h y) k ≡ option_map (credited asked.Exec o (eqb k h)) (slice_get (set xs h y1) k)
hart_by xs h k x y y1 o p there is picked state = go (cases_eq k h)
  where
    same_other : (z : Option HartState) → z ≡ option_map (credited asked.Exec (Some p) false) z
    same_other None = refl
    same_other (Some z) = ap Some (rw picked refl)

    go : (k ≡ h) ⊎ (k ≢ h) → slice_get (set xs h y) k ≡ option_map (credited asked.Exec o (eqb k h)) (slice_get (set xs h y1) k)
    go (inl same) =
        rw (same, is, eq-eqb h h refl, get_set_same xs h x y there, get_set_same xs h x y1 there) (ap Some (sym state))
    go (inr ne) =
        rw (is, ne_eqb k h ne, get_set_other xs h k y ne, get_set_other xs h k y1 ne) (same_other (slice_get xs k))

-- one instruction of a stretch, as the machine makes it
pub record IsOneOn (s : Setting) (seed : ℕ) (log : List Entry) (m : Parts) (words : List Generator) (h : Hart) (t : Tid) (x : HartState) (a : Stretch) : Type 0 where
  pub next : next_entry s seed h.0 (history s log) ≡ Some (executed h t x.pc)
  pub way : let y = after_one (stepped s.program.pages a) (a.credit - 1) x in
      IsOnWay s seed (log ++ executed h t x.pc ∷ []) (record m { harts = with_item m.harts h.0 y }) words h t y

pub one_on : (s : Setting) (seed : ℕ) (log : List Entry) (m : Parts) (words : List Generator) (h : Hart) (t : Tid) (x : HartState) (a : Stretch)
    → IsOnWay s seed log m words h t x → length log < s.limits.steps → a.file ≡ file_of x → a.credit ≡ x.credit → goes_on s.program.pages a ≡ true
    → IsOneOn s seed log m words h t x a
one_on s seed log m words h t x a way room file credit goes =
    let v = at_log s seed log in
    let past = history s log in
    let there = here_in_history s past h.0 in
    let go = goes_on_is s.program.pages a goes in
    let i = go.instruction in
    let its : next_effect s.program.pages (file_of x) ≡ Some (effect.Next i.rd i.value i.to) = ap (next_effect s.program.pages) (sym file) ∙ i.effect in
    let is = move s seed log m words h t x i.rd i.value i.to way room its in
    let place = place_on s seed log m words h t x way room in
    let e = executed h t x.pc in
    let y1 = moved x i.rd i.value i.to in
    let answer : Ok e ≡ answer_to (stand_of v) h.0 asked.Exec = ap Ok (sym is.entry) ∙ ap (answered (entry_in asked.Exec (here_of v h.0))) (sym is.free) in
    let step = stepped_by v m (with_state m h.0 y1) h asked.Exec (Ok e) e place answer refl is.after in
    let going = not_ended_on s seed log m words h t x way room in
    -- what is seen
    let shown : credit_at s seed h.0 past ≡ a.credit = sym (way.settled.credits h.0 way.lt) ∙ (ap (λ o. option_map_or (λ (z : HartState). z.credit) o 0) way.there ∙ sym credit) in
    let seen = sight_in there (ran h.0 past) (credit_at s seed h.0 past) in
    let at : runs there ≡ Some t.0 = sym (ap runs (same_here v h.0 way.run)) ∙ runs_is s seed log m words h t x way in
    let busy : seen.idle ≡ false = ap is_none at in
    let its_file : a.file ≡ there.file t.0 = file ∙ (file_is s seed log m words h t x way ∙ ap (λ (k : Here). k.file t.0) (same_here v h.0 way.run)) in
    let is_local : seen.«local» ≡ true =
    ap (is_local_on there) at ∙ (sym (next_local (memory there) (is_writable there) s.program.pages (there.file t.0)) ∙ (ap (λ f. option_map_or sets_register (next_effect s.program.pages f) false) (sym its_file) ∙ go.sets)) in
    let out : seen.in_barrier ≡ false = ap (λ (k : Here). is_some k.awaits) (sym (same_here v h.0 way.run)) ∙ ap is_some (waits_is s seed log m words h t x way) in
    let on_it : has_credit seen ≡ true = and_from (ltb 0 (credit_at s seed h.0 past)) seen.«local» (ap (ltb 0) shown ∙ go.credit) is_local in
    let picks : pick seen (word (generator_in words h.0)) ≡ Some (on_credit seen) = pick_on_credit seen (word (generator_in words h.0)) busy out on_it in
    let no_draw = no_draw_on_credit seen busy out on_it in
    let all : true ≡ all_chosen s seed past = way.settled.chosen in
    let place_pick : pick_at s seed h.0 past ≡ Some (on_credit seen) = sym (pick_read s seed past h.0 words all (way.settled.generators refl h.0 way.lt)) ∙ picks in
    let chosen : choice_at s seed h.0 past ≡ Some asked.Exec = choice_where s seed h.0 past going way.lt ∙ ap (option_map (λ (p : Pick). p.choice)) place_pick in
    -- what follows
    let y = after_one (stepped s.program.pages a) (a.credit - 1) x in
    let left : (on_credit seen).credit ≡ a.credit - 1 = ap (λ n. n - 1) shown in
    let state : credited asked.Exec (Some (on_credit seen)) true y1 ≡ y = state_is s.program.pages x a i.rd i.value i.to (on_credit seen).credit file i.effect left in
    let m' : Parts = record m { harts = with_item m.harts h.0 y } in
    let harts : (k : ℕ) → slice_get m'.harts.items k ≡ option_map (followed (Some seen) words h.0 asked.Exec k) (slice_get (with_state m h.0 y1).harts.items k) =
    λ k. hart_by m.harts.items h.0 k x y y1 (pick seen (word (generator_in words h.0))) (on_credit seen) way.there picks refl state in
    let set = settled_next s seed log m words true h asked.Exec e (with_state m h.0 y1) m' (Some seen) way.settled way.limits going way.lt step is.after.credits refl harts refl refl refl in
    let followed_so : is_followed (Some seen) words h.0 asked.Exec ≡ true = ap (is_picked asked.Exec) picks in
    let stay : generators_after (Some seen) h.0 words ≡ words = after_pick-settled seen h.0 words no_draw in
    record {
      next = next_by s seed h.0 past (Some asked.Exec) chosen ∙ ap Some (ap (entry_in asked.Exec) (sym (same_here v h.0 way.run)) ∙ is.entry);
      way = record {
        run = step.run;
        settled = subst (λ b. IsSettled s seed (log ++ e ∷ []) m' words b) followed_so (subst (λ g. IsSettled s seed (log ++ e ∷ []) m' g (is_followed (Some seen) words h.0 asked.Exec)) stay set);
        limits = way.limits;
        goes = way.goes;
        lt = way.lt;
        there = get_set_same m.harts.items h.0 x y way.there;
        busy = way.busy;
        no_barrier = way.no_barrier;
      };
    }

-- the hart's state after so many instructions that leave this stretch
abbrev pub state_after : Stretch → ℕ → HartState → HartState
state_after l n x = record x { file = l.file.file; pc = l.file.pc; credit = l.credit; ran = x.ran + n; events = x.events + n }

-- all instructions of a stretch, as the machine makes them
pub record AreAllOn (s : Setting) (seed : ℕ) (log : List Entry) (m : Parts) (words : List Generator) (h : Hart) (t : Tid) (x : HartState) (pcs : List ℕ) (l : Stretch) : Type 0 where
  pub parts : Parts
  pub way : IsOnWay s seed (log ++ map (executed h t) pcs) parts words h t (state_after l (length pcs) x)
  pub pages : parts.pages ≡ m.pages
  pub kernel : parts.kernel ≡ m.kernel
  pub ended : parts.ended ≡ m.ended
  pub harts : (k : ℕ) → slice_get parts.harts.items k ≡ slice_get (set m.harts.items h.0 (state_after l (length pcs) x)) k
  pub log_after : advanced s seed h.0 (length pcs) log ≡ Some (log ++ map (executed h t) pcs)

state_after_none : (a l : Stretch) (x : HartState) → a.file ≡ file_of x → a.credit ≡ x.credit → a ≡ l → state_after l 0 x ≡ x
state_after_none a l x file credit same =
    ap (λ (b : Stretch). state_after b 0 x) (sym same)
    ∙ (ap (λ (f : Saved). let z : HartState = record x { file = f.file; pc = f.pc; credit = a.credit; ran = x.ran + 0; events = x.events + 0 } in z) file
    ∙ (ap (λ n. let z : HartState = record x { credit = n; ran = x.ran + 0; events = x.events + 0 } in z) credit
    ∙ (ap (λ n. let z : HartState = record x { ran = n; events = x.events + 0 } in z) (add-zero x.ran)
    ∙ ap (λ n. let z : HartState = record x { events = n } in z) (add-zero x.events))))

state_after_more : (a l : Stretch) (credit n : ℕ) (x : HartState) → state_after l n (after_one a credit x) ≡ state_after l (suc n) x
state_after_more a l credit n x =
    ap (λ k. let z : HartState = record x { file = l.file.file; pc = l.file.pc; credit = l.credit; ran = k; events = x.events + 1 + n } in z) (one_first x.ran n)
    ∙ ap (λ k. let z : HartState = record x { file = l.file.file; pc = l.file.pc; credit = l.credit; ran = x.ran + suc n; events = k } in z) (one_first x.events n)
  where
    one_first : (a n : ℕ) → a + 1 + n ≡ a + suc n
    one_first a n = omega arith

get_set_twice : (xs : List HartState) (h k : ℕ) (x y1 y : HartState) → slice_get xs h ≡ Some x → slice_get (set (set xs h y1) h y) k ≡ slice_get (set xs h y) k
get_set_twice xs h k x y1 y there = elim (cases_eq k h) [
  | inl same ↦ rw (same, get_set_same (set xs h y1) h y1 y (get_set_same xs h x y1 there), get_set_same xs h x y there) refl
  | inr ne ↦ rw (get_set_other (set xs h y1) h k y ne, get_set_other xs h k y1 ne, get_set_other xs h k y ne) refl
]

get_set_itself : (xs : List HartState) (h k : ℕ) (x : HartState) → slice_get xs h ≡ Some x → slice_get xs k ≡ slice_get (set xs h x) k
get_set_itself xs h k x there = elim (cases_eq k h) [
  | inl same ↦ rw (same, get_set_same xs h x x there) there
  | inr ne ↦ sym (get_set_other xs h k x ne)
]

pub all_on : (s : Setting) (seed : ℕ) (pcs : List ℕ) (log : List Entry) (m : Parts) (words : List Generator) (h : Hart) (t : Tid) (x : HartState) (a l : Stretch)
    → IsOnWay s seed log m words h t x → length log + length pcs ≤ s.limits.steps → a.file ≡ file_of x → a.credit ≡ x.credit → Steps s.program.pages a pcs l
    → AreAllOn s seed log m words h t x pcs l
all_on s seed [] log m words h t x a l way room file credit steps =
    let none = state_after_none a l x file credit steps in
    let same : log ≡ log ++ [] = sym (append-nil log) in
    record {
      parts = m;
      way = subst (λ g. IsOnWay s seed g m words h t (state_after l 0 x)) same (subst (λ z. IsOnWay s seed log m words h t z) (sym none) way);
      pages = refl;
      kernel = refl;
      ended = refl;
      harts = λ k. get_set_itself m.harts.items h.0 k x way.there ∙ ap (λ z. slice_get (set m.harts.items h.0 z) k) (sym none);
      log_after = ap Some same;
    }
all_on s seed (pc ∷ pcs) log m words h t x a l way room file credit steps =
    let one = one_on s seed log m words h t x a way (omega (arith, room)) file credit steps.0 in
    let next = stepped s.program.pages a in
    let e = executed h t x.pc in
    let y1 = after_one next (a.credit - 1) x in
    let m1 : Parts = record m { harts = with_item m.harts h.0 y1 } in
    let long : length (log ++ e ∷ []) ≡ length log + 1 = length-append log (e ∷ []) in
    let rest = all_on s seed pcs (log ++ e ∷ []) m1 words h t y1 next l one.way (omega (arith, room, long)) refl refl steps.2 in
    let its : e ≡ executed h t pc = ap (executed h t) (sym (steps.1 ∙ ap (λ (f : Saved). f.pc) file)) in
    let whole : log ++ e ∷ [] ++ map (executed h t) pcs ≡ log ++ map (executed h t) (pc ∷ pcs) =
    append_assoc log (e ∷ []) (map (executed h t) pcs) ∙ ap (λ z. log ++ z ∷ map (executed h t) pcs) its in
    let state = state_after_more next l (a.credit - 1) (length pcs) x in
    record {
      parts = rest.parts;
      way = subst (λ g. IsOnWay s seed g rest.parts words h t (state_after l (suc (length pcs)) x)) whole
          (subst (λ z. IsOnWay s seed (log ++ e ∷ [] ++ map (executed h t) pcs) rest.parts words h t z) state rest.way);
      pages = rest.pages;
      kernel = rest.kernel;
      ended = rest.ended;
      harts = λ k. rest.harts k ∙ (get_set_twice m.harts.items h.0 k x y1 (state_after l (length pcs) y1) way.there ∙ ap (λ z. slice_get (set m.harts.items h.0 z) k) state);
      log_after = ap (option_and_then (λ z. advanced s seed h.0 (length pcs) (log ++ z ∷ []))) one.next ∙ (rest.log_after ∙ ap Some whole);
    }

-- parts with the same harts are as settled
pub settled_alike : (s : Setting) (seed : ℕ) (log : List Entry) (m m' : Parts) (words : List Generator) (chosen : Bool) → IsSettled s seed log m words chosen
    → ((k : ℕ) → slice_get m'.harts.items k ≡ slice_get m.harts.items k) → m'.pages ≡ m.pages → m'.kernel ≡ m.kernel → m'.ended ≡ m.ended
    → IsSettled s seed log m' words chosen
settled_alike s seed log m m' words chosen is harts pages kernel ended = record {
  tied = tied_with s (plain_after s log) m m' None words 0 asked.Exec is.tied (λ k. harts k ∙ mapped_itself (slice_get m.harts.items k)) pages kernel ended;
  chosen = is.chosen;
  credits = λ k below. ap (λ o. option_map_or (λ (z : HartState). z.credit) o 0) (harts k) ∙ is.credits k below;
  generators = is.generators;
  held = is.held;
}
