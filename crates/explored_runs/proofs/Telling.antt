-- What is told of one run more.
use Rattle.std.proofs.Common.{◌≡◌, ◌≤◌, ℕ, ◌+◌, ◌*◌, ◌<◌, zero, suc, false, List, [], ◌∷◌, Option, Some, None, inl, inr, get_or, set, length, refl, sym, ap, subst, add-one, arith, All}
use Rattle.std.specs.Option.{IfSome}
use Rattle.std.proofs.lemmas.Bool.{cases_eq}
use Rattle.std.proofs.lemmas.List.{get_or-set_other, get_or-set_same}
use Rattle.std.proofs.lemmas.List.Elements.{All-nil, All-replicate}
use Rattle.mach_types.specs.Limits.{InRange}
use Rattle.block_model.specs.Run.{IsBlockRun}
use Rattle.block_model.specs.Setting.{Seen, Setting}
use Rattle.block_model.proofs.Laws.{within_limit}
use Rattle.drawn_runs.specs.WholeRuns.{IsWholeDrawn}
use Rattle.drawn_machine.specs.Preemptions.{left_inside_in}
use Rattle.drawn_machine.specs.Waits.{no_waits, wait_counts_in}
use Rattle.drawn_machine.specs.declared.store_waits.TheConstants.{LONG_WAIT}
use Rattle.drawn_machine.proofs.Waiting.{few_wait_counts}
use Rattle.drawn_runs.specs.declared.manner.Manner.{Manner}
use Rattle.explored_runs.specs.declared.exploration.Exploration.{Exploration}
use Rattle.explored_runs.specs.declared.explored.Found.{Found}
use Rattle.explored_runs.specs.declared.made.Made.{Made}
use Rattle.explored_runs.specs.Accounts.{Account, IsWithin, has_enough, nothing, told}
use Rattle.explored_runs.specs.Explored.{AreMadeFrom, IsExploring, IsToldAfter}
use Rattle.explored_runs.specs.Made.{IsMadeAt}
use Rattle.explored_runs.specs.Tallies.{IsShort}
use Rattle.explored_runs.proofs.Counts.{short_inside, short_tally, within_told}

-- a whole run within the limits is short
pub short_log : (s : Setting) (m : Manner) (seen : Seen) → InRange s.limits → IsWholeDrawn s m seen → length seen.log ≤ 1000000
short_log s m seen limits whole =
    let steps = within_limit s seen.log whole.run.block_run in omega (arith, limits.most_steps)

pub short_left : (s : Setting) (m : Manner) (seen : Seen) (inside : ℕ) → InRange s.limits → IsWholeDrawn s m seen
    → inside ≡ left_inside_in seen → inside ≤ 1000000
short_left s m seen inside limits whole is =
    let few = short_inside seen.setting seen.log (short_log s m seen limits whole) in omega (arith, few, is)

pub short_waits : (s : Setting) (m : Manner) (seen : Seen) (waits : List ℕ) → InRange s.limits → IsWholeDrawn s m seen
    → waits ≡ wait_counts_in seen → All (λ (stores : ℕ). stores ≤ 1000000) waits
short_waits s m seen waits limits whole is =
    subst (All (λ (stores : ℕ). stores ≤ 1000000)) (sym is)
    (few_wait_counts seen.setting seen.log
    (subst (λ (t : Setting). IsBlockRun t seen.log) (sym whole.setting) whole.run.block_run) (short_log s m seen limits whole))

pub short_run : (s : Setting) (x : Exploration) (place : ℕ) (m : Made) → InRange s.limits → IsMadeAt s x place m → IsShort m.tally
short_run s x place m limits made =
    short_tally s made.log m.tally (ap (λ (n : Made). n.tally) made.made) made.run.block_run limits.eight_harts
    (let steps = within_limit s made.log made.run.block_run in omega (arith, limits.most_steps))

-- before the first run
within_nothing : IsWithin nothing
unfolding no_waits
within_nothing = record {
  found = All-nil (λ (f : Found). f.runs ≤ 0);
  others = tt;
  harts = All-replicate (λ (runs : ℕ). runs ≤ 0) 9 0 (omega arith);
  switches = omega arith;
  preemptions = omega arith;
  inside = omega arith;
  waits = All-replicate (λ (stores : ℕ). stores ≤ 1000000 * 0) (LONG_WAIT + 1) 0 (omega arith);
}

pub begins : (s : Setting) (x : Exploration) (a : Account) → a ≡ nothing → IsExploring s x a
begins s x a is =
    let first : IsExploring s x nothing = record { told = refl; within = within_nothing; few = omega arith } in
    subst (IsExploring s x) (sym is) first

-- an exploration goes on by the run of the next place
pub goes_on : (s : Setting) (x : Exploration) (a b : Account) (place : ℕ) (m : Made) → InRange s.limits → IsExploring s x a
    → place ≡ a.runs → a.runs < x.runs → has_enough x.until a ≡ false → IsMadeAt s x place m → b ≡ told a m → IsExploring s x b
goes_on s x a b place m limits so_far here room wanted made is =
    let at : IsMadeAt s x a.runs m = subst (λ (n : ℕ). IsMadeAt s x n m) here made in
    let next : IsToldAfter s x (suc a.runs) (told a m) =
    record { before = a; is_told = so_far.told; wanted = wanted; run = m; made = at; counted = refl } in
    let one : suc a.runs ≡ a.runs + 1 = sym (add-one a.runs) in
    let after : IsExploring s x (told a m) = record {
      told = subst (λ (n : ℕ). IsToldAfter s x n (told a m)) one next;
      within = within_told a m so_far.within (short_run s x a.runs m limits at);
      few = omega arith;
    } in
    subst (IsExploring s x) (sym is) after

-- by a run that is taken out of a round

taken : (s : Setting) (x : Exploration) (from : ℕ) (round : List (Option Made)) (i : ℕ) (d : Option Made) (m : Made) → AreMadeFrom s x from round
    → i < length round → Some m ≡ get_or round i d → IsMadeAt s x (from + i) m
taken s x from round i d m made below is =
    subst (λ (o : Option Made). IfSome o (IsMadeAt s x (from + i))) (sym is) (made i d below)

pub short_taken : (s : Setting) (x : Exploration) (from : ℕ) (round : List (Option Made)) (i : ℕ) (d : Option Made) (m : Made) → InRange s.limits
    → AreMadeFrom s x from round → i < length round → Some m ≡ get_or round i d → IsShort m.tally
short_taken s x from round i d m limits made below is = short_run s x (from + i) m limits (taken s x from round i d m made below is)

pub goes_on_taken : (s : Setting) (x : Exploration) (a b : Account) (from : ℕ) (round : List (Option Made)) (i : ℕ) (d : Option Made) (m : Made)
    → InRange s.limits → IsExploring s x a → a.runs ≡ from + i → from + length round ≤ x.runs → has_enough x.until a ≡ false
    → AreMadeFrom s x from round → i < length round → Some m ≡ get_or round i d → b ≡ told a m → IsExploring s x b
goes_on_taken s x a b from round i d m limits so_far at few wanted made below is told =
    goes_on s x a b (from + i) m limits so_far (sym at) (omega arith) wanted (taken s x from round i d m made below is) told

left_at : (P : ℕ → Made → Type 0) (round : List (Option Made)) (i : ℕ) → ((k : ℕ) (d : Option Made) → k < length round → IfSome (get_or round k d) (P k))
    → (k : ℕ) (d : Option Made) → k < length (set round i None) → IfSome (get_or (set round i None) k d) (P k)
left_at P [] i made k d below = absurd (omega arith)
left_at P (o ∷ round) zero made zero d below = tt
left_at P (o ∷ round) zero made (suc k) d below = made (suc k) d below
left_at P (o ∷ round) (suc i) made zero d below = made 0 d (omega arith)
left_at P (o ∷ round) (suc i) made (suc k) d below =
    left_at (λ (n : ℕ). P (suc n)) round i (λ n e within. made (suc n) e (omega arith)) k d (omega arith)

pub left : (s : Setting) (x : Exploration) (from : ℕ) (round : List (Option Made)) (i : ℕ) (o : Option Made) → o ≡ None → AreMadeFrom s x from round
    → AreMadeFrom s x from (set round i o)
left s x from round i o none made =
    subst (λ (p : Option Made). AreMadeFrom s x from (set round i p)) (sym none) (left_at (λ (n : ℕ). IsMadeAt s x (from + n)) round i made)

-- one more place of a round is written
pub made_more : (P : ℕ → Made → Type 0) (round : List (Option Made)) (n : ℕ) (o : Option Made) → n < length round
    → ((i : ℕ) (d : Option Made) → i < n → IfSome (get_or round i d) (P i)) → IfSome o (P n)
    → (i : ℕ) (d : Option Made) → i < n + 1 → IfSome (get_or (set round n o) i d) (P i)
made_more P round n o below made last i d within =
    elim (cases_eq i n) [
      | inl same ↦
          subst (λ (i : ℕ). IfSome (get_or (set round n o) i d) (P i)) (sym same)
          (subst (λ (p : Option Made). IfSome p (P n)) (sym (get_or-set_same round n o d below)) last)
      | inr apart ↦
          subst (λ (p : Option Made). IfSome p (P i)) (sym (get_or-set_other round n i o d apart)) (made i d (omega arith))
    ]
