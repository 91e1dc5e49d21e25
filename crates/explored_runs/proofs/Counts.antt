-- The counts of what is told are no greater than the runs.
use Rattle.std.proofs.Common.{◌≡◌, ◌≤◌, ◌*◌, ℕ, ◌+◌, zero, suc, Bool, true, false, cond, List, [], ◌∷◌, ◌++◌, Option, Some, None, length, sym, subst, arith, All}
use Rattle.std.specs.List.{AllByRecursion}
use Rattle.std.specs.Option.{IfSome}
use Rattle.std.specs.Prelude.{◌==◌}
use Rattle.std.proofs.lemmas.List.Elements.{All-from_recursion, All-push, All-weaker, recursion_from_All}
use Rattle.std.proofs.lemmas.List.Sums.{count_by-le-length}
use Rattle.mach_types.specs.Events.{is_preempt}
use Rattle.mach_types.specs.declared.events.Entry.{Entry}
use Rattle.explored_runs.specs.declared.explored.Found.{Found}
use Rattle.explored_runs.specs.declared.explored.Others.{Others}
use Rattle.explored_runs.specs.declared.made.Made.{Made}
use Rattle.explored_runs.specs.declared.tallies.Tally.{Tally}
use Rattle.explored_runs.specs.Accounts.{Account, IsWithin, added, came_to, counted, first_of, is_full, is_known, told, with_other}
use Rattle.block_model.specs.Deciding.{history}
use Rattle.block_model.specs.History.{History}
use Rattle.block_model.specs.Run.{IsBlockRun}
use Rattle.block_model.specs.Setting.{Setting}
use Rattle.block_model.proofs.Laws.{length-history}
use Rattle.drawn_machine.specs.Preemptions.{leaves_inside, left_inside}
use Rattle.drawn_machine.proofs.Waiting.{few_more, few_wait_counts}
use Rattle.explored_runs.specs.Tallies.{IsShort, harts_in, ran_on, switches_from, switches_in, tally_of}
use Rattle.explored_runs.proofs.Outcomes.{once_more}

-- of one run

one_more : (b : Bool) → cond b 1 0 ≤ 1
one_more true = omega arith
one_more false = omega arith

one_less : (b : Bool) → cond b 0 1 ≤ 1
one_less true = omega arith
one_less false = omega arith

few_harts : (log : List Entry) (h : ℕ) → harts_in log h ≤ h
few_harts log zero = omega arith
few_harts log (suc h) = let before = few_harts log h in let one = one_more (ran_on h log) in omega arith

few_switches_from : (h : ℕ) (log : List Entry) → switches_from h log ≤ length log
few_switches_from h [] = omega arith
few_switches_from h (e ∷ log) =
    let rest = few_switches_from e.hart.0 log in let one = one_less (e.hart.0 == h) in omega arith

few_switches : (log : List Entry) → switches_in log ≤ length log
few_switches [] = omega arith
few_switches (e ∷ log) = let rest = few_switches_from e.hart.0 log in omega arith

few_inside : (s : Setting) (before : History) → left_inside s before ≤ length before
few_inside s [] = omega arith
few_inside s (e ∷ before) =
    let rest = few_inside s before in
    let one = one_more (leaves_inside s before e.entry.hart.0 e.entry.kind) in
    omega arith

pub short_inside : (s : Setting) (log : List Entry) → length log ≤ 1000000 → left_inside s (history s log) ≤ 1000000
short_inside s log short = omega (arith, short, few_inside s (history s log), length-history s log)

pub short_tally : (s : Setting) (log : List Entry) (t : Tally) → t ≡ tally_of s log → IsBlockRun s log → s.limits.harts ≤ 8
    → length log ≤ 1000000 → IsShort t
short_tally s log t is run few short =
    let tally : IsShort (tally_of s log) = record {
      harts = (let h = few_harts log s.limits.harts in omega arith);
      switches = (let n = few_switches log in omega arith);
      preemptions = omega (arith, count_by-le-length (λ (e : Entry). is_preempt e.kind) log);
      inside = short_inside s log short;
      waits = few_wait_counts s log run short;
    } in
    subst IsShort (sym is) tally

-- of all runs

abbrev IsFew : ℕ → Found → Type 0
IsFew n f = f.runs ≤ n

few_weaker : (n : ℕ) (found : List Found) → AllByRecursion (IsFew n) found → AllByRecursion (IsFew (n + 1)) found
few_weaker n [] few = tt
few_weaker n (f ∷ found) few = (omega (arith, few.0), few_weaker n found few.1)

few_either : (n : ℕ) (b : Bool) (f : Found) (found more : List Found) → f.runs ≤ n → AllByRecursion (IsFew (n + 1)) found
    → AllByRecursion (IsFew (n + 1)) more → AllByRecursion (IsFew (n + 1)) (cond b (once_more f ∷ found) (f ∷ more))
few_either n true f found more few rest others = (omega arith, rest)
few_either n false f found more few rest others = (omega arith, others)

few_counted : (m : Made) (n : ℕ) (found : List Found) → AllByRecursion (IsFew n) found → AllByRecursion (IsFew (n + 1)) (counted m found)
few_counted m n [] few = tt
few_counted m n (f ∷ found) few =
    few_either n (came_to m f) f found (counted m found) few.0 (few_weaker n found few.1) (few_counted m n found few.1)

few_found : (m : Made) (n : ℕ) (found : List Found) (known full : Bool) → All (IsFew n) found
    → All (IsFew (n + 1)) (cond known (counted m found) (cond full found (found ++ first_of m ∷ [])))
few_found m n found true full few =
    All-from_recursion (IsFew (n + 1)) (counted m found) (few_counted m n found (recursion_from_All (IsFew n) found few))
few_found m n found false true few = All-weaker (IsFew n) (IsFew (n + 1)) (λ f is. omega (arith, is)) found few
few_found m n found false false few =
    All-push (IsFew (n + 1)) found (first_of m) (All-weaker (IsFew n) (IsFew (n + 1)) (λ f is. omega (arith, is)) found few) (omega arith)

abbrev AreFew : ℕ → Option Others → Type 0
AreFew n o = IfSome o (λ (others : Others). others.runs ≤ n)

few_same : (n : ℕ) (o : Option Others) → AreFew n o → AreFew (n + 1) o
few_same n None few = tt
few_same n (Some o) few = omega (arith, few)

few_other : (m : Made) (n : ℕ) (o : Option Others) → AreFew n o → AreFew (n + 1) (Some (with_other m o))
few_other m n None few = omega arith
few_other m n (Some o) few = omega (arith, few)

few_others : (m : Made) (n : ℕ) (known full : Bool) (o : Option Others) → AreFew n o
    → AreFew (n + 1) (cond known o (cond full (Some (with_other m o)) o))
few_others m n true full o few = few_same n o few
few_others m n false true o few = few_other m n o few
few_others m n false false o few = few_same n o few

-- sums of counts

few_added : (n m : ℕ) (sums counts : List ℕ) → AllByRecursion (λ (k : ℕ). k ≤ n) sums → AllByRecursion (λ (k : ℕ). k ≤ m) counts
    → AllByRecursion (λ (k : ℕ). k ≤ n + m) (added sums counts)
few_added n m [] counts few more = tt
few_added n m (sum ∷ sums) [] few more = (omega (arith, few.0), weaker sums few.1)
  where
    weaker : (sums : List ℕ) → AllByRecursion (λ (k : ℕ). k ≤ n) sums → AllByRecursion (λ (k : ℕ). k ≤ n + m) sums
    weaker [] few = tt
    weaker (sum ∷ sums) few = (omega (arith, few.0), weaker sums few.1)
few_added n m (sum ∷ sums) (count ∷ counts) few more = (omega (arith, few.0, more.0), few_added n m sums counts few.1 more.1)

few_stores : (n : ℕ) (sums counts : List ℕ) → All (λ (k : ℕ). k ≤ 1000000 * n) sums → All (λ (k : ℕ). k ≤ 1000000) counts
    → All (λ (k : ℕ). k ≤ 1000000 * (n + 1)) (added sums counts)
few_stores n sums counts few more =
    All-weaker (λ (k : ℕ). k ≤ 1000000 * n + 1000000) (λ (k : ℕ). k ≤ 1000000 * (n + 1)) (λ k is. omega (arith, is)) (added sums counts)
    (All-from_recursion (λ (k : ℕ). k ≤ 1000000 * n + 1000000) (added sums counts)
    (few_added (1000000 * n) 1000000 sums counts (recursion_from_All (λ (k : ℕ). k ≤ 1000000 * n) sums few)
    (recursion_from_All (λ (k : ℕ). k ≤ 1000000) counts more)))

pub within_told : (a : Account) (m : Made) → IsWithin a → IsShort m.tally → IsWithin (told a m)
within_told a m within short = record {
  found = few_found m a.runs a.found (is_known m a.found) (is_full a.found) within.found;
  others = few_others m a.runs (is_known m a.found) (is_full a.found) a.others within.others;
  harts = few_more a.runs a.tried.harts m.tally.harts within.harts;
  switches = omega (arith, within.switches, short.switches);
  preemptions = omega (arith, within.preemptions, short.preemptions);
  inside = omega (arith, within.inside, short.inside);
  waits = few_stores a.runs a.tried.waits m.tally.waits within.waits short.waits;
}
