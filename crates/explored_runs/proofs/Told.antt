-- What is told of all runs: no run is left out or counted twice, and no outcome is told twice.
use Rattle.std.proofs.Common.{◌≡◌, ℕ, ◌+◌, ◌<◌, zero, suc, Bool, true, false, cond, List, [], ◌∷◌, ◌++◌, Option, Some, None, length, get_or, refl, sym, ap, ◌∙◌, subst, arith}
use Rattle.std.specs.Prelude.{◌&&◌, ◌||◌, bytes_eq}
use Rattle.std.proofs.lemmas.Bool.{false≢true}
use Rattle.std.proofs.lemmas.List.Quantifiers.{all_pairs_push}
use Rattle.std.specs.Cmp.Lexicographic.{bytes_decides}
use Rattle.mach_types.specs.declared.limits.End.{End}
use Rattle.mach_types.specs.declared.limits.End.TheVariants.{Exit, Killed, Stuck, Limit, Unended}
use Rattle.block_model.specs.Setting.{Setting}
use Rattle.explored_runs.specs.declared.exploration.Exploration.{Exploration}
use Rattle.explored_runs.specs.declared.explored.Found.{Found}
use Rattle.explored_runs.specs.declared.explored.Others.{Others}
use Rattle.explored_runs.specs.declared.made.Made.{Made}
use Rattle.explored_runs.specs.Accounts.{Account, came_to, counted, first_of, is_full, is_known, nothing, same_end, told, with_other}
use Rattle.explored_runs.specs.Explored.{IsToldAfter}
use Rattle.explored_runs.specs.Sums.{AreDifferent, other_runs, runs_of}
use Rattle.explored_runs.proofs.Outcomes.{once_more}

-- each run counts once

counted_either : (f : Found) (found more : List Found) (b known : Bool) → (b || known) ≡ true → (known ≡ true → runs_of more ≡ runs_of found + 1)
    → runs_of (cond b (once_more f ∷ found) (f ∷ more)) ≡ f.runs + runs_of found + 1
counted_either f found more true known is rest = omega arith
counted_either f found more false known is rest = let one : runs_of more ≡ runs_of found + 1 = rest is in omega (arith, one)

counted_once : (m : Made) (found : List Found) → is_known m found ≡ true → runs_of (counted m found) ≡ runs_of found + 1
counted_once m [] known = absurd (false≢true known)
counted_once m (f ∷ found) known =
    counted_either f found (counted m found) (came_to m f) (is_known m found) known (counted_once m found)

new_once : (m : Made) (found : List Found) → runs_of (found ++ first_of m ∷ []) ≡ runs_of found + 1
new_once m [] = omega arith
new_once m (f ∷ found) = let rest : runs_of (found ++ first_of m ∷ []) ≡ runs_of found + 1 = new_once m found in omega (arith, rest)

other_once : (m : Made) (o : Option Others) → other_runs (Some (with_other m o)) ≡ other_runs o + 1
other_once m None = omega arith
other_once m (Some o) = omega arith

once_in : (m : Made) (found : List Found) (o : Option Others) (known full : Bool) → is_known m found ≡ known
    → runs_of (cond known (counted m found) (cond full found (found ++ first_of m ∷ []))) + other_runs (cond known o (cond full (Some (with_other m o)) o))
    ≡ runs_of found + other_runs o + 1
once_in m found o true full is = let one : runs_of (counted m found) ≡ runs_of found + 1 = counted_once m found is in omega (arith, one)
once_in m found o false true is = let one : other_runs (Some (with_other m o)) ≡ other_runs o + 1 = other_once m o in omega (arith, one)
once_in m found o false false is = let one : runs_of (found ++ first_of m ∷ []) ≡ runs_of found + 1 = new_once m found in omega (arith, one)

once : (a : Account) (m : Made) → runs_of (told a m).found + other_runs (told a m).others ≡ runs_of a.found + other_runs a.others + 1
once a m = once_in m a.found a.others (is_known m a.found) (is_full a.found) refl

abbrev AddsUp : Account → Type 0
AddsUp a = runs_of a.found + other_runs a.others ≡ a.runs

pub adds_up : (s : Setting) (x : Exploration) (runs : ℕ) (a : Account) → IsToldAfter s x runs a → AddsUp a
adds_up s x zero a told_none = let none : AddsUp nothing = refl in subst AddsUp (sym told_none) none
adds_up s x (suc place) a is =
    let before = adds_up s x place is.before is.is_told in
    let after : AddsUp (told is.before is.run) = once is.before is.run ∙ ap (λ (n : ℕ). n + 1) before in
    subst AddsUp (sym is.counted) after

-- no outcome is told twice

abbrev IsOther : Found → Found → Type 0
IsOther f g = f.console ≡ g.console → f.end ≡ g.end → ⊥

end_itself : (e : End) → same_end e e ≡ true
end_itself (Exit n) = grind arith
end_itself (Killed n) = grind arith
end_itself Stuck = refl
end_itself Limit = refl
end_itself Unended = refl

both : (a b : Bool) → a ≡ true → b ≡ true → (a && b) ≡ true
both a b one other = cc

apart : (m : Made) (f : Found) → came_to m f ≡ false → IsOther f (first_of m)
apart m f not_it console end =
    let bytes : bytes_eq f.console m.console ≡ true = (bytes_decides f.console m.console).1 console in
    let ends : same_end f.end m.end ≡ true = subst (λ (e : End). same_end f.end e ≡ true) end (end_itself f.end) in
    false≢true (sym not_it ∙ both (bytes_eq f.console m.console) (same_end f.end m.end) bytes ends)

left_false : (a b : Bool) → (a || b) ≡ false → a ≡ false
left_false true b none = none
left_false false b none = refl

right_false : (a b : Bool) → (a || b) ≡ false → b ≡ false
right_false true b none = absurd (false≢true (sym none))
right_false false b none = none

none_of : (m : Made) (found : List Found) → is_known m found ≡ false → (k : ℕ) (d : Found) → k < length found → came_to m (get_or found k d) ≡ false
none_of m [] none k d below = absurd (omega arith)
none_of m (f ∷ found) none zero d below = left_false (came_to m f) (is_known m found) none
none_of m (f ∷ found) none (suc k) d below =
    none_of m found (right_false (came_to m f) (is_known m found) none) k d (omega arith)

-- an outcome that counts one run more stays itself
abbrev IsSame : Found → Found → Type 0
IsSame f g = (f.console ≡ g.console) × (f.end ≡ g.end)

same_either : (f : Found) (found more : List Found) (b : Bool) (k : ℕ) (d : Found)
    → ((i : ℕ) (e : Found) → i < length found → IsSame (get_or more i e) (get_or found i e)) → k < length (f ∷ found)
    → IsSame (get_or (cond b (once_more f ∷ found) (f ∷ more)) k d) (get_or (f ∷ found) k d)
same_either f found more true zero d rest below = (refl, refl)
same_either f found more true (suc k) d rest below = (refl, refl)
same_either f found more false zero d rest below = (refl, refl)
same_either f found more false (suc k) d rest below = rest k d (omega arith)

same_places : (m : Made) (found : List Found) (k : ℕ) (d : Found) → k < length found → IsSame (get_or (counted m found) k d) (get_or found k d)
same_places m [] k d below = absurd (omega arith)
same_places m (f ∷ found) k d below = same_either f found (counted m found) (came_to m f) k d (same_places m found) below

length_either : (f : Found) (found more : List Found) (b : Bool) → length more ≡ length found
    → length (cond b (once_more f ∷ found) (f ∷ more)) ≡ length (f ∷ found)
length_either f found more true same = refl
length_either f found more false same = ap suc same

length_counted : (m : Made) (found : List Found) → length (counted m found) ≡ length found
length_counted m [] = refl
length_counted m (f ∷ found) = length_either f found (counted m found) (came_to m f) (length_counted m found)

different_counted : (m : Made) (found : List Found) → AreDifferent found → AreDifferent (counted m found)
different_counted m found all i j d less below console end =
    let within : j < length found = omega (arith, length_counted m found) in
    let one = same_places m found i d (omega arith) in
    let other = same_places m found j d within in
    all i j d less within (sym one.0 ∙ console ∙ other.0) (sym one.1 ∙ end ∙ other.1)

different_in : (m : Made) (found : List Found) (known full : Bool) → is_known m found ≡ known → AreDifferent found
    → AreDifferent (cond known (counted m found) (cond full found (found ++ first_of m ∷ [])))
different_in m found true full is all = different_counted m found all
different_in m found false true is all = all
different_in m found false false is all =
    all_pairs_push IsOther found (first_of m) all (λ k d below. apart m (get_or found k d) (none_of m found is k d below))

none_alike : AreDifferent []
none_alike = λ i j d less below. absurd (omega arith)

pub different : (s : Setting) (x : Exploration) (runs : ℕ) (a : Account) → IsToldAfter s x runs a → AreDifferent a.found
different s x zero a told_none = subst (λ (b : Account). AreDifferent b.found) (sym told_none) none_alike
different s x (suc place) a is =
    let before = different s x place is.before is.is_told in
    let m = is.run in
    let found = is.before.found in
    subst (λ (b : Account). AreDifferent b.found) (sym is.counted) (different_in m found (is_known m found) (is_full found) refl before)
