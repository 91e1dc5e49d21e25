-- What a hart executed has entered, or waits: over both processes.
use Rattle.shared_procs.proofs.Common.{◌≡◌, ℕ, ◌+◌, ◌≤◌, ◌++◌, List, [], ◌∷◌, length, drop, length-append, length-drop, Bool, true, false, cond, eqb, not, Option, None, Some, is_some, refl, ap, ◌∙◌, subst, arith, apply_two, Done, End, entered, eqb-true, executed, half, IsPairRunHistory, pair_after, PairEvent, PairHistory, PairSetting, Plain, Store}
use Rattle.shared_procs.proofs.Halves.{other_half, own_half, waits, waits_by_half}
use Rattle.shared_procs.proofs.HartsApart.{event_of}

-- the stores of the process that acts after its event, on the hart of the event or another one
abbrev own_after : Option End → Bool → Done → List Store → List Store
own_after o own d ws = cond (is_some o) [] (cond own (drop d.drained (ws ++ d.executed)) ws)

own_sum : (o : Option End) (own : Bool) (d : Done) (ws : List Store) (E N other : ℕ) → ((e : End) → o ≡ Some e → (d.executed ≡ []) × (d.drained ≡ 0))
    → (own ≡ true → d.drained ≤ length ws) → E ≡ N + (length ws + other)
    → cond own (E + length d.executed) E ≡ (cond own (N + d.drained) N + cond (is_some o) (length ws) 0) + (length (own_after o own d ws) + other)
own_sum None true d ws E N other quietly few was =
    let small = few refl in
    omega (arith, length-drop d.drained (ws ++ d.executed), length-append ws d.executed)
own_sum None false d ws E N other quietly few was = omega arith
own_sum (Some e) true d ws E N other quietly few was =
    let both = quietly e refl in
    let none : length d.executed ≡ 0 = ap length both.0 in
    let zero_drained = both.1 in
    omega arith
own_sum (Some e) false d ws E N other quietly few was = omega arith

-- with one more event
sum_next : (s : PairSetting) (e : PairEvent) (before : PairHistory) (k : ℕ) → IsPairRunHistory s (e ∷ before)
    → executed k before ≡ entered s k before + waits (pair_after s before) k
    → executed k (e ∷ before) ≡ entered s k (e ∷ before) + waits (pair_after s (e ∷ before)) k
sum_next s e before k run was =
    let its = event_of s e before run in
    let m = pair_after s before in
    let p = e.process in
    let h = e.entry.hart.0 in
    let d = e.done in
    let ws = (half p m).waiting k in
    let other = length ((half (not p) m).waiting k) in
    let few = λ (own : eqb h k ≡ true). subst (λ j. d.drained ≤ length ((half p m).waiting j)) (eqb-true h k own) its.fit.drained in
    let sum =
    own_sum d.ended (eqb h k) d ws (executed k before) (entered s k before) other its.quietly few (was ∙ ap (λ n. entered s k before + n) (waits_by_half p m k)) in
    let own : length ((half p (apply_two h p d m)).waiting k) ≡ length (own_after d.ended (eqb h k) d ws) = ap (λ (x : Plain). length (x.waiting k)) (own_half h p d m) in
    let stays : length ((half (not p) (apply_two h p d m)).waiting k) ≡ other = ap (λ (x : Plain). length (x.waiting k)) (other_half h p d m) in
    let now = waits_by_half p (apply_two h p d m) k in
    omega (arith, sum, own, stays, now)

-- what a hart executed has entered, or waits there
pub sum_is : (s : PairSetting) (before : PairHistory) (k : ℕ) → IsPairRunHistory s before → executed k before ≡ entered s k before + waits (pair_after s before) k
sum_is s [] k run = refl
sum_is s (e ∷ before) k run = sum_next s e before k run (sum_is s before k run.0)
