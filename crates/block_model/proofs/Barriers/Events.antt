-- What an event has to do so that what holds of barriers goes on to hold, and what it then makes of requests and of barriers that are
-- waited in. No kind of event occurs here.
use Rattle.block_model.proofs.Common.{◌≡◌, ◌≢◌, ◌⊎◌, ℕ, ◌<◌, ◌++◌, drop, [], Bool, true, false, cond, eqb, ◌&&◌, ◌||◌, Option, Some, None, refl, sym, ap, ◌∙◌, Barrier, Done, Here, Neighbour, Threads, awaits_after, awaits_of_own, has_hart, option_map, option_or, requests_after, restart_after, restarts_at, running_on, runs, waiting_here, with_hart, without_hart}
use Rattle.block_model.specs.Requests.{is_about}
use Rattle.block_model.proofs.Barriers.Requests.{IsAwaited, awaited_begun, awaited_returned, awaited_same, awaited_taken}
use Rattle.block_model.proofs.HartSets.{some_in, with_hart-itself}

-- after an event a thread still runs on its hart, and no store waits there
pub record IsStill (here : Here) (d : Done) : Type 0 where
  pub running : running_on here.hart d.kernel.threads ≢ None
  pub empty : drop d.drained (waiting_here here ++ d.executed) ≡ []

-- a thread of the process runs on a hart, or one of the other process where there is one
abbrev pub RunsOn : Option Neighbour → Threads → ℕ → Type 0
RunsOn None ts k = running_on k ts ≢ None
RunsOn (Some other) ts k = (running_on k ts ≢ None) ⊎ (has_hart other.running k ≡ true)

-- a barrier of the thread on the hart is about other harts of the machine, which has several, and a thread runs on each of them
pub record IsAtOthers (here : Here) (b : Barrier) : Type 0 where
  pub several : 1 < here.setting.limits.harts
  pub apart : (k : ℕ) → has_hart b.targets k ≡ true → k ≢ here.hart
  pub below : (k : ℕ) → has_hart b.targets k ≡ true → k < here.setting.limits.harts
  pub ran : (k : ℕ) → has_hart b.targets k ≡ true → RunsOn here.beside here.kernel.threads k

-- a barrier begins where the thread waits in none, the thread stays on its hart, and nothing else comes of barriers then
pub record IsBegun (here : Here) (d : Done) (b : Barrier) : Type 0 where
  pub free : here.awaits ≡ None
  pub others : IsAtOthers here b
  pub still : IsStill here d
  pub stays : running_on here.hart d.kernel.threads ≡ runs here
  pub not_took : d.took ≡ false
  pub not_returned : d.returned ≡ false

-- what an event does with barriers: a thread that waits in one goes on to run, and no store comes to wait on its hart; a barrier begins
-- properly; and one returns where it waits for no hart any more, by an event that takes no requests
pub record IsFitBarriers (here : Here) (d : Done) : Type 0 where
  pub still : (left : ℕ) → here.awaits ≡ Some left → IsStill here d
  pub begun : (b : Barrier) → d.barrier ≡ Some b → IsBegun here d b
  pub took : d.took ≡ true → d.returned ≡ false
  pub returned : d.returned ≡ true → here.awaits ≡ Some 0

-- an event that begins no barrier, takes no request and returns from no barrier
pub quiet_still : (here : Here) (d : Done) → d.barrier ≡ None → d.took ≡ false → d.returned ≡ false
    → ((left : ℕ) → here.awaits ≡ Some left → IsStill here d) → IsFitBarriers here d
quiet_still here d none took returned still = record {
  still = still;
  begun = λ b is. let bad : None ≡ Some b = sym none ∙ is in absurd cc;
  took = λ is. returned;
  returned = λ is. let bad : false ≡ true = sym returned ∙ is in absurd cc;
}

-- the same of a thread that waits in no barrier
pub quiet_free : (here : Here) (d : Done) → d.barrier ≡ None → d.took ≡ false → d.returned ≡ false → here.awaits ≡ None → IsFitBarriers here d
quiet_free here d none took returned free =
    quiet_still here d none took returned (λ left is. let bad : None ≡ Some left = sym free ∙ is in absurd cc)

-- WHAT AN EVENT MAKES OF THEM

requests_as : (k h set : ℕ) (d : Done) (b : Option Barrier) (took : Bool) → d.barrier ≡ b → d.took ≡ took
    → requests_after k h d set ≡ cond (eqb h k && took) 0 (cond (is_about k b) (with_hart h set) set)
requests_as k h set d b took its_barrier its_took =
    ap (λ t. cond (eqb h k && t) 0 (cond (is_about k d.barrier) (with_hart h set) set)) its_took
    ∙ ap (λ o. cond (eqb h k && took) 0 (cond (is_about k o) (with_hart h set) set)) its_barrier

awaits_as : (k h : ℕ) (awaits : Option ℕ) (d : Done) (b : Option Barrier) (took returned : Bool) → d.barrier ≡ b → d.took ≡ took → d.returned ≡ returned
    → awaits_after k h d awaits
    ≡ cond (eqb h k) (cond returned None (option_or (option_map (λ x. x.targets) b) awaits)) (cond took (option_map (without_hart h) awaits) awaits)
awaits_as k h awaits d b took returned its_barrier its_took its_returned =
    ap (λ t. cond (eqb h k) (awaits_of_own d awaits) (cond t (option_map (without_hart h) awaits) awaits)) its_took
    ∙ ap (λ r. cond (eqb h k) (cond r None (option_or (option_map (λ x. x.targets) d.barrier) awaits)) (cond took (option_map (without_hart h) awaits) awaits)) its_returned
    ∙ ap (λ o. cond (eqb h k) (cond returned None (option_or (option_map (λ x. x.targets) o) awaits)) (cond took (option_map (without_hart h) awaits) awaits)) its_barrier

none_taken : (x : Bool) (set : ℕ) → cond (x && false) 0 set ≡ set
none_taken true set = refl
none_taken false set = refl

all_taken : (x : Bool) (set : ℕ) → cond (x && true) 0 set ≡ cond x 0 set
all_taken true set = refl
all_taken false set = refl

either_same : (x : Bool) (o : Option ℕ) → cond x o o ≡ o
either_same true o = refl
either_same false o = refl

-- what holds of requests and of barriers that are waited in goes on to hold
module _ (here : Here) (d : Done) (requests : ℕ → ℕ) (awaits : ℕ → Option ℕ) (own : here.awaits ≡ awaits here.hart) (fit : IsFitBarriers here d)
    (is : IsAwaited here.setting.limits.harts requests awaits) where
  abbrev IsAwaitedNext : Type 0
  IsAwaitedNext =
      IsAwaited here.setting.limits.harts (λ k. requests_after k here.hart d (requests k)) (λ k. awaits_after k here.hart d (awaits k))

  next_by : (b : Option Barrier) (took returned : Bool) → d.barrier ≡ b → d.took ≡ took → d.returned ≡ returned → IsAwaitedNext
  next_by None false false none not_took not_returned =
      awaited_same here.setting.limits.harts requests _ awaits _ is
      (λ k. requests_as k here.hart (requests k) d None false none not_took ∙ none_taken (eqb here.hart k) (requests k))
      (λ k. awaits_as k here.hart (awaits k) d None false false none not_took not_returned ∙ either_same (eqb here.hart k) (awaits k))
  next_by None true false none took not_returned =
      awaited_taken here.setting.limits.harts here.hart requests _ awaits _ is
      (λ k. requests_as k here.hart (requests k) d None true none took ∙ all_taken (eqb here.hart k) (requests k))
      (λ k. awaits_as k here.hart (awaits k) d None true false none took not_returned)
  next_by None false true none not_took returned =
      awaited_returned here.setting.limits.harts here.hart requests _ awaits _ is (sym own ∙ fit.returned returned)
      (λ k. requests_as k here.hart (requests k) d None false none not_took ∙ none_taken (eqb here.hart k) (requests k))
      (λ k. awaits_as k here.hart (awaits k) d None false true none not_took returned)
  next_by None true true none took returned = let bad : true ≡ false = sym returned ∙ fit.took took in absurd cc
  next_by (Some b) true returned some took its = let bad : true ≡ false = sym took ∙ (fit.begun b some).not_took in absurd cc
  next_by (Some b) false true some took returned = let bad : true ≡ false = sym returned ∙ (fit.begun b some).not_returned in absurd cc
  next_by (Some b) false false some not_took not_returned =
      let begun = fit.begun b some in
      awaited_begun here.setting.limits.harts here.hart b.targets requests _ awaits _ is (sym own ∙ begun.free)
      begun.others.several begun.others.apart begun.others.below
      (λ k. requests_as k here.hart (requests k) d (Some b) false some not_took ∙ none_taken (eqb here.hart k) _)
      (λ k. awaits_as k here.hart (awaits k) d (Some b) false false some not_took not_returned)

  pub awaited_next : IsAwaitedNext
  awaited_next = next_by d.barrier d.took d.returned refl refl refl

-- where one asks for a restart, requests are pending
no_restart : (k : ℕ) (b : Option Barrier) → is_about k b ≡ false → restarts_at k b ≡ false
no_restart k None isnt = refl
no_restart k (Some b) isnt = ap (λ x. x && b.restart) isnt

pub restart_next : (k h set : ℕ) (r : Bool) (d : Done) → (r ≡ true → set ≢ 0) → restart_after k h d r ≡ true → requests_after k h d set ≢ 0
restart_next k h set r d was is = go (eqb h k && d.took) (is_about k d.barrier) refl is
  where
    go : (taken about : Bool) → is_about k d.barrier ≡ about → cond taken false (restarts_at k d.barrier || r) ≡ true
        → cond taken 0 (cond about (with_hart h set) set) ≢ 0
    go true about its is = absurd cc
    go false true its is = some_in (with_hart h set) h (with_hart-itself h set)
    go false false its is = was (ap (λ x. x || r) (sym (no_restart k d.barrier its)) ∙ is)

-- who waits in a barrier after an event of its hart still runs there, where no store waits
pub own_still : (here : Here) (d : Done) (left : ℕ) → IsFitBarriers here d → awaits_of_own d here.awaits ≡ Some left → IsStill here d
own_still here d left fit waits = go d.returned d.barrier refl waits
  where
    go : (returned : Bool) (b : Option Barrier) → d.barrier ≡ b → cond returned None (option_or (option_map (λ x. x.targets) b) here.awaits) ≡ Some left
        → IsStill here d
    go true b its now = absurd cc
    go false None its now = fit.still left now
    go false (Some b) its now = (fit.begun b its).still

-- and after one of another hart waited before it
pub waited_before : (h left : ℕ) (awaits : Option ℕ) (took : Bool) → cond took (option_map (without_hart h) awaits) awaits ≡ Some left
    → (all : ℕ) × (awaits ≡ Some all)
waited_before h left None true now = absurd cc
waited_before h left None false now = absurd cc
waited_before h left (Some all) took now = (all, refl)
