-- A hart that means to let a signal be delivered does so next, once no store of it waits; and it means so behind each event by which it
-- goes to its kernel.
use Rattle.std.proofs.Common.{◌≡◌, ℕ, Bool, true, false, not, ◌&&◌, cond, List, Option, Some, None, refl, ap, ◌∙◌, sym, subst}
use Rattle.std.specs.Option.{option_map, option_or}
use Rattle.std.proofs.lemmas.Bool.{false≢true}
use Rattle.mach_types.specs.declared.events.Choice.TheVariants as asked
use Rattle.mach_types.specs.declared.events.Sight.{Sight}
use Rattle.mach_types.specs.declared.events.Tid.{Tid}
use Rattle.chooser.specs.Cases.{emptied_before, has_stores}
use Rattle.draw_policies.specs.Aims.{choice_of_aim}
use Rattle.draw_policies.specs.Beginning.{thread_to_run}
use Rattle.draw_policies.specs.OwnSignals.{IsDeliverable, comes_back}
use Rattle.draw_policies.specs.Turns.{aimed, barrier_turn, draining, drains_by, executing, freely, idle_turn, meant, new_aim, running_turn, turn, turn_meaning}
use Rattle.draw_policies.specs.declared.aims.Aim.{Aim}
use Rattle.draw_policies.specs.declared.aims.Aim.TheVariants as means
use Rattle.draw_policies.specs.declared.policies.Weights.{Weights}
use Rattle.draw_policies.specs.declared.turns.Turn.{Turn}

-- what a hart does that means this, where a signal can be delivered
meant_turn : (weights : Weights) (seen : Sight) (traps : Bool) (threads : List ℕ) (last : Option Tid) (w : ℕ) → IsDeliverable seen
    → turn weights seen traps threads last (Some means.Signal) w ≡ Some (aimed seen means.Signal)
meant_turn weights seen traps threads last w can =
    let idle = idle_turn weights seen (thread_to_run threads last w) in
    let barrier = Some (barrier_turn weights seen) in
    let runs = Some (running_turn weights seen traps (Some means.Signal) w) in
    ap (λ (b : Bool). cond b idle (cond seen.in_barrier barrier runs)) can.runs
    ∙ ap (λ (b : Bool). cond b barrier runs) can.apart
    ∙ ap
    (λ (b : Bool). Some (turn_meaning weights seen traps w (option_or (cond b (Some means.Signal) None) (new_aim weights seen w))))
    can.some

abbrev meaning_it : Bool → Turn
meaning_it stores = cond stores (draining (Some means.Signal)) (record { choice = asked.Signal; aim = Some means.Signal; credit = 0 })

choice_meant : (stores : Bool) → (meaning_it stores).choice ≡ cond stores asked.Drain asked.Signal
choice_meant true = refl
choice_meant false = refl

aim_meant : (stores : Bool) → (meaning_it stores).aim ≡ Some means.Signal
aim_meant true = refl
aim_meant false = refl

is_that : (weights : Weights) (seen : Sight) (traps : Bool) (threads : List ℕ) (last : Option Tid) (w : ℕ) (t : Turn)
    → IsDeliverable seen → turn weights seen traps threads last (Some means.Signal) w ≡ Some t → aimed seen means.Signal ≡ t
is_that weights seen traps threads last w t can e =
    let same = meant_turn weights seen traps threads last w can in
    cc

pub signal-next : (weights : Weights) (seen : Sight) (traps : Bool) (threads : List ℕ) (last : Option Tid) (w : ℕ) (t : Turn)
    → IsDeliverable seen → turn weights seen traps threads last (Some means.Signal) w ≡ Some t
    → t.choice ≡ emptied_before seen asked.Signal
signal-next weights seen traps threads last w t can e =
    ap (λ (u : Turn). u.choice) (sym (is_that weights seen traps threads last w t can e)) ∙ choice_meant (has_stores seen)

pub signal-kept : (weights : Weights) (seen : Sight) (traps : Bool) (threads : List ℕ) (last : Option Tid) (w : ℕ) (t : Turn)
    → IsDeliverable seen → turn weights seen traps threads last (Some means.Signal) w ≡ Some t → t.aim ≡ Some means.Signal
signal-kept weights seen traps threads last w t can e =
    ap (λ (u : Turn). u.aim) (sym (is_that weights seen traps threads last w t can e)) ∙ aim_meant (has_stores seen)

-- a store that enters memory changes nothing of that
abbrev DrainsOn : Option Turn → Type 0
DrainsOn None = Unit {0}
DrainsOn (Some t) = t.choice ≡ asked.Drain → t.aim ≡ Some means.Signal

run_drains : (weights : Weights) (next : Option Tid) → DrainsOn (option_map (λ (t : Tid). freely weights (asked.Run t)) next)
run_drains weights None = tt
run_drains weights (Some t) = λ drains. refl

idle_drains : (weights : Weights) (requested : Bool) (next : Option Tid)
    → DrainsOn (cond requested (Some (freely weights asked.Take)) (option_map (λ (t : Tid). freely weights (asked.Run t)) next))
idle_drains weights true next = λ drains. refl
idle_drains weights false next = run_drains weights next

barrier_drains : (weights : Weights) (requested : Bool)
    → DrainsOn (Some (cond requested (freely weights asked.Take) (freely weights asked.Done)))
barrier_drains weights true = λ drains. refl
barrier_drains weights false = λ drains. refl

due_drains : (weights : Weights) (seen : Sight) (traps : Bool) (w : ℕ) (due : Bool) → due ≡ true
    → DrainsOn (Some (turn_meaning weights seen traps w (option_or (cond due (Some means.Signal) None) (new_aim weights seen w))))
due_drains weights seen traps w true is = λ drains. aim_meant (has_stores seen)
due_drains weights seen traps w false is = absurd (false≢true is)

any_drains : (weights : Weights) (seen : Sight) (traps : Bool) (threads : List ℕ) (last : Option Tid) (w : ℕ)
    → seen.deliverable ≡ true → DrainsOn (turn weights seen traps threads last (Some means.Signal) w)
any_drains weights seen traps threads last w can = go seen.idle seen.in_barrier
  where
    go : (idle waits : Bool)
        → DrainsOn (cond idle (idle_turn weights seen (thread_to_run threads last w))
        (cond waits (Some (barrier_turn weights seen)) (Some (running_turn weights seen traps (Some means.Signal) w))))
    go true waits = idle_drains weights seen.requested (thread_to_run threads last w)
    go false true = barrier_drains weights seen.requested
    go false false = due_drains weights seen traps w seen.deliverable can

pub signal-drains : (weights : Weights) (seen : Sight) (traps : Bool) (threads : List ℕ) (last : Option Tid) (w : ℕ) (t : Turn)
    → seen.deliverable ≡ true → turn weights seen traps threads last (Some means.Signal) w ≡ Some t → t.choice ≡ asked.Drain
    → t.aim ≡ Some means.Signal
signal-drains weights seen traps threads last w t can e =
    subst (λ (o : Option Turn). DrainsOn o) e (any_drains weights seen traps threads last w can)

-- behind a turn by which the hart goes to its kernel
abbrev MeansIt : Bool → Option Turn → Type 0
MeansIt traps None = Unit {0}
MeansIt traps (Some t) = comes_back traps t.choice ≡ true → t.aim ≡ Some means.Signal

run_means : (weights : Weights) (traps : Bool) (next : Option Tid)
    → MeansIt traps (option_map (λ (t : Tid). freely weights (asked.Run t)) next)
run_means weights traps None = tt
run_means weights traps (Some t) = λ back. refl

idle_means : (weights : Weights) (traps requested : Bool) (next : Option Tid)
    → MeansIt traps (cond requested (Some (freely weights asked.Take)) (option_map (λ (t : Tid). freely weights (asked.Run t)) next))
idle_means weights traps true next = λ back. refl
idle_means weights traps false next = run_means weights traps next

barrier_means : (weights : Weights) (traps requested : Bool)
    → MeansIt traps (Some (cond requested (freely weights asked.Take) (freely weights asked.Done)))
barrier_means weights traps true = λ back. refl
barrier_means weights traps false = λ back. refl

trap_means : (deliverable traps : Bool) → traps ≡ true
    → cond (deliverable && not traps) None (Some means.Signal) ≡ Some means.Signal
trap_means true true is = refl
trap_means false true is = refl
trap_means deliverable false is = absurd (false≢true is)

aimless_means : (weights : Weights) (seen : Sight) (traps executes : Bool)
    → MeansIt traps (Some (cond executes (executing weights seen traps) (draining None)))
aimless_means weights seen traps true = trap_means seen.deliverable traps
aimless_means weights seen traps false = λ back. absurd (false≢true back)

aimed_means : (seen : Sight) (traps stores : Bool) (a : Aim)
    → MeansIt traps (Some (cond stores (draining (Some a)) (record { choice = choice_of_aim a; aim = Some means.Signal; credit = 0 })))
aimed_means seen traps true a = λ back. absurd (false≢true back)
aimed_means seen traps false a = λ back. refl

meaning_means : (weights : Weights) (seen : Sight) (traps : Bool) (w : ℕ) (a : Option Aim)
    → MeansIt traps (Some (turn_meaning weights seen traps w a))
meaning_means weights seen traps w None = aimless_means weights seen traps (seen.exec_enabled && not (drains_by w weights seen))
meaning_means weights seen traps w (Some a) = aimed_means seen traps (has_stores seen) a

any_means : (weights : Weights) (seen : Sight) (traps : Bool) (threads : List ℕ) (last : Option Tid) (held : Option Aim) (w : ℕ)
    → MeansIt traps (turn weights seen traps threads last held w)
any_means weights seen traps threads last held w = go seen.idle seen.in_barrier
  where
    go : (idle waits : Bool)
        → MeansIt traps (cond idle (idle_turn weights seen (thread_to_run threads last w))
        (cond waits (Some (barrier_turn weights seen)) (Some (running_turn weights seen traps held w))))
    go true waits = idle_means weights traps seen.requested (thread_to_run threads last w)
    go false true = barrier_means weights traps seen.requested
    go false false = meaning_means weights seen traps w (meant weights seen held w)

pub signal-meant : (weights : Weights) (seen : Sight) (traps : Bool) (threads : List ℕ) (last : Option Tid) (held : Option Aim) (w : ℕ)
    (t : Turn) → turn weights seen traps threads last held w ≡ Some t → comes_back traps t.choice ≡ true
    → t.aim ≡ Some means.Signal
signal-meant weights seen traps threads last held w t e =
    subst (λ (o : Option Turn). MeansIt traps o) e (any_means weights seen traps threads last held w)

-- where no signal can be delivered before an instruction, it doesn't matter to a turn whether that traps
same_aim : (deliverable traps : Bool)
    → cond (deliverable && not (deliverable && traps)) None (Some means.Signal)
    ≡ cond (deliverable && not traps) None (Some means.Signal)
same_aim true traps = refl
same_aim false traps = refl

same_meaning : (weights : Weights) (seen : Sight) (traps : Bool) (w : ℕ) (a : Option Aim)
    → turn_meaning weights seen (seen.deliverable && traps) w a ≡ turn_meaning weights seen traps w a
same_meaning weights seen traps w None =
    ap
    (λ (a : Option Aim). cond (seen.exec_enabled && not (drains_by w weights seen))
    (record { choice = asked.Exec; aim = a; credit = weights.credit }) (draining None))
    (same_aim seen.deliverable traps)
same_meaning weights seen traps w (Some a) = refl

pub same-traps : (weights : Weights) (seen : Sight) (traps : Bool) (threads : List ℕ) (last : Option Tid) (held : Option Aim) (w : ℕ)
    → turn weights seen (seen.deliverable && traps) threads last held w ≡ turn weights seen traps threads last held w
same-traps weights seen traps threads last held w =
    ap
    (λ (t : Turn). cond seen.idle (idle_turn weights seen (thread_to_run threads last w))
    (cond seen.in_barrier (Some (barrier_turn weights seen)) (Some t)))
    (same_meaning weights seen traps w (meant weights seen held w))
