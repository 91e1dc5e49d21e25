-- A hart that can act does something in its turn, and what it does is allowed.
use Rattle.std.proofs.Common.{◌≡◌, ℕ, ◌+◌, ◌-◌, ◌/◌, ◌%◌, ◌<◌, Bool, true, false, not, ◌&&◌, ◌||◌, cond, eqb, ltb, List, length, Option, Some, None, refl, ap, subst, arith}
use Rattle.std.specs.Prelude.{IsSome, is_some, slice_get}
use Rattle.std.specs.List.{list_any, position}
use Rattle.std.specs.Option.{option_and_then, option_map, option_or}
use Rattle.std.proofs.lemmas.Bool.{and_parts, eq-eqb, false≢true, ltb-true}
use Rattle.std.proofs.lemmas.Map.Keys.{any_passes_from_place}
use Rattle.std.proofs.lemmas.Nat.{mod_below}
use Rattle.std.proofs.lemmas.Option.{slice_get-get_or}
use Rattle.mach_types.specs.declared.events.Choice.TheVariants as asked
use Rattle.mach_types.specs.declared.events.Sight.{Sight}
use Rattle.mach_types.specs.declared.events.Tid.{Tid}
use Rattle.chooser.specs.Cases.{has_stores}
use Rattle.draw_policies.specs.Acting.{can_act}
use Rattle.draw_policies.specs.Aims.{choice_of_aim, is_due, still_due}
use Rattle.draw_policies.specs.Beginning.{left_out, others, place_of_other, thread, thread_to_run}
use Rattle.draw_policies.specs.Conditions.{Delivers, Drains, Executes, IsAllowed, IsSettled, Preempts, Returns, Runs, Takes}
use Rattle.draw_policies.specs.Turns.{barrier_turn, delivers_by, draining, drains_by, executing, freely, idle_turn, leaves_by, meant, new_aim, running_turn, takes_by, turn, turn_meaning}
use Rattle.draw_policies.specs.Words.{drain_of, interrupt_of, place_among, thread_place}
use Rattle.draw_policies.specs.declared.aims.Aim.{Aim}
use Rattle.draw_policies.specs.declared.aims.Aim.TheVariants as means
use Rattle.draw_policies.specs.declared.policies.Weights.{Weights}
use Rattle.draw_policies.specs.declared.turns.Turn.{Turn}

-- the thread that begins to run is among those that may
abbrev IsAmong : List ℕ → Option Tid → Type 0
IsAmong threads None = Unit {0}
IsAmong threads (Some t) = list_any (λ u. eqb u t.0) threads ≡ true

got_among : (threads : List ℕ) (k : ℕ) (o : Option ℕ) → slice_get threads k ≡ o → IsAmong threads (option_map thread o)
got_among threads k None got = tt
got_among threads k (Some t) got = any_passes_from_place (λ u. eqb u t) threads k t got (eq-eqb t t refl)

abbrev place_to_run : List ℕ → Option Tid → ℕ → ℕ
place_to_run threads last w = place_of_other (left_out threads last) (thread_place w (others threads (left_out threads last)))

runs_among : (threads : List ℕ) (last : Option Tid) (w : ℕ) → IsAmong threads (thread_to_run threads last w)
runs_among threads last w = got_among threads (place_to_run threads last w) (slice_get threads (place_to_run threads last w)) refl

-- what comes of a turn is allowed, where something does
abbrev IsTurnAllowed : Sight → List ℕ → Option Turn → Type 0
IsTurnAllowed seen threads None = Unit {0}
IsTurnAllowed seen threads (Some t) = IsAllowed seen threads t.choice

-- an idle hart
abbrev running : Weights → Tid → Turn
running weights t = freely weights (asked.Run t)

run_allowed : (weights : Weights) (seen : Sight) (threads : List ℕ) (next : Option Tid) → seen.idle ≡ true → IsAmong threads next
    → IsTurnAllowed seen threads (option_map (running weights) next)
run_allowed weights seen threads None idle among = tt
run_allowed weights seen threads (Some t) idle among = Runs t (record { idle = idle; among = among })

idle_allowed : (weights : Weights) (seen : Sight) (threads : List ℕ) (next : Option Tid) (some : Bool) → seen.requested ≡ some
    → seen.idle ≡ true → has_stores seen ≡ false → IsAmong threads next
    → IsTurnAllowed seen threads (cond some (Some (freely weights asked.Take)) (option_map (running weights) next))
idle_allowed weights seen threads next true is idle empty among = Takes is empty
idle_allowed weights seen threads next false is idle empty among = run_allowed weights seen threads next idle among

-- a hart whose thread waits in a barrier
barrier_allowed : (weights : Weights) (seen : Sight) (threads : List ℕ) (some : Bool) → seen.requested ≡ some
    → seen.idle ≡ false → seen.in_barrier ≡ true → has_stores seen ≡ false → (some || seen.all_taken) ≡ true
    → IsTurnAllowed seen threads (Some (cond some (freely weights asked.Take) (freely weights asked.Done)))
barrier_allowed weights seen threads true is runs waits empty can = Takes is empty
barrier_allowed weights seen threads false is runs waits empty can = Returns (record { runs = runs; waits = waits; over = can })

-- what a running hart means can still be done
abbrev IsDue : Sight → Option Aim → Type 0
IsDue seen None = Unit {0}
IsDue seen (Some a) = is_due seen a ≡ true

still_is_due : (seen : Sight) (held : Option Aim) → IsDue seen (still_due seen held)
still_is_due seen None = tt
still_is_due seen (Some a) = go (is_due seen a) refl
  where
    go : (b : Bool) → is_due seen a ≡ b → IsDue seen (cond b (Some a) None)
    go true is = is
    go false is = tt

new_is_due : (weights : Weights) (seen : Sight) (w : ℕ) → IsDue seen (new_aim weights seen w)
new_is_due weights seen w = go (takes_by w weights seen) (delivers_by w weights seen) (leaves_by w weights seen) refl refl
  where
    go : (takes delivers leaves : Bool) → takes_by w weights seen ≡ takes → delivers_by w weights seen ≡ delivers
        → IsDue seen (cond takes (Some means.Take) (cond delivers (Some means.Signal) (cond leaves (Some means.Preempt) None)))
    go true delivers leaves some signal =
        (and_parts seen.requested (ltb (interrupt_of w) weights.take) some).0
    go false true leaves some signal = (and_parts seen.deliverable (ltb (interrupt_of w) weights.signal) signal).0
    go false false true some signal = refl
    go false false false some signal = tt

either_is_due : (seen : Sight) (one other : Option Aim) → IsDue seen one → IsDue seen other → IsDue seen (option_or one other)
either_is_due seen None other a b = b
either_is_due seen (Some x) other a b = a

-- a running hart that means something
aim_allowed : (seen : Sight) (threads : List ℕ) (a : Aim) → seen.idle ≡ false → seen.in_barrier ≡ false → is_due seen a ≡ true
    → has_stores seen ≡ false → IsAllowed seen threads (choice_of_aim a)
aim_allowed seen threads means.Preempt runs apart due empty = Preempts (record { runs = runs; apart = apart; empty = empty })
aim_allowed seen threads means.Take runs apart due empty = Takes due empty
aim_allowed seen threads means.Signal runs apart due empty = Delivers due (record { runs = runs; apart = apart; empty = empty })

abbrev at_once : Aim → Turn
at_once a = record { choice = choice_of_aim a; aim = Some means.Signal; credit = 0 }

aimed_allowed : (seen : Sight) (threads : List ℕ) (a : Aim) (some : Bool) → has_stores seen ≡ some
    → seen.idle ≡ false → seen.in_barrier ≡ false → is_due seen a ≡ true
    → IsTurnAllowed seen threads (Some (cond some (draining (Some a)) (at_once a)))
aimed_allowed seen threads a true is runs apart due = Drains is
aimed_allowed seen threads a false is runs apart due = aim_allowed seen threads a runs apart due is

-- one that means nothing
aimless_allowed : (weights : Weights) (seen : Sight) (traps : Bool) (threads : List ℕ) (w : ℕ) (may drains : Bool)
    → seen.exec_enabled ≡ may → drains_by w weights seen ≡ drains → (may || has_stores seen) ≡ true
    → IsTurnAllowed seen threads (Some (cond (may && not drains) (executing weights seen traps) (draining None)))
aimless_allowed weights seen traps threads w true true is drained can =
    Drains (and_parts (has_stores seen) (ltb (drain_of w) weights.drain) drained).0
aimless_allowed weights seen traps threads w true false is drained can = Executes is
aimless_allowed weights seen traps threads w false true is drained can = Drains can
aimless_allowed weights seen traps threads w false false is drained can = Drains can

meaning_allowed : (weights : Weights) (seen : Sight) (traps : Bool) (threads : List ℕ) (w : ℕ) (a : Option Aim) → IsDue seen a
    → seen.idle ≡ false → seen.in_barrier ≡ false → (seen.exec_enabled || has_stores seen) ≡ true
    → IsTurnAllowed seen threads (Some (turn_meaning weights seen traps w a))
meaning_allowed weights seen traps threads w None due runs apart can =
    aimless_allowed weights seen traps threads w seen.exec_enabled (drains_by w weights seen) refl refl can
meaning_allowed weights seen traps threads w (Some a) due runs apart can =
    aimed_allowed seen threads a (has_stores seen) refl runs apart due

running_allowed : (weights : Weights) (seen : Sight) (traps : Bool) (threads : List ℕ) (held : Option Aim) (w : ℕ)
    → seen.idle ≡ false → seen.in_barrier ≡ false → (seen.exec_enabled || has_stores seen) ≡ true
    → IsTurnAllowed seen threads (Some (running_turn weights seen traps held w))
running_allowed weights seen traps threads held w =
    meaning_allowed weights seen traps threads w (meant weights seen held w)
    (either_is_due seen (still_due seen held) (new_aim weights seen w) (still_is_due seen held) (new_is_due weights seen w))

-- any hart that can act
any_allowed : (weights : Weights) (seen : Sight) (traps : Bool) (threads : List ℕ) (last : Option Tid) (held : Option Aim) (w : ℕ)
    → IsSettled seen → can_act seen (ltb 0 (length threads)) ≡ true
    → IsTurnAllowed seen threads (turn weights seen traps threads last held w)
any_allowed weights seen traps threads last held w settled = go seen.idle seen.in_barrier refl refl
  where
    go : (idle waits : Bool) → seen.idle ≡ idle → seen.in_barrier ≡ waits
        → cond idle (seen.requested || ltb 0 (length threads))
        (cond waits (seen.requested || seen.all_taken) (seen.exec_enabled || has_stores seen)) ≡ true
        → IsTurnAllowed seen threads (cond idle (idle_turn weights seen (thread_to_run threads last w))
        (cond waits (Some (barrier_turn weights seen)) (Some (running_turn weights seen traps held w))))
    go true waits is within can =
        idle_allowed weights seen threads (thread_to_run threads last w) seen.requested refl is (settled.idle is)
        (runs_among threads last w)
    go false true is within can =
        barrier_allowed weights seen threads seen.requested refl is within (settled.in_barrier within) can
    go false false is within can = running_allowed weights seen traps threads held w is within can

pub turn-allowed : (weights : Weights) (seen : Sight) (traps : Bool) (threads : List ℕ) (last : Option Tid) (held : Option Aim) (w : ℕ)
    (t : Turn) → IsSettled seen → can_act seen (ltb 0 (length threads)) ≡ true
    → turn weights seen traps threads last held w ≡ Some t → IsAllowed seen threads t.choice
turn-allowed weights seen traps threads last held w t settled can e =
    subst (λ (o : Option Turn). IsTurnAllowed seen threads o) e (any_allowed weights seen traps threads last held w settled can)

-- where a thread may begin to run, one does
pub place_among-below : (n count : ℕ) → 0 < count → place_among n count < count
place_among-below n count some = go (eqb count 0)
  where
    go : (b : Bool) → cond b 0 (n % count) < count
    go true = some
    go false = mod_below n count some

past_within : (k place count : ℕ) → k < count - 1 → 1 < count → place_of_other (Some place) k < count
past_within k place count below more = go (ltb k place)
  where
    go : (b : Bool) → cond b k (k + 1) < count
    go true = omega arith
    go false = omega arith

out_of_more : (threads : List ℕ) (out : Option ℕ) (b : Bool) → ltb 1 (length threads) ≡ b → is_some (cond b out None) ≡ true
    → 1 < length threads
out_of_more threads out true is some = ltb-true 1 (length threads) is
out_of_more threads out false is some = absurd (false≢true some)

other_within : (threads : List ℕ) (n : ℕ) (out : Option ℕ) → (is_some out ≡ true → 1 < length threads) → 0 < length threads
    → place_of_other out (place_among n (others threads out)) < length threads
other_within threads n None more some = place_among-below n (length threads) some
other_within threads n (Some place) more some =
    let two : 1 < length threads = more refl in
    past_within (place_among n (length threads - 1)) place (length threads)
    (place_among-below n (length threads - 1) (omega arith)) two

place_within : (threads : List ℕ) (last : Option Tid) (w : ℕ) → 0 < length threads → place_to_run threads last w < length threads
place_within threads last w some =
    other_within threads (w / 840000000000000) (left_out threads last)
    (out_of_more threads (option_and_then (λ (t : Tid). position (λ u. eqb u t.0) threads) last) (ltb 1 (length threads)) refl) some

thread_comes : (threads : List ℕ) (last : Option Tid) (w : ℕ) → 0 < length threads → IsSome (thread_to_run threads last w)
thread_comes threads last w some =
    ap (λ (o : Option ℕ). is_some (option_map thread o))
    (slice_get-get_or threads (place_to_run threads last w) 0 (place_within threads last w some))

-- so a hart that can act does something
run_comes : (weights : Weights) (next : Option Tid) → IsSome next → IsSome (option_map (running weights) next)
run_comes weights None some = absurd (false≢true some)
run_comes weights (Some t) some = refl

idle_comes : (weights : Weights) (threads : List ℕ) (last : Option Tid) (w : ℕ) (some : Bool)
    → (some || ltb 0 (length threads)) ≡ true
    → IsSome (cond some (Some (freely weights asked.Take)) (option_map (running weights) (thread_to_run threads last w)))
idle_comes weights threads last w true can = refl
idle_comes weights threads last w false can =
    run_comes weights (thread_to_run threads last w) (thread_comes threads last w (ltb-true 0 (length threads) can))

pub turn-comes : (weights : Weights) (seen : Sight) (traps : Bool) (threads : List ℕ) (last : Option Tid) (held : Option Aim) (w : ℕ)
    → can_act seen (ltb 0 (length threads)) ≡ true → IsSome (turn weights seen traps threads last held w)
turn-comes weights seen traps threads last held w = go seen.idle seen.in_barrier
  where
    go : (idle waits : Bool)
        → cond idle (seen.requested || ltb 0 (length threads))
        (cond waits (seen.requested || seen.all_taken) (seen.exec_enabled || has_stores seen)) ≡ true
        → IsSome (cond idle (idle_turn weights seen (thread_to_run threads last w))
        (cond waits (Some (barrier_turn weights seen)) (Some (running_turn weights seen traps held w))))
    go true waits can = idle_comes weights threads last w seen.requested can
    go false true can = refl
    go false false can = refl
