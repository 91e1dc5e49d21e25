-- Requests of barriers (membarrier(2)): a barrier makes one at each hart that it is about; a hart takes all that are pending there at
-- once; and a thread waits in its barrier until each of these harts took its request. A set of harts is a mask whose bit h stands for
-- hart h. Each word says what an event of one hart makes of what another one has, or itself.
use Rattle.std.specs.Prelude.{ℕ, ◌+◌, ◌-◌, ◌^◌, ◌==◌, ◌&&◌, ◌||◌, Bool, false, if◌then◌else◌, Option, None}
use Rattle.std.specs.Option.{option_map, option_map_or, option_or}
use Rattle.mach_types.specs.Kernel.Scheduling.{has_hart}
use Rattle.block_model.specs.Here.{Barrier, Done}

-- a set with one more hart, and without one
abbrev pub with_hart : ℕ → ℕ → ℕ
with_hart h set = if has_hart set h then set else set + 2 ^ h

abbrev pub without_hart : ℕ → ℕ → ℕ
without_hart h set = if has_hart set h then set - 2 ^ h else set

-- whether a barrier is about hart k, and whether it then asks for a restart there
abbrev pub is_about : ℕ → Option Barrier → Bool
is_about k barrier = option_map_or (λ b. has_hart b.targets k) barrier false

abbrev pub restarts_at : ℕ → Option Barrier → Bool
restarts_at k barrier = option_map_or (λ b. has_hart b.targets k && b.restart) barrier false

-- whether an event of hart h took the requests of hart k
abbrev pub has_taken : ℕ → ℕ → Done → Bool
has_taken k h d = (h == k) && d.took

-- the harts whose barriers have requests pending at hart k, after an event of hart h
abbrev pub requests_after : ℕ → ℕ → Done → ℕ → ℕ
requests_after k h d set =
    if has_taken k h d then 0
    else if is_about k d.barrier then with_hart h set
    else set

-- whether one of them asks for a restart
abbrev pub restart_after : ℕ → ℕ → Done → Bool → Bool
restart_after k h d restart = if has_taken k h d then false else (restarts_at k d.barrier || restart)

-- the harts that the barrier of hart k waits for, where its thread waits in one: those that it is about, without each that took its
-- requests since; none once it returned
abbrev pub awaits_of_own : Done → Option ℕ → Option ℕ
awaits_of_own d awaits = if d.returned then None else option_or (option_map (λ b. b.targets) d.barrier) awaits

abbrev pub awaits_after : ℕ → ℕ → Done → Option ℕ → Option ℕ
awaits_after k h d awaits =
    if h == k then awaits_of_own d awaits
    else if d.took then option_map (without_hart h) awaits
    else awaits
