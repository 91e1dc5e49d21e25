-- Worked examples: how long the stores of two harts wait.
use Rattle.std.proofs.Common.{◌≡◌, ℕ, List, [], ◌∷◌, drop, length, refl, take}
use Rattle.mach_types.specs.declared.events.Entry.{Entry}
use Rattle.mach_types.specs.declared.events.Kind.{Kind}
use Rattle.mach_types.specs.declared.events.Kind.TheVariants as kind
use Rattle.mach_types.specs.declared.user_memory.Store.{Store}
use Rattle.block_model.specs.Here.{Here, nothing}
use Rattle.block_model.specs.History.{Event}
use Rattle.drawn_machine.specs.Waits.{counts_of, no_waits, waits}

abbrev entry : ℕ → Kind → Entry
entry h k = record { hart = record { 0 = h }; kind = k; tid = record { 0 = 1 }; pc = 0x10000 }

abbrev store : Store
store = record { at = 0x20000; size = 8; value = 7 }

-- an instruction, one that stores, a drain, and a preemption of hart h
abbrev exec : Here → ℕ → Event
exec here h = record { entry = entry h kind.Exec; done = record (nothing here) { instructions = 1 } }

abbrev stores : Here → ℕ → Event
stores here h = record { entry = entry h kind.Exec; done = record (nothing here) { instructions = 1; executed = store ∷ [] } }

abbrev drains : Here → ℕ → Event
drains here h = record { entry = entry h kind.Drain; done = record (nothing here) { drained = 1 } }

abbrev leaves : Here → ℕ → Event
leaves here h = record { entry = entry h kind.Preempt; done = nothing here }

-- a store that enters at once waits for no instruction
at_once : (here : Here) → waits (drains here 0 ∷ stores here 0 ∷ exec here 0 ∷ []) ≡ 0 ∷ []
at_once here = refl

-- two stores of hart 0, an instruction apart: the older one waits for both instructions behind it, of which the second stores; the
-- younger one for the one behind it. What hart 1 executes counts for its own store alone
two_harts : (here : Here)
    → waits (leaves here 0 ∷ drains here 0 ∷ exec here 0 ∷ drains here 1 ∷ drains here 0 ∷ exec here 1 ∷ exec here 1 ∷ stores here 1
    ∷ stores here 0 ∷ exec here 0 ∷ stores here 0 ∷ [])
    ≡ 1 ∷ 2 ∷ 2 ∷ []
two_harts here = refl

-- a store that still waits isn't told
still_waits : (here : Here) → waits (exec here 0 ∷ stores here 0 ∷ []) ≡ []
still_waits here = refl

-- two waits of 2 instructions and one of 1, and one of 300: the last place stands for 255 and more
abbrev counts : List ℕ
counts = counts_of (1 ∷ 2 ∷ 300 ∷ 2 ∷ [])

counted : (take 4 counts ≡ 0 ∷ 1 ∷ 2 ∷ 0 ∷ []) × (drop 254 counts ≡ 0 ∷ 1 ∷ []) × (length counts ≡ 256)
unfolding no_waits
counted = (refl, refl, refl)
