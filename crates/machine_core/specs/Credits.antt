-- The credits of the harts after an event, by what was picked for its hart before it.
use Rattle.std.specs.Prelude.{ℕ, ◌==◌, Bool, false, List, Option, Some, None, if◌then◌else◌}
use Rattle.std.specs.Option.{option_map, option_map_or}
use Rattle.mach_types.specs.declared.events.Choice.{Choice}
use Rattle.mach_types.specs.declared.events.Sight.{Sight}
use Rattle.chooser.specs.Cases.{pick}
use Rattle.chooser.specs.Generators.{Generator, after_pick, generator_in, word}
use Rattle.chooser.specs.declared.chooser.Pick.{Pick}
use Rattle.hart_state.specs.declared.hart.HartState.{HartState}
use Rattle.block_model.specs.Choosing.{credit_at, is_choice}
use Rattle.block_model.specs.History.{History, here_in_history, ran}
use Rattle.block_model.specs.Setting.{Setting}
use Rattle.block_model.specs.Sights.{sight_in}

-- what is seen of a hart before its event, where every entry so far was chosen
abbrev pub seen_if : Bool → Setting → ℕ → ℕ → History → Option Sight
seen_if b s seed h before = if b then Some (sight_in (here_in_history s before h) (ran h before) (credit_at s seed h before)) else None

-- whether this event was picked
abbrev pub is_picked : Choice → Option Pick → Bool
is_picked c picked = is_choice (option_map (λ (p : Pick). p.choice) picked) c

-- the credit that a pick leaves
abbrev pub with_credit : Option Pick → ℕ
with_credit picked = option_map_or (λ (p : Pick). p.credit) picked 0

-- a hart without a credit
abbrev pub uncredited : HartState → HartState
uncredited x = record x { credit = 0 }

-- a hart after an event, its own or another's: the own one has what the pick leaves, where the event was picked; else no hart
-- has a credit
abbrev pub credited : Choice → Option Pick → Bool → HartState → HartState
credited c picked own x =
    record x { credit = if is_picked c picked then (if own then with_credit picked else x.credit) else 0 }

-- the same by what was seen before the event, where it was looked for: whether the log goes on by choices, a hart after the
-- event, and the generators after it. Where the log isn't one of choices, nobody looks, and all stays
abbrev pub is_followed : Option Sight → List Generator → ℕ → Choice → Bool
is_followed None generators h c = false
is_followed (Some seen) generators h c = is_picked c (pick seen (word (generator_in generators h)))

abbrev pub followed : Option Sight → List Generator → ℕ → Choice → ℕ → HartState → HartState
followed None generators h c k x = x
followed (Some seen) generators h c k x = credited c (pick seen (word (generator_in generators h))) (k == h) x

abbrev pub generators_after : Option Sight → ℕ → List Generator → List Generator
generators_after None h generators = generators
generators_after (Some seen) h generators = after_pick seen h generators
