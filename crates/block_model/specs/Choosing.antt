-- What `run` lets each hart do (own): the pick of the chooser by what a scheduler sees of the hart, with the next word of the
-- hart's generator. How many words were drawn and which credit is left follow from the hart's own earlier events. Beside the
-- setting each takes the seed, at which the generators begin; no rule of what an event does reads it.
use Rattle.std.specs.Prelude.{ℕ, ◌≡◌, ◌+◌, ◌==◌, ◌&&◌, ◌||◌, Bool, true, false, List, [], ◌∷◌, length, Option, Some, None, if◌then◌else◌, nat_lt, nat_le, is_some}
use Rattle.std.specs.Option.{option_map, option_map_or}
use Rattle.mach_types.specs.Events.{choice_of, number_of_choice}
use Rattle.mach_types.specs.declared.events.Advance.{Advance}
use Rattle.mach_types.specs.declared.events.Advance.TheVariants.{Made, NoneNow, Ended}
use Rattle.mach_types.specs.declared.events.Choice.{Choice}
use Rattle.mach_types.specs.declared.events.Entry.{Entry}
use Rattle.mach_types.specs.declared.events.Sight.{Sight}
use Rattle.chooser.specs.declared.chooser.Pick.{Pick}
use Rattle.chooser.specs.Cases.{draws, pick}
use Rattle.chooser.specs.Generators.{after_words, first_generator, word}
use Rattle.block_model.specs.Setting.{Setting}
use Rattle.block_model.specs.Sights.{sight_in}
use Rattle.block_model.specs.History.{History, here_in_history, is_of_hart, ran}
use Rattle.block_model.specs.Deciding.{entry_in, history, over_at}

-- how many words a hart's generator gave, and how many more register-only instructions the hart may execute without one
pub record Luck : Type 0 where
  pub drawn : ℕ
  pub credit : ℕ

-- what a scheduler sees of hart h at the end of a history, where the hart has this luck
abbrev pub sight_with : Setting → ℕ → History → Luck → Sight
sight_with s h before l = sight_in (here_in_history s before h) (ran h before) l.credit

-- what is picked there, with the next word of the hart's generator
abbrev pub pick_with : Setting → ℕ → ℕ → History → Luck → Option Pick
pick_with s seed h before l = pick (sight_with s h before l) (word (after_words l.drawn (first_generator seed h)))

-- whether this is the choice
abbrev pub is_choice : Option Choice → Choice → Bool
is_choice chosen c = option_map_or (λ other. number_of_choice other == number_of_choice c) chosen false

-- the luck after an event of the hart that this pick would have made: where it is the event, a word more if one was drawn, and
-- the pick's credit; an event that wasn't picked draws no word, and leaves no credit
abbrev pub luck_after : Choice → Sight → Option Pick → Luck → Luck
luck_after c seen picked l =
    if is_choice (option_map (λ (p : Pick). p.choice) picked) c
    then record {
      drawn = if draws seen then l.drawn + 1 else l.drawn;
      credit = option_map_or (λ (p : Pick). p.credit) picked 0;
    }
    else record { drawn = l.drawn; credit = 0 }

-- the luck of hart h at the end of a history: no word and no credit at the start
abbrev pub luck : Setting → ℕ → ℕ → History → Luck
luck s seed h [] = record { drawn = 0; credit = 0 }
luck s seed h (e ∷ before) =
    if is_of_hart h e
    then luck_after (choice_of e.entry) (sight_with s h before (luck s seed h before)) (pick_with s seed h before (luck s seed h before)) (luck s seed h before)
    else luck s seed h before

-- the pick of hart h at the end of a history
abbrev pub pick_at : Setting → ℕ → ℕ → History → Option Pick
pick_at s seed h before = pick_with s seed h before (luck s seed h before)

-- whether the run has ended: an event ended it, or it is stuck, or the step limit is reached
unfoldable pub has_ended : Setting → History → Bool
has_ended s before = is_some (over_at s before) || nat_le s.limits.steps (length before)

-- the choice of hart h at the end of a history: none where the run has ended, and none of a hart that the machine hasn't
unfoldable pub choice_at : Setting → ℕ → ℕ → History → Option Choice
choice_at s seed h before =
    if has_ended s before then None
    else if nat_lt h s.limits.harts then option_map (λ (p : Pick). p.choice) (pick_at s seed h before)
    else None

-- the entry of that choice: the one that the hart makes next
unfoldable pub next_entry : Setting → ℕ → ℕ → History → Option Entry
next_entry s seed h before = option_map (λ c. entry_in c (here_in_history s before h)) (choice_at s seed h before)

-- whether every entry is the choice of its hart at its place
abbrev pub all_chosen : Setting → ℕ → History → Bool
all_chosen s seed [] = true
all_chosen s seed (e ∷ before) = all_chosen s seed before && is_choice (choice_at s seed e.entry.hart.0 before) (choice_of e.entry)

-- every entry of the log is the choice of its hart at its place
unfoldable pub IsChosen : Setting → ℕ → List Entry → Type 0
IsChosen s seed log = all_chosen s seed (history s log) ≡ true

-- the credit that is shown of hart h: that of its picks, where every entry was chosen so; else 0
unfoldable pub credit_at : Setting → ℕ → ℕ → History → ℕ
credit_at s seed h before = if all_chosen s seed before then (luck s seed h before).credit else 0

-- what an attempt of hart h to go on comes to
abbrev pub made_or_none : Option Entry → Advance
made_or_none None = NoneNow
made_or_none (Some e) = Made e

unfoldable pub advance_at : Setting → ℕ → ℕ → History → Advance
advance_at s seed h before = if has_ended s before then Ended else made_or_none (next_entry s seed h before)
