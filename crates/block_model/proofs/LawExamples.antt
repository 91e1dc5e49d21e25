-- Worked examples of the laws' words: a call that gives an error, an exit that doesn't, a walk, and the choices of `run`.
use Rattle.block_model.proofs.Common.{◌≡◌, ◌≢◌, ℕ, ◌-◌, ◌^◌, List, [], ◌∷◌, ◌++◌, ◌&&◌, Bool, true, false, take, refl, ap, ◌∙◌, arith, Option, Some, None, inl, inr, Choice, Entry, GivesError, History, IsChosen, Luck, Setting, all_signals, choice_at, done, entry_in, file, has_ended, here_in_history, history, is_choice, is_register_only, luck, luck_after, meaning, next_entry, option_map, pick, pick_with, register, row_of, rows, sight_with, Pick}
use Rattle.mach_types.specs.declared.events.Choice.TheVariants as asked
use Rattle.mach_types.specs.declared.events.Kind.TheVariants as kind
use Rattle.chooser.specs.Generators.{first_generator, next_generator, word}
use Rattle.block_model.specs.Walks.{IsWalk, answers, computed}
use Rattle.block_model.proofs.ExamplePrograms.{code_and_data, entry}

-- `addi x17, x0, 1000`, `ecall`: a call that isn't there
abbrev asks_unknown : Setting
asks_unknown = code_and_data (0x93 ∷ 0x08 ∷ 0x80 ∷ 0x3E ∷ 0x73 ∷ 0x00 ∷ 0x00 ∷ 0x00 ∷ [])

abbrev before_call : List Entry
before_call = entry kind.Run 0x100B0 ∷ entry kind.Exec 0x100B0 ∷ []

unknown_gives_error : GivesError asks_unknown (history asks_unknown before_call) (entry kind.Exec 0x100B4)
unfolding history done meaning row_of rows
unknown_gives_error = record {
  call = record { executes = refl; calls = refl };
  answers = λ is. let same : 1000 ≡ 139 = is in absurd (omega (arith, same));
  goes_on = refl;
  stays = refl;
  error = record { errno = 38; least = omega arith; most = omega arith; is = refl };
}

-- `addi x10, x0, -1`, `addi x17, x0, 93`, `ecall`: the process ends with a0 at -1, which isn't an error of the call
abbrev exits : Setting
exits = code_and_data (0x13 ∷ 0x05 ∷ 0xF0 ∷ 0xFF ∷ 0x93 ∷ 0x08 ∷ 0xD0 ∷ 0x05 ∷ 0x73 ∷ 0x00 ∷ 0x00 ∷ 0x00 ∷ [])

abbrev before_exit : List Entry
before_exit = entry kind.Run 0x100B0 ∷ entry kind.Exec 0x100B0 ∷ entry kind.Exec 0x100B4 ∷ []

minus_one : register (file exits 1 (history exits before_exit)).file 10 ≡ 2 ^ 64 - 1
unfolding history done meaning row_of rows
minus_one = refl

exit_ends : (done exits (history exits before_exit) (entry kind.Exec 0x100B8)).ended ≢ None
unfolding history done meaning row_of rows
exit_ends is = absurd cc

-- `lui x5, 0x20`, `addi x6, x0, 9`, `sw x6, 0(x5)`, `lw x7, 0(x5)`: a walk, in which the store enters memory last
abbrev stores : Setting
stores = code_and_data (0xB7 ∷ 0x02 ∷ 0x02 ∷ 0x00 ∷ 0x13 ∷ 0x03 ∷ 0x90 ∷ 0x00 ∷ 0x23 ∷ 0xA0 ∷ 0x62 ∷ 0x00
    ∷ 0x83 ∷ 0xA3 ∷ 0x02 ∷ 0x00 ∷ [])

abbrev before_walk : List Entry
before_walk = entry kind.Run 0x100B0 ∷ []

abbrev walk : List Entry
walk = entry kind.Exec 0x100B0 ∷ entry kind.Exec 0x100B4 ∷ entry kind.Exec 0x100B8 ∷ entry kind.Exec 0x100BC
    ∷ entry kind.Drain 0x100C0 ∷ []

is_walk : IsWalk stores 0 1 (history stores before_walk) walk
unfolding history done meaning row_of rows
is_walk = record {
  starts = refl;
  each = (
    λ is. inr (inr (record { executes = refl; no_fault = refl; no_call = λ e. absurd cc })),
    (
      λ is. inr (inr (record { executes = refl; no_fault = refl; no_call = λ e. absurd cc })),
      (
        λ is. inr (inr (record { executes = refl; no_fault = refl; no_call = λ e. absurd cc })),
        (
          λ is. inr (inr (record { executes = refl; no_fault = refl; no_call = λ e. absurd cc })),
          (λ is. inl refl, tt),
        ),
      ),
    ),
  );
}

-- the load finds what waits
loaded : register (computed stores.program.pages (file stores 1 (history stores before_walk)) (answers stores 0 (history stores before_walk) walk)).file 7 ≡ 9
unfolding history done meaning row_of rows
loaded = refl

-- the choices of `run`: at the start each hart of the machine would run thread 1; once hart 0 runs it, hart 1 has none
choices_at_start :
    (next_entry stores 1 0 (history stores []) ≡ Some (entry kind.Run 0x100B0))  -- chooses first
    × (choice_at stores 1 1 (history stores []) ≡ Some (asked.Run (record { 0 = 1 })))  -- chooses at hart 1
    × (choice_at stores 1 1 (history stores before_walk) ≡ None)  -- none for hart 1
unfolding history done is_register_only has_ended choice_at next_entry pick meaning row_of rows
choices_at_start = (refl, refl, refl)

-- no word is drawn for a thread that begins to run
none_drawn : luck stores 1 0 (history stores before_walk) ≡ record { drawn = 0; credit = 0 }
unfolding history done is_register_only has_ended choice_at next_entry pick meaning row_of rows
none_drawn = refl

-- a hart has no choice where a thread runs there, but the machine has no such hart; nor where the run has ended
abbrev other_hart : List Entry
other_hart = record (entry kind.Run 0x100B0) { hart = record { 0 = 1 } } ∷ []

choices_drawn_later :
    (choice_at (record stores { limits = record stores.limits { harts = 1 } }) 1 1 (history stores other_hart) ≡ None)  -- no second hart
    × (choice_at exits 1 0 (history exits (before_exit ++ entry kind.Exec 0x100B8 ∷ [])) ≡ None)  -- none after the end
unfolding history done is_register_only has_ended choice_at next_entry pick meaning row_of rows
choices_drawn_later = (refl, refl)

-- hart 0 after so many events of the walk: the history, the pick with this luck, and the luck after it
abbrev place : ℕ → History
place n = history stores (before_walk ++ take n walk)

abbrev picks : ℕ → Luck → Option Pick
picks n l = pick_with stores 1 0 (place n) l

abbrev and_then : Choice → ℕ → Luck → Luck
and_then c n l = luck_after c (sight_with stores 0 (place n) l) (picks n l) l

abbrev is_picked : ℕ → Luck → Choice → Bool
is_picked n l c = is_choice (option_map (λ (p : Pick). p.choice) (picks n l)) c

-- the whole walk is chosen where these are the first words of hart 0, as the seed 1 gives them: the first, which `lui` draws, gives the credit on
-- which `addi` is executed; `sw` and `lw` draw one each; then nothing is fetched that has a row, and a fault waits for the store
module _ (first : word (first_generator 1 0) ≡ 0xcfc5d07f6f03c29b)
    (second : word (next_generator (first_generator 1 0)) ≡ 0xbf424132963fe08d)
    (third : word (next_generator (next_generator (first_generator 1 0))) ≡ 0x19a37d5757aaf520) where
  credit_given : luck stores 1 0 (place 1) ≡ record { drawn = 1; credit = 1 }
  unfolding all_signals history done is_register_only has_ended choice_at next_entry pick meaning row_of rows
  credit_given = rw first refl

  credit_used : luck stores 1 0 (place 2) ≡ record { drawn = 1; credit = 0 }
  unfolding all_signals history done is_register_only has_ended choice_at next_entry pick meaning row_of rows
  credit_used = ap (and_then asked.Exec 1) credit_given

  word_without_credit : luck stores 1 0 (place 3) ≡ record { drawn = 2; credit = 0 }
  unfolding all_signals history done is_register_only has_ended choice_at next_entry pick meaning row_of rows
  word_without_credit = ap (and_then asked.Exec 2) credit_used ∙ rw second refl

  credit_again : luck stores 1 0 (place 4) ≡ record { drawn = 3; credit = 2 }
  unfolding all_signals history done is_register_only has_ended choice_at next_entry pick meaning row_of rows
  credit_again = ap (and_then asked.Exec 3) word_without_credit ∙ rw third refl

  drains_when_held_up : next_entry stores 1 0 (place 4) ≡ Some (entry kind.Drain 0x100C0)
  unfolding all_signals history done is_register_only has_ended choice_at next_entry pick meaning row_of rows
  drains_when_held_up =
      ap (λ l. option_map (λ c. entry_in c (here_in_history stores (place 4) 0)) (option_map (λ (p : Pick). p.choice) (picks 4 l))) credit_again

  -- no credit is left after a drain, and no word is drawn for it
  credit_ends : luck stores 1 0 (place 5) ≡ record { drawn = 3; credit = 0 }
  unfolding all_signals history done is_register_only has_ended choice_at next_entry pick meaning row_of rows
  credit_ends = ap (and_then asked.Drain 4) credit_again

  -- a drain in place of the load draws no word, and leaves no credit
  other_event_draws_none : and_then asked.Drain 3 (luck stores 1 0 (place 3)) ≡ record { drawn = 2; credit = 0 }
  unfolding all_signals history done is_register_only has_ended choice_at next_entry pick meaning row_of rows
  other_event_draws_none = ap (and_then asked.Drain 3) word_without_credit ∙ rw third refl

  walk_is_chosen : IsChosen stores 1 (before_walk ++ walk)
  unfolding all_signals IsChosen history done is_register_only has_ended choice_at next_entry pick meaning row_of rows
  walk_is_chosen =
      let lui : is_picked 0 (record { drawn = 0; credit = 0 }) asked.Exec ≡ true = rw first refl in
      let addi : is_picked 1 (luck stores 1 0 (place 1)) asked.Exec ≡ true = ap (λ l. is_picked 1 l asked.Exec) credit_given in
      let sw : is_picked 2 (luck stores 1 0 (place 2)) asked.Exec ≡ true = ap (λ l. is_picked 2 l asked.Exec) credit_used ∙ rw second refl in
      let lw : is_picked 3 (luck stores 1 0 (place 3)) asked.Exec ≡ true = ap (λ l. is_picked 3 l asked.Exec) word_without_credit ∙ rw third refl in
      let drain : is_picked 4 (luck stores 1 0 (place 4)) asked.Drain ≡ true = ap (λ l. is_picked 4 l asked.Drain) credit_again in
      all_five lui addi sw lw drain
    where
      all_five : {a b c d e : Bool} → a ≡ true → b ≡ true → c ≡ true → d ≡ true → e ≡ true → (a && b && c && d && e) ≡ true
      all_five lui addi sw lw drain = rw (lui, addi, sw, lw, drain) refl

  -- a drain in place of the load isn't the choice
  early_drain_is_not : is_choice (choice_at stores 1 0 (place 3)) asked.Drain ≡ false
  unfolding all_signals history done is_register_only has_ended choice_at next_entry pick meaning row_of rows
  early_drain_is_not = ap (λ l. is_picked 3 l asked.Drain) word_without_credit ∙ rw third refl
