-- Over files and a sink that never fail, no read and no write fails.
use Rattle.std.proofs.Common.{◌≡◌, ◌⊎◌, ℕ, inl, inr, List, Option, arith}
use Rattle.outside.specs.Counts.{Rose}
use Rattle.outcomes.specs.Causes.{ReadFailed}
use Rattle.outcomes.specs.Needs.{Needs, Nothing, Program, Script, Guest, Pair, needs_in}
use Rattle.outcomes.specs.Outcome.{Call, IsOutcome, IsSureOutcome, NoneFailed, all_told}
use Rattle.outcomes.specs.Programs.{Files}

-- a call over such devices: their counts stay 0
abbrev sure_call : List (List ℕ) → (List ℕ → List ℕ) → Files → Option (List ℕ) → Option (List ℕ) → Call
sure_call words files after held held_after = record {
  words = words;
  files = all_told files;
  files_after = after;
  read_faults = λ name. 0;
  read_faults_after = λ name. 0;
  held = held;
  held_after = held_after;
  write_faults = 0;
  write_faults_after = 0;
}

never_rose : ¬ (Rose 0 0)
never_rose rose = omega (arith, rose (omega arith))

all_read : (files : Files) (needs : Needs) → ¬ (ReadFailed files needs (λ name. 0) (λ name. 0))
all_read files Nothing failed = failed
all_read files (Program program limits) rose = never_rose rose
all_read files (Script program script limits) (inl rose) = never_rose rose
all_read files (Script program script limits) (inr unread) = never_rose unread.rose
all_read files (Guest guest) failed = failed
all_read files (Pair pair) (inl rose) = never_rose rose
all_read files (Pair pair) (inr (inl second)) = never_rose second.holds
all_read files (Pair pair) (inr (inr script)) = never_rose script.holds

-- no device of such a call failed
none_failed : (words : List (List ℕ)) (files : List ℕ → List ℕ) (after : Files) (held held_after : Option (List ℕ))
    → NoneFailed (sure_call words files after held held_after)
none_failed words files after held held_after = (all_read (all_told files) (needs_in words), never_rose)

without_six : (status : ℕ) → ¬ (status ≡ 6) → (status ≡ 2) ⊎ (status ≡ 6) → status ≡ 2
without_six status none (inl two) = two
without_six status none (inr six) = absurd (none six)

pub sure_of : (words : List (List ℕ)) (files : List ℕ → List ℕ) (after : Files) (held held_after : Option (List ℕ))
    (status : ℕ) → IsOutcome (sure_call words files after held held_after) status
    → IsSureOutcome words files held held_after status
sure_of words files after held held_after status outcome =
    let none = none_failed words files after held held_after in
    record {
      statuses = outcome.statuses;
      no_read_fault = λ is. none.0 (outcome.read is).0;
      no_write_fault = λ is. none.1 (outcome.write is).0;
      done = outcome.done;
      plain = outcome.plain;
      met = outcome.met;
      unmet = outcome.unmet;
      usage = outcome.usage;
      usage_always = λ no_command.
          without_six status (λ is. none.1 (outcome.write is).0) (outcome.usage_always no_command);
      elf = outcome.elf;
      elf_always = λ told. outcome.elf_always told none;
      script = outcome.script;
      script_always = λ told. outcome.script_always told none;
      memory = outcome.memory;
      big = outcome.big;
      big_always = λ told. outcome.big_always told none;
      guest = outcome.guest;
      guest_always = λ number outside. outcome.guest_always number outside none;
      complete = λ told. outcome.complete told none;
    }
