-- How a drawing begins (own): one generator, seeded as that of hart 0 of `run`; then how many harts are open, by a word where one is
-- needed; and the first stretch is hart 0's, and has the first of the four stays.
use Rattle.std.specs.Prelude.{ℕ, ◌+◌, ◌-◌, ◌%◌, ◌&&◌, Bool, not, None, if◌then◌else◌, nat_lt, replicate}
use Rattle.chooser.specs.Generators.{Generator, first_generator, next_generator, word}
use Rattle.draw_policies.specs.Policies.{weights_of}
use Rattle.draw_policies.specs.declared.policies.Policy.{Policy}
use Rattle.drawings.specs.declared.drawing.Drawing.{Drawing}

-- whether a word says how many harts are open
abbrev pub opens_by_word : Policy → ℕ → Bool
opens_by_word policy harts = (weights_of policy).draws && not (weights_of policy).alone && nat_lt 1 harts

-- how many are where no word says it: hart 0 alone, or all
abbrev pub open_without : Policy → ℕ → ℕ
open_without policy harts = if (weights_of policy).alone then 1 else harts

-- how many are, from hart 0 on: 2 at least, each number as likely as the next, where a word says it
abbrev pub first_open : Policy → ℕ → Generator → ℕ
first_open policy harts g = if opens_by_word policy harts then 2 + word g % (harts - 1) else open_without policy harts

abbrev pub after_open : Policy → ℕ → Generator → Generator
after_open policy harts g = if opens_by_word policy harts then next_generator g else g

-- the start, for a machine of so many harts, of a run that goes on fairly after so many events
abbrev pub start : Policy → ℕ → ℕ → ℕ → Drawing
start policy harts seed left =
    let g = first_generator seed 0 in
    record {
      policy = policy;
      left = left;
      opened = first_open policy harts g;
      last = record { 0 = 0 };
      owner = record { 0 = 0 };
      stretch = 0;
      credit = 0;
      aims = replicate 8 None;
      ran = replicate 8 None;
      generator = after_open policy harts g;
    }
