-- What a machine keeps, and how it is tied to its log.
use Rattle.std.specs.Prelude.{ℕ, ◌≡◌, ◌≤◌, ◌<◌, true, length, vec_capacity}
use Rattle.mach_types.specs.Limits.{InRange}
use Rattle.chooser.specs.Generators.{Generator, after_words, first_generator, generator_in}
use Rattle.block_model.specs.Setting.{Setting, Seen}
use Rattle.block_model.specs.Choosing.{all_chosen, credit_at, luck}
use Rattle.block_model.specs.Deciding.{history}
use Rattle.block_model.specs.History.{History}
use Rattle.block_model.specs.Plain.{plain_seen}
use Rattle.block_model.specs.Run.{IsBlockRun}
use Rattle.process.specs.Harts.{credit_of}
use Rattle.process.specs.Refinement.{IsTied}
use Rattle.machine_core.specs.declared.machine.Machine.TheInside.{Inside}

-- the setting that a machine keeps
abbrev pub setting_of : Inside → Setting
setting_of m = record {
  program = record { pages = m.code; entry = m.entry; phdr = m.phdr; phnum = m.phnum; break_at = m.break_at };
  limits = m.limits;
}

-- a machine as it is seen
abbrev pub seen : Inside → Seen
seen m = record { setting = setting_of m; seed = m.seed; log = m.log.items }

-- the history of a machine's log
abbrev pub past_of : Inside → History
past_of m = history (setting_of m) m.log.items

-- the generator of hart h after the choices of a history
abbrev pub generator_at : Setting → ℕ → ℕ → History → Generator
generator_at s seed h before = after_words (luck s seed h before).drawn (first_generator seed h)

-- the log is a block run to which the parts are tied, and has room for every step; the credits are those that are shown, and
-- where every entry was chosen as `run` does, the generators are those after their choices
pub record IsMachine (m : Inside) : Type 0 where
  pub run : IsBlockRun (setting_of m) m.log.items
  pub tied : IsTied (setting_of m) (plain_seen (seen m)) m.parts
  pub chosen : m.chosen ≡ all_chosen (setting_of m) m.seed (past_of m)
  pub credits : (h : ℕ) → h < m.limits.harts → credit_of m.parts.harts.items h ≡ credit_at (setting_of m) m.seed h (past_of m)
  pub generators : m.chosen ≡ true → (h : ℕ) → h < m.limits.harts → generator_in m.chooser h ≡ generator_at (setting_of m) m.seed h (past_of m)
  pub held : length m.chooser ≡ 8
  pub limits : InRange m.limits
  pub room : m.limits.steps ≤ vec_capacity m.log
