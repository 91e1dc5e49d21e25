-- Stretches: instructions of one hart that touch registers alone, worked without the machine and appended to its log later
-- (own). They are those that `run` lets the hart execute on credit.
use Rattle.std.specs.Prelude.{ℕ, ◌≡◌, ◌-◌, ◌==◌, ◌&&◌, Bool, false, not, List, [], ◌∷◌, ◌++◌, length, min, if◌then◌else◌, Option, None, Some, nat_lt, zero, suc}
use Rattle.std.specs.Option.{option_and_then, option_map_or}
use Rattle.mach_types.specs.declared.events.Entry.{Entry}
use Rattle.mach_types.specs.declared.events.Sight.{Sight}
use Rattle.mach_types.specs.declared.threads.Saved.{Saved}
use Rattle.elf_load.specs.declared.image.ImagePage.{ImagePage}
use Rattle.rv_inst.specs.Class.{sets_register}
use Rattle.rv_inst.specs.Execution.{outcome}
use Rattle.rv_inst.specs.declared.effects.Effect.{Effect}
use Rattle.chooser.specs.Cases.{has_credit}
use Rattle.block_model.specs.Choosing.{has_ended, luck, next_entry, sight_with}
use Rattle.block_model.specs.Deciding.{history}
use Rattle.block_model.specs.History.{History, events, file, running}
use Rattle.block_model.specs.Instruction.{next_effect}
use Rattle.block_model.specs.Setting.{Setting}
use Rattle.block_model.specs.Walks.{file_of}

-- a stretch of a hart: how many events the hart had made when it was lent; its thread's file and the hart's credit, as the
-- instructions so far left them; and the addresses of these instructions, in order
pub record Stretch : Type 0 where
  pub hart : ℕ
  pub events : ℕ
  pub file : Saved
  pub credit : ℕ
  pub pcs : List ℕ

-- as many instructions as a stretch has at most, which is the highest credit
abbrev pub longest : ℕ
longest = 7

-- whether the hart executes its next instruction on credit, by what a scheduler sees of it
abbrev pub is_on_credit : Sight → Bool
is_on_credit seen = not seen.idle && not seen.in_barrier && has_credit seen

-- the stretch that is lent of hart h at the end of a history: none where the run has ended, where the machine hasn't the hart, or
-- where the hart executes no instruction on credit next
abbrev pub lent_to : Setting → ℕ → ℕ → History → Option ℕ → Option Stretch
lent_to s seed h before None = None
lent_to s seed h before (Some t) =
    Some (record { hart = h; events = events h before; file = file s t before; credit = (luck s seed h before).credit; pcs = [] })

abbrev pub may_lend : Setting → ℕ → ℕ → History → Bool
may_lend s seed h before = not (has_ended s before) && nat_lt h s.limits.harts && is_on_credit (sight_with s h before (luck s seed h before))

unfoldable pub lent : Setting → ℕ → ℕ → History → Option Stretch
lent s seed h before = if may_lend s seed h before then lent_to s seed h before (running s h before) else None

-- whether a stretch goes on by its next instruction: credit and room are left, and the instruction sets a register and the pc
-- alone, without a fault
abbrev pub goes_on : List ImagePage → Stretch → Bool
goes_on pages l =
    nat_lt 0 l.credit && nat_lt (length l.pcs) longest && option_map_or sets_register (next_effect pages l.file) false

-- the file after an instruction with this effect, which reads nothing but registers
abbrev pub file_after : Saved → Effect → Saved
file_after f e = file_of (outcome (λ a. None) f.file f.pc None e)

-- the stretch after its next instruction, if it goes on
abbrev pub stepped : List ImagePage → Stretch → Stretch
stepped pages l = record l {
  file = option_map_or (file_after l.file) (next_effect pages l.file) l.file;
  credit = l.credit - 1;
  pcs = l.pcs ++ l.file.pc ∷ [];
}

abbrev pub gone_on : List ImagePage → Stretch → Stretch
gone_on pages l = if goes_on pages l then stepped pages l else l

-- after so many attempts to go on
abbrev pub worked : ℕ → List ImagePage → Stretch → Stretch
worked zero pages l = l
worked (suc n) pages l = worked n pages (gone_on pages l)

-- a stretch that was lent of hart h at a log with which this one begins, and was worked since
pub record IsStretchOf (s : Setting) (seed h : ℕ) (log : List Entry) (l : Stretch) : Type 0 where
  pub lent_at : List Entry
  pub since : List Entry
  pub whole : lent_at ++ since ≡ log
  pub first : Stretch
  pub began : lent s seed h (history s lent_at) ≡ Some first
  pub times : ℕ
  pub so_far : worked times s.program.pages first ≡ l

-- how many entries come of appending it: none where it has no instruction, where the run has ended, or where its hart has made an
-- event since it was lent; else as many as it has instructions and the log has room for
abbrev pub is_appended : Setting → ℕ → History → Stretch → Bool
is_appended s h before l =
    not (length l.pcs == 0) && not (has_ended s before) && (events h before == l.events)

abbrev pub appended : Setting → ℕ → History → Stretch → ℕ
appended s h before l =
    if is_appended s h before l then min (length l.pcs) (s.limits.steps - length before) else 0

-- the log after so many entries of hart h, each the one that it makes next; none where it makes fewer
abbrev pub advanced : Setting → ℕ → ℕ → ℕ → List Entry → Option (List Entry)
advanced s seed h zero log = Some log
advanced s seed h (suc n) log = option_and_then (λ e. advanced s seed h n (log ++ e ∷ [])) (next_entry s seed h (history s log))
