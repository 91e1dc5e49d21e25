-- An instruction that sets a register and the pc alone, as it is made and told.
use Rattle.std.specs.Prelude.{ℕ, ◌≡◌, ◌++◌, List, [], ◌∷◌, Ok}
use Rattle.mach_types.specs.declared.events.Choice.TheVariants as asked
use Rattle.mach_types.specs.declared.events.Entry.{Entry}
use Rattle.mach_types.specs.declared.events.Kind.TheVariants as kind
use Rattle.block_model.specs.Deciding.{decide}
use Rattle.block_model.specs.Run.{IsBlockRun}
use Rattle.block_model.specs.Setting.{Seen}
use Rattle.fact_types.specs.declared.facts.Fact.{Fact}
use Rattle.event_facts.specs.Telling.{IsDecided, past_of}
use Rattle.event_facts.specs.Tied.{AreLinesOf}
use Rattle.event_facts.specs.Trace.{trace_of}
use Rattle.event_facts.specs.declared.lines.Lines.{Lines}

-- hart h of a machine made it, and all that came of it was told behind other facts. What is kept of lines
-- stays as it was
pub record IsMadeFreely (m m' : Seen) (h : ℕ) (facts facts' : List Fact) (entry : Entry) : Type 0 where
  pub answer : decide m.setting (past_of m) h asked.Exec ≡ Ok entry
  pub decided : IsDecided m entry
  pub hart : entry.hart.0 ≡ h
  pub kind : entry.kind ≡ kind.Exec
  pub machine : m' ≡ record m { log = m.log ++ entry ∷ [] }
  pub run : IsBlockRun m'.setting m'.log
  pub told : facts' ≡ facts ++ trace_of m.setting (past_of m) entry
  pub lines : (kept : Lines) → AreLinesOf m.setting.limits.harts (past_of m) kept
      → AreLinesOf m'.setting.limits.harts (past_of m') kept
