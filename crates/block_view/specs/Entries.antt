-- Which entries of a log an act has (own).
use Rattle.std.specs.Prelude.{ℕ, ◌≡◌, ◌≤◌}
use Rattle.mach_types.specs.declared.events.Entry.{Entry}
use Rattle.block_view.specs.declared.forms.Act.{Act}

-- an act has the entry of this number: it is one of its hart, from its first to its last
pub record HasEntry (act : Act) (n : ℕ) (entry : Entry) : Type 0 where
  pub hart : act.hart ≡ entry.hart
  pub from : act.first ≤ n
  pub to : n ≤ act.last

-- the entries of an act are some of a log of so many
pub record IsWithin (count : ℕ) (act : Act) : Type 0 where
  pub start : 1 ≤ act.first
  pub order : act.first ≤ act.last
  pub end : act.last ≤ count
