-- How a ledger follows a long log: it lets go of acts once no sequence goes on or hangs. With the acts that are gone before those that it
-- lists it is tied to the log.
use Rattle.std.specs.Prelude.{ℕ, ◌+◌, ◌≡◌, List, [], ◌++◌, length, map, true, is_none}
use Rattle.std.specs.List.{list_all}
use Rattle.std.specs.Option.{option_map}
use Rattle.mach_types.specs.declared.events.Entry.{Entry}
use Rattle.block_model.specs.Setting.{Seen}
use Rattle.block_view.specs.Ledgers.{Kept}
use Rattle.block_view.specs.Passing.{IsMadeAgain}
use Rattle.block_view.specs.Tied.{IsOfLog}
use Rattle.block_view.specs.declared.forms.Act.{Act}
use Rattle.block_view.specs.declared.ledger.Going.{Going}
use Rattle.block_view.specs.declared.ledger.Hanging.{Hanging}
use Rattle.block_view.specs.declared.passing.Passed.{Passed}

-- a place so many acts further on
abbrev pub moved : ℕ → Going → Going
moved n g = record g { place = n + g.place }

abbrev pub hung_moved : ℕ → Hanging → Hanging
hung_moved n x = record x { place = n + x.place }

-- a ledger with these acts before those that it lists
abbrev pub behind : List Act → Kept → Kept
behind gone k = record {
  acts = gone ++ k.acts;
  going = map (option_map (moved (length gone))) k.going;
  hanging = map (hung_moved (length gone)) k.hanging;
}

-- it follows the log of a machine
pub record IsFollowing (m : Seen) (k : Kept) : Type 0 where
  pub gone : List Act
  pub tied : IsOfLog m (behind gone k)

-- no sequence goes on or hangs
pub record IsAtRest (k : Kept) : Type 0 where
  pub going : list_all is_none k.going ≡ true
  pub hanging : k.hanging ≡ []

-- a ledger is as it was, or has let go of its acts, since no sequence goes on or hangs
pub data IsLetGo (k k' : Kept) : Type 0 where
  Same : k' ≡ k → IsLetGo k k'
  Gone : IsAtRest k → k' ≡ record k { acts = [] } → IsLetGo k k'

-- a machine made one entry more, of which this is seen, where a ledger follows the log before it
pub record HasNextFollowed (k : Kept) (passed : Passed) : Type 0 where
  pub earlier : Seen
  pub now : Seen
  pub entry : Entry
  pub follows : IsFollowing earlier k
  pub made : IsMadeAgain earlier now entry passed
