-- What each event of a log makes of its restartable sequences (own): which one begins with it, and which one has ended with it and how; and
-- which ones no event of the log has ended. It is said by how the acts stand before the event and after it.
use Rattle.std.specs.Prelude.{◌++◌, List, [], map, Option, Some, None}
use Rattle.std.specs.List.{filter_map}
use Rattle.mach_types.specs.declared.sequences.Seq.{Seq}
use Rattle.block_model.specs.History.{Event, History}
use Rattle.block_model.specs.Setting.{Setting}
use Rattle.block_view.specs.Passing.{inside_at}
use Rattle.block_view.specs.Standing.{Standing, at_the_end, begun, going_after, hanging_after, standings}
use Rattle.block_view.specs.Standing.Standing.{Over, Going, Hanging}
use Rattle.block_view.specs.declared.forms.Act.{Act}
use Rattle.block_view.specs.declared.turns.Turn.{Turn}
use Rattle.block_view.specs.declared.turns.Turn.TheVariants.{Begins, Ends}

-- a sequence ends with an event where its act has no end before it and has one after it: the act as it is then
abbrev pub over_act : Standing → Option Act
over_act (Over act) = Some act
over_act (Going q) = None
over_act (Hanging q) = None

abbrev pub ended_by : Setting → Event → History → Standing → Option Act
ended_by s e before (Over act) = None
ended_by s e before (Going q) = over_act (going_after s e before q)
ended_by s e before (Hanging q) = over_act (hanging_after s e before q)

abbrev pub acts_ended : Setting → Event → History → List Act
acts_ended s e before = filter_map (ended_by s e before) (standings s before)

-- a sequence begins with an event where the act that does is one that goes on: the sequence that the thread of its hart was inside before it
abbrev pub begun_inside : Option Seq → Standing → Option Seq
begun_inside inside (Over act) = None
begun_inside inside (Going q) = inside
begun_inside inside (Hanging q) = None

abbrev pub sequences_begun : Setting → Event → History → List Seq
sequences_begun s e before = filter_map (begun_inside (inside_at s e.entry.hart.0 before)) (begun s e before)

-- what an event makes of the sequences
abbrev pub turns : Setting → Event → History → List Turn
turns s e before = map Begins (sequences_begun s e before) ++ map Ends (acts_ended s e before)

-- the sequences that no event of a log has ended, in the order of their first events: each as it is where the log ends
abbrev pub open_act : Setting → History → Standing → Option Act
open_act s all (Over act) = None
open_act s all (Going q) = Some (at_the_end s all [] (Going q))
open_act s all (Hanging q) = Some (at_the_end s all [] (Hanging q))

abbrev pub acts_left_open : Setting → History → List Act
acts_left_open s all = filter_map (open_act s all) (standings s all)
