-- Worked examples of the definitions, by computation.
use Rattle.std.proofs.Common.{◌≡◌, [], ◌∷◌, Some, None, true, false, refl, arith}
use Rattle.outside.specs.Calls.{is_failing}
use Rattle.outside.specs.Counts.{most_faults, counted, Rose}
use Rattle.outside.specs.MemShelf.{raised_at}
use Rattle.outside.specs.MemSink.{MemorySink, taken_of}
use Rattle.outside.specs.SureSink.{told_after}
use Rattle.outside.specs.Told.{Gained, Moved}

-- a count of 3 rose to 4, and not to 3
rose_to_4 : Rose 3 4
rose_to_4 = λ _. omega arith

not_to_3 : Rose 3 3 → ⊥
not_to_3 rose = omega (arith, rose (omega arith))

-- a count that stands where counts stop stays there, and counts as risen
stops : counted most_faults ≡ most_faults
stops = refl

risen_there : Rose most_faults most_faults
risen_there = λ below. omega arith

-- a sink that held 1 2 gained 3 4
gained_two : Gained (Some (1 ∷ 2 ∷ [])) (Some (1 ∷ 2 ∷ 3 ∷ 4 ∷ [])) (3 ∷ 4 ∷ [])
gained_two = refl

-- a sink may stop telling, and never begins to
stops_telling : Gained (Some (1 ∷ [])) None (2 ∷ [])
stops_telling = tt

never_begins : Gained None (Some (2 ∷ [])) (2 ∷ []) → ⊥
never_begins gained = gained

-- 1 was moved out of 1 2 3
moved_one : Moved (Some (1 ∷ 2 ∷ 3 ∷ [])) (Some (2 ∷ 3 ∷ [])) (1 ∷ [])
moved_one = refl

-- a sink of room 3 tells up to 3 bytes
told_up_to_room : told_after 3 (Some (1 ∷ 2 ∷ [])) (3 ∷ []) ≡ Some (1 ∷ 2 ∷ 3 ∷ [])
told_up_to_room = refl

not_past_room : told_after 3 (Some (1 ∷ 2 ∷ [])) (3 ∷ 4 ∷ []) ≡ None
not_past_room = refl

-- calls are counted from 1: the second fails after one call
second_fails : is_failing (2 ∷ []) 1 ≡ true
second_fails = refl

first_does_not : is_failing (2 ∷ []) 0 ≡ false
first_does_not = refl

-- a sink with 4 bytes of room takes two of three bytes when it holds two
sink_of_two : MemorySink
sink_of_two = record { held = 1 ∷ 2 ∷ []; room = 4; failing = []; calls = 0; faults = 0 }

takes_two : taken_of sink_of_two (3 ∷ 4 ∷ 5 ∷ []) ≡ 2
unfolding sink_of_two
takes_two = refl

-- the second count rises
second_rises : raised_at (5 ∷ 6 ∷ []) 1 ≡ 5 ∷ 7 ∷ []
second_rises = refl
