-- A worked log, by computation: a thread registers its area and pushes a node on the list of its processor by
-- a push block. It is preempted inside, once the node is linked, begins anew at the abort handler, and pushes
-- once. Then it pops the node off by a pop block, and finds the list empty by another sequence of that.
use Rattle.std.proofs.Common.{ℕ, List, [], ◌∷◌, ◌++◌, refl, Bool}
use Rattle.std.proofs.Common.{eqb}
use Rattle.mach_types.specs.Registers.{register}
use Rattle.mach_types.specs.declared.events.Choice.TheVariants as asked
use Rattle.mach_types.specs.declared.events.Entry.{Entry}
use Rattle.mach_types.specs.declared.events.Kind.TheVariants as kind
use Rattle.block_model.specs.Acts.{Sequence}
use Rattle.block_model.specs.History.{file}
use Rattle.block_model.specs.Replay.{played}
use Rattle.block_model.specs.Run.{IsBlockRun}
use Rattle.block_model.specs.Setting.{Setting}
use Rattle.block_model.proofs.Laws.{played_is_run}
use Rattle.alone_laws.specs.Spans.{code_of}
use Rattle.percpu_lib.specs.Adds.{cell_seen}
use Rattle.percpu_lib.specs.Pops.{pop_form}
use Rattle.percpu_lib.specs.Pushes.{push_form}
use Rattle.percpu_lib.specs.Uses.{cells_of}
use Rattle.percpu_lib.proofs.Computing.{by_rules, by_table}
use Rattle.percpu_lib.proofs.ExampleParts.{AreThere, IsGood, Use, entry, found_good, use_of}
use Rattle.percpu_lib.proofs.ExampleParts.{data_at, setting_of, walk}
use Rattle.percpu_lib.proofs.ExampleParts.{cut_after, cut_log, place_of, slots_with}
pub use Rattle.percpu_lib.proofs.ExampleParts.{own_area as area}
use Rattle.percpu_lib.proofs.ExamplePrograms.{list_code}
use Rattle.percpu_lib.proofs.FormTests.{pop_tested, push_tested}
use Rattle.percpu_lib.proofs.UseTests.{is_just}

abbrev pub setting : Setting
setting = setting_of 0xB0 list_code (data_at 0x20 [] ∷ []) 0x21000

abbrev pub push : Use
push = use_of push_form push_tested (slots_with 18 0x10160) 0x100D4

push_there : AreThere (code_of setting.program.pages) push.at push.form.words
unfolding by_table
push_there = (refl, (refl, (refl, (refl, (refl, (refl, (refl, (refl, (refl, (refl, (refl, (refl, (refl, (refl, tt))))))))))))))

abbrev pub pop : Use
pop = use_of pop_form pop_tested (slots_with 19 0x10180) 0x1010C

pop_there : AreThere (code_of setting.program.pages) pop.at pop.form.words
unfolding by_table
pop_there = (refl, (refl, (refl, (refl, (refl, (refl, (refl, (refl, (refl, (refl, (refl, (refl, (refl, (refl, (refl, tt)))))))))))))))

-- the thread runs, and executes the first nine instructions and ten words of the push block, whose two stores
-- then enter memory. It is preempted and runs again; it executes the jump at the abort handler, eleven words
-- of the block, and the jump behind it; twelve words of the pop block and the jump behind it; and the jump
-- back, and ten of its words
abbrev pub log : List Entry
log =
    cut_log 0x100B0 19 2 ++ entry kind.Exec 1 0x10108 ∷ walk 0x100D4 12 ++ walk 0x1010C 13
    ++ entry kind.Exec 1 0x10148 ∷ walk 0x1010C 10

is_run : IsBlockRun setting log
unfolding played by_rules
is_run = (played_is_run setting (cut_after 19 2 37) log refl).0

-- the push: the node is the head
abbrev pub is_pushed : Sequence → Bool
is_pushed q = is_just (cell_seen setting 0 (cells_of setting push.form.slots q.thread q.begun) q.reached) 0x20100

pub push_used : IsGood setting log 36 push (place_of pop ∷ []) is_pushed
unfolding by_rules
push_used = found_good setting log is_run 36 push (place_of pop ∷ []) is_pushed refl refl push_there refl

-- the pop: the value is the node; and the pop of an empty list: it is 0
abbrev pub has_popped : ℕ → Sequence → Bool
has_popped value q = eqb (register (file setting q.thread q.reached).file 19) value

pub pop_used : IsGood setting log 49 pop (place_of push ∷ []) (has_popped 0x20100)
unfolding by_rules
pop_used =
    found_good setting log is_run 49 pop (place_of push ∷ []) (has_popped 0x20100) refl refl pop_there refl

pub empty_used : IsGood setting log 61 pop (place_of push ∷ []) (has_popped 0)
unfolding by_rules
empty_used = found_good setting log is_run 61 pop (place_of push ∷ []) (has_popped 0) refl refl pop_there refl
