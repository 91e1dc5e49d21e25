-- A worked log, by computation: a thread registers its area and puts 42 into the pool of its processor by a
-- free block. It is preempted inside, once its value is 0, begins anew at the abort handler, which brings the
-- value back, and puts it in once. Then it takes it out by an alloc block, and finds the pool empty by
-- another sequence of that. And a log of a pool that is full.
use Rattle.std.proofs.Common.{◌≡◌, ℕ, ◌<◌, ◌^◌, List, [], ◌∷◌, ◌++◌, replicate, take, refl, Bool, ltb}
use Rattle.std.proofs.lemmas.Bool.{ltb-true}
use Rattle.std.proofs.Common.{true, ◌&&◌, eqb}
use Rattle.mach_types.specs.Registers.{register}
use Rattle.mach_types.specs.declared.events.Entry.{Entry}
use Rattle.mach_types.specs.declared.events.Kind.TheVariants as kind
use Rattle.block_model.specs.Acts.{Sequence}
use Rattle.block_model.specs.Deciding.{history}
use Rattle.block_model.specs.History.{file}
use Rattle.block_model.specs.Replay.{played}
use Rattle.block_model.specs.Run.{IsBlockRun}
use Rattle.block_model.specs.Setting.{Setting}
use Rattle.block_model.proofs.Laws.{played_is_run}
use Rattle.alone_laws.specs.Spans.{code_of}
use Rattle.percpu_lib.specs.Allocs.{alloc_form}
use Rattle.percpu_lib.specs.Frees.{free_form}
use Rattle.percpu_lib.specs.Pools.{count_seen, pool_at, slot_at}
use Rattle.percpu_lib.specs.Pushes.{word_seen}
use Rattle.percpu_lib.specs.Uses.{cells_of}
use Rattle.percpu_lib.proofs.Computing.{by_rules, by_table}
use Rattle.percpu_lib.proofs.ExampleParts.{AreThere, IsGood, IsUsedAgain, Use, entry, found_good, is_good}
use Rattle.percpu_lib.proofs.ExampleParts.{data_at, setting_of, straight_lines, straight_log, use_of}
use Rattle.percpu_lib.proofs.ExampleParts.{cut_after, cut_log, place_of, slots_with, used_again_so, walk}
pub use Rattle.percpu_lib.proofs.ExampleParts.{own_area as area}
use Rattle.percpu_lib.proofs.ExamplePrograms.{pool_code}
use Rattle.percpu_lib.proofs.FormTests.{alloc_tested, free_tested}
use Rattle.percpu_lib.proofs.RetryParts.{Again, again_of}
use Rattle.percpu_lib.proofs.UseTests.{is_just}

-- such a program, with these bytes of data
abbrev pub setting_with : List ℕ → Setting
setting_with bytes = setting_of 0xB0 pool_code (data_at 0x20 bytes ∷ []) 0x21000

abbrev pub setting : Setting
setting = setting_with []

abbrev pub free : Use
free = use_of free_form free_tested (slots_with 18 0x10180) 0x100D4

abbrev pub alloc : Use
alloc = use_of alloc_form alloc_tested (slots_with 19 0x101A0) 0x1012C

-- the thread runs, and executes the first nine instructions and 17 words of the free block, whose two stores
-- then enter memory. It is preempted and runs again; it executes the two words of the abort handler, 18 words
-- of the block, and the jump behind it; 16 words of the alloc block and the jump behind it; and the jump
-- back, and eleven of its words
abbrev pub log : List Entry
log =
    cut_log 0x100B0 26 2 ++ walk 0x10124 2 ++ walk 0x100D4 19 ++ walk 0x1012C 17 ++ entry kind.Exec 1 0x10178
    ∷ walk 0x1012C 11

is_run : IsBlockRun setting log
unfolding played by_rules
is_run = (played_is_run setting (cut_after 26 2 50) log refl).0

free_there : AreThere (code_of setting.program.pages) free.at free.form.words
unfolding by_table
free_there = (refl, (refl, (refl, (refl, (refl, (refl, (refl, (refl, (refl, (refl, (refl, (refl, (refl, (refl, (refl, (refl, (refl, (refl, (refl, (refl, (refl, (refl, tt))))))))))))))))))))))

alloc_there : AreThere (code_of setting.program.pages) alloc.at alloc.form.words
unfolding by_table
alloc_there = (refl, (refl, (refl, (refl, (refl, (refl, (refl, (refl, (refl, (refl, (refl, (refl, (refl, (refl, (refl, (refl, (refl, (refl, (refl, tt)))))))))))))))))))

-- the free: the first slot is 42
abbrev pub is_freed : Sequence → Bool
is_freed q =
    is_just (word_seen setting 0 (slot_at (pool_at (cells_of setting free.form.slots q.thread q.begun) 0) 0)
    q.reached) 42

free_good : is_good setting free (place_of alloc ∷ []) is_freed (history setting (take 51 log)) ≡ true
unfolding by_rules
free_good = refl

pub free_used : IsGood setting log 51 free (place_of alloc ∷ []) is_freed
free_used = found_good setting log is_run 51 free (place_of alloc ∷ []) is_freed free_good refl free_there refl

-- the alloc: the value is 42; and the alloc of an empty pool: it is 0
abbrev pub has_taken : ℕ → Sequence → Bool
has_taken value q = eqb (register (file setting q.thread q.reached).file 19) value

pub alloc_used : IsGood setting log 68 alloc (place_of free ∷ []) (has_taken 42)
unfolding by_rules
alloc_used = found_good setting log is_run 68 alloc (place_of free ∷ []) (has_taken 42) refl refl alloc_there refl

pub none_used : IsGood setting log 81 alloc (place_of free ∷ []) (has_taken 0)
unfolding by_rules
none_used = found_good setting log is_run 81 alloc (place_of free ∷ []) (has_taken 0) refl refl alloc_there refl

-- A RETRY

-- the thread was at the retry label of the free block a first time. From there it walked to the last word of
-- the sequence, and its value was 0; it was preempted there, and began to run again at the abort handler; and
-- from there it walked back
abbrev pub again : Again
again = again_of log 10 19 2 18

small_there : ltb (register (file setting 1 (history setting again.first_time)).file 18) (2 ^ 64) ≡ true
unfolding by_rules
small_there = refl

pub small_value : register (file setting 1 (history setting again.first_time)).file 18 < 2 ^ 64
small_value = ltb-true (register (file setting 1 (history setting again.first_time)).file 18) (2 ^ 64) small_there

pub at_label : (file setting 1 (history setting again.anew)).pc ≡ free.at
unfolding by_rules
at_label = refl

pub used_again : IsUsedAgain setting (take 51 log) free (place_of alloc ∷ []) again
unfolding by_rules
used_again =
    used_again_so setting log is_run 51 free (place_of alloc ∷ []) is_freed free_good refl free_there refl again refl refl

-- A FULL POOL

-- the same program over a pool whose count is 512: the free finds it full, and the value stays 42
abbrev pub full_setting : Setting
full_setting = setting_with (replicate 0x40 0 ++ 0x00 ∷ 0x02 ∷ [])

abbrev pub stays_full : Sequence → Bool
stays_full q =
    eqb (register (file full_setting q.thread q.reached).file 18) 42
    && is_just (count_seen full_setting 0 (cells_of full_setting free.form.slots q.thread q.begun) q.reached) 512

abbrev pub full_log : List Entry
full_log = straight_log 0x100B0 21

full_run : IsBlockRun full_setting full_log
unfolding played by_rules
full_run = (played_is_run full_setting (straight_lines 21) full_log refl).0

full_there : AreThere (code_of full_setting.program.pages) free.at free.form.words
unfolding by_table
full_there = (refl, (refl, (refl, (refl, (refl, (refl, (refl, (refl, (refl, (refl, (refl, (refl, (refl, (refl, (refl, (refl, (refl, (refl, (refl, (refl, (refl, (refl, tt))))))))))))))))))))))

pub full_used : IsGood full_setting full_log 22 free (place_of alloc ∷ []) stays_full
unfolding by_rules
full_used =
    found_good full_setting full_log full_run 22 free (place_of alloc ∷ []) stays_full refl refl full_there refl
