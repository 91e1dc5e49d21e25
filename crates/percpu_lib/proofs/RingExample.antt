-- Worked logs, by computation. A thread registers its area and puts the words 7 and 9 into the ring of its
-- processor by a ring put block, where head and tail are 2^64 - 1. It is preempted inside, once the first
-- word is in its slot, begins anew at the abort handler, and puts both in once. Then it gets them by a ring
-- get block, and finds the ring empty by another sequence of that. The value of both blocks is in a0. In
-- the other log a thread is to put a word into a ring that is full.
use Rattle.std.proofs.Common.{◌≡◌, ℕ, ◌+◌, ◌-◌, ◌^◌, ◌≤◌, List, [], ◌∷◌, ◌++◌, replicate, take, drop}
use Rattle.std.proofs.Common.{length, refl, Bool, true, ◌&&◌, Some, eqb}
use Rattle.std.proofs.lemmas.Bool.{leb-true}
use Rattle.mach_types.specs.Kernel.Areas.{is_inside}
use Rattle.mach_types.specs.declared.events.Choice.TheVariants as asked
use Rattle.mach_types.specs.declared.events.Entry.{Entry}
use Rattle.mach_types.specs.declared.events.Kind.TheVariants as kind
use Rattle.block_model.specs.Acts.{Sequence}
use Rattle.block_model.specs.Deciding.{history}
use Rattle.block_model.specs.History.{file, running, stores}
use Rattle.block_model.specs.Replay.{Ask, played}
use Rattle.block_model.specs.Run.{IsBlockRun}
use Rattle.block_model.specs.Setting.{Setting}
use Rattle.block_model.proofs.Laws.{played_is_run}
use Rattle.alone_laws.specs.Spans.{code_of}
use Rattle.alone_laws.specs.Undisturbed.{IsUndisturbed, executed_on}
use Rattle.percpu_lib.specs.Frees.{value_of}
use Rattle.percpu_lib.specs.Pushes.{word_seen}
use Rattle.percpu_lib.specs.RingForms.{ring_at, ring_get_form, ring_put_form, slot_of}
use Rattle.percpu_lib.specs.Uses.{cells_of}
use Rattle.percpu_lib.specs.declared.slots.Slots.{Slots}
use Rattle.percpu_lib.proofs.Computing.{by_rules, by_table}
use Rattle.percpu_lib.proofs.ExampleParts.{AreThere, IsFound, IsGood, IsUsedAgain, Use, cut_after, cut_log}
use Rattle.percpu_lib.proofs.ExampleParts.{data_at, entry, execs, found_good, is_found, is_good, line, place_of}
use Rattle.percpu_lib.proofs.ExampleParts.{sequence_found, setting_of, slots_with, straight_lines, straight_log}
use Rattle.percpu_lib.proofs.ExampleParts.{use_of, used_again_so, walk}
pub use Rattle.percpu_lib.proofs.ExampleParts.{own_area as area}
use Rattle.percpu_lib.proofs.ExamplePrograms.{full_ring_code, ring_code}
use Rattle.percpu_lib.proofs.FormTests.{ring_get_tested, ring_put_tested}
use Rattle.percpu_lib.proofs.RetryParts.{Again, again_of, calm_so}
use Rattle.percpu_lib.proofs.UseTests.{is_just}

-- the ring of the thread of a sequence
abbrev pub ring_of : Setting → Slots → Sequence → ℕ
ring_of s p q = ring_at (cells_of s p q.thread q.begun) 0

-- a sequence executed no store
abbrev pub stores_none : Sequence → Bool
stores_none q = eqb (length (stores 0 q.reached)) (length (stores 0 q.begun))

-- a program with these bytes of code, from 0x100B0 on, and of a ring at 0x20040; the words 7 and 9 stand at
-- 0x21100
abbrev setting_over : List ℕ → List ℕ → Setting
setting_over code ring =
    setting_of 0xB0 code
    (data_at 0x20 (replicate 0x40 0 ++ ring) ∷ data_at 0x21 (replicate 0x100 0 ++ 7
    ∷ (replicate 7 0 ++ 9 ∷ [])) ∷ [])
    0x22000

-- TWO WORDS

abbrev pub setting : Setting
setting = setting_over ring_code (replicate 16 0xFF)

abbrev pub put_slots : Slots
put_slots = slots_with 10 0x10200

abbrev pub get_slots : Slots
get_slots = slots_with 10 0x10220

abbrev pub put : Use
put = use_of (ring_put_form 2) (ring_put_tested 2) put_slots 0x100D8

abbrev pub get : Use
get = use_of (ring_get_form 2) (ring_get_tested 2) get_slots 0x10164

-- the thread runs, and executes the first 10 instructions and 22 words of the put, whose two stores then
-- enter memory. It is preempted and runs again; it executes the two words of the abort handler and 30 words
-- of the block. Their stores enter memory, and it executes the jump behind it, the instruction between the
-- blocks, and 30 words of the get, whose stores enter memory; and again the jump, the one back, and 16
-- words
abbrev lines : List Ask
lines =
    cut_after 32 2 32 ++ (replicate 4 (line asked.Drain) ++ (execs 32 ++ (replicate 4 (line asked.Drain)
    ++ execs 18)))

abbrev pub log : List Entry
log =
    cut_log 0x100B0 32 2 ++ walk 0x10158 2 ++ walk 0x100D8 30
    ++ entry kind.Drain 1 0x10150 ∷ entry kind.Drain 1 0x10150 ∷ entry kind.Drain 1 0x10150
    ∷ entry kind.Drain 1 0x10150 ∷ entry kind.Exec 1 0x10150 ∷ walk 0x10160 31
    ++ entry kind.Drain 1 0x101DC ∷ entry kind.Drain 1 0x101DC ∷ entry kind.Drain 1 0x101DC
    ∷ entry kind.Drain 1 0x101DC ∷ entry kind.Exec 1 0x101DC ∷ entry kind.Exec 1 0x101EC ∷ walk 0x10164 16

is_run : IsBlockRun setting log
unfolding played by_rules
is_run = (played_is_run setting lines log refl).0

put_there : AreThere (code_of setting.program.pages) put.at put.form.words
unfolding by_table
put_there = (refl, (refl, (refl, (refl, (refl, (refl, (refl, (refl, (refl, (refl, (refl, (refl, (refl, (refl, (refl, (refl, (refl, (refl, (refl, (refl, (refl, (refl, (refl, (refl, (refl, (refl, (refl, (refl, (refl, (refl, (refl, (refl, (refl, (refl, tt))))))))))))))))))))))))))))))))))

get_there : AreThere (code_of setting.program.pages) get.at get.form.words
unfolding by_table
get_there = (refl, (refl, (refl, (refl, (refl, (refl, (refl, (refl, (refl, (refl, (refl, (refl, (refl, (refl, (refl, (refl, (refl, (refl, (refl, (refl, (refl, (refl, (refl, (refl, (refl, (refl, (refl, (refl, (refl, (refl, (refl, (refl, (refl, (refl, tt))))))))))))))))))))))))))))))))))

-- the put: slots 511 and 0 are 7 and 9, and the tail is 1
abbrev pub is_put : Sequence → Bool
is_put q =
    eqb q.thread 1
    && (is_just (word_seen setting 0 (slot_of (ring_of setting put_slots q) 511) q.reached) 7
    && (is_just (word_seen setting 0 (slot_of (ring_of setting put_slots q) 0) q.reached) 9
    && is_just (word_seen setting 0 (ring_of setting put_slots q + 8) q.reached) 1))

put_good : is_good setting put (place_of get ∷ []) is_put (history setting (take 69 log)) ≡ true
unfolding by_rules
put_good = refl

pub put_used : IsGood setting log 69 put (place_of get ∷ []) is_put
put_used = found_good setting log is_run 69 put (place_of get ∷ []) is_put put_good refl put_there refl

-- its first sequence, which was cut: slot 511 is 7, and the tail is as it was
abbrev pub cut : List Entry
cut = take 35 log

abbrev pub cut_rest : List Entry
cut_rest = take 34 (drop 35 log)

abbrev pub cut_fits : Sequence → Bool
cut_fits q =
    eqb q.thread 1
    && (is_inside (place_of put).range (file setting q.thread q.begun).pc
    && (eqb (file setting q.thread q.reached).pc (put.at + 88)
    && (is_just (word_seen setting 0 (slot_of (ring_of setting put_slots q) 511) q.reached) 7
    && is_just (word_seen setting 0 (ring_of setting put_slots q + 8) q.reached) (2 ^ 64 - 1))))

cut_found : is_found setting cut cut_fits ≡ true
unfolding by_rules
cut_found = refl

pub was_cut : IsFound setting cut cut_fits
was_cut = sequence_found setting cut cut_fits cut_found

-- the get: the words at 0x21120 are 7 and 9, and the head is 1
abbrev pub is_got : Sequence → Bool
is_got q =
    is_just (word_seen setting 0 (value_of setting get_slots q.thread q.begun) q.reached) 7
    && (is_just (word_seen setting 0 (value_of setting get_slots q.thread q.begun + 8) q.reached) 9
    && is_just (word_seen setting 0 (ring_of setting get_slots q) q.reached) 1)

pub get_used : IsGood setting log 105 get (place_of put ∷ []) is_got
unfolding by_rules
get_used = found_good setting log is_run 105 get (place_of put ∷ []) is_got refl refl get_there refl

-- the get from an empty ring: the value is 0, and no store was executed
abbrev pub finds_none : Sequence → Bool
finds_none q = eqb (value_of setting get_slots q.thread q.reached) 0 && stores_none q

pub none_used : IsGood setting log 127 get (place_of put ∷ []) finds_none
unfolding by_rules
none_used = found_good setting log is_run 127 get (place_of put ∷ []) finds_none refl refl get_there refl

-- A RETRY

-- the thread was at the retry label of the put a first time. From there it walked to the word behind the
-- store to slot 511; it was preempted there, and began to run again at the abort handler; and from there it
-- walked back, and is undisturbed then
abbrev pub again : Again
again = again_of log 11 24 2 30

pub used_again : IsUsedAgain setting (take 69 log) put (place_of get ∷ []) again
unfolding by_rules
used_again =
    used_again_so setting log is_run 69 put (place_of get ∷ []) is_put put_good refl put_there refl again refl refl

pub runs_anew : running setting 0 (history setting again.anew) ≡ Some 1
unfolding by_rules
runs_anew = refl

pub at_label : (file setting 1 (history setting again.anew)).pc ≡ put.at
unfolding by_rules
at_label = refl

pub undisturbed : IsUndisturbed 0 again.rest
undisturbed = calm_so again.rest refl

pub enough : 30 ≤ executed_on 0 again.rest
enough = leb-true 30 (executed_on 0 again.rest) refl

-- ONE WORD AND A FULL RING

-- the head is 2^64 - 1, and the tail 511
abbrev pub full_setting : Setting
full_setting = setting_over full_ring_code (replicate 8 0xFF ++ 0xFF ∷ 0x01 ∷ [])

abbrev pub full_slots : Slots
full_slots = slots_with 18 0x10160

abbrev pub full : Use
full = use_of (ring_put_form 1) (ring_put_tested 1) full_slots 0x100D8

abbrev pub full_log : List Entry
full_log = straight_log 0x100B0 26

full_run : IsBlockRun full_setting full_log
unfolding played by_rules
full_run = (played_is_run full_setting (straight_lines 26) full_log refl).0

-- the value is 0, head and tail are as they were, and no store was executed
abbrev pub finds_no_room : Sequence → Bool
finds_no_room q =
    eqb (value_of full_setting full_slots q.thread q.reached) 0
    && (is_just (word_seen full_setting 0 (ring_of full_setting full_slots q) q.reached) (2 ^ 64 - 1)
    && (is_just (word_seen full_setting 0 (ring_of full_setting full_slots q + 8) q.reached) 511
    && stores_none q))

full_there : AreThere (code_of full_setting.program.pages) full.at full.form.words
unfolding by_table
full_there = (refl, (refl, (refl, (refl, (refl, (refl, (refl, (refl, (refl, (refl, (refl, (refl, (refl, (refl, (refl, (refl, (refl, (refl, (refl, (refl, (refl, (refl, (refl, (refl, (refl, (refl, (refl, (refl, tt))))))))))))))))))))))))))))

pub full_used : IsGood full_setting full_log 27 full [] finds_no_room
unfolding by_rules
full_used = found_good full_setting full_log full_run 27 full [] finds_no_room refl refl full_there refl
