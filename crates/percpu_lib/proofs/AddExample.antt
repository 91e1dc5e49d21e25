-- A worked log, by computation: a thread registers its area and is to add 32 to the cell of its processor by
-- an add block. It is preempted inside, begins anew at the abort handler, and adds once. It uses the block as
-- HoldsAdd asks.
use Rattle.std.proofs.Common.{◌≡◌, ℕ, ◌+◌, List, [], ◌∷◌, ◌++◌, take, drop, refl}
use Rattle.std.proofs.Common.{true, Some}
use Rattle.mach_types.specs.Kernel.Areas.{is_inside}
use Rattle.mach_types.specs.declared.events.Choice.TheVariants as asked
use Rattle.mach_types.specs.declared.events.Entry.{Entry}
use Rattle.mach_types.specs.declared.events.Kind.TheVariants as kind
use Rattle.block_model.specs.Acts.{Sequence, sequence_on}
use Rattle.block_model.specs.Deciding.{history}
use Rattle.block_model.specs.History.{file, running}
use Rattle.block_model.specs.Replay.{Ask, played}
use Rattle.block_model.specs.Run.{IsBlockRun}
use Rattle.block_model.specs.Setting.{Setting}
use Rattle.block_model.proofs.Laws.{played_is_run}
use Rattle.alone_laws.specs.Retries.{Retries}
use Rattle.alone_laws.specs.Spans.{code_of}
use Rattle.alone_laws.specs.Undisturbed.{IsUndisturbed}
use Rattle.alone_laws.specs.Uses.{CanAlwaysBegin}
use Rattle.percpu_lib.specs.Adds.{add_block, add_range, cell_seen, placed_add}
use Rattle.percpu_lib.specs.Uses.{HoldsAdd, SharesArea, add_form, cells_of}
use Rattle.percpu_lib.specs.declared.slots.Slots.{Slots}
use Rattle.percpu_lib.proofs.Computing.{by_rules, by_table}
use Rattle.percpu_lib.proofs.ExampleParts.{AreThere, cut_after, data_at, entry, execs, holds_so, line}
use Rattle.percpu_lib.proofs.ExampleParts.{sequence_of, setting_of, slots_with, walk}
pub use Rattle.percpu_lib.proofs.ExampleParts.{own_area as area}
use Rattle.percpu_lib.proofs.ExamplePrograms.{add_code}
use Rattle.percpu_lib.proofs.FormTests.{add_tested}
use Rattle.percpu_lib.proofs.RetryParts.{calm_so, is_retried, retried_so}
use Rattle.percpu_lib.proofs.ShareTests.{all_shares, none_other, shares_so}
use Rattle.percpu_lib.proofs.UseTests.{all_can_begin, always_begins_freely, are_fine}

abbrev pub adding : Setting
adding = setting_of 0xB0 add_code (data_at 0x20 [] ∷ []) 0x21000

abbrev pub slots : Slots
slots = slots_with 11 0x10120

abbrev pub at : ℕ
at = 0x100D0

-- the words of the block stand there
there : AreThere (code_of adding.program.pages) at (add_block slots)
unfolding by_table
there =
    (refl, (refl, (refl, (refl, (refl, (refl, (refl, (refl, (refl, (refl, (refl, (refl, (refl, (refl, tt))))))))))))))

-- the thread runs, and executes the first eight instructions and the first six words of the block, whose
-- store then enters memory. It is preempted and runs again; it executes the jump at the abort handler, the
-- first six words once more, whose store enters memory, and five more words
abbrev lines : List Ask
lines = cut_after 14 1 7 ++ (line asked.Drain ∷ execs 5)

abbrev pub log : List Entry
log =
    entry kind.Run 1 0x100B0 ∷ walk 0x100B0 14 ++ entry kind.Drain 1 0x100E8
    ∷ entry kind.Preempt 1 0x100E8 ∷ entry kind.Run 1 0x100E8 ∷ entry kind.Exec 1 0x10104 ∷ walk 0x100D0 6
    ++ entry kind.Drain 1 0x100E8 ∷ walk 0x100E8 5

pub is_run : IsBlockRun adding log
unfolding played by_rules
is_run = (played_is_run adding lines log refl).0

-- its second sequence, from the place before its first instruction on
abbrev pub sequence : Sequence
sequence = sequence_of adding log 23 30

pub is_sequence : sequence_on adding 0 (history adding log) ≡ Some sequence
unfolding by_rules
is_sequence = refl

pub begins_inside : is_inside (add_range at) (file adding 1 sequence.begun).pc ≡ true
unfolding by_rules
begins_inside = refl

pub leaves : (file adding 1 sequence.reached).pc ≡ at + 44
unfolding by_rules
leaves = refl

-- the cell was 0 and is 32
pub adds : cell_seen adding 0 (cells_of adding slots 1 sequence.begun) sequence.reached ≡ Some 32
unfolding by_rules
adds = refl

fine : are_fine adding (add_form slots) (add_tested slots) at area 1 (history adding log) ≡ true
unfolding by_rules
fine = refl

pub holds : HoldsAdd adding (history adding log) slots at area 1
holds =
    holds_so adding (add_form slots) (add_tested slots) at area 1 (history adding log) is_run.allowed fine
    refl there

-- it can always begin, and from the retry label on, once it was aborted, its hart is left undisturbed
begins_fine : always_begins_freely adding (add_form slots) (add_tested slots) at area 1 (history adding log)
    ≡ true
unfolding by_rules
begins_fine = refl

pub can_begin : CanAlwaysBegin adding (placed_add slots at area) 1 (history adding log)
can_begin = all_can_begin adding (add_form slots) (add_tested slots) at area 1 (history adding log)
    is_run.allowed begins_fine

abbrev pub earlier : List Entry
earlier = take 19 log

abbrev pub rest : List Entry
rest = drop 19 log

pub runs_anew : running adding 0 (history adding earlier) ≡ Some 1
unfolding by_rules
runs_anew = refl

pub begins_anew : (file adding 1 (history adding earlier)).pc ≡ at
unfolding by_rules
begins_anew = refl

shares_fine : shares_so adding (add_form slots) (add_tested slots) at area 1 [] (history adding log) ≡ true
unfolding by_rules
shares_fine = refl

-- it uses its area for this block alone
pub shares : SharesArea adding (history adding log) slots at area 1 []
shares = all_shares adding (add_form slots) (add_tested slots) at area 1 [] (history adding log)
    is_run.allowed fine shares_fine (λ other has. absurd (none_other other has))

pub undisturbed : IsUndisturbed 0 rest
undisturbed = calm_so rest refl

-- before that it was at the retry label a first time. From there it walked to the seventh word of the block;
-- it was preempted there, and began to run again at the abort handler; and from there it walked back
abbrev pub first_time : List Entry
first_time = take 9 log

comes_back : is_retried adding (placed_add slots at area) 1 first_time (take 7 (drop 9 log))
    (take 2 (drop 16 log))
    (take 1 (drop 18 log)) ≡ true
unfolding by_rules
comes_back = refl

pub retried : Retries adding (placed_add slots at area) 1 first_time earlier
retried =
    retried_so adding (placed_add slots at area) 1 first_time (take 7 (drop 9 log)) (take 2 (drop 16 log))
    (take 1 (drop 18 log)) comes_back
