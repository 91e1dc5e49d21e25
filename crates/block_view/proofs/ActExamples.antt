-- Worked examples, proved by computation: the acts of a log in which a sequence is left, and of one in which it hangs and then is cut; what
-- the events of these make of the sequence; and their counts.
use Rattle.std.proofs.Common.{◌≡◌, ℕ, List, [], ◌∷◌, ◌++◌, map, replicate, refl, Result, Ok, Err}
use Rattle.mach_types.specs.declared.events.Choice.TheVariants as asked
use Rattle.mach_types.specs.declared.events.Entry.{Entry}
use Rattle.mach_types.specs.Kernel.Areas.{are_readable, number_at}
use Rattle.rv_inst.specs.Meaning.{meaning}
use Rattle.rv_inst.specs.Table.{row_of, rows}
use Rattle.block_model.specs.declared.acts.SeqEnd.TheVariants as ends
use Rattle.block_model.specs.Deciding.{decide, done, history}
use Rattle.block_model.specs.Replay.{Ask, played, script_of}
use Rattle.block_model.specs.History.{History}
use Rattle.block_model.specs.Setting.{Setting}
use Rattle.block_view.specs.Acts.{acts_of}
use Rattle.block_view.specs.Counting.{counts_of}
use Rattle.block_view.specs.declared.forms.Act.{Act}
use Rattle.block_view.specs.declared.forms.Form.{Form}
use Rattle.block_view.specs.declared.forms.Form.TheVariants.{Step, Kernel, Sequence}
use Rattle.block_view.specs.declared.tally.Counts.{Counts}
use Rattle.block_view.specs.Turns.{acts_left_open, turns}
use Rattle.block_view.specs.declared.turns.Turn.{Turn}
use Rattle.block_view.specs.declared.turns.Turn.TheVariants.{Begins, Ends}
use Rattle.block_model.specs.Run.{IsBlockRun}
use Rattle.block_model.proofs.ExamplePrograms.{code_and_page, line_of as line, within_frames}
use Rattle.block_model.proofs.Laws.{block_run}
use Rattle.mach_types.specs.declared.events.Kind.{Kind}
use Rattle.mach_types.specs.declared.events.Kind.TheVariants as kind

-- A PROGRAM

-- it registers its area at 0x20000 with the signature 0xF1401073; behind that comes its sequence of two instructions, which put 1 and
-- then 2 into t0; one that puts 3 there; and behind the signature the abort handler, which puts 7 there
abbrev code : List ℕ
code =
    0x37 ∷ 0x05 ∷ 0x02 ∷ 0x00 ∷ 0x93 ∷ 0x05 ∷ 0x00 ∷ 0x02 ∷ 0x13 ∷ 0x06 ∷ 0x00 ∷ 0x00 ∷ 0xB7 ∷ 0x16 ∷ 0x40 ∷ 0xF1 ∷
    0x93 ∷ 0x86 ∷ 0x36 ∷ 0x07 ∷ 0x93 ∷ 0x08 ∷ 0x50 ∷ 0x12 ∷ 0x73 ∷ 0x00 ∷ 0x00 ∷ 0x00 ∷
    0x93 ∷ 0x02 ∷ 0x10 ∷ 0x00 ∷ 0x93 ∷ 0x02 ∷ 0x20 ∷ 0x00 ∷ 0x93 ∷ 0x02 ∷ 0x30 ∷ 0x00 ∷
    0x73 ∷ 0x10 ∷ 0x40 ∷ 0xF1 ∷ 0x93 ∷ 0x02 ∷ 0x70 ∷ 0x00 ∷ []

-- the area names the descriptor behind it, of the sequence at 0x100CC with its abort handler at 0x100DC
abbrev data_bytes : List ℕ
data_bytes =
    replicate 8 0 ++ 0x20 ∷ 0 ∷ 2 ∷ replicate 21 0
    ++ replicate 8 0 ++ 0xCC ∷ 0 ∷ 1 ∷ 0 ∷ 0 ∷ 0 ∷ 0 ∷ 0 ∷ 8 ∷ 0 ∷ 0 ∷ 0 ∷ 0 ∷ 0 ∷ 0 ∷ 0 ∷ 0xDC ∷ 0 ∷ 1 ∷ 0 ∷ 0 ∷ 0 ∷ 0 ∷ 0 ∷ []

abbrev program : Setting
program = within_frames 128 (code_and_page code data_bytes)

-- SCRIPTS AND ACTS

abbrev runs : ℕ → ℕ → Ask
runs h t = line h (asked.Run (record { 0 = t }))

-- thread 1 begins to run on hart 0, and registers its area: it is then at the start of its sequence
abbrev registered : List Ask
registered = runs 0 1 ∷ replicate 7 (line 0 asked.Exec)

-- the acts of the log that a script makes
abbrev acts_made : Result (List Entry) ℕ → Result (List Act) ℕ
acts_made (Ok log) = Ok (acts_of program log)
acts_made (Err n) = Err n

-- an act of thread 1 on a hart, from an entry to an entry
abbrev act : ℕ → ℕ → ℕ → Form → Act
act h first last form = record { hart = record { 0 = h }; first = first; last = last; tid = record { 0 = 1 }; form = form }

-- the acts of those lines: an event of the kernel, and a step for each instruction
abbrev beginning : List Act
beginning = act 0 1 1 Kernel ∷ map (λ n. act 0 n n Step) (2 ∷ 3 ∷ 4 ∷ 5 ∷ 6 ∷ 7 ∷ 8 ∷ [])

-- LEFT

-- both instructions are executed, and another one behind them: the sequence has the entries 9 and 10
left : acts_made (played program (registered ++ replicate 3 (line 0 asked.Exec)))
    ≡ Ok (beginning ++ act 0 9 10 (Sequence ends.Left) ∷ act 0 11 11 Step ∷ [])
unfolding acts_of played decide history done meaning row_of rows are_readable number_at
left = refl

-- UNENDED, AND CUT

-- one instruction is executed inside, and then the thread is preempted: the sequence has the entry 9, and no end yet
abbrev preempted : List Ask
preempted = registered ++ line 0 asked.Exec ∷ line 0 asked.Preempt ∷ []

unended : acts_made (played program preempted) ≡ Ok (beginning ++ act 0 9 9 (Sequence ends.Unended) ∷ act 0 10 10 Kernel ∷ [])
unfolding acts_of played decide history done meaning row_of rows are_readable number_at
unended = refl

-- its thread begins to run on the other hart: it is sent to the abort handler, whose instruction is a step
cut : acts_made (played program (preempted ++ runs 1 1 ∷ line 1 asked.Exec ∷ []))
    ≡ Ok (beginning ++ act 0 9 9 (Sequence (ends.Cut 0x100DC)) ∷ act 0 10 10 Kernel ∷ act 1 11 11 Kernel ∷ act 1 12 12 Step ∷ [])
unfolding acts_of played decide history done meaning row_of rows are_readable number_at
cut = refl

-- WHAT AN EVENT MAKES OF THE SEQUENCES

-- what the last event of the log that a script makes does, and which sequences no event of it has ended
abbrev last_turns : History → List Turn
last_turns [] = []
last_turns (e ∷ before) = turns program e before

abbrev turns_made : Result (List Entry) ℕ → Result (List Turn) ℕ
turns_made (Ok log) = Ok (last_turns (history program log))
turns_made (Err n) = Err n

abbrev left_made : Result (List Entry) ℕ → Result (List Act) ℕ
left_made (Ok log) = Ok (acts_left_open program (history program log))
left_made (Err n) = Err n

-- the sequence begins with entry 9, goes on with entry 10, and has ended with entry 11, which isn't of it
begins_at_nine : turns_made (played program (registered ++ replicate 1 (line 0 asked.Exec))) ≡ Ok (Begins (record { start = 0x100CC; length = 8; abort = 0x100DC }) ∷ [])
unfolding played decide history done meaning row_of rows are_readable number_at
begins_at_nine = refl

goes_on_at_ten : turns_made (played program (registered ++ replicate 2 (line 0 asked.Exec))) ≡ Ok []
unfolding played decide history done meaning row_of rows are_readable number_at
goes_on_at_ten = refl

left_at_eleven : turns_made (played program (registered ++ replicate 3 (line 0 asked.Exec))) ≡ Ok (Ends (act 0 9 10 (Sequence ends.Left)) ∷ [])
unfolding played decide history done meaning row_of rows are_readable number_at
left_at_eleven = refl

-- it hangs with entry 10, and no event has ended it; then entry 11, by which its thread begins to run on the other hart, has
hangs_at_ten : turns_made (played program preempted) ≡ Ok []
unfolding played decide history done meaning row_of rows are_readable number_at
hangs_at_ten = refl

left_open : left_made (played program preempted) ≡ Ok (act 0 9 9 (Sequence ends.Unended) ∷ [])
unfolding played decide history done meaning row_of rows are_readable number_at
left_open = refl

cut_at_eleven : turns_made (played program (preempted ++ runs 1 1 ∷ [])) ≡ Ok (Ends (act 0 9 9 (Sequence (ends.Cut 0x100DC))) ∷ [])
unfolding played decide history done meaning row_of rows are_readable number_at
cut_at_eleven = refl

-- COUNTS

-- hart 0 has seven steps, a sequence that was cut, and two events of the kernel; hart 1 has one step and one event
abbrev counts_made : ℕ → Result (List Act) ℕ → Result Counts ℕ
counts_made h (Ok acts) = Ok (counts_of acts h)
counts_made h (Err n) = Err n

counted : map (λ h. counts_made h (acts_made (played program (preempted ++ runs 1 1 ∷ line 1 asked.Exec ∷ [])))) (0 ∷ 1 ∷ [])
    ≡ Ok (record { step = 7; left = 0; cut = 1; dropped = 0; dead = 0; unended = 0; kernel = 2 })
    ∷ Ok (record { step = 1; left = 0; cut = 0; dropped = 0; dead = 0; unended = 0; kernel = 1 }) ∷ []
unfolding acts_of played decide history done meaning row_of rows are_readable number_at
counted = refl

-- THE LAW THAT BLOCK RUNS ARE VIEWED

-- a log of two entries is a block run; none of its entries is refused, so it is viewed
abbrev entry : Kind → ℕ → Entry
entry k pc = record { hart = record { 0 = 0 }; kind = k; tid = record { 0 = 1 }; pc = pc }

abbrev short_log : List Entry
short_log = entry kind.Run 0x100B0 ∷ entry kind.Exec 0x100B0 ∷ []

short_run : IsBlockRun program short_log
unfolding decide history done meaning row_of rows are_readable number_at
short_run = block_run program short_log ((tt, refl, refl), refl, refl)

none_refused : played program (script_of short_log) ≡ Ok short_log
unfolding played decide history done meaning row_of rows are_readable number_at
none_refused = refl

acts_of_short : acts_of program short_log ≡ act 0 1 1 Kernel ∷ act 0 2 2 Step ∷ []
unfolding acts_of decide history done meaning row_of rows are_readable number_at
acts_of_short = refl
