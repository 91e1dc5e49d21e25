-- Worked examples of traces, by computation: of a whole log, of some of its lines, of sequences, and of a run that is stuck.
use Rattle.std.proofs.Common.{◌≡◌, ℕ, List, [], ◌∷◌, ◌++◌, Option, Some, None, refl, codes}
use Rattle.std.specs.Fmt.{digits}
use Rattle.mach_types.specs.Kernel.Areas.{are_readable, number_at}
use Rattle.mach_types.specs.Kernel.Threads.{Thread, Threads}
use Rattle.mach_types.specs.declared.events.Entry.{Entry}
use Rattle.mach_types.specs.declared.events.Kind.TheVariants as kind
use Rattle.mach_types.specs.declared.limits.End.TheVariants.{Limit, Stuck}
use Rattle.mach_types.specs.declared.threads.ThreadState.TheVariants.{Waiting}
use Rattle.rv_inst.specs.Meaning.{meaning}
use Rattle.rv_inst.specs.Table.{row_of, rows}
use Rattle.block_model.specs.Deciding.{done, end_of, history}
use Rattle.block_model.specs.Setting.{Setting}
use Rattle.block_model.specs.declared.acts.SeqEnd.{SeqEnd}
use Rattle.block_model.specs.declared.acts.SeqEnd.TheVariants as ends
use Rattle.block_model.proofs.ExamplePrograms.{code_and_data, entry as by, within_frames}
use Rattle.block_view.specs.declared.forms.Form.TheVariants.{Sequence}
use Rattle.block_view.specs.declared.turns.Turn.{Turn}
use Rattle.block_view.specs.declared.turns.Turn.TheVariants.{Begins, Ends}
use Rattle.command_words.specs.declared.commands.LineSpan.{LineSpan}
use Rattle.event_facts.specs.Facts.{facts_of, read_facts}
use Rattle.event_facts.specs.OtherRegisters.{other_registers}
use Rattle.event_facts.specs.Pending.{signal_facts}
use Rattle.event_facts.specs.Threads.{thread_facts}
use Rattle.event_facts.specs.Trace.{trace_of}
use Rattle.fact_text.specs.Lines.{facts_text}
use Rattle.trace_text.specs.Traces.{event_text, stuck_text, trace_text, turn_line, waiting_text}
use Rattle.place_text.specs.Registers.{register_names}
use Rattle.step_log.specs.Text.{hex_text}

-- `lui x8, 0x20`, `sd x8, 0(x8)` and `ld x5, 0(x8)`, which stand at 0x100B0, with a page of zeros at 0x20000
abbrev code : List ℕ
code = 0x37 ∷ 0x04 ∷ 0x02 ∷ 0x00 ∷ 0x23 ∷ 0x30 ∷ 0x84 ∷ 0x00 ∷ 0x83 ∷ 0x32 ∷ 0x04 ∷ 0x00 ∷ []

abbrev program : Setting
program = within_frames 128 (code_and_data code)

-- the store enters memory after it was loaded
abbrev log : List Entry
log =
    by kind.Run 0x100B0 ∷ by kind.Exec 0x100B0 ∷ by kind.Exec 0x100B4 ∷ by kind.Exec 0x100B8 ∷ by kind.Drain 0x100BC ∷ []

abbrev lines : ℕ → Option ℕ → LineSpan
lines from to = record { from = from; to = to }

abbrev load_told : List ℕ
load_told =
    codes "0 exec 1 00000000000100b8\n" ++ codes "  line 4\n"
    ++ codes "  read 0000000000020000 8 0000000000020000 store 3\n" ++ codes "  x5 t0 0000000000020000\n"

abbrev drain_told : List ℕ
drain_told =
    codes "0 drain 1 00000000000100bc\n" ++ codes "  line 5\n"
    ++ codes "  wrote 0000000000020000 8 0000000000020000 old 0000000000000000 line 3\n"

all_lines : trace_text (lines 1 None) program log ≡
    codes "0 run 1 00000000000100b0\n" ++ codes "  line 1\n" ++ codes "  interrupted nothing\n" ++ codes "  thread 1 runs\n"
    ++ codes "0 exec 1 00000000000100b0\n" ++ codes "  line 2\n" ++ codes "  x8 s0 0000000000020000\n"
    ++ codes "0 exec 1 00000000000100b4\n" ++ codes "  line 3\n"
    ++ codes "  waits 0000000000020000 8 0000000000020000\n"
    ++ load_told ++ drain_told ++ codes "end open\n"
unfolding trace_text event_text facts_text digits hex_text register_names history trace_of signal_facts thread_facts other_registers facts_of read_facts done end_of meaning row_of rows are_readable number_at
all_lines = refl

-- the fourth line alone
one_line : trace_text (lines 4 (Some 4)) program log ≡ load_told ++ codes "end open\n"
unfolding trace_text event_text facts_text digits hex_text register_names history trace_of signal_facts thread_facts other_registers facts_of read_facts done end_of meaning row_of rows are_readable number_at
one_line = refl

-- a sequence of 12 bytes begins; and one has ended, of lines 14 and 15: by its own last instruction, or cut
abbrev ends_so : SeqEnd → Turn
ends_so end = Ends (record { hart = record { 0 = 0 }; first = 14; last = 15; tid = record { 0 = 1 }; form = Sequence end })

begins : turn_line (Begins (record { start = 0x100DC; length = 12; abort = 0x100F8 }))
    ≡ codes "  sequence begins 00000000000100dc 12 00000000000100f8\n"
unfolding digits hex_text
begins = refl

is_left : turn_line (ends_so ends.Left) ≡ codes "  sequence ends left first 14 last 15\n"
unfolding digits
is_left = refl

is_cut : turn_line (ends_so (ends.Cut 0x100F8)) ≡ codes "  sequence ends cut 00000000000100f8 first 14 last 15\n"
unfolding digits hex_text
is_cut = refl

-- threads 1 and 3 wait; 2 has ended
abbrev thread_at : ℕ → ℕ → Thread
thread_at t at = record { tid = t; state = Waiting at; clear_at = 0 }

abbrev threads : Threads
threads = record { live = thread_at 1 0x20000 ∷ thread_at 3 0x20008 ∷ []; given = 3; waiters = 3 ∷ 1 ∷ [] }

both_wait : stuck_text Stuck threads
    ≡ codes "thread 1 waiting 0000000000020000\n" ++ codes "thread 3 waiting 0000000000020008\n"
unfolding waiting_text digits hex_text
both_wait = refl

-- where the run isn't stuck, nothing stands before the end
none_told : stuck_text Limit threads ≡ []
none_told = refl
