-- The line of a fact (own): fields, one space apart, behind two spaces. The numbers of lines, harts, threads, sizes, lengths, registers and
-- signals are decimal; addresses, values and arguments are 16 lower-case hexadecimal digits.
use Rattle.std.specs.Prelude.{ℕ, ◌==◌, List, [], ◌∷◌, ◌++◌, length, slice_index, take, Bool, if◌then◌else◌, codes}
use Rattle.std.specs.Fmt.{decimal}
use Rattle.std.specs.List.{flat_map}
use Rattle.mach_types.specs.declared.user_memory.Store.{Store}
use Rattle.fact_types.specs.declared.areas.AreaField.{AreaField}
use Rattle.fact_types.specs.declared.areas.AreaField.TheVariants as field
use Rattle.fact_types.specs.declared.calls.SystemCall.{SystemCall}
use Rattle.fact_types.specs.declared.facts.Fact.{Fact}
use Rattle.fact_types.specs.declared.facts.Fact.TheVariants.{Read, Waits, Entered, KernelWrote, Zeroed, Reserved, Used, Failed, Ended, Lost, Register, Faulted, RequestsTaken, BarrierReturns, Called, Answered, Refused, AnsweredLater, BarrierBegins, Interrupted, HandlerEntered, DeliveryKills, SignalPosted, SignalDropped, ThreadChanged, ThreadRegister, AreaWord, NoAnswer, Killed}
use Rattle.fact_types.specs.declared.faults.FaultWhy.{FaultWhy}
use Rattle.fact_types.specs.declared.faults.FaultWhy.TheVariants.{NotAligned, NotExecutable, NoInstruction, Breakpoint, MisalignedJump, MisalignedAccess, NotReadable, NotWritable}
use Rattle.fact_types.specs.declared.facts.Source.{Source}
use Rattle.fact_types.specs.declared.facts.Source.TheVariants.{Start, Memory, Waiting}
use Rattle.fact_types.specs.declared.interruptions.Interruption.{Interruption}
use Rattle.fact_types.specs.declared.interruptions.Interruption.TheVariants as came
use Rattle.fact_types.specs.declared.killing.KillWhy.{KillWhy}
use Rattle.fact_types.specs.declared.killing.KillWhy.TheVariants.{Bad, AreaWords, NoHandler, Masked, FrameNotWritable, FrameNotReadable, CallInside}
use Rattle.fact_types.specs.declared.threads.ThreadChange.{ThreadChange}
use Rattle.fact_types.specs.declared.threads.ThreadChange.TheVariants as becomes
use Rattle.fact_text.specs.CallNames.{call_name, errno_name, told_count}
use Rattle.place_text.specs.Fields.{behind, harts_fields, line, value_or_none, value_text, yes_or_no}
use Rattle.place_text.specs.Registers.{register_name}
use Rattle.place_text.specs.Sequences.{bad_word}
use Rattle.step_log.specs.Text.{newline, space}

-- where bytes come from: `start`, `memory N` or `store N`, with the number of a line
abbrev pub source_fields : Source → List (List ℕ)
source_fields Start = codes "start" ∷ []
source_fields (Memory n) = codes "memory" ∷ decimal n ∷ []
source_fields (Waiting n) = codes "store" ∷ decimal n ∷ []

-- `AT SIZE VALUE`: the fields of a store
abbrev pub store_fields : Store → List (List ℕ)
store_fields w = value_text w.at ∷ decimal w.size ∷ value_text w.value ∷ []

-- `read AT SIZE VALUE ..`, behind it where the bytes come from
abbrev pub read_line : ℕ → ℕ → ℕ → Source → List ℕ
read_line at size value source =
    line (codes "  read") ((value_text at ∷ decimal size ∷ value_text value ∷ []) ++ source_fields source)

-- `waits AT SIZE VALUE`
abbrev pub waits_line : Store → List ℕ
waits_line w = line (codes "  waits") (store_fields w)

-- `wrote AT SIZE VALUE old OLD line N`
abbrev pub wrote_line : Store → ℕ → ℕ → List ℕ
wrote_line w old n =
    line (codes "  wrote") (store_fields w ++ codes "old" ∷ value_text old ∷ codes "line" ∷ decimal n ∷ [])

-- `wrote AT SIZE VALUE line N`, of the kernel
abbrev pub kernel_wrote_line : Store → ℕ → List ℕ
kernel_wrote_line w n = line (codes "  wrote") (store_fields w ++ codes "line" ∷ decimal n ∷ [])

-- `zeroed AT LENGTH`
abbrev pub zeroed_line : ℕ → ℕ → List ℕ
zeroed_line at n = line (codes "  zeroed") (value_text at ∷ decimal n ∷ [])

-- a word, and an address or a value
abbrev pub address_line : List ℕ → ℕ → List ℕ
address_line word at = line word (value_text at ∷ [])

-- `lost H AT by WAT`
abbrev pub lost_line : ℕ → ℕ → ℕ → List ℕ
lost_line h at by = line (codes "  lost") (decimal h ∷ value_text at ∷ codes "by" ∷ value_text by ∷ [])

-- `xN NAME VALUE`: but for its newline, and with it
abbrev pub changed_fields : ℕ → ℕ → List ℕ
changed_fields n value = codes "  x" ++ decimal n ++ behind (register_name n ∷ value_text value ∷ [])

abbrev pub changed_line : ℕ → ℕ → List ℕ
changed_line n value = line (codes "  x" ++ decimal n) (register_name n ∷ value_text value ∷ [])

-- why an instruction faults
abbrev pub why_word : FaultWhy → List ℕ
why_word NotAligned = codes "not-aligned"
why_word NotExecutable = codes "not-executable"
why_word NoInstruction = codes "no-instruction"
why_word Breakpoint = codes "breakpoint"
why_word MisalignedJump = codes "misaligned-jump"
why_word MisalignedAccess = codes "misaligned-access"
why_word NotReadable = codes "not-readable"
why_word NotWritable = codes "not-writable"

-- `fault SIGNAL WHY AT`
abbrev pub fault_line : ℕ → FaultWhy → ℕ → List ℕ
fault_line signal why at = line (codes "  fault") (decimal signal ∷ why_word why ∷ value_text at ∷ [])

-- `taken LIST restart yes`, or `no`: the numbers of harts
abbrev pub taken_line : ℕ → Bool → List ℕ
taken_line harts restart = line (codes "  taken") (harts_fields harts ++ codes "restart" ∷ yes_or_no restart ∷ [])

-- `barrier begins LIST`
abbrev pub begins_line : ℕ → List ℕ
begins_line harts = line (codes "  barrier begins") (harts_fields harts)

-- a name, or where there is none a number
abbrev pub name_or_number : List ℕ → ℕ → List ℕ
name_or_number name n = if length name == 0 then decimal n else name

-- arguments, each behind a space
abbrev pub argument_text : ℕ → List ℕ
argument_text a = space ∷ value_text a

abbrev pub arguments_text : List ℕ → List ℕ
arguments_text arguments = flat_map argument_text arguments

-- `call NAME A0 ..`, with as many arguments as the call has; or `call NUMBER` where there is none of this number
abbrev pub call_line : SystemCall → List ℕ
call_line c =
    codes "  call" ++ space ∷ name_or_number (call_name c.number) c.number
    ++ arguments_text (take (told_count c.number (slice_index c.arguments 1)) c.arguments) ++ newline ∷ []

-- `error NAME`, or `error NUMBER`
abbrev pub error_line : ℕ → List ℕ
error_line errno = line (codes "  error") (name_or_number (errno_name errno) errno ∷ [])

-- what an interruption came to: `nothing`, `cleared`, `aborted FROM TO`, or `killed WHY AT VALUE` with the word that was wrong
abbrev pub interruption_fields : Interruption → List (List ℕ)
interruption_fields came.Nothing = codes "nothing" ∷ []
interruption_fields came.Cleared = codes "cleared" ∷ []
interruption_fields (came.Aborted from to) = codes "aborted" ∷ value_text from ∷ value_text to ∷ []
interruption_fields (came.Killed why wrong) =
    codes "killed" ∷ bad_word why ∷ value_text wrong.at ∷ value_or_none wrong.value ∷ []

-- `interrupted ..`
abbrev pub interruption_line : Interruption → List ℕ
interruption_line interruption = line (codes "  interrupted") (interruption_fields interruption)

-- `signal S posted T`, or `dropped T`
abbrev pub signal_line : ℕ → List ℕ → ℕ → List ℕ
signal_line signal word t = line (codes "  signal") (decimal signal ∷ word ∷ decimal t ∷ [])

-- `signal S delivered handler AT frame SP`, or `signal S delivered kills`
abbrev pub handler_line : ℕ → ℕ → ℕ → List ℕ
handler_line signal at frame =
    line (codes "  signal")
    (decimal signal ∷ codes "delivered" ∷ codes "handler" ∷ value_text at ∷ codes "frame" ∷ value_text frame ∷ [])

abbrev pub kills_line : ℕ → List ℕ
kills_line signal = line (codes "  signal") (decimal signal ∷ codes "delivered" ∷ codes "kills" ∷ [])

-- what became of a thread: `created`, `ended`, `runs`, `ready`, `sleeps AT` or `woken`
abbrev pub change_fields : ThreadChange → List (List ℕ)
change_fields becomes.Created = codes "created" ∷ []
change_fields becomes.Ended = codes "ended" ∷ []
change_fields becomes.Runs = codes "runs" ∷ []
change_fields becomes.MadeReady = codes "ready" ∷ []
change_fields (becomes.Sleeps at) = codes "sleeps" ∷ value_text at ∷ []
change_fields becomes.Woken = codes "woken" ∷ []

-- `thread T ..`
abbrev pub thread_line : ℕ → ThreadChange → List ℕ
thread_line t change = line (codes "  thread") (decimal t ∷ change_fields change)

-- `thread T xN NAME VALUE`
abbrev pub thread_register_line : ℕ → ℕ → ℕ → List ℕ
thread_register_line t n value =
    line (codes "  thread") (decimal t ∷ (codes "x" ++ decimal n) ∷ register_name n ∷ value_text value ∷ [])

-- the fields of an area, as uapi linux/rseq.h names them
abbrev pub field_word : AreaField → List ℕ
field_word field.CpuIdStart = codes "cpu_id_start"
field_word field.CpuId = codes "cpu_id"
field_word field.RseqCs = codes "rseq_cs"
field_word field.Flags = codes "flags"
field_word field.NodeId = codes "node_id"
field_word field.MmCid = codes "mm_cid"

-- `area FIELD VALUE`
abbrev pub area_line : AreaField → ℕ → List ℕ
area_line f value = line (codes "  area") (field_word f ∷ value_text value ∷ [])

-- why an event ended its process by a signal: what was bad at an interruption has the word that it has there
abbrev pub kill_word : KillWhy → List ℕ
kill_word (Bad why) = bad_word why
kill_word AreaWords = codes "area-words"
kill_word NoHandler = codes "no-handler"
kill_word Masked = codes "masked"
kill_word FrameNotWritable = codes "frame-not-writable"
kill_word FrameNotReadable = codes "frame-not-readable"
kill_word CallInside = codes "call-inside"

-- `killed WHY`
abbrev pub killed_line : KillWhy → List ℕ
killed_line why = line (codes "  killed") (kill_word why ∷ [])

-- the line of a fact
abbrev pub fact_line : Fact → List ℕ
fact_line (Read at size value source) = read_line at size value source
fact_line (Waits w) = waits_line w
fact_line (Entered w old n) = wrote_line w old n
fact_line (KernelWrote w n) = kernel_wrote_line w n
fact_line (Zeroed at n) = zeroed_line at n
fact_line (Reserved at) = address_line (codes "  reserved") at
fact_line (Used at) = address_line (codes "  used") at
fact_line (Failed at) = address_line (codes "  failed") at
fact_line (Ended at) = address_line (codes "  ended") at
fact_line (Lost hart at by) = lost_line hart.0 at by
fact_line (Register n value) = changed_line n value
fact_line (Faulted signal why at) = fault_line signal why at
fact_line (RequestsTaken harts restart) = taken_line harts restart
fact_line BarrierReturns = codes "  barrier returns\n"
fact_line (Called c) = call_line c
fact_line (Answered value) = address_line (codes "  answer") value
fact_line (Refused errno) = error_line errno
fact_line AnsweredLater = codes "  answer later\n"
fact_line (BarrierBegins harts) = begins_line harts
fact_line (Interrupted interruption) = interruption_line interruption
fact_line (HandlerEntered signal at frame) = handler_line signal at frame
fact_line (DeliveryKills signal) = kills_line signal
fact_line (SignalPosted signal tid) = signal_line signal (codes "posted") tid.0
fact_line (SignalDropped signal tid) = signal_line signal (codes "dropped") tid.0
fact_line (ThreadChanged tid change) = thread_line tid.0 change
fact_line (ThreadRegister tid n value) = thread_register_line tid.0 n value
fact_line (AreaWord f value) = area_line f value
fact_line NoAnswer = codes "  no answer\n"
fact_line (Killed why) = killed_line why

-- the lines of facts, in order
unfoldable pub facts_text : List Fact → List ℕ
facts_text facts = flat_map fact_line facts
