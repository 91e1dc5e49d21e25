-- rseq(2): a thread registers its area, or unregisters it. Which refusal comes first is own.
use Rattle.std.specs.Prelude.{ℕ, ◌%◌, ◌==◌, if◌then◌else◌, Option, Some, None, Result, Ok, Err}
use Rattle.mach_types.specs.declared.errors.Errno.{Errno}
use Rattle.mach_types.specs.declared.errors.TheConstants.{EFAULT}
use Rattle.mach_types.specs.declared.sequences.Area.{Area}
use Rattle.mach_types.specs.Kernel.Areas.{are_words_writable, registration, unregistration, words_on, words_unregistered, words_written}
use Rattle.block_model.specs.Here.{Here, is_writable}
use Rattle.block_model.specs.Ids.{id_of}
use Rattle.block_model.specs.Kernel.{registered, unregistered}
use Rattle.block_model.specs.Sequences.{area_here}
use Rattle.block_model.specs.Calls.Answers.{CallDone, argument, int_argument, killed_in_call, refused, said}

-- the area gets the words of its thread, which runs; where they can't be written the process is killed
abbrev pub registers : Here → ℕ → Area → CallDone
registers here t area =
    if are_words_writable (is_writable here) area
    then (record (said here t 0) {
      entered = words_written area (words_on here.hart (id_of t here.kernel.ids));
      kernel = registered t area here.kernel;
    })
    else killed_in_call here

abbrev pub registers_or_refused : Here → ℕ → Result Area Errno → CallDone
registers_or_refused here t (Err e) = refused here t e
registers_or_refused here t (Ok area) = registers here t area

-- the area that the thread has gets the words of one that is registered no longer
abbrev pub unregisters : Here → ℕ → Option Area → CallDone
unregisters here t None = refused here t EFAULT
unregisters here t (Some area) =
    if are_words_writable (is_writable here) area
    then (record (said here t 0) { entered = words_written area words_unregistered; kernel = unregistered t here.kernel })
    else refused here t EFAULT

abbrev pub unregisters_or_refused : Here → ℕ → Result (Unit {0}) Errno → CallDone
unregisters_or_refused here t (Err e) = refused here t e
unregisters_or_refused here t (Ok done) = unregisters here t (area_here here t)

-- rseq(area, len, flags, sig), number 293
abbrev pub rseq : Here → ℕ → CallDone
rseq here t =
    let at = argument here t 0 in
    let len = int_argument here t 1 in
    let flags = int_argument here t 2 in
    let sig = int_argument here t 3 in
    let old = area_here here t in
    if flags % 2 == 1 then unregisters_or_refused here t (unregistration old at len flags sig)
    else registers_or_refused here t (registration old at len flags sig)
