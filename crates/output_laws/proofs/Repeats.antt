-- A printed log, played again.
use Rattle.std.proofs.Common.{◌≡◌, ℕ, ◌*◌, ◌-◌, ◌<◌, ◌≤◌, ◌^◌, zero, suc, List, [], ◌∷◌, ◌++◌, length, map, refl}
use Rattle.std.proofs.Common.{sym, ap, ◌∙◌, subst, arith, true, false, get_or, Some, None, All, length-append}
use Rattle.std.specs.Prelude.{IfSome}
use Rattle.std.specs.List.{AllByRecursion}
use Rattle.std.specs.Option.{option_map}
use Rattle.std.specs.Fmt.{decimal}
use Rattle.mach_types.specs.declared.events.Entry.{Entry}
use Rattle.mach_types.specs.declared.limits.Limits.{Limits}
use Rattle.mach_types.specs.Limits.{InRange}
use Rattle.elf_load.specs.declared.image.Image.{Image}
use Rattle.elf_load.specs.declared.program_headers.ProgramHeader.{ProgramHeader}
use Rattle.elf_load.specs.Faults.{first_fault, has_code, is_misplaced}
use Rattle.elf_load.specs.Fields.{e_entry, program_headers}
use Rattle.elf_load.proofs.Laws.{HasNoFault, has_no_fault}
use Rattle.std.proofs.lemmas.Bool.Decides.{nat_tests}
use Rattle.std.proofs.lemmas.List.Folds.{Any-from_list_any}
use Rattle.step_log.specs.Grammar.{IsPrintable, log_text}
use Rattle.step_log.specs.Script.{line_meaning, lines_of, whole_line}
use Rattle.step_log.specs.Text.{entry_line, entry_text, hex_text, kind_word, newline, space}
use Rattle.step_log.proofs.Laws.{length-decimal_32, length-hex_text, length-kind_word-le, log_meanings}
use Rattle.block_model.specs.Replay.{script_of}
use Rattle.block_model.specs.Run.{IsBlockRun}
use Rattle.block_model.specs.Setting.{Setting, setting_of}
use Rattle.block_model.proofs.Laws.{HaveBytes, all_addresses, all_harts, all_threads, answers_itself, image_bytes, within_limit}
use Rattle.command_words.specs.Shown.{Shown, Output}
use Rattle.command_words.specs.Commands.{Run, Source, Rule, Script, Workers, Drawn, DrawnAfter}
use Rattle.outcomes.specs.Outputs.{IsLogOf, IsPlayOutput, IsRunOutput, setting_for, shown_text}
use Rattle.run_texts.specs.LogTexts.{log_output}
use Rattle.outcomes.specs.Programs.{Files, IsProgram, IsReadAs}
use Rattle.whole_runs.specs.Asks.{ask_in, ask_of, asks_of}
use Rattle.call_reasons.specs.Reasons.{most_script_bytes}
use Rattle.whole_runs.specs.Runs.{IsPlayedRun}

-- the entry of a program lies in a segment, and so is an address of 64 bits
entry_within : (n entry : ℕ) (h : ProgramHeader) → is_misplaced n h ≡ false → has_code entry h ≡ true
    → entry < 2 ^ 64
entry_within n entry h placed has = grind (arith, nat_tests)

entry_small : (file : List ℕ) (frames : ℕ) → first_fault file frames ≡ None → e_entry file < 2 ^ 64
entry_small file frames none =
    go (Any-from_list_any (has_code (e_entry file)) (program_headers file) sound.segments.code)
  where
    sound : HasNoFault file frames
    sound = has_no_fault file frames none

    go : (i : ℕ) × (h : ProgramHeader) × (i < length (program_headers file))
        × (get_or (program_headers file) i h ≡ h) × (has_code (e_entry file) h ≡ true) → e_entry file < 2 ^ 64
    go (i, h, lt, at, has) =
        entry_within (length file) (e_entry file) h
        (subst (λ (g : ProgramHeader). is_misplaced (length file) g ≡ false) at
        (sound.segments.apart.placed i h lt)) has

pub entry_fits : (files : Files) (name : List ℕ) (limits : Limits) (image : Image)
    → IsProgram files name limits image → image.entry < 2 ^ 64
entry_fits files name limits image taken =
    subst (λ n. n < 2 ^ 64) (sym taken.loaded.entry)
    (entry_small taken.bytes limits.frames taken.good.no_fault)

-- each entry of a block run can be printed
pub printable : (es : List Entry) → All IsPrintable es → AllByRecursion IsPrintable es
printable [] fits = tt
printable (e ∷ es) fits =
    (fits zero e (omega arith), printable es (λ k d lt. fits (suc k) d (omega (arith, lt))))

pub run_prints : (s : Setting) (log : List Entry) → InRange s.limits → s.program.entry < 2 ^ 64
    → HaveBytes s.program.pages → IsBlockRun s log → AllByRecursion IsPrintable log
run_prints s log range entry bytes run =
    let few : s.limits.steps < 2 ^ 31 - 1 = let most = range.most_steps in omega (arith, most) in
    printable log (λ k d lt.
    let small = all_harts s log run k d lt in
    let harts = range.eight_harts in
    record {
      hart = omega (arith, small, harts);
      thread = all_threads s log few run k d lt;
      pc = all_addresses s log entry bytes run k d lt;
    })

-- an entry's line has at most 38 bytes, and so a log's lines fit a script
line_fits : (e : Entry) → IsPrintable e → length (entry_text e) ≤ 38
line_fits e p =
    let number = length-append (decimal e.tid.0) (space ∷ hex_text 16 e.pc) in
    let word = length-append (kind_word e.kind) (space ∷ decimal e.tid.0 ++ space ∷ hex_text 16 e.pc) in
    let line = length-append (entry_line e) (newline ∷ []) in
    omega (
      arith,
      number,
      word,
      line,
      length-hex_text 16 e.pc,
      length-kind_word-le e.kind,
      length-decimal_32
          e.tid.0 p.thread,
    )

pub lines_fit : (log : List Entry) → AllByRecursion IsPrintable log → length (log_text log) ≤ 38 * length log
lines_fit [] fits = omega arith
lines_fit (e ∷ es) fits =
    let first = line_fits e fits.0 in
    let rest = lines_fit es fits.1 in
    let parts = length-append (entry_text e) (log_text es) in
    omega (arith, first, rest, parts)

log_fits : (s : Setting) (log : List Entry) → InRange s.limits → IsBlockRun s log
    → AllByRecursion IsPrintable log → length (log_text log) ≤ most_script_bytes
log_fits s log range run fits =
    let few = within_limit s log run in
    let most = range.most_steps in
    omega (arith, lines_fit log fits, few, most)

-- what its lines ask for are its own events
asks_same : (es : List Entry)
    → map (option_map ask_of) (map (λ e. Some (whole_line e)) es) ≡ map Some (script_of es)
asks_same [] = refl
asks_same (e ∷ es) = let rest = asks_same es in cc

asks_split : (lines : List (List ℕ)) → map ask_in lines ≡ map (option_map ask_of) (map line_meaning lines)
asks_split [] = refl
asks_split (l ∷ ls) = let rest = asks_split ls in cc

pub log_asks : (log : List Entry) → AllByRecursion IsPrintable log
    → asks_of (log_text log) ≡ map Some (script_of log)
log_asks log fits = asks_split (lines_of (log_text log))
    ∙ ap (map (option_map ask_of)) (log_meanings log fits) ∙ asks_same log

-- the log of a block run, read as a script, is played whole
played_again : (s : Setting) (log : List Entry) → IsBlockRun s log → AllByRecursion IsPrintable log
    → IsPlayedRun s (log_text log) log
played_again s log run fits =
    record {
      lines = script_of log;
      readable = log_asks log fits;
      block_run = run;
      answers = answers_itself
          log;
    }

pub taken_again : (files later : Files) (program : List ℕ) (limits : Limits) (image : Image)
    → later program ≡ files program → IsProgram files program limits image
    → IsProgram later program limits image
taken_again files later program limits image same taken = record {
  bytes = taken.bytes;
  read = subst (λ o. IfSome o (λ told. taken.bytes ≡ told)) (sym same) taken.read;
  are_bytes = taken.are_bytes;
  good = taken.good;
  loaded = taken.loaded;
}

pub output_again : (files later : Files) (program script : List ℕ) (limits : Limits) (written : List ℕ)
    (image : Image) (log : List Entry) → InRange limits → later program ≡ files program
    → IsProgram files program limits image → IsBlockRun (setting_of image limits) log
    → written ≡ log_output (setting_of image limits) log → IsReadAs later script (log_text log)
    → IsPlayOutput later program script limits written
output_again files later program script limits written image log range same taken run text read =
    let fits = run_prints (setting_of image limits) log range
    (entry_fits files program limits image taken) (image_bytes taken.bytes image taken.are_bytes taken.loaded) run in
    record {
      image = image;
      taken = taken_again files later program limits image same taken;
      log = log;
      made = record {
        lines = log_text log;
        read = record { read = read; fits = log_fits (setting_of image limits) log range run fits };
        run = played_again (setting_of image limits) log run fits;
      };
      text = text;
    }

-- each log is one of a block run
pub block_run_of : (files : Files) (source : Source) (s : Setting) (log : List Entry) → IsLogOf files source s log
    → IsBlockRun s log
block_run_of files Rule s log made = made.block_run
block_run_of files (Script name) s log made = made.run.block_run
block_run_of files (Workers seed) s log made = made.block_run
block_run_of files (Drawn seed draws) s log made = made.block_run
block_run_of files (DrawnAfter name seed draws) s log made = made.drawn.block_run

-- so it is played again to the same text
pub printed_again : (files later : Files) (run : Run) (script written : List ℕ)
    → InRange run.limits → run.shown ≡ Output → later run.program ≡ files run.program
    → (output : IsRunOutput files run written) → IsReadAs later script (log_text output.log)
    → IsPlayOutput later run.program script run.limits written
printed_again files later run script written range shows same output read =
    let s = setting_for run output.image in
    output_again files later run.program script run.limits written output.image output.log range same
    output.taken (block_run_of files run.source s output.log output.made)
    (output.text ∙ ap (λ (x : Shown). shown_text x s output.log) shows) read
