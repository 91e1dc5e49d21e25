use Rattle.std.proofs.Common.{ℕ, ◌++◌, map, length, sym, ap, ◌∙◌, codes}
use Rattle.mach_types.specs.Kernel.Threads.{Threads}
use Rattle.mach_types.specs.declared.threads.Saved.{Saved}
use Rattle.sys_calls.specs.Registered.{areas_by_number}
use Rattle.block_model.specs.Deciding.{history}
use Rattle.block_model.specs.History.{file, kernel}
use Rattle.block_model.proofs.Laws.{length-history}
use Rattle.place_text.specs.Ends.{end_line, number_line}
use Rattle.place_text.specs.Live.{told}
use Rattle.place_text.specs.Place.{choices_of_harts, place_text}
use Rattle.place_text.specs.Threads.{told_at}
use Rattle.place_text.proofs.Lists.{five_pieces}
use Rattle.place_text.proofs.RestingThreads.{all_alike}
use Rattle.place_text.proofs.ToldThreads.{all_held, runs_told, threads_told}
use Rattle.place_text.proofs.place.place_text.Goals as goal

pub push_threads-requires : goal.push_threads-requires
push_threads-requires c =
    let tables = c.kernel-kernel.result.now in
    all_held c.deref.result.now tables.threads.saved tables.threads.threads tables.signals
    (ap (map told) c.deref.ensures.value ∙ c.in_ok-live.ensures.live)
    c.kernel-kernel.ensures.signals_held

pub returns : goal.returns
unfolding place_text
returns c =
    let v = c.args.machine.now in
    let before = history v.setting v.log in
    let k = kernel v.setting before in
    let files : ℕ → Saved = λ t. file v.setting t before in
    let tables = c.kernel-kernel.result.now in
    let told_all =
    c.in_ok-live.ensures.live ∙ all_alike files tables.threads c.in_ok-live.ensures.table c.kernel-kernel.ensures.saved
    ∙ ap (λ (ts : Threads). map (told_at files) ts.live) c.kernel-kernel.ensures.threads
    in
    let entries = ap length c.log.ensures ∙ sym (length-history v.setting v.log) in
    let threads =
    threads_told c.deref.result.now k files tables.signals (areas_by_number tables.areas.items)
    (ap (map told) c.deref.ensures.value ∙ told_all) c.kernel-kernel.ensures.signals c.kernel-kernel.ensures.areas
    in
    let runs = runs_told c.deref-2.result.now files k.threads.live (ap (map told) c.deref-2.ensures.value ∙ told_all) in
    five_pieces _ _ _ _ _ _ _ _ _ _ _ c.new-text.ensures.items
    (c.in_ok-push_number_line.ensures ∙ ap (λ n. c.new-text.result.items ++ number_line (codes "place") n) entries)
    (c.in_ok-push_end.ensures ∙ ap (λ e. c.push_number_line.new.text.items ++ end_line e) c.end.ensures)
    c.in_ok-push_all_harts.ensures
    (c.in_ok-push_threads.ensures ∙ ap (λ l. c.push_all_harts.new.text.items ++ l) threads)
    (c.in_ok-push_all_choices.ensures ∙ ap (λ r. c.push_threads.new.text.items ++ choices_of_harts v.setting before r) runs)
