-- What is said of the threads that were gone over is said of the live ones.
use Rattle.std.proofs.Common.{◌≡◌, ℕ, zero, suc, ◌<◌, true, false, List, [], ◌∷◌, length, map, find, get_or, is_some, inl, inr, refl, sym, ap, ◌∙◌, arith}
use Rattle.std.specs.List.{All}
use Rattle.std.proofs.lemmas.Bool.{cases_eq}
use Rattle.std.proofs.lemmas.Bool.Decides.{nat_tests}
use Rattle.std.proofs.lemmas.Simd.{map-map}
use Rattle.std.proofs.Math.ListN.{get_or-map, length-map}
use Rattle.kernel_threads.specs.Table.{SavedList}
use Rattle.mach_types.specs.Kernel.Signals.{Signalling, is_held}
use Rattle.mach_types.specs.Kernel.Threads.{Thread, Threads, is_live, is_thread}
use Rattle.mach_types.specs.declared.events.Choice.{Choice}
use Rattle.mach_types.specs.declared.events.Choice.TheVariants.{Run}
use Rattle.mach_types.specs.declared.sequences.Area.{Area}
use Rattle.mach_types.specs.declared.threads.Saved.{Saved}
use Rattle.block_model.specs.Record.{Kernel}
use Rattle.place_text.specs.Choices.{run_choices}
use Rattle.place_text.specs.Live.{run_of, told, told_of}
use Rattle.place_text.specs.Threads.{Told, threads_text, told_at, told_text}
use Rattle.place_text.specs.declared.threads.LiveThread.{LiveThread}

-- each thread of a list is found there
found : (xs : List Thread) (k : ℕ) (d : Thread) → k < length xs → is_some (find (is_thread (get_or xs k d).tid) xs) ≡ true
found [] k d lt = absurd (omega arith)
found (x ∷ xs) zero d lt = let same : is_thread x.tid x ≡ true = grind (arith, nat_tests) in rw same refl
found (x ∷ xs) (suc k) d lt = elim (cases_eq x.tid (get_or xs k d).tid) [
  | inl is ↦ let same : is_thread (get_or xs k d).tid x ≡ true = grind (arith, nat_tests) in rw same refl
  | inr differs ↦ let other : is_thread (get_or xs k d).tid x ≡ false = grind (arith, nat_tests) in rw other (found xs k d (omega arith))
]

-- the numbers that are told are theirs
numbers_told : (live : List LiveThread) (saved : SavedList) (all : List Thread) → map told live ≡ map (told_of saved) all
    → map (λ (thread : LiveThread). thread.tid.0) live ≡ map (λ (th : Thread). th.tid) all
numbers_told live saved all told_all =
    let number : Told → ℕ = λ one. one.tid in
    sym (map-map number told live) ∙ ap (map number) told_all ∙ map-map number (told_of saved) all

-- the signals of each of them are held
pub all_held : (live : List LiveThread) (saved : SavedList) (ts : Threads) (g : Signalling) → map told live ≡ map (told_of saved) ts.live
    → ((t : ℕ) → is_held t g ≡ is_live t ts) → All (λ thread. is_held thread.tid.0 g ≡ true) live
all_held live saved ts g told_all held k d lt =
    let numbers = numbers_told live saved ts.live told_all in
    let e : Thread = record { tid = d.tid.0; state = d.state; clear_at = 0 } in
    let same =
    sym (get_or-map (λ (thread : LiveThread). thread.tid.0) live k d) ∙ ap (λ l. get_or l k d.tid.0) numbers
    ∙ get_or-map (λ (th : Thread). th.tid) ts.live k e
    in
    let long =
    sym (length-map live (λ (thread : LiveThread). thread.tid.0)) ∙ ap length numbers ∙ length-map ts.live (λ (th : Thread). th.tid)
    in
    held (get_or live k d).tid.0 ∙ ap (λ n. is_live n ts) same ∙ found ts.live k e (omega arith)

-- the lines of the live threads
pub threads_told : (live : List LiveThread) (k : Kernel) (file : ℕ → Saved) (signals : Signalling) (areas : List (ℕ × Area))
    → map told live ≡ map (told_at file) k.threads.live → signals ≡ k.signals → areas ≡ k.areas
    → told_text signals areas (map told live) ≡ threads_text k file
unfolding threads_text
threads_told live k file signals areas told_all same_signals same_areas =
    λ i. told_text (same_signals i) (same_areas i) (told_all i)

-- the choices to run one
pub runs_told : (live : List LiveThread) (file : ℕ → Saved) (all : List Thread) → map told live ≡ map (told_at file) all
    → map run_of live ≡ run_choices all
runs_told live file all told_all =
    let run : Told → Choice = λ one. Run (record { 0 = one.tid }) in
    sym (map-map run told live) ∙ ap (map run) told_all ∙ map-map run (told_at file) all
