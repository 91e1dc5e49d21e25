-- What is read of the hart of parts is what the plain machine has there.
use Rattle.std.proofs.Common.{◌≡◌, ℕ, Bool, true, false, List, Option, Some, None, refl, sym, ap, ◌∙◌}
use Rattle.std.specs.Option.{option_map, option_map_or}
use Rattle.elf_load.specs.declared.image.ImagePage.{ImagePage}
use Rattle.mach_types.specs.declared.events.Tid.{Tid}
use Rattle.mach_types.specs.declared.sequences.Area.{Area}
use Rattle.mach_types.specs.declared.threads.Saved.{Saved}
use Rattle.hart_state.specs.declared.hart.HartState.{HartState}
use Rattle.block_model.specs.Here.{Here, runs, view}
use Rattle.block_model.specs.Plain.{Plain, here_in_plain}
use Rattle.block_model.specs.Sequences.{area_here}
use Rattle.block_model.specs.Setting.{Setting}
use Rattle.block_model.specs.Sights.{thread}
use Rattle.process.specs.Harts.{file_of, file_on, hart_at}
use Rattle.process.proofs.Laws.{thread_is}
use Rattle.settling.specs.LocalFiles.{local_file}
use Rattle.settling.specs.Settles.{are_past, is_settling_by, is_settling_here}

-- the thread that a hart keeps runs there
pub runs_is : (s : Setting) (p : Plain) (h credit : ℕ) (x : HartState) (t : Tid) → x ≡ hart_at s p h credit → Some t ≡ x.running → runs (here_in_plain s p h) ≡ Some t.0
runs_is s p h credit x t own is = thread_is (runs (here_in_plain s p h)) t (is ∙ ap (λ (y : HartState). y.running) own)

-- and none runs where it keeps none
idle_by : (o : Option ℕ) → None ≡ option_map thread o → o ≡ None
idle_by None is = refl
idle_by (Some t) is = cc

pub idle_is : (s : Setting) (p : Plain) (h credit : ℕ) (x : HartState) → x ≡ hart_at s p h credit → None ≡ x.running → false ≡ is_settling_here (here_in_plain s p h)
idle_is s p h credit x own is =
    let here = here_in_plain s p h in
    sym (ap (is_settling_by here) (idle_by (runs here) (is ∙ ap (λ (y : HartState). y.running) own)))

pub file_is : (s : Setting) (p : Plain) (h credit : ℕ) (x : HartState) (t : ℕ) → x ≡ hart_at s p h credit → runs (here_in_plain s p h) ≡ Some t → file_of x ≡ p.file t
file_is s p h credit x t own at = ap file_of own ∙ ap (λ o. file_on (here_in_plain s p h) o) at

-- what its next instruction leaves, by the pc alone
map_or : (G : ℕ → Bool) (r : Option Saved) → option_map_or G (option_map (λ (f : Saved). f.pc) r) false ≡ option_map_or (λ (f : Saved). G f.pc) r false
map_or G None = refl
map_or G (Some f) = refl

pub settles_is : (here : Here) (t : ℕ) (f : Saved) (pages : List ImagePage) (o : Option ℕ) → runs here ≡ Some t → f ≡ here.file t → pages ≡ here.setting.program.pages
    → o ≡ option_map (λ (g : Saved). g.pc) (local_file pages f)
    → option_map_or (λ pc. option_map_or (λ area. are_past (view here) area f.pc pc) (area_here here t) true) o false ≡ is_settling_here here
settles_is here t f pages o at file code is =
    let G = λ (f : Saved) (pc : ℕ). option_map_or (λ (area : Area). are_past (view here) area f.pc pc) (area_here here t) true in
    ap (λ (r : Option ℕ). option_map_or (G f) r false) is
    ∙ map_or (G f) (local_file pages f)
    ∙ (λ i. option_map_or (λ (g : Saved). G (file i) g.pc) (local_file (code i) (file i)) false)
    ∙ sym (ap (is_settling_by here) at)
