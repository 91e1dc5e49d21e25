-- Whether the next instruction of a hart traps is read off the parts.
use Rattle.std.proofs.Common.{◌≡◌, ℕ, Bool, true, false, not, cond, List, Option, Some, None, is_some, refl, sym, ap, ◌∙◌}
use Rattle.std.specs.Option.{option_map}
use Rattle.elf_load.specs.declared.image.ImagePage.{ImagePage}
use Rattle.hart_state.specs.declared.hart.HartState.{HartState}
use Rattle.block_model.specs.Here.{Here, is_storable, reached, runs}
use Rattle.block_model.specs.Instruction.{next_effect, next_fault}
use Rattle.block_model.specs.Sights.{effect_on, fault_on, thread}
use Rattle.process.specs.Harts.{file_of, file_on, hart_in}
use Rattle.prompt_runs.specs.Owed.{traps, traps_by}

-- of an idle hart none does
idle_by : (here : Here) (o : Option ℕ) → true ≡ not (is_some (option_map thread o)) → false ≡ traps_by (effect_on here o) (fault_on here o)
idle_by here None idle = refl
idle_by here (Some t) idle = let bad : true ≡ false = idle in absurd cc

pub idle_traps_not : (here : Here) (x : HartState) (ran events credit : ℕ) → x ≡ hart_in here ran events credit → true ≡ not (is_some x.running) → false ≡ traps here
idle_traps_not here x ran events credit own idle = idle_by here (runs here) (idle ∙ ap (λ (y : HartState). not (is_some y.running)) own)

busy_by : (here : Here) (o : Option ℕ) → false ≡ not (is_some (option_map thread o))
    → traps_by (next_effect here.setting.program.pages (file_on here o)) (next_fault here.setting.program.pages (reached here) (is_storable here) (file_on here o)) ≡ traps_by (effect_on here o) (fault_on here o)
busy_by here None busy = let bad : false ≡ true = busy in absurd cc
busy_by here (Some t) busy = refl

pub busy_traps : (here : Here) (x : HartState) (ran events credit : ℕ) (code : List ImagePage) (byte : ℕ → Option ℕ) (writable : ℕ → Bool) → x ≡ hart_in here ran events credit
    → code ≡ here.setting.program.pages → byte ≡ reached here → writable ≡ is_storable here → false ≡ not (is_some x.running)
    → traps_by (next_effect code (file_of x)) (next_fault code byte writable (file_of x)) ≡ traps here
busy_traps here x ran events credit code byte writable own same bytes writables busy =
    (λ i. traps_by (next_effect (same i) (file_of (own i))) (next_fault (same i) (bytes i) (writables i) (file_of (own i))))
    ∙ busy_by here (runs here) (busy ∙ ap (λ (y : HartState). not (is_some y.running)) own)
