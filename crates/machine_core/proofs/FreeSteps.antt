-- A hart goes freely where a thread runs that waits in no barrier, and its next instruction sets a register and does nothing else.
use Rattle.machine_core.proofs.Common.{and_right, ◌≡◌, ℕ, ◌&&◌, length, sym, ap, ◌∙◌, refl, not, Bool, true, false, is_none, is_some, Option, Some, None, Why, option_map, option_map_or, option_or, HartState, Here, runs, sets_register, thread, instruction_gate, is_held, effect_at, fault_at, others_gate, refusal_exec_by, unless_in_barrier, is_storable, reached, waiting_here, fetched, next_effect, is_local_on, file_of, file_on, hart_in, gate_of_free, no_fault_of_free, others_of_free}
use Rattle.machine_core.specs.Free.{goes_freely}
use Rattle.machine_core.proofs.Sights.{next_local}

-- of a thread: the instruction makes no fault, and so no gate holds it up
module _ (here : Here) (t : ℕ) where
  abbrev pub gates : Option Why
  gates =
      option_or (instruction_gate (length (waiting_here here)) (effect_at here t) (is_some (fault_at here t))) (others_gate (is_held here t) (effect_at here t))

  pub free_gates : option_map_or sets_register (effect_at here t) false ≡ true → gates ≡ None
  free_gates sets =
      let no_fault : None ≡ fault_at here t =
      no_fault_of_free (reached here) (is_storable here) (here.file t).pc (fetched here.setting.program.pages (here.file t).pc) (effect_at here t) sets in
      ap (λ g. option_or g (others_gate (is_held here t) (effect_at here t)))
      (ap (λ f. instruction_gate (length (waiting_here here)) (effect_at here t) (is_some f)) (sym no_fault) ∙ gate_of_free (length (waiting_here here)) (effect_at here t) sets)
      ∙ sym (others_of_free (is_held here t) (effect_at here t) sets)

  abbrev is_local : Bool
  is_local = option_map_or sets_register (next_effect here.setting.program.pages (here.file t)) false

  by_barrier : (waits : Option ℕ) (b : Bool) → is_local ≡ b → (b && true && not (is_some waits)) ≡ (is_none (unless_in_barrier waits gates) && b)
  by_barrier (Some left) true sets = refl
  by_barrier None true sets = rw (free_gates sets) refl
  by_barrier waits false sets = sym (and_right _ false refl)

freely_by : (here : Here) (o : Option ℕ)
    → (option_map_or sets_register (next_effect here.setting.program.pages (file_on here o)) false && is_some (option_map thread o) && not (is_some here.awaits))
    ≡ (is_none (refusal_exec_by here o) && is_local_on here o)
freely_by here None =
    ap (λ b. b && not (is_some here.awaits)) (and_right (option_map_or sets_register (next_effect here.setting.program.pages (file_on here None)) false) false refl)
freely_by here (Some t) =
    by_barrier here t here.awaits (is_local here t) refl
    ∙ ap (λ b. is_none (refusal_exec_by here (Some t)) && b) (next_local (reached here) (is_storable here) here.setting.program.pages (here.file t))

-- told by the hart's state
pub freely_read : (here : Here) (x : HartState) (n k credit : ℕ) → x ≡ hart_in here n k credit
    → (option_map_or sets_register (next_effect here.setting.program.pages (file_of x)) false && is_some x.running && not (is_some x.waits)) ≡ goes_freely here
freely_read here x n k credit is =
    ap (λ (y : HartState). option_map_or sets_register (next_effect here.setting.program.pages (file_of y)) false && is_some y.running && not (is_some y.waits)) is
    ∙ freely_by here (runs here)
