-- An instruction that sets a register and does nothing else makes no fault, and may be executed whatever waits.
use Rattle.process.proofs.Common.{and_right, not-true, ◌≡◌, ℕ, Bool, true, false, cond, ltb, ◌&&◌, is_some, not, length, Option, Some, None, refl, sym, option_map_or, option_or, and_parts, false≢true, Waiting, sets_register, instruction_gate, exec_refusal, is_held, others_gate, refusal_exec, fault_by, Effect, HartState, IsNextAt, Next, Plain, Setting, hart_at, here_in_plain, FullBuffer}
use Rattle.rv_inst.specs.declared.effects.Effect.TheVariants as effect
use Rattle.process.proofs.ExecGates.{gate_is}

abbrev is_local : Option Effect → Bool
is_local o = option_map_or sets_register o false

pub no_fault_of_free : (byte : ℕ → Option ℕ) (writable : ℕ → Bool) (pc : ℕ) (word : Option ℕ) (o : Option Effect) → is_local o ≡ true
    → None ≡ fault_by byte writable pc word o
no_fault_of_free byte writable pc word None sets = absurd (false≢true sets)
no_fault_of_free byte writable pc word (Some (effect.Next rd value pc')) sets = refl
no_fault_of_free byte writable pc word (Some e) sets = absurd (false≢true sets)

nothing_waits : (some full : Bool) → cond (some && false) (Some Waiting) (cond (full && false) (Some FullBuffer) None) ≡ None
nothing_waits some full = rw (and_right some false refl, and_right full false refl) refl

pub gate_of_free : (waiting : ℕ) (o : Option Effect) → is_local o ≡ true → instruction_gate waiting o false ≡ None
gate_of_free waiting None sets = absurd (false≢true sets)
gate_of_free waiting (Some (effect.Next rd value pc)) sets = nothing_waits (ltb 0 waiting) _
gate_of_free waiting (Some e) sets = absurd (false≢true sets)

pub others_of_free : (held : Bool) (o : Option Effect) → is_local o ≡ true → None ≡ option_or None (others_gate held o)
others_of_free held None sets = absurd (false≢true sets)
others_of_free held (Some (effect.Next rd value pc)) sets = refl
others_of_free held (Some e) sets = absurd (false≢true sets)

-- what the test of it tells
pub record IsFree (x : HartState) (o : Option Effect) : Type 0 where
  pub sets : is_local o ≡ true
  pub runs : is_some x.running ≡ true
  pub waits : is_some x.waits ≡ false

pub free_tells : (x : HartState) (o : Option Effect) → (is_local o && is_some x.running && not (is_some x.waits)) ≡ true → IsFree x o
free_tells x o is =
    let both = and_parts (is_local o && is_some x.running) (not (is_some x.waits)) is in
    let first = and_parts (is_local o) (is_some x.running) both.0 in
    record { sets = first.0; runs = first.1; waits = not-true (is_some x.waits) both.1 }

-- where a thread runs that waits in no barrier
pub free_is_allowed : (s : Setting) (p : Plain) (h credit : ℕ) (x : HartState) (next : Next) → x ≡ hart_at s p h credit
    → IsNextAt (here_in_plain s p h) next → next.fault ≡ None → IsFree x next.effect
    → refusal_exec (here_in_plain s p h) ≡ None
free_is_allowed s p h credit x next own is fault free =
    let allowed : exec_refusal x next.effect (is_some next.fault) ≡ None = rw (fault, free.runs, free.waits) (gate_of_free (length x.buffer) next.effect free.sets) in
    sym (gate_is (record { setting = s; plain = p; beside = None }) h credit x next None None own is (sym allowed)
    (λ t at. others_of_free (is_held (here_in_plain s p h) t) next.effect free.sets) (λ e. refl))
