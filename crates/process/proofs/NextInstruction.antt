-- The next instruction of the thread on a hart, and why it may not be executed.
use Rattle.process.proofs.Common.{◌≡◌, ℕ, inl, List, get_or, refl, sym, ap, ◌∙◌, subst, Bool, Option, Some, None, IfSome, Effect, HartState, Here, ImagePage, IsNextAt, IsPlace, IsPlanned, Next, Parts, Stand, Why, byte_in, can_write_in, credit_of, here_at, here_in_plain, refusal_of, runs, HasAccessSizes, refusal_exec_by, is_storable, reached, fault_by, fetched, file_of, file_on, hart_in}
use Rattle.mach_types.specs.declared.events.Choice.TheVariants as asked
use Rattle.block_model.specs.Instruction.{next_effect, next_fault}
use Rattle.process.proofs.Places.{alone_here, hart_is, reached_at, storable_at}

-- the next instruction of the file that a hart keeps is that of the place
pub next_at : (here : Here) (x : HartState) (ran events credit : ℕ) (code : List ImagePage) (byte : ℕ → Option ℕ) (writable : ℕ → Bool) (next : Next)
    → x ≡ hart_in here ran events credit → code ≡ here.setting.program.pages → byte ≡ reached here → writable ≡ is_storable here
    → next.effect ≡ next_effect code (file_of x) → next.fault ≡ next_fault code byte writable (file_of x) → IsNextAt here next
next_at here x ran events credit code byte writable next own same bytes writables effect fault = record {
  effect = effect ∙ rw (own, same) refl;
  fault = fault ∙ rw (own, same, bytes, writables) refl;
}

-- the instruction that was read for a hart at a place, with its fault
pub next_read : (v : Stand) (m : Parts) (h : ℕ) (x : HartState) (code : List ImagePage) (word : Option ℕ) (read : Option Effect) (fault : Option ℕ)
    → IsPlace v m h → v.beside ≡ None → x ≡ get_or m.harts.items h x → code ≡ v.setting.program.pages → word ≡ fetched code x.pc → read ≡ next_effect code (file_of x)
    → fault ≡ fault_by (byte_in m.pages) (can_write_in m.pages) x.pc word read → IsNextAt (here_at v h) (record { effect = read; fault = fault })
next_read v m h x code word read fault place alone value same words effects is =
    next_at (here_at v h) x (v.plain.ran h) (v.plain.events h) (credit_of m.harts.items h) code (byte_in m.pages) (can_write_in m.pages)
    (record { effect = read; fault = fault }) (hart_is v m h x place value) same (reached_at v m h place alone) (storable_at v m h place alone) effects
    (is ∙ (λ i. fault_by (byte_in m.pages) (can_write_in m.pages) x.pc (words i) (effects i)))

-- why it may not be executed, where the process is alone
pub gate_at : (v : Stand) (h : ℕ) (next : Next) (why : Option Why) → v.beside ≡ None
    → (IsNextAt (here_in_plain v.setting v.plain h) next → why ≡ refusal_of asked.Exec (here_in_plain v.setting v.plain h))
    → IsNextAt (here_at v h) next → why ≡ refusal_of asked.Exec (here_at v h)
gate_at v h next why alone gate is =
    let here = alone_here v h alone in
    gate (subst (λ (z : Here). IsNextAt z next) here is) ∙ ap (refusal_of asked.Exec) (sym here)

-- where no condition fails, it is planned
pub planned : (v : Stand) (h : ℕ) (next : Next) → v.beside ≡ None → IsNextAt (here_at v h) next → IfSome next.effect HasAccessSizes → refusal_of asked.Exec (here_at v h) ≡ None → IsPlanned v h next
planned v h next alone is sizes free = go (runs (here_at v h)) refl free
  where
    go : (o : Option ℕ) → runs (here_at v h) ≡ o → refusal_exec_by (here_at v h) o ≡ None → IsPlanned v h next
    go None at e = cc
    go (Some t) at e = record {
      thread = t;
      at = at;
      effect = is.effect ∙ ap (λ o. next_effect v.setting.program.pages (file_on (here_at v h) o)) at;
      fault = is.fault ∙ ap (λ o. next_fault v.setting.program.pages (reached (here_at v h)) (is_storable (here_at v h)) (file_on (here_at v h) o)) at;
      sizes = sizes;
      free = free;
      own = inl alone;
    }
