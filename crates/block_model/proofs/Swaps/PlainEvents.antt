-- A plain event is the same after a plain event of another hart that touched nothing which it reads or writes.
use Rattle.block_model.proofs.Common.{◌≡◌, ℕ, List, [], ◌∷◌, length, refl, sym, ap, ◌∙◌, subst, Bool, true, false, not, cond, if◌then◌else◌, Option, Some, None, is_none, is_some, Choice, Effect, Entry, Footprint, Here, Regs, Saved, Store, Write, and_parts, by_call, by_effect, by_outcome, bytes_of_all, called_here, can_read, done_drain_of, done_exec_by, done_of, entry_in, false≢true, fault_by, fetched, have_byte, instruction_gate, instruction_of, is_call, is_held, is_storable, lost_after, meaning, memory, memory_in, next_effect, next_fault, not-true, option_and_then, option_map, option_or, others_gate, outcome, outcome_of, overlay, pc_in, permission_at, reached, read_by, refusal_drain_of, refusal_exec_by, refusal_of, runs, unless_in_barrier, view, view_of_all, waiting_here, with_segment, Inst}
use Rattle.mach_types.specs.declared.events.Choice.TheVariants as asked
use Rattle.rv_inst.proofs.Laws.{meaning-sized}
use Rattle.rv_inst.specs.Sizes.{HasAccessSizes}
use Rattle.block_model.specs.Instruction as instruction
use Rattle.rv_inst.specs.Accesses.{reserved_by}
use Rattle.block_model.specs.PlainEvents.{footprint, footprint_drain, footprint_exec, footprint_of, is_plain, is_plain_exec_by, is_plain_exec_of, reserved_exec, reserved_of}
use Rattle.block_model.proofs.Swaps.PlainDone.{PlainDone, as_done, plain_drain, plain_effect, plain_exec, plain_done, plain_outcome}
use Rattle.block_model.proofs.Swaps.Outcomes.{IsFine, IsUnseen, entered_within, lost_outcome, outcome_same}
use Rattle.block_model.proofs.Swaps.Untouched.{fault_same, reached_same, reached_some}

-- what is around a hart after events of others: of these writes its reservation may have been lost
pub record Around : Type 0 where
  pub file : ℕ → Saved
  pub byte : ℕ → ℕ
  pub waiting : ℕ → List Store
  pub lost : List Write
  pub requests : ℕ
  pub restart : Bool
  pub awaits : Option ℕ

abbrev pub passed : Here → Around → Here
passed here a = record here {
  file = a.file;
  byte = a.byte;
  waiting = a.waiting;
  reserved = lost_after a.lost here.reserved;
  requests = a.requests;
  restart = a.restart;
  awaits = a.awaits;
}

-- they left its thread, its stores and its barrier as they were, and each byte that they didn't write
pub record IsPassed (here : Here) (a : Around) : Type 0 where
  pub file : (t : ℕ) → runs here ≡ Some t → a.file t ≡ here.file t
  pub byte : (x : ℕ) → have_byte (bytes_of_all a.lost) x ≡ false → a.byte x ≡ here.byte x
  pub waiting : a.waiting here.hart ≡ here.waiting here.hart
  pub awaits : a.awaits ≡ here.awaits

-- they wrote nothing that an event reads or writes
pub record IsClear (ws : List Write) (x : Footprint) : Type 0 where
  pub unread : (a : ℕ) → have_byte (bytes_of_all ws) a ≡ true → have_byte x.reads a ≡ false
  pub unwritten : (a : ℕ) → have_byte (bytes_of_all ws) a ≡ true → have_byte x.writes a ≡ false

-- THE INSTRUCTION

effect_passes : (here : Here) (a : Around) (t : ℕ) → a.file t ≡ here.file t → next_effect (passed here a) t ≡ next_effect here t
effect_passes here a t same = ap (instruction.next_effect here.setting.program.pages) same

fault_by_same : (here : Here) (byte : ℕ → ℕ) (pc : ℕ) (word : Option ℕ) (o : Option Effect)
    → fault_by (with_segment here.beside (memory_in here.kernel byte)) (is_storable here) pc word o ≡ fault_by (reached here) (is_storable here) pc word o
fault_by_same here byte pc word None = refl
fault_by_same here byte pc word (Some e) =
    fault_same (with_segment here.beside (memory_in here.kernel byte)) (reached here) (reached_some here.beside here.kernel byte here.byte) (is_storable here) e

fault_passes : (here : Here) (a : Around) (t : ℕ) → a.file t ≡ here.file t → next_fault (passed here a) t ≡ next_fault here t
fault_passes here a t same =
    ap (instruction.next_fault here.setting.program.pages (with_segment here.beside (memory_in here.kernel a.byte)) (is_storable here)) same
    ∙ fault_by_same here a.byte (here.file t).pc (fetched here.setting.program.pages (here.file t).pc) (next_effect here t)

-- IS IT PLAIN, AND WHAT DOES ITS ACCESS TOUCH

abbrev RunsAs : Here → Around → Option ℕ → Type 0
RunsAs here a o = (t : ℕ) → o ≡ Some t → a.file t ≡ here.file t

plain_exec_passes : (here : Here) (a : Around) (o : Option ℕ) → RunsAs here a o → is_plain_exec_by (passed here a) o ≡ is_plain_exec_by here o
plain_exec_passes here a None same = refl
plain_exec_passes here a (Some t) same =
    ap (λ f. is_plain_exec_of f (next_effect (passed here a) t)) (fault_passes here a t (same t refl))
    ∙ ap (is_plain_exec_of (next_fault here t)) (effect_passes here a t (same t refl))

pub plain_passes : (c : Choice) (here : Here) (a : Around) → IsPassed here a → is_plain c (passed here a) ≡ is_plain c here
plain_passes asked.Exec here a by = plain_exec_passes here a (runs here) by.file
plain_passes c here a by = refl

footprint_exec_passes : (here : Here) (a : Around) (o : Option ℕ) → RunsAs here a o → footprint_exec (passed here a) o ≡ footprint_exec here o
footprint_exec_passes here a None same = refl
footprint_exec_passes here a (Some t) same = ap footprint_of (effect_passes here a t (same t refl))

pub footprint_passes : (c : Choice) (here : Here) (a : Around) → IsPassed here a → footprint c (passed here a) ≡ footprint c here
footprint_passes asked.Exec here a by = footprint_exec_passes here a (runs here) by.file
footprint_passes asked.Drain here a by = ap footprint_drain by.waiting
footprint_passes c here a by = refl

reserved_exec_passes : (here : Here) (a : Around) (o : Option ℕ) → RunsAs here a o → reserved_exec (passed here a) o ≡ reserved_exec here o
reserved_exec_passes here a None same = refl
reserved_exec_passes here a (Some t) same = ap (option_and_then reserved_by) (effect_passes here a t (same t refl))

pub reserved_passes : (c : Choice) (here : Here) (a : Around) → IsPassed here a → reserved_of c (passed here a) ≡ reserved_of c here
reserved_passes asked.Exec here a by = reserved_exec_passes here a (runs here) by.file
reserved_passes c here a by = refl

-- ITS ENTRY

pc_passes : (here : Here) (a : Around) (o : Option ℕ) → RunsAs here a o → pc_in (passed here a) o ≡ pc_in here o
pc_passes here a None same = refl
pc_passes here a (Some t) same = ap (λ (f : Saved). f.pc) (same t refl)

pub entry_passes : (c : Choice) (here : Here) (a : Around) → IsPassed here a → is_plain c here ≡ true → entry_in c (passed here a) ≡ entry_in c here
entry_passes asked.Exec here a by plain = ap (λ pc. let e : Entry = record (entry_in asked.Exec here) { pc = pc } in e) (pc_passes here a (runs here) by.file)
entry_passes asked.Drain here a by plain = ap (λ pc. let e : Entry = record (entry_in asked.Drain here) { pc = pc } in e) (pc_passes here a (runs here) by.file)
entry_passes c here a by plain = absurd (false≢true plain)

-- WHETHER IT IS REFUSED

-- a plain instruction is there, makes no fault and is no call
pub record IsPlainOf (fault : Option ℕ) (o : Option Effect) : Type 0 where
  pub effect : Effect
  pub is : o ≡ Some effect
  pub none : fault ≡ None
  pub no_call : is_call effect ≡ false

pub plain_parts : (fault : Option ℕ) (o : Option Effect) → is_plain_exec_of fault o ≡ true → IsPlainOf fault o
plain_parts fault None plain = absurd (false≢true plain)
plain_parts fault (Some e) plain =
    let p = and_parts (is_none fault) (not (is_call e)) plain in
    record { effect = e; is = refl; none = none_is fault p.0; no_call = not-true (is_call e) p.1 }
  where
    none_is : (o : Option ℕ) → is_none o ≡ true → o ≡ None
    none_is None is = refl
    none_is (Some x) is = absurd (false≢true is)

gate_free : (held : Bool) (fault : Option ℕ) (o : Option Effect) → IsPlainOf fault o → others_gate held o ≡ None
gate_free held fault o plain = rw plain.is (rw plain.no_call refl)

exec_refusal : (here : Here) (t : ℕ) → IsPlainOf (next_fault here t) (next_effect here t)
    → refusal_exec_by here (Some t) ≡ unless_in_barrier here.awaits (option_or (instruction_gate (length (waiting_here here)) (next_effect here t) (is_some (next_fault here t))) None)
exec_refusal here t plain = ap (λ g. unless_in_barrier here.awaits (option_or (instruction_gate (length (waiting_here here)) (next_effect here t) (is_some (next_fault here t))) g)) (gate_free (is_held here t) (next_fault here t) (next_effect here t) plain)

refusal_exec_passes : (here : Here) (a : Around) (o : Option ℕ) → RunsAs here a o → IsPassed here a → is_plain_exec_by here o ≡ true → refusal_exec_by (passed here a) o ≡ refusal_exec_by here o
refusal_exec_passes here a None same by plain = refl
refusal_exec_passes here a (Some t) same by plain =
    let f = fault_passes here a t (same t refl) in
    let e = effect_passes here a t (same t refl) in
    let is = plain_parts (next_fault here t) (next_effect here t) plain in
    let there = plain_parts (next_fault (passed here a) t) (next_effect (passed here a) t) (plain_exec_passes here a (Some t) same ∙ plain) in
    exec_refusal (passed here a) t there
    ∙ ap (λ w. unless_in_barrier w (option_or (instruction_gate (length (a.waiting here.hart)) (next_effect (passed here a) t) (is_some (next_fault (passed here a) t))) None)) by.awaits
    ∙ ap (λ (w : List Store). unless_in_barrier here.awaits (option_or (instruction_gate (length w) (next_effect (passed here a) t) (is_some (next_fault (passed here a) t))) None)) by.waiting
    ∙ ap (λ x. unless_in_barrier here.awaits (option_or (instruction_gate (length (waiting_here here)) x (is_some (next_fault (passed here a) t))) None)) e
    ∙ ap (λ x. unless_in_barrier here.awaits (option_or (instruction_gate (length (waiting_here here)) (next_effect here t) (is_some x)) None)) f
    ∙ sym (exec_refusal here t is)

pub refusal_passes : (c : Choice) (here : Here) (a : Around) → IsPassed here a → is_plain c here ≡ true → refusal_of c (passed here a) ≡ refusal_of c here
refusal_passes asked.Exec here a by plain = refusal_exec_passes here a (runs here) by.file by plain
refusal_passes asked.Drain here a by plain = ap refusal_drain_of by.waiting
refusal_passes c here a by plain = absurd (false≢true plain)

-- WHAT IT DOES

-- with a reservation that others may have ended
abbrev pub with_lost : List Write → PlainDone → PlainDone
with_lost ws x = record x { reserved = lost_after ws x.reserved }

sized_effect : (o : Option Inst) (regs : Regs) (pc : ℕ) (e : Effect) → option_map (λ i. meaning i regs pc) o ≡ Some e → HasAccessSizes e
sized_effect None regs pc e is = absurd cc
sized_effect (Some i) regs pc e is = let same : meaning i regs pc ≡ e = cc in subst HasAccessSizes same (meaning-sized i regs pc)

pub fine_effect : (here : Here) (t : ℕ) (e : Effect) → next_effect here t ≡ Some e → next_fault here t ≡ None → IsFine e
fine_effect here t e is none = record {
  sized = sized_effect (instruction_of (fetched here.setting.program.pages (here.file t).pc)) (here.file t).file (here.file t).pc e is;
  byte = reached here;
  can_write = is_storable here;
  none = sym (ap (fault_by (reached here) (is_storable here) (here.file t).pc (fetched here.setting.program.pages (here.file t).pc)) is) ∙ none;
}

-- a byte as the hart sees it, and as an instruction does
memory_passes : (here : Here) (a : Around) (x : ℕ) → IsPassed here a → have_byte (bytes_of_all a.lost) x ≡ false → memory here x ≡ memory (passed here a) x
memory_passes here a x by out = ap (λ b. if can_read (permission_at here.kernel.pages x) then Some b else None) (sym (by.byte x out))

view_of_passes : (here : Here) (a : Around) (x : ℕ) (old new : Option ℕ) → IsPassed here a → old ≡ new
    → option_map (overlay (waiting_here here) x) old ≡ option_map (overlay (a.waiting here.hart) x) new
view_of_passes here a x old new by same =
    ap (λ (ws : List Store). option_map (overlay ws x) old) (sym by.waiting) ∙ ap (option_map (overlay (a.waiting here.hart) x)) same

pub view_passes : (here : Here) (a : Around) (x : ℕ) → IsPassed here a → have_byte (bytes_of_all a.lost) x ≡ false → view here x ≡ view (passed here a) x
view_passes here a x by out = view_of_passes here a x (memory here x) (memory (passed here a) x) by (memory_passes here a x by out)

view_of_all_passes : (here : Here) (a : Around) (x : ℕ) → IsPassed here a → have_byte (bytes_of_all a.lost) x ≡ false
    → view_of_all here x ≡ view_of_all (passed here a) x
view_of_all_passes here a x by out =
    view_of_passes here a x (reached here x) (reached (passed here a) x) by
    (reached_same here.beside (memory here) (memory (passed here a)) x (memory_passes here a x by out))

pub out_of : (x y : Bool) → y ≡ true → (x ≡ true → y ≡ false) → x ≡ false
out_of true y is apart = absurd (false≢true (sym (apart refl) ∙ is))
out_of false y is apart = refl

unseen : (here : Here) (a : Around) (e : Effect) → IsPassed here a → IsClear a.lost (footprint_of (Some e)) → IsUnseen a.lost (view_of_all here) (view_of_all (passed here a)) e
unseen here a e by clear = record {
  same = λ x is. view_of_all_passes here a x by (out_of (have_byte (bytes_of_all a.lost) x) (have_byte (read_by e) x) is (clear.unread x));
  unread = clear.unread;
  unwritten = clear.unwritten;
}

outcome_passes : (here : Here) (a : Around) (t : ℕ) (e : Effect) → IsPassed here a → a.file t ≡ here.file t → IsFine e → IsClear a.lost (footprint_of (Some e))
    → outcome_of (passed here a) t e ≡ lost_outcome a.lost (outcome_of here t e)
outcome_passes here a t e by same fine clear =
    ap (λ (f : Saved). outcome (view_of_all (passed here a)) f.file f.pc (lost_after a.lost here.reserved) e) same
    ∙ outcome_same a.lost (view_of_all here) (view_of_all (passed here a)) (here.file t).file (here.file t).pc here.reserved e fine (unseen here a e by clear)

exec_done_passes : (here : Here) (a : Around) (o : Option ℕ) → RunsAs here a o → IsPassed here a → is_plain_exec_by here o ≡ true → IsClear a.lost (footprint_exec here o)
    → plain_exec (passed here a) o ≡ with_lost a.lost (plain_exec here o)
exec_done_passes here a None same by plain clear = refl
exec_done_passes here a (Some t) same by plain clear =
    let is = plain_parts (next_fault here t) (next_effect here t) plain in
    let fine = fine_effect here t is.effect is.is is.none in
    let there = effect_passes here a t (same t refl) ∙ is.is in
    let clear_of = subst (λ o. IsClear a.lost (footprint_of o)) is.is clear in
    ap (plain_effect (passed here a) t) there
    ∙ ap (plain_outcome t) (outcome_passes here a t is.effect by (same t refl) fine clear_of)
    ∙ ap (λ o. with_lost a.lost (plain_effect here t o)) (sym is.is)

drain_done_passes : (ws : List Write) (r : Option ℕ) (waiting : List Store) → plain_drain (lost_after ws r) waiting ≡ with_lost ws (plain_drain r waiting)
drain_done_passes ws r [] = refl
drain_done_passes ws r (w ∷ rest) = refl

pub done_passes : (c : Choice) (here : Here) (a : Around) → IsPassed here a → is_plain c here ≡ true → IsClear a.lost (footprint c here)
    → plain_done c (passed here a) ≡ with_lost a.lost (plain_done c here)
done_passes asked.Exec here a by plain clear = exec_done_passes here a (runs here) by.file by plain clear
done_passes asked.Drain here a by plain clear =
    ap (plain_drain (lost_after a.lost here.reserved)) by.waiting ∙ drain_done_passes a.lost here.reserved (waiting_here here)
done_passes c here a by plain clear = absurd (false≢true plain)

-- and that is all that it does
by_no_call : (here : Here) (t : ℕ) (e : Effect) (b : Bool) → b ≡ false → cond b (by_call here (called_here here t)) (by_outcome here t (outcome_of here t e)) ≡ as_done here.kernel (plain_outcome t (outcome_of here t e))
by_no_call here t e b is = rw is refl

exec_is_plain : (here : Here) (o : Option ℕ) → is_plain_exec_by here o ≡ true → done_exec_by here o ≡ as_done here.kernel (plain_exec here o)
exec_is_plain here None plain = refl
exec_is_plain here (Some t) plain =
    let is = plain_parts (next_fault here t) (next_effect here t) plain in
    ap (λ f. by_effect here t f (next_effect here t)) is.none
    ∙ ap (by_effect here t None) is.is
    ∙ by_no_call here t is.effect (is_call is.effect) is.no_call
    ∙ ap (λ o. as_done here.kernel (plain_effect here t o)) (sym is.is)

drain_is_plain : (here : Here) (ws : List Store) → done_drain_of here ws ≡ as_done here.kernel (plain_drain here.reserved ws)
drain_is_plain here [] = refl
drain_is_plain here (w ∷ ws) = refl

pub done_is_plain : (c : Choice) (here : Here) → is_plain c here ≡ true → done_of c here ≡ as_done here.kernel (plain_done c here)
done_is_plain asked.Exec here plain = exec_is_plain here (runs here) plain
done_is_plain asked.Drain here plain = drain_is_plain here (waiting_here here)
done_is_plain c here plain = absurd (false≢true plain)

-- what enters memory is among what its access writes
abbrev pub EntersWithin : PlainDone → Footprint → Type 0
EntersWithin x p = (a : ℕ) → have_byte (bytes_of_all x.entered) a ≡ true → have_byte p.writes a ≡ true

exec_enters : (here : Here) (o : Option ℕ) → is_plain_exec_by here o ≡ true → EntersWithin (plain_exec here o) (footprint_exec here o)
exec_enters here None plain = λ a is. is
exec_enters here (Some t) plain =
    let is = plain_parts (next_fault here t) (next_effect here t) plain in
    let fine = fine_effect here t is.effect is.is is.none in
    subst (λ o. EntersWithin (plain_effect here t o) (footprint_of o)) (sym is.is) (entered_within (view_of_all here) (here.file t).file (here.file t).pc here.reserved is.effect fine)

drain_enters : (r : Option ℕ) (ws : List Store) → EntersWithin (plain_drain r ws) (footprint_drain ws)
drain_enters r [] = λ a is. is
drain_enters r (w ∷ ws) = λ a is. is

pub done_enters : (c : Choice) (here : Here) → is_plain c here ≡ true → EntersWithin (plain_done c here) (footprint c here)
done_enters asked.Exec here plain = exec_enters here (runs here) plain
done_enters asked.Drain here plain = drain_enters here.reserved (waiting_here here)
done_enters c here plain = absurd (false≢true plain)
