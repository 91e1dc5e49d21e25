-- What an instruction does is the same where what it reads and writes wasn't written by others meanwhile; but its hart's reservation
-- is lost, or not, as it would be after it.
use Rattle.block_model.proofs.Common.{◌≡◌, ℕ, ◌+◌, ◌≤◌, ◌%◌, List, [], ◌∷◌, refl, sym, ap, ◌∙◌, arith, Bool, true, false, cond, ◌||◌, eqb, leb, ltb, Option, Some, None, unwrap_or, inl, inr, ◌⊎◌, Bytes, Effect, Regs, Store, Write, all_stored, and_parts, bytes, bytes_of_all, cases_eq, cond_both, eqb-true, false≢true, fault_in, has_byte, have_byte, is_reserved, le-leb, leb-true, lost_after, lt-ltb, ltb-true, ne_eqb, or_cases, or_parts, outcome, read_by, unless_allowed}
use Rattle.mach_types.specs.Bytes.{IsAccessSize}
use Rattle.rv_inst.specs.Execution.{Outcome, is_allowed, reserved_at, unless_aligned, word_seen}
use Rattle.rv_inst.specs.Class.{reserving_read, conditional_write}
use Rattle.rv_inst.specs.Sizes.{HasAccessSizes}
use Rattle.rv_inst.specs.declared.effects.Effect.TheVariants as effect
use Rattle.rv_inst.specs.Accesses.{written_by}
use Rattle.block_model.proofs.Swaps.Untouched.{lost_apart, lost_none, lost_or_kept, word_same}

-- the bytes of an access that is aligned are among the aligned 8
pub within_eight : (at size : ℕ) → IsAccessSize size → at % size ≡ 0 → (reserved_at at ≤ at) × (at + size ≤ reserved_at at + 8)
within_eight at size (inl is) al = rw is (omega arith, omega arith)
within_eight at size (inr (inl is)) al = let e : at % 2 ≡ 0 = rw (← is) al in rw is (omega arith, omega arith)
within_eight at size (inr (inr (inl is))) al = let e : at % 4 ≡ 0 = rw (← is) al in rw is (omega arith, omega arith)
within_eight at size (inr (inr (inr is))) al = let e : at % 8 ≡ 0 = rw (← is) al in rw is (omega arith, omega arith)

-- an access that must be aligned, and makes no fault, is
aligned_if : (at size : ℕ) (fault : Option ℕ) → unless_aligned at size fault ≡ None → at % size ≡ 0
aligned_if at size fault none = go (eqb (at % size) 0) refl none
  where
    go : (b : Bool) → eqb (at % size) 0 ≡ b → cond b fault (Some 7) ≡ None → at % size ≡ 0
    go true is none = eqb-true (at % size) 0 is
    go false is none = absurd cc

-- an instruction that makes no fault: its accesses are sized, and aligned where they must be
pub record IsFine (e : Effect) : Type 0 where
  pub sized : HasAccessSizes e
  pub byte : ℕ → Option ℕ
  pub can_write : ℕ → Bool
  pub none : fault_in byte can_write e ≡ None

-- what is reserved for an SC stays so, where none of those bytes is written
reserved_same : (ws : List Write) (at : ℕ) (r : Option ℕ) → ((a : ℕ) → have_byte (bytes_of_all ws) a ≡ true → has_byte (bytes (reserved_at at) 8) a ≡ false) → is_reserved (lost_after ws r) at ≡ is_reserved r at
reserved_same ws at None apart = ap (λ r. is_reserved r at) (lost_none ws)
reserved_same ws at (Some r) apart = go (cases_eq r (reserved_at at)) (lost_or_kept ws r)
  where
    go : (r ≡ reserved_at at) ⊎ (r ≡ reserved_at at → ⊥) → (lost_after ws (Some r) ≡ None) ⊎ (lost_after ws (Some r) ≡ Some r) → is_reserved (lost_after ws (Some r)) at ≡ eqb r (reserved_at at)
    go (inl same) lost = ap (λ r. is_reserved r at) (lost_apart ws r (rw same apart))
    go (inr other) (inl lost) = ap (λ r. is_reserved r at) lost ∙ sym (ne_eqb r (reserved_at at) other)
    go (inr other) (inr kept) = ap (λ r. is_reserved r at) kept

-- with another reservation
abbrev pub as_reserved : Outcome → Option ℕ → Outcome
as_reserved o r = record o { reserved = r }

-- others wrote this meanwhile
abbrev pub lost_outcome : List Write → Outcome → Outcome
lost_outcome ws o = as_reserved o (lost_after ws o.reserved)

-- what is seen is the same where it is read; nothing that is read or written was written
pub record IsUnseen (ws : List Write) (f g : ℕ → Option ℕ) (e : Effect) : Type 0 where
  pub same : (a : ℕ) → have_byte (read_by e) a ≡ true → f a ≡ g a
  pub unread : (a : ℕ) → have_byte (bytes_of_all ws) a ≡ true → have_byte (read_by e) a ≡ false
  pub unwritten : (a : ℕ) → have_byte (bytes_of_all ws) a ≡ true → have_byte (written_by e) a ≡ false

read_same : (f g : ℕ → Option ℕ) (x : Bytes) (at size : ℕ) → x.at ≤ at → at + size ≤ x.at + x.count → ((a : ℕ) → (has_byte x a || false) ≡ true → f a ≡ g a)
    → word_seen f at size ≡ word_seen g at size
read_same f g x at size from to same =
    ap (λ w. unwrap_or w 0) (word_same f g at size (λ a over under. same a (simp (le-leb x.at a (omega arith), lt-ltb a (x.at + x.count) (omega arith)))))

none_left : (ws : List Write) (b : Bool) (x y : Outcome) → x.reserved ≡ None → y.reserved ≡ None → cond b x y ≡ lost_outcome ws (cond b x y)
none_left ws true x y p q = ap (as_reserved x) (p ∙ sym (lost_none ws) ∙ ap (lost_after ws) (sym p))
none_left ws false x y p q = ap (as_reserved y) (q ∙ sym (lost_none ws) ∙ ap (lost_after ws) (sym q))

pub outcome_same : (ws : List Write) (f g : ℕ → Option ℕ) (regs : Regs) (pc : ℕ) (r : Option ℕ) (e : Effect) → IsFine e → IsUnseen ws f g e
    → outcome g regs pc (lost_after ws r) e ≡ lost_outcome ws (outcome f regs pc r e)
outcome_same ws f g regs pc r (effect.Load at size is_signed rd) fine un =
    rw (← read_same f g (bytes at size) at size (omega arith) (omega arith) un.same) refl
outcome_same ws f g regs pc r (effect.Amo op at size value rd) fine un =
    rw (← read_same f g (bytes at size) at size (omega arith) (omega arith) un.same) refl
outcome_same ws f g regs pc r (effect.Lr at size rd) fine un =
    let al = aligned_if at size (unless_allowed (is_allowed fine.byte fine.can_write (reserving_read at size))) fine.none in
    let eight = within_eight at size fine.sized al in
    let kept = lost_apart ws (reserved_at at) (λ a is. (or_parts (has_byte (bytes (reserved_at at) 8) a) false (un.unread a is)).0) in
    rw (← read_same f g (bytes (reserved_at at) 8) at size eight.0 eight.1 un.same, kept) refl
outcome_same ws f g regs pc r (effect.Sc at size value rd) fine un =
    let same = reserved_same ws at r (λ a is. (or_parts (has_byte (bytes (reserved_at at) 8) a) false (un.unwritten a is)).0) in
    rw same (none_left ws (is_reserved r at) _ _ refl refl)
outcome_same ws f g regs pc r e fine un = refl

-- what enters memory at once is among what the instruction writes
wider : (x y : Bytes) (a : ℕ) → y.at ≤ x.at → x.at + x.count ≤ y.at + y.count → (has_byte x a || false) ≡ true → (has_byte y a || false) ≡ true
wider x y a from to is = go (or_cases (has_byte x a) false is)
  where
    go : (has_byte x a ≡ true) ⊎ (false ≡ true) → (has_byte y a || false) ≡ true
    go (inr bad) = absurd (false≢true bad)
    go (inl in_x) =
        let p = and_parts (leb x.at a) (ltb a (x.at + x.count)) in_x in
        let over = leb-true x.at a p.0 in
        let under = ltb-true a (x.at + x.count) p.1 in
        simp (le-leb y.at a (omega arith), lt-ltb a (y.at + y.count) (omega arith))

abbrev AreWritten : List Bytes → List Store → Type 0
AreWritten xs entered = (a : ℕ) → have_byte (bytes_of_all (all_stored entered)) a ≡ true → have_byte xs a ≡ true

pub entered_within : (f : ℕ → Option ℕ) (regs : Regs) (pc : ℕ) (r : Option ℕ) (e : Effect) → IsFine e → AreWritten (written_by e) (outcome f regs pc r e).entered
entered_within f regs pc r (effect.Amo op at size value rd) fine = λ a is. is
entered_within f regs pc r (effect.Sc at size value rd) fine =
    let al = aligned_if at size (unless_allowed (is_allowed fine.byte fine.can_write (conditional_write at size))) fine.none in
    let eight = within_eight at size fine.sized al in
    cond_both (is_reserved r at) _ _ (λ (o : Outcome). AreWritten (bytes (reserved_at at) 8 ∷ []) o.entered)
    (λ same a is. wider (bytes at size) (bytes (reserved_at at) 8) a eight.0 eight.1 is) (λ other a is. absurd (false≢true is))
entered_within f regs pc r e fine = λ a is. absurd (false≢true is)
