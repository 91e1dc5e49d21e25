-- What one event does to the plain state is what it does to what is read by looking back. No kind of event occurs here.
use Rattle.block_model.proofs.Common.{◌≡◌, ℕ, ◌+◌, ◌≤◌, List, [], ◌∷◌, ◌++◌, length, drop, refl, sym, ap, arith, Bool, true, false, cond, eqb, length-append, length-drop, zero, suc, Event, History, Plain, Setting, Store, apply, drains, eqb-true, stores, waiting}
use Rattle.std.proofs.Math.Path.{fun_ext}
pub use Rattle.block_model.specs.PlainOf.{plain_of}

-- so many were executed that at most so many entered
abbrev pub IsCounted : History → Type 0
IsCounted before = (h : ℕ) → drains h before ≤ length (stores h before)

pub drop_more : (n m : ℕ) (xs ys : List Store) → n ≤ length xs → drop (n + m) (xs ++ ys) ≡ drop m (drop n xs ++ ys)
drop_more zero m xs ys few = let e : zero + m ≡ m = omega arith in rw e refl
drop_more (suc n) m [] ys few = absurd (omega arith)
drop_more (suc n) m (x ∷ xs) ys few = let e : suc n + m ≡ suc (n + m) = omega arith in rw e (drop_more n m xs ys (omega arith))

-- one event does to the plain state what it does to what is read
pub applied : (s : Setting) (before : History) (e : Event) → IsCounted before → apply e.entry.hart.0 e.done (plain_of s before) ≡ plain_of s (e ∷ before)
applied s before e few = cong (fun_ext (λ k. waits k (eqb e.entry.hart.0 k)))
  where
    waits : (k : ℕ) (b : Bool) → cond b (drop e.done.drained (waiting k before ++ e.done.executed)) (waiting k before)
        ≡ drop (cond b (drains k before + e.done.drained) (drains k before)) (cond b (stores k before ++ e.done.executed) (stores k before))
    waits k true = sym (drop_more (drains k before) e.done.drained (stores k before) e.done.executed (few k))
    waits k false = refl

    cong : {ws : ℕ → List Store} → (apply e.entry.hart.0 e.done (plain_of s before)).waiting ≡ ws → apply e.entry.hart.0 e.done (plain_of s before) ≡ record (plain_of s (e ∷ before)) { waiting = ws }
    cong q = ap (λ (ws : ℕ → List Store). let m : Plain = record (plain_of s (e ∷ before)) { waiting = ws } in m) q

pub counted_next : (before : History) (e : Event) → IsCounted before → e.done.drained ≤ length (waiting e.entry.hart.0 before) → IsCounted (e ∷ before)
counted_next before e few small h = go (eqb e.entry.hart.0 h) refl
  where
    at : e.entry.hart.0 ≡ h → e.done.drained ≤ length (waiting h before)
    at same = rw (← same) small

    go : (b : Bool) → eqb e.entry.hart.0 h ≡ b → cond b (drains h before + e.done.drained) (drains h before) ≤ length (cond b (stores h before ++ e.done.executed) (stores h before))
    go true is = let one = at (eqb-true e.entry.hart.0 h is) in omega (arith, length-append (stores h before) e.done.executed, length-drop (drains h before) (stores h before), few h)
    go false is = few h
