-- The event done: whose barrier returns, and the parts after it.
use Rattle.process.proofs.Common.{◌≡◌, ◌≢◌, ℕ, append-nil, refl, sym, ap, ◌∙◌, eq-eqb, Option, Some, None, option_map, ne_eqb, Tid, HartState, Here, Plain, Setting, Why, counted, file_among, hart_at, hart_in, here_in_plain, refusal_of, runs, thread, Idle, done_done_by, refusal_done_by, refusal_return, gone_on, add-zero}
use Rattle.mach_types.specs.declared.events.Choice.TheVariants as asked
use Rattle.process.proofs.HartStates.{own_after}

-- why none does, as the hart tells it
abbrev refused_as : Option Tid → Option ℕ → Option Why
refused_as None waits = Some Idle
refused_as (Some t) waits = refusal_return waits

pub refusal_as : (here : Here) (x : HartState) (n k credit : ℕ) → x ≡ hart_in here n k credit → refusal_of asked.Done here ≡ refused_as x.running x.waits
refusal_as here x n k credit own = by_thread (runs here) ∙ sym (ap (λ (y : HartState). refused_as y.running y.waits) own)
  where
    by_thread : (r : Option ℕ) → refusal_done_by here r ≡ refused_as (option_map thread r) here.awaits
    by_thread None = refl
    by_thread (Some t) = refl

pub refused : (here : Here) (x : HartState) (n k credit : ℕ) (running : Option Tid) (waits : Option ℕ) → x ≡ hart_in here n k credit → x.running ≡ running → x.waits ≡ waits
    → refusal_of asked.Done here ≡ refused_as running waits
refused here x n k credit running waits own one other = refusal_as here x n k credit own ∙ rw (one, other) refl

-- where it returns, a thread runs there
pub returner : (here : Here) → refusal_of asked.Done here ≡ None → (t : ℕ) × (runs here ≡ Some t)
returner here free = go (runs here) refl free
  where
    go : (o : Option ℕ) → runs here ≡ o → refusal_done_by here o ≡ None → (t : ℕ) × (runs here ≡ Some t)
    go None at e = cc
    go (Some t) at e = (t, at)

-- the own hart
pub returned_own : (credit : ℕ) (s : Setting) (p : Plain) (h t : ℕ) (x y : HartState) → x ≡ hart_at s p h credit → runs (here_in_plain s p h) ≡ Some t → y ≡ counted (gone_on x)
    → y ≡ own_after s p h (done_done_by (here_in_plain s p h) (Some t)) credit
returned_own credit s p h t x y at runs is = is ∙ rw (at, append-nil, add-zero (p.ran h), runs, eq-eqb t t refl) refl

-- it sets the file of no other thread
pub file_apart : (here : Here) (t u : ℕ) → u ≢ t → file_among (done_done_by here (Some t)).files u (here.file u) ≡ here.file u
file_apart here t u other = rw (ne_eqb t u (λ e. other (sym e))) refl
