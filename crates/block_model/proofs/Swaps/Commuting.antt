-- Two plain events of different harts, of which neither touches the other's bytes, may be made in either order.
use Rattle.block_model.proofs.Common.{◌≡◌, ◌≢◌, ℕ, ◌+◌, List, ◌++◌, drop, refl, sym, ap, ◌∙◌, Bool, true, false, cond, eqb, ◌&&◌, ◌||◌, Option, Some, inl, inr, ◌⊎◌, suc, Here, Kernel, Plain, Saved, Setting, Store, apply, awaits_after, eqb-true, file_among, here_in_plain, lost_after, ne_eqb, requests_after, restart_after, runs, written}
use Rattle.block_model.proofs.Swaps.PlainDone.{PlainDone, as_done}
use Rattle.block_model.proofs.Swaps.PlainEvents.{Around, IsPassed, with_lost, passed}
use Rattle.block_model.proofs.Swaps.Untouched.{lost_swaps, untouched}

-- ONE

-- the machine after a plain event
abbrev pub after : ℕ → PlainDone → Plain → Plain
after h x m = apply h (as_done m.kernel x) m

-- it takes no request and begins no barrier
requests_same : (k h : ℕ) (c : Kernel) (x : PlainDone) (set : ℕ) → requests_after k h (as_done c x) set ≡ set
requests_same k h c x set = elim (eqb h k) as (λ b. cond (b && false) 0 (cond false set set) ≡ set) [ true ↦ refl | false ↦ refl ]

restart_same : (k h : ℕ) (c : Kernel) (x : PlainDone) (r : Bool) → restart_after k h (as_done c x) r ≡ r
restart_same k h c x r = elim (eqb h k) as (λ b. cond (b && false) false (false || r) ≡ r) [ true ↦ refl | false ↦ refl ]

awaits_same : (k h : ℕ) (c : Kernel) (x : PlainDone) (w : Option ℕ) → awaits_after k h (as_done c x) w ≡ w
awaits_same k h c x w = elim (eqb h k) as (λ b. cond b w w ≡ w) [ true ↦ refl | false ↦ refl ]

-- what is around another hart then
abbrev pub around : ℕ → ℕ → PlainDone → Plain → Around
around h k x m = record {
  file = (after h x m).file;
  byte = (after h x m).byte;
  waiting = (after h x m).waiting;
  lost = x.entered;
  requests = (after h x m).requests k;
  restart = (after h x m).restart k;
  awaits = (after h x m).awaits k;
}

pub here_after : (s : Setting) (h k : ℕ) (x : PlainDone) (m : Plain) → h ≢ k → here_in_plain s (after h x m) k ≡ passed (here_in_plain s m k) (around h k x m)
here_after s h k x m ne =
    ap (λ b. let here : Here = record (passed (here_in_plain s m k) (around h k x m)) { reserved = cond b x.reserved (lost_after x.entered (m.reserved k)) } in here) (ne_eqb h k ne)

-- it sets no file of the thread that runs on another hart
abbrev pub SetsNone : PlainDone → Here → Type 0
SetsNone x here = (t : ℕ) (f : Saved) → runs here ≡ Some t → file_among x.files t f ≡ f

pub is_passed : (s : Setting) (h k : ℕ) (x : PlainDone) (m : Plain) → h ≢ k → SetsNone x (here_in_plain s m k) → IsPassed (here_in_plain s m k) (around h k x m)
is_passed s h k x m ne apart = record {
  file = λ t at. apart t (m.file t) at;
  byte = λ a out. untouched x.entered a (m.byte a) out;
  waiting = rw (ne_eqb h k ne) refl;
  awaits = awaits_same k h m.kernel x (m.awaits k);
}

-- TWO

-- of each thread at most one sets the file, and of each byte at most one writes it
pub record AreBeside (x y : PlainDone) : Type 0 where
  pub files : (t : ℕ) → ((f : Saved) → file_among x.files t f ≡ f) ⊎ ((f : Saved) → file_among y.files t f ≡ f)
  pub bytes : (a : ℕ) → ((b : ℕ) → written x.entered a b ≡ b) ⊎ ((b : ℕ) → written y.entered a b ≡ b)

either_first : {A : Type 0} (f g : A → A) (x : A) → ((y : A) → f y ≡ y) ⊎ ((y : A) → g y ≡ y) → g (f x) ≡ f (g x)
either_first f g x (inl p) = ap g (p x) ∙ sym (p (g x))
either_first f g x (inr q) = q (f x) ∙ ap f (sym (q x))

-- of a hart's own: each event changes what its hart has
pub own_swaps : {A : Type 0} (h k j : ℕ) (f g : A → A) (x : A) → h ≢ k → cond (eqb k j) (g (cond (eqb h j) (f x) x)) (cond (eqb h j) (f x) x) ≡ cond (eqb h j) (f (cond (eqb k j) (g x) x)) (cond (eqb k j) (g x) x)
own_swaps {A = A} h k j f g x ne = go (eqb h j) (eqb k j) refl refl
  where
    go : (b c : Bool) → eqb h j ≡ b → eqb k j ≡ c → cond c (g (cond b (f x) x)) (cond b (f x) x) ≡ cond b (f (cond c (g x) x)) (cond c (g x) x)
    go true true p q = absurd (ne (eqb-true h j p ∙ sym (eqb-true k j q)))
    go b c p q = refl

reserved_swaps : (h k j : ℕ) (x y : PlainDone) (r : Option ℕ) → h ≢ k
    → cond (eqb k j) (lost_after x.entered y.reserved) (lost_after y.entered (cond (eqb h j) x.reserved (lost_after x.entered r)))
    ≡ cond (eqb h j) (lost_after y.entered x.reserved) (lost_after x.entered (cond (eqb k j) y.reserved (lost_after y.entered r)))
reserved_swaps h k j x y r ne = go (eqb h j) (eqb k j) refl refl
  where
    go : (b c : Bool) → eqb h j ≡ b → eqb k j ≡ c
        → cond c (lost_after x.entered y.reserved) (lost_after y.entered (cond b x.reserved (lost_after x.entered r)))
        ≡ cond b (lost_after y.entered x.reserved) (lost_after x.entered (cond c y.reserved (lost_after y.entered r)))
    go true true p q = absurd (ne (eqb-true h j p ∙ sym (eqb-true k j q)))
    go false false p q = lost_swaps x.entered y.entered r
    go b c p q = refl

pub commutes : (h k : ℕ) (x y : PlainDone) (m : Plain) → h ≢ k → AreBeside x y
    → after k (with_lost x.entered y) (after h x m) ≡ after h (with_lost y.entered x) (after k y m)
commutes h k x y m ne beside = λ i. record {
  waiting = λ j. own_swaps h k j (λ (ws : List Store). drop x.drained (ws ++ x.executed)) (λ (ws : List Store). drop y.drained (ws ++ y.executed)) (m.waiting j) ne i;
  reserved = λ j. reserved_swaps h k j x y (m.reserved j) ne i;
  requests = λ j. twice (requests_after j k (as_done m.kernel y)) (requests_after j h (as_done m.kernel x)) (m.requests j) (requests_same j k m.kernel y) (requests_same j h m.kernel x) i;
  restart = λ j. twice (restart_after j k (as_done m.kernel y)) (restart_after j h (as_done m.kernel x)) (m.restart j) (restart_same j k m.kernel y) (restart_same j h m.kernel x) i;
  awaits = λ j. twice (awaits_after j k (as_done m.kernel y)) (awaits_after j h (as_done m.kernel x)) (m.awaits j) (awaits_same j k m.kernel y) (awaits_same j h m.kernel x) i;
  events = λ j. own_swaps h k j (λ n. n + 1) (λ n. n + 1) (m.events j) ne i;
  ran = λ j. own_swaps h k j (λ n. n + x.instructions) (λ n. n + y.instructions) (m.ran j) ne i;
  file = λ t. either_first (file_among x.files t) (file_among y.files t) (m.file t) (beside.files t) i;
  byte = λ a. either_first (written x.entered a) (written y.entered a) (m.byte a) (beside.bytes a) i;
  kernel = m.kernel;
  made = suc (suc m.made);
  ended = m.ended;
}
  where
    twice : {A : Type 0} (f g : A → A) (x : A) → ((y : A) → f y ≡ y) → ((y : A) → g y ≡ y) → f (g x) ≡ g (f x)
    twice f g x p q = p (g x) ∙ ap g (sym (p x))
