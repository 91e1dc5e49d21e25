-- The harts after an event: the own one is as the event left it, and the others as it leaves those beside it.
use Rattle.process.proofs.Common.{◌≡◌, ◌≢◌, ℕ, ◌+◌, ◌<◌, List, [], ◌∷◌, ◌++◌, drop, get_or, length, refl, sym, ap, ◌∙◌, subst, arith, Bool, true, false, cond, eqb, ◌||◌, Option, Some, None, slice_get, eq-eqb, set, inl, inr, zero, suc, option_map, option_map_or, ne_eqb, cases_eq, same_Some, slice_get-get_or, Done, HartState, IsTied, Parts, Saved, Setting, credit_of, file_on, hart_at, hart_in, id_of, id_on, running_on, thread, file_among, lost_after, Plain, apply, here_in_plain, is_about, restarts_at, with_hart, awaits_after, awaits_of_own, requests_after, restart_after, without_hart}

-- a hart in the list is the plain machine's
pub hart_there : (s : Setting) (p : Plain) (m : Parts) (h : ℕ) (x : HartState) → IsTied s p m → h < s.limits.harts → slice_get m.harts.items h ≡ Some x → x ≡ hart_at s p h (credit_of m.harts.items h)
hart_there s p m h x tied lt at = same_Some x (hart_at s p h (credit_of m.harts.items h)) (sym at ∙ tied.harts h lt)

pub hart_tied : (s : Setting) (p : Plain) (m : Parts) (h : ℕ) (x : HartState) → IsTied s p m → h < s.limits.harts → x ≡ get_or m.harts.items h x → x ≡ hart_at s p h (credit_of m.harts.items h)
hart_tied s p m h x tied lt value =
    let in_list : h < length m.harts.items = omega (arith, tied.all_harts, lt) in
    hart_there s p m h x tied lt (slice_get-get_or m.harts.items h x in_list ∙ ap Some (sym value))

-- what holds of one hart, and of each other, holds of all
pub of_each : (P : ℕ → Type 0) (h k : ℕ) → P h → (k ≢ h → P k) → P k
of_each P h k own other = elim (cases_eq k h) [ inl same ↦ subst P (sym same) own | inr ne ↦ other ne ]

-- the own hart
abbrev pub own_after : Setting → Plain → ℕ → Done → ℕ → HartState
own_after s p h d credit = hart_in (record (here_in_plain s p h) {
  file = λ t. file_among d.files t (p.file t);
  waiting = λ _. drop d.drained (p.waiting h ++ d.executed);
  reserved = d.reserved;
  requests = cond d.took 0 (cond (is_about h d.barrier) (with_hart h (p.requests h)) (p.requests h));
  restart = cond d.took false (restarts_at h d.barrier || p.restart h);
  awaits = awaits_of_own d (p.awaits h);
  kernel = d.kernel;
}) (cond d.started 0 (p.ran h) + d.instructions) (p.events h + 1) credit

pub hart_own : (s : Setting) (p : Plain) (h : ℕ) (d : Done) (credit : ℕ) → hart_at s (apply h d p) h credit ≡ own_after s p h d credit
hart_own s p h d credit = rw (eq-eqb h h refl) refl

-- another hart
-- what happened to the ids of threads that run on other harts: nothing
abbrev pub KeepsIds : Plain → ℕ → Done → Type 0
KeepsIds p h d = (k u : ℕ) → k ≢ h → running_on k p.kernel.threads ≡ Some u → id_of u d.kernel.ids ≡ id_of u p.kernel.ids

-- they stay where they are, and keep their files
pub record KeepsOthers (p : Plain) (h : ℕ) (d : Done) : Type 0 where
  pub others : (k : ℕ) → k ≢ h → running_on k d.kernel.threads ≡ running_on k p.kernel.threads
  pub apart : (k u : ℕ) (f : Saved) → k ≢ h → running_on k p.kernel.threads ≡ Some u → file_among d.files u f ≡ f

-- it lost what was written, it has a request where the event began a barrier that is about it, and where the event took requests its
-- own barrier waits for that hart no longer
abbrev pub beside : ℕ → ℕ → Done → HartState → HartState
beside k h d x = record x {
  reserved = lost_after d.entered x.reserved;
  requests = requests_after k h d x.requests;
  restart = restart_after k h d x.restart;
  waits = awaits_after k h d x.waits;
}

-- the same, but for the hart of the event
abbrev pub beside_unless : Bool → ℕ → ℕ → Done → HartState → HartState
beside_unless is_own k h d x = cond is_own x (beside k h d x)

pub hart_other : (s : Setting) (p : Plain) (h k : ℕ) (d : Done) (credit : ℕ) → k ≢ h → KeepsOthers p h d → KeepsIds p h d → hart_at s (apply h d p) k credit ≡ beside k h d (hart_at s p k credit)
hart_other s p h k d credit ne fit ids = rw (ne_eqb h k (λ e. ne (sym e)), fit.others k ne) (go (running_on k p.kernel.threads) refl)
  where
    state : Saved → Option ℕ → ℕ → HartState
    state f o cid = record {
      file = f.file;
      pc = f.pc;
      buffer = p.waiting k;
      running = option_map thread o;
      requests = cond (is_about k d.barrier) (with_hart h (p.requests k)) (p.requests k);
      restart = restarts_at k d.barrier || p.restart k;
      waits = cond d.took (option_map (without_hart h) (p.awaits k)) (p.awaits k);
      reserved = lost_after d.entered (p.reserved k);
      ran = p.ran k;
      credit = credit;
      events = p.events k;
      cid = cid;
    }

    go : (o : Option ℕ) → running_on k p.kernel.threads ≡ o
        → state (file_on (here_in_plain s (apply h d p) k) o) o (id_on (here_in_plain s (apply h d p) k) o) ≡ state (file_on (here_in_plain s p k) o) o (id_on (here_in_plain s p k) o)
    go None at = refl
    go (Some u) at = let same = fit.apart k u (p.file u) ne at in let its = ids k u ne at in rw (same, its) refl

pub get_set_same : (xs : List HartState) (i : ℕ) (x y : HartState) → slice_get xs i ≡ Some x → slice_get (set xs i y) i ≡ Some y
get_set_same [] i x y at = cc
get_set_same (z ∷ xs) zero x y at = refl
get_set_same (z ∷ xs) (suc i) x y at = get_set_same xs i x y at

pub get_set_other : (xs : List HartState) (i j : ℕ) (y : HartState) → j ≢ i → slice_get (set xs i y) j ≡ slice_get xs j
get_set_other [] i j y ne = refl
get_set_other (z ∷ xs) zero zero y ne = absurd (ne refl)
get_set_other (z ∷ xs) zero (suc j) y ne = refl
get_set_other (z ∷ xs) (suc i) zero y ne = refl
get_set_other (z ∷ xs) (suc i) (suc j) y ne = get_set_other xs i j y (λ e. ne (ap suc e))

-- the harts are those of the plain machine
abbrev pub AreHarts : Setting → Plain → List HartState → Type 0
AreHarts s p xs = (k : ℕ) → k < s.limits.harts → slice_get xs k ≡ Some (hart_at s p k (credit_of xs k))

-- credits stay where the own hart keeps its
credit_set : (xs : List HartState) (h k : ℕ) (y : HartState) → y.credit ≡ credit_of xs h → credit_of (set xs h y) k ≡ credit_of xs k
credit_set [] h k y same = refl
credit_set (z ∷ xs) zero zero y same = same
credit_set (z ∷ xs) zero (suc k) y same = refl
credit_set (z ∷ xs) (suc h) zero y same = refl
credit_set (z ∷ xs) (suc h) (suc k) y same = credit_set xs h k y same

credit_beside : (b : Bool) (k h : ℕ) (d : Done) (o : Option HartState) → option_map_or (λ (x : HartState). x.credit) (option_map (beside_unless b k h d) o) 0 ≡ option_map_or (λ (x : HartState). x.credit) o 0
credit_beside b k h d None = refl
credit_beside true k h d (Some x) = refl
credit_beside false k h d (Some x) = refl

pub credits_kept : (h : ℕ) (d : Done) (xs ys : List HartState) (y : HartState) → y.credit ≡ credit_of xs h →
    ((k : ℕ) → slice_get ys k ≡ option_map (beside_unless (eqb k h) k h d) (slice_get (set xs h y) k)) → (k : ℕ) → credit_of ys k ≡ credit_of xs k
credits_kept h d xs ys y same lose k =
    ap (λ o. option_map_or (λ (x : HartState). x.credit) o 0) (lose k)
    ∙ (credit_beside (eqb k h) k h d (slice_get (set xs h y) k) ∙ credit_set xs h k y same)

-- all harts
pub harts_tied : (s : Setting) (p : Plain) (h : ℕ) (d : Done) (xs ys : List HartState) (y : HartState) → AreHarts s p xs → h < s.limits.harts → KeepsOthers p h d → KeepsIds p h d → y ≡ own_after s p h d (credit_of xs h) →
    ((k : ℕ) → slice_get ys k ≡ option_map (beside_unless (eqb k h) k h d) (slice_get (set xs h y) k)) → AreHarts s (apply h d p) ys
harts_tied s p h d xs ys y tied lt fit ids own lose k below =
    of_each (λ j. slice_get ys j ≡ Some (hart_at s (apply h d p) j (credit_of xs j))) h k
    (lose h ∙ own_stays ∙ ap Some (own ∙ sym (hart_own s p h d (credit_of xs h))))
    (λ ne. lose k ∙ other_is ne ∙ ap Some (sym (hart_other s p h k d (credit_of xs k) ne fit ids))) ∙ ap (λ n. Some (hart_at s (apply h d p) k n)) (sym (credits_kept h d xs ys y (ap (λ (x : HartState). x.credit) own) lose k))
  where
    own_stays : option_map (beside_unless (eqb h h) h h d) (slice_get (set xs h y) h) ≡ Some y
    own_stays = rw (eq-eqb h h refl, get_set_same xs h (hart_at s p h (credit_of xs h)) y (tied h lt)) refl

    other_is : k ≢ h → option_map (beside_unless (eqb k h) k h d) (slice_get (set xs h y) k) ≡ Some (beside k h d (hart_at s p k (credit_of xs k)))
    other_is ne =
        ap (λ b. option_map (beside_unless b k h d) (slice_get (set xs h y) k)) (ne_eqb k h ne)
        ∙ ap (option_map (beside k h d)) (get_set_other xs h k y ne ∙ tied k below)
