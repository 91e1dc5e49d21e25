-- The parts of a process after an event of another process, which passed it by.
use Rattle.process.proofs.Common.{and_right, ◌≡◌, ℕ, List, [], ◌∷◌, map, refl, sym, ap, ◌∙◌, Bool, true, false, eqb, Option, Some, None, is_some, slice_get, option_map, zero, suc, eq-eqb, inl, inr, option_map_or, cases_eq, ne_eqb, Write, Barrier, Done, Plain, Setting, HartState, IsTied, Parts, asked_by, credit_of, hart_at, taken_aside, lost_by_all, aside, passed_by}
use Rattle.process.proofs.Events.{same_length, mapped_is}

-- each hart is as the event leaves it
abbrev pub ArePassed : ℕ → Bool → Option Barrier → List Write → List HartState → List HartState → Type 0
ArePassed h took barrier ws xs ys = (k : ℕ) → slice_get ys k ≡ option_map (passed_by k h took barrier ws) (slice_get xs k)

pub get_mapped : (f : HartState → HartState) (xs : List HartState) (k : ℕ) → slice_get (map f xs) k ≡ option_map f (slice_get xs k)
get_mapped f [] k = refl
get_mapped f (x ∷ xs) zero = refl
get_mapped f (x ∷ xs) (suc k) = get_mapped f xs k

-- one that lost what was written and was asked, and then heard that requests were taken, or not
heard_none : (k h : ℕ) (barrier : Option Barrier) (ws : List Write) (o : Option HartState)
    → option_map (asked_by k h barrier) (option_map (lost_by_all ws) o) ≡ option_map (passed_by k h false barrier ws) o
heard_none k h barrier ws None = refl
heard_none k h barrier ws (Some x) = rw (and_right (eqb h k) false refl) refl

heard_one : (k h : ℕ) (barrier : Option Barrier) (ws : List Write) (x : HartState)
    → taken_aside (eqb k h) h (asked_by k h barrier (lost_by_all ws x)) ≡ passed_by k h true barrier ws x
heard_one k h barrier ws x = elim (cases_eq k h) [
  | inl same ↦ rw (eq-eqb k h same, eq-eqb h k (sym same)) refl
  | inr ne ↦ rw (ne_eqb k h ne, ne_eqb h k (λ e. ne (sym e))) refl
]

heard_all : (k h : ℕ) (barrier : Option Barrier) (ws : List Write) (o : Option HartState)
    → option_map (taken_aside (eqb k h) h) (option_map (asked_by k h barrier) (option_map (lost_by_all ws) o))
    ≡ option_map (passed_by k h true barrier ws) o
heard_all k h barrier ws None = refl
heard_all k h barrier ws (Some x) = ap Some (heard_one k h barrier ws x)

pub passed_untaken : (h : ℕ) (barrier : Option Barrier) (ws : List Write) (xs lost ys : List HartState) → lost ≡ map (lost_by_all ws) xs
    → ((k : ℕ) → slice_get ys k ≡ option_map (asked_by k h barrier) (slice_get lost k)) → ArePassed h false barrier ws xs ys
passed_untaken h barrier ws xs lost ys is asked k =
    asked k
    ∙ ap (λ (zs : List HartState). option_map (asked_by k h barrier) (slice_get zs k)) is
    ∙ ap (option_map (asked_by k h barrier)) (get_mapped (lost_by_all ws) xs k)
    ∙ heard_none k h barrier ws (slice_get xs k)

pub passed_taken : (h : ℕ) (barrier : Option Barrier) (ws : List Write) (xs lost heard ys : List HartState) → lost ≡ map (lost_by_all ws) xs
    → ((k : ℕ) → slice_get heard k ≡ option_map (asked_by k h barrier) (slice_get lost k))
    → ((k : ℕ) → slice_get ys k ≡ option_map (taken_aside (eqb k h) h) (slice_get heard k)) → ArePassed h true barrier ws xs ys
passed_taken h barrier ws xs lost heard ys is asked took k =
    took k
    ∙ ap (option_map (taken_aside (eqb k h) h)) (asked k
    ∙ ap (λ (zs : List HartState). option_map (asked_by k h barrier) (slice_get zs k)) is
    ∙ ap (option_map (asked_by k h barrier)) (get_mapped (lost_by_all ws) xs k))
    ∙ heard_all k h barrier ws (slice_get xs k)

-- its credit stays
credit_passed : (k h : ℕ) (took : Bool) (barrier : Option Barrier) (ws : List Write) (o : Option HartState)
    → option_map_or (λ (x : HartState). x.credit) (option_map (passed_by k h took barrier ws) o) 0
    ≡ option_map_or (λ (x : HartState). x.credit) o 0
credit_passed k h took barrier ws None = refl
credit_passed k h took barrier ws (Some x) = refl

-- so the parts stand as the plain machine does
pub tied_passed : (s : Setting) (p : Plain) (h : ℕ) (d : Done) (took : Bool) (barrier : Option Barrier) (ws : List Write) (m m' : Parts)
    → IsTied s p m → d.took ≡ took → d.barrier ≡ barrier → ArePassed h took barrier ws m.harts.items m'.harts.items
    → m'.pages ≡ m.pages → m'.kernel ≡ m.kernel → m'.ended ≡ m.ended → IsTied s (aside h d ws p) m'
tied_passed s p h d took barrier ws m m' tied took_is barrier_is passed pages kernel ended = record {
  all_harts = same_length m.harts.items m'.harts.items
      (λ k. ap is_some (passed k) ∙ mapped_is (passed_by k h took barrier ws) (slice_get m.harts.items k)) ∙ tied.all_harts;
  harts = λ k lt.
      let credit : credit_of m'.harts.items k ≡ credit_of m.harts.items k =
      ap (λ o. option_map_or (λ (x : HartState). x.credit) o 0) (passed k) ∙ credit_passed k h took barrier ws (slice_get m.harts.items k) in
      passed k
      ∙ ap (option_map (passed_by k h took barrier ws)) (tied.harts k lt)
      ∙ ap (λ b. Some (passed_by k h b barrier ws (hart_at s p k (credit_of m.harts.items k)))) (sym took_is)
      ∙ ap (λ (b : Option Barrier). Some (passed_by k h d.took b ws (hart_at s p k (credit_of m.harts.items k)))) (sym barrier_is)
      ∙ ap (λ n. Some (hart_at s (aside h d ws p) k n)) (sym credit);
  pages = rw pages tied.pages;
  readable = rw pages tied.readable;
  tables = rw kernel tied.tables;
  table = rw kernel tied.table;
  saved = rw kernel tied.saved;
  ended = ended ∙ tied.ended;
}
