-- Two plain events of different harts, one after the other, at a state of the plain machine.
use Rattle.block_model.proofs.Common.{◌≡◌, ◌≢◌, ℕ, List, [], ◌∷◌, refl, sym, ap, ◌∙◌, subst, true, Option, Some, None, inl, inr, ◌⊎◌, AreApart, Choice, Done, Effect, Footprint, Here, Plain, Saved, Setting, Store, Write, apply, bytes_of_all, cases_eq, done_of, entry_in, file_among, have_byte, here_in_plain, ne_eqb, next_effect, refusal_of, runs, waiting_here, written}
use Rattle.std.proofs.lemmas.Bool.{cases_Bool}
use Rattle.mach_types.specs.declared.events.Choice.TheVariants as asked
use Rattle.block_model.specs.PlainEvents.{footprint, is_plain}
use Rattle.block_model.proofs.Swaps.PlainDone.{PlainDone, as_done, plain_drain, plain_effect, plain_exec, plain_done}
use Rattle.block_model.proofs.Swaps.Commuting.{AreBeside, SetsNone, after, around, commutes, here_after, is_passed}
use Rattle.block_model.proofs.Swaps.PlainEvents.{Around, IsClear, IsPassed, done_enters, done_is_plain, done_passes, entry_passes, footprint_passes, out_of, passed, plain_passes, refusal_passes, with_lost}
use Rattle.block_model.proofs.Swaps.Untouched.{untouched}

-- THE SAME EVENT AT TWO PLACES

-- an event is plain at both, touches the same, is refused or not alike, has the same entry, and does the same
pub record IsSameEvent (c : Choice) (here there : Here) (ws : List Write) : Type 0 where
  pub plain : is_plain c here ≡ true
  pub plain_there : is_plain c there ≡ true
  pub touched : footprint c there ≡ footprint c here
  pub refusal : refusal_of c there ≡ refusal_of c here
  pub entry : entry_in c there ≡ entry_in c here
  pub done : plain_done c there ≡ with_lost ws (plain_done c here)

same_event : (c : Choice) (here : Here) (a : Around) → IsPassed here a → is_plain c here ≡ true → IsClear a.lost (footprint c here) → IsSameEvent c here (passed here a) a.lost
same_event c here a by plain clear = record {
  plain = plain;
  plain_there = plain_passes c here a by ∙ plain;
  touched = footprint_passes c here a by;
  refusal = refusal_passes c here a by plain;
  entry = entry_passes c here a by plain;
  done = done_passes c here a by plain clear;
}

-- whose file it sets
files_effect : (here : Here) (u : ℕ) (e : Option Effect) (t : ℕ) → (◌≡◌ {A = Option ℕ} (Some u) (Some t)) ⊎ ((f : Saved) → file_among (plain_effect here u e).files t f ≡ f)
files_effect here u None t = inr (λ f. refl)
files_effect here u (Some e) t = elim (cases_eq u t) [
  | inl is ↦ inl (ap Some is)
  | inr other ↦ inr (λ f. rw (ne_eqb u t other) refl)
]

files_drain : (r : Option ℕ) (ws : List Store) (t : ℕ) (f : Saved) → file_among (plain_drain r ws).files t f ≡ f
files_drain r [] t f = refl
files_drain r (w ∷ ws) t f = refl

own_files : (c : Choice) (here : Here) (t : ℕ) → (runs here ≡ Some t) ⊎ ((f : Saved) → file_among (plain_done c here).files t f ≡ f)
own_files asked.Exec here t = go (runs here)
  where
    go : (o : Option ℕ) → (o ≡ Some t) ⊎ ((f : Saved) → file_among (plain_exec here o).files t f ≡ f)
    go None = inr (λ f. refl)
    go (Some u) = files_effect here u (next_effect here u) t
own_files asked.Drain here t = inr (files_drain here.reserved (waiting_here here) t)
own_files c here t = inr (λ f. refl)

-- TWO EVENTS

-- the machine after the first, and what is around the other hart's event there
abbrev pub next : Setting → ℕ → Choice → Plain → Plain
next s h c m = apply h (done_of c (here_in_plain s m h)) m

next_is : (s : Setting) (h : ℕ) (c : Choice) (m : Plain) → is_plain c (here_in_plain s m h) ≡ true → next s h c m ≡ after h (plain_done c (here_in_plain s m h)) m
next_is s h c m plain = ap (λ d. apply h d m) (done_is_plain c (here_in_plain s m h) plain)

pub kernel_stays : (s : Setting) (h : ℕ) (c : Choice) (m : Plain) → is_plain c (here_in_plain s m h) ≡ true → (next s h c m).kernel ≡ m.kernel
kernel_stays s h c m plain = ap (λ (d : Done). d.kernel) (done_is_plain c (here_in_plain s m h) plain)

passes_on : (s : Setting) (h k : ℕ) (c : Choice) (m : Plain) → h ≢ k → is_plain c (here_in_plain s m h) ≡ true
    → here_in_plain s (next s h c m) k ≡ passed (here_in_plain s m k) (around h k (plain_done c (here_in_plain s m h)) m)
passes_on s h k c m ne plain = ap (λ n. here_in_plain s n k) (next_is s h c m plain) ∙ here_after s h k (plain_done c (here_in_plain s m h)) m ne

-- plain events of harts h and k, one after the other, of which neither touches the other's bytes, and neither sets the file of the
-- other's thread
pub record ArePair (s : Setting) (h k : ℕ) (c d : Choice) (m : Plain) : Type 0 where
  pub harts : h ≢ k
  pub first : is_plain c (here_in_plain s m h) ≡ true
  pub second : is_plain d (here_in_plain s (next s h c m) k) ≡ true
  pub apart : AreApart (footprint c (here_in_plain s m h)) (footprint d (here_in_plain s (next s h c m) k))
  pub first_file : (t : ℕ) (f : Saved) → runs (here_in_plain s m k) ≡ Some t → file_among (done_of c (here_in_plain s m h)).files t f ≡ f
  pub second_file : (t : ℕ) (f : Saved) → runs (here_in_plain s m h) ≡ Some t → file_among (done_of d (here_in_plain s (next s h c m) k)).files t f ≡ f

-- the second may come first, and then the first; and after both all is the same
pub record AreExchanged (s : Setting) (h k : ℕ) (c d : Choice) (m : Plain) : Type 0 where
  pub second_first : IsSameEvent d (here_in_plain s m k) (here_in_plain s (next s h c m) k) (plain_done c (here_in_plain s m h)).entered
  pub first_second : IsSameEvent c (here_in_plain s m h) (here_in_plain s (next s k d m) h) (plain_done d (here_in_plain s m k)).entered
  pub same : next s h c (next s k d m) ≡ next s k d (next s h c m)
  pub kernel : (next s k d m).kernel ≡ m.kernel
  pub ended : (next s k d m).ended ≡ m.ended
  pub second_by : IsPassed (here_in_plain s m k) (around h k (plain_done c (here_in_plain s m h)) m)
  pub second_is : here_in_plain s (next s h c m) k ≡ passed (here_in_plain s m k) (around h k (plain_done c (here_in_plain s m h)) m)
  pub first_by : IsPassed (here_in_plain s m h) (around k h (plain_done d (here_in_plain s m k)) m)
  pub first_is : here_in_plain s (next s k d m) h ≡ passed (here_in_plain s m h) (around k h (plain_done d (here_in_plain s m k)) m)

pub clear_second : (x : PlainDone) (p q : Footprint) → ((a : ℕ) → have_byte (bytes_of_all x.entered) a ≡ true → have_byte p.writes a ≡ true) → AreApart p q → IsClear x.entered q
clear_second x p q within apart = record { unread = λ a is. apart.unread a (within a is); unwritten = λ a is. apart.unwritten a (within a is) }

pub clear_first : (y : PlainDone) (p q : Footprint) → ((a : ℕ) → have_byte (bytes_of_all y.entered) a ≡ true → have_byte q.writes a ≡ true) → AreApart p q → IsClear y.entered p
clear_first y p q within apart = record {
  unread = λ a is. apart.unread_too a (within a is);
  unwritten = λ a is. out_of (have_byte p.writes a) (have_byte q.writes a) (within a is) (apart.unwritten a);
}

bytes_beside : (x y : PlainDone) (p : Footprint) → ((a : ℕ) → have_byte (bytes_of_all x.entered) a ≡ true → have_byte p.writes a ≡ true) → IsClear y.entered p
    → (a : ℕ) → ((b : ℕ) → written x.entered a b ≡ b) ⊎ ((b : ℕ) → written y.entered a b ≡ b)
bytes_beside x y p within clear a = elim (cases_Bool (have_byte (bytes_of_all x.entered) a)) [
  | inl is ↦ inr (λ b. untouched y.entered a b (out_of (have_byte (bytes_of_all y.entered) a) (have_byte p.writes a) (within a is) (clear.unwritten a)))
  | inr out ↦ inl (λ b. untouched x.entered a b out)
]

pub exchanged : (s : Setting) (h k : ℕ) (c d : Choice) (m : Plain) → ArePair s h k c d m → AreExchanged s h k c d m
exchanged s h k c d m pair =
    let here = here_in_plain s m h in
    let there = here_in_plain s m k in
    let x = plain_done c here in
    let y = plain_done d there in
    let ax = around h k x m in
    let ay = around k h y m in
    let on = passes_on s h k c m pair.harts pair.first in
    -- the second event, moved before the first
    let sets : SetsNone x there = λ t f at. sym (ap (λ (q : Done). file_among q.files t f) (done_is_plain c here pair.first)) ∙ pair.first_file t f at in
    let by : IsPassed there ax = is_passed s h k x m pair.harts sets in
    let plain : is_plain d there ≡ true = sym (plain_passes d there ax by) ∙ ap (is_plain d) (sym on) ∙ pair.second in
    let touched : footprint d (here_in_plain s (next s h c m) k) ≡ footprint d there = ap (footprint d) on ∙ footprint_passes d there ax by in
    let apart : AreApart (footprint c here) (footprint d there) = subst (AreApart (footprint c here)) touched pair.apart in
    let clear : IsClear x.entered (footprint d there) = clear_second x (footprint c here) (footprint d there) (done_enters c here pair.first) apart in
    let second = subst (λ z. IsSameEvent d there z x.entered) (sym on) (same_event d there ax by plain clear) in
    -- the first event, moved behind the second
    let back = passes_on s k h d m (λ e. pair.harts (sym e)) plain in
    let did : done_of d (here_in_plain s (next s h c m) k) ≡ as_done (next s h c m).kernel (with_lost x.entered y) =
    done_is_plain d (here_in_plain s (next s h c m) k) pair.second ∙ ap (as_done (next s h c m).kernel) second.done in
    let sets_too : SetsNone y here = λ t f at. sym (ap (λ (q : Done). file_among q.files t f) did) ∙ pair.second_file t f at in
    let by_too : IsPassed here ay = is_passed s k h y m (λ e. pair.harts (sym e)) sets_too in
    let clear_too : IsClear y.entered (footprint c here) = clear_first y (footprint c here) (footprint d there) (done_enters d there plain) apart in
    let first = subst (λ z. IsSameEvent c here z y.entered) (sym back) (same_event c here ay by_too pair.first clear_too) in
    let beside : AreBeside x y = record {
      files = λ t. files_beside x.files y.files t (own_files c here t) sets_too;
      bytes = bytes_beside x y (footprint c here) (done_enters c here pair.first) clear_too;
    } in
    let a = next_is s h c m pair.first in
    let b = next_is s k d m plain in
    record {
      second_first = second;
      first_second = first;
      same = next_is s h c (next s k d m) first.plain_there ∙ ap (λ z. after h z (next s k d m)) first.done ∙ ap (after h (with_lost y.entered x)) b
          ∙ sym (commutes h k x y m pair.harts beside)
          ∙ sym (next_is s k d (next s h c m) pair.second ∙ ap (λ z. after k z (next s h c m)) second.done ∙ ap (after k (with_lost x.entered y)) a);
      kernel = ap (λ (n : Plain). n.kernel) b;
      ended = ap (λ (n : Plain). n.ended) b;
      second_by = by;
      second_is = on;
      first_by = by_too;
      first_is = back;
    }
  where
    files_beside : (xs ys : List (ℕ × Saved)) (t : ℕ) → (runs (here_in_plain s m h) ≡ Some t) ⊎ ((f : Saved) → file_among xs t f ≡ f)
        → ((t : ℕ) (f : Saved) → runs (here_in_plain s m h) ≡ Some t → file_among ys t f ≡ f)
        → ((f : Saved) → file_among xs t f ≡ f) ⊎ ((f : Saved) → file_among ys t f ≡ f)
    files_beside xs ys t (inl at) sets = inr (λ f. sets t f at)
    files_beside xs ys t (inr same) sets = inl same
