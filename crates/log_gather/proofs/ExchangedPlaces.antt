-- Two plain events of different harts at a place, of which neither touches the other's bytes, take their facts with them.
use Rattle.std.proofs.Common.{◌≡◌, ◌≢◌, ℕ, List, ◌++◌, refl, sym, ap, ◌∙◌, subst, Bool, true, false, cond, eqb, Some}
use Rattle.std.proofs.lemmas.Bool.{ne_eqb, or_parts}
use Rattle.mach_types.specs.Events.{choice_of}
use Rattle.mach_types.specs.declared.events.Entry.{Entry}
use Rattle.mach_types.specs.declared.threads.Saved.{Saved}
use Rattle.block_model.specs.Events.{done_of}
use Rattle.block_model.specs.Here.{runs}
use Rattle.block_model.specs.History.{file_among}
use Rattle.block_model.specs.Setting.{Setting}
use Rattle.rv_inst.specs.Accesses.{Bytes}
use Rattle.block_model.specs.Footprints.{AreApart, Footprint, have_byte}
use Rattle.block_model.specs.PlainEvents.{footprint}
use Rattle.block_model.proofs.Swaps.PlainDone.{plain_done}
use Rattle.log_gather.proofs.Gatherable.{AreFree}
use Rattle.log_gather.specs.Facts.{Facts, Place, facts_at, facts_in, here_at, looked_on, next_place, touched_by}
use Rattle.block_model.proofs.Swaps.Commuting.{around, own_swaps}
use Rattle.block_model.proofs.Swaps.Pairs.{AreExchanged, ArePair, clear_first, clear_second, exchanged}
use Rattle.block_model.proofs.Swaps.PlainEvents.{EntersWithin, IsClear, done_enters, passed}
use Rattle.log_gather.proofs.FactsStay.{have_append, facts_pass, facts_pass_back, touched_is}

-- neither sets the file of the other's thread
pub record LeaveFiles (s : Setting) (p : Place) (e f : Entry) : Type 0 where
  pub first : (t : ℕ) (x : Saved) → runs (here_at s p f) ≡ Some t → file_among (done_of (choice_of e) (here_at s p e)).files t x ≡ x
  pub second : (t : ℕ) (x : Saved) → runs (here_at s p e) ≡ Some t → file_among (done_of (choice_of f) (here_at s (next_place s p e) f)).files t x ≡ x

pub record ArePlacesExchanged (s : Setting) (p : Place) (e f : Entry) : Type 0 where
  pub events : AreExchanged s e.hart.0 f.hart.0 (choice_of e) (choice_of f) p.machine
  pub second_first : facts_at s p f ≡ facts_at s (next_place s p e) f
  pub first_second : facts_at s (next_place s p f) e ≡ facts_at s p e
  pub same : next_place s (next_place s p f) e ≡ next_place s (next_place s p e) f

-- what accesses touch is some of what is touched
unread_first : (xs ys : List Bytes) (a : ℕ) → have_byte (xs ++ ys) a ≡ false → have_byte xs a ≡ false
unread_first xs ys a out = (or_parts (have_byte xs a) (have_byte ys a) (sym (have_append xs ys a) ∙ out)).0

pub unlooked : (x y : Footprint) (xs ys : List Bytes) → AreApart (record x { reads = x.reads ++ xs }) (record y { reads = y.reads ++ ys }) → AreApart x y
unlooked x y xs ys apart = record {
  unread = λ a is. unread_first y.reads ys a (apart.unread a is);
  unwritten = apart.unwritten;
  unread_too = λ a is. unread_first x.reads xs a (apart.unread_too a is);
}

-- the accesses of plain events that are apart are apart
pub accesses_apart : (s : Setting) (p q : Place) (e f : Entry) → (facts_at s p e).plain ≡ true → (facts_at s q f).plain ≡ true → AreApart (facts_at s p e).touched (facts_at s q f).touched
    → AreApart (footprint (choice_of e) (here_at s p e)) (footprint (choice_of f) (here_at s q f))
accesses_apart s p q e f plain plain_too apart =
    let here = here_at s p e in
    let there = here_at s q f in
    unlooked (footprint (choice_of e) here) (footprint (choice_of f) there) (looked_on here (runs here)) (looked_on there (runs there))
    (subst (AreApart (touched_by (choice_of e) here)) (touched_is there (q.within f.hart.0) f plain_too)
    (subst (λ z. AreApart z (facts_at s q f).touched) (touched_is here (p.within e.hart.0) e plain) apart))

-- what a plain event writes in memory is among what it touches
enters_within : (s : Setting) (p : Place) (e : Entry) → (facts_at s p e).plain ≡ true → EntersWithin (plain_done (choice_of e) (here_at s p e)) (facts_at s p e).touched
enters_within s p e plain a is =
    ap (λ (z : Footprint). have_byte z.writes a) (touched_is (here_at s p e) (p.within e.hart.0) e plain) ∙ done_enters (choice_of e) (here_at s p e) plain a is

within_same : (h k j : ℕ) (a a' b b' w : Bool) → h ≢ k → a' ≡ a → b ≡ b' → cond (eqb h j) a' (cond (eqb k j) b w) ≡ cond (eqb k j) b' (cond (eqb h j) a w)
within_same h k j a a' b b' w ne p q =
    ap (λ z. cond (eqb h j) z (cond (eqb k j) b w)) p ∙ sym (own_swaps h k j (λ z. a) (λ z. b) w ne)
    ∙ ap (λ z. cond (eqb k j) z (cond (eqb h j) a w)) q

pub places_exchanged : (s : Setting) (p : Place) (e f : Entry) → (facts_at s p e).plain ≡ true → AreFree (facts_at s p e) (facts_at s (next_place s p e) f) → LeaveFiles s p e f → ArePlacesExchanged s p e f
places_exchanged s p e f plain free leave =
    let h = e.hart.0 in
    let k = f.hart.0 in
    let c = choice_of e in
    let d = choice_of f in
    let m = p.machine in
    let here = here_at s p e in
    let there = here_at s p f in
    let later = here_at s (next_place s p e) f in
    let x = plain_done c here in
    let y = plain_done d there in
    let pair : ArePair s h k c d m = record {
      harts = free.harts;
      first = plain;
      second = free.plain;
      apart = accesses_apart s p (next_place s p e) e f plain free.plain free.apart;
      first_file = leave.first;
      second_file = leave.second;
    } in
    let ex = exchanged s h k c d m pair in
    -- the second, where it comes first
    let was : (next_place s p e).within k ≡ p.within k = rw (ne_eqb h k free.harts) refl in
    let is_there = ex.second_is in
    let moved = passed there (around h k x m) in
    let at_moved : facts_at s (next_place s p e) f ≡ facts_in moved (p.within k) f = ap (λ w. facts_in later w f) was ∙ ap (λ z. facts_in z (p.within k) f) is_there in
    let apart = subst (λ (t : Facts). AreApart (facts_at s p e).touched t.touched) at_moved free.apart in
    let clear : IsClear x.entered (facts_in moved (p.within k) f).touched = clear_second x (facts_at s p e).touched (facts_in moved (p.within k) f).touched (enters_within s p e plain) apart in
    let back = facts_pass_back there (around h k x m) (p.within k) f ex.second_by ex.second_first.plain clear in
    let second : facts_at s p f ≡ facts_at s (next_place s p e) f = sym (at_moved ∙ back) in
    -- the first, where it comes second
    let was_too : (next_place s p f).within h ≡ p.within h = rw (ne_eqb k h (λ q. free.harts (sym q))) refl in
    let moved_too = passed here (around k h y m) in
    let at_moved_too : facts_at s (next_place s p f) e ≡ facts_in moved_too (p.within h) e = ap (λ w. facts_in (here_at s (next_place s p f) e) w e) was_too ∙ ap (λ z. facts_in z (p.within h) e) ex.first_is in
    let apart_too = subst (λ (t : Facts). AreApart (facts_at s p e).touched t.touched) (sym second) free.apart in
    let clear_too : IsClear y.entered (facts_at s p e).touched = clear_first y (facts_at s p e).touched (facts_at s p f).touched (enters_within s p f ex.second_first.plain) apart_too in
    let first : facts_at s (next_place s p f) e ≡ facts_at s p e = at_moved_too ∙ facts_pass here (around k h y m) (p.within h) e ex.first_by plain clear_too in
    record {
      events = ex;
      second_first = second;
      first_second = first;
      same = λ i. record {
        machine = ex.same i;
        within = λ j. within_same h k j (facts_at s p e).within (facts_at s (next_place s p f) e).within (facts_at s p f).within (facts_at s (next_place s p e) f).within (p.within j) free.harts
            (ap (λ (t : Facts). t.within) first) (ap (λ (t : Facts). t.within) second) i;
      };
    }
