-- How the sequences that go on end where the log does, hart by hart.
use Rattle.std.proofs.Common.{◌≡◌, ◌≢◌, ℕ, zero, suc, ◌+◌, ◌<◌, List, [], ◌∷◌, length, map, slice_get, refl, sym, ap, ◌∙◌, arith, ltb, Bool, true, false, cond, Option, Some, None}
use Rattle.std.proofs.lemmas.Bool.{le-ltb, lt-ltb, ltb-false, ltb-true}
use Rattle.std.proofs.lemmas.List.{get_or_past, length-map}
use Rattle.std.proofs.lemmas.Option.{slice_get_within}
use Rattle.block_model.specs.declared.acts.SeqEnd.TheVariants as ends
use Rattle.block_model.specs.Acts.{Sequence as Known, end_so_far, has_died, is_inside_at, sequence_on}
use Rattle.block_model.specs.Acts as acts
use Rattle.block_model.specs.History.{History}
use Rattle.block_model.specs.Setting.{Setting}
use Rattle.block_view.specs.Acts.{act_of}
use Rattle.block_view.specs.Ledgers.{HasPlaces, Kept, changed_at, closed, closed_by, end_here, going_on, with_end}
use Rattle.block_view.specs.Standing.{Standing, at_the_end, listed, standings, unended}
use Rattle.block_view.specs.Standing.Standing.{Over, Going, Hanging}
use Rattle.block_view.specs.Tied.{IsTied, StandsAt, closed_if, course_of, going_at}
use Rattle.block_view.specs.declared.forms.Act.{Act}
use Rattle.block_view.specs.declared.ledger.Going.{Going as KeptGoing}
use Rattle.block_view.proofs.Places.{on_is_going, one_going}
use Rattle.block_view.proofs.Sequences.{hart_is}

-- LISTS OF ACTS BY THEIR STANDINGS

pub map_as : (f g : Standing → Act) (acts : List Standing) → ((j : ℕ) (x : Standing) → StandsAt acts j x → f x ≡ g x) → map f acts ≡ map g acts
map_as f g [] same = refl
map_as f g (x ∷ acts) same = ap (λ y. y ∷ map f acts) (same 0 x refl) ∙ ap (λ ys. g x ∷ ys) (map_as f g acts (λ j y at. same (suc j) y at))

is_suc : {m n : ℕ} → suc m ≡ suc n → m ≡ n
is_suc same = omega arith

pub changed_as : (change : Act → Act) (f g : Standing → Act) (acts : List Standing) (i : ℕ) (x : Standing) → StandsAt acts i x → change (f x) ≡ g x
    → ((j : ℕ) (y : Standing) → StandsAt acts j y → j ≢ i → f y ≡ g y) → changed_at i change (map f acts) ≡ map g acts
changed_as change f g [] i x at is others = refl
changed_as change f g (z ∷ acts) zero x at is others =
    let same : z ≡ x = cc in
    ap (λ w. w ∷ map f acts) (ap (λ v. change (f v)) same ∙ is ∙ ap g (sym same))
    ∙ ap (λ ws. g z ∷ ws) (map_as f g acts (λ j y there. others (suc j) y there (λ never. cc)))
changed_as change f g (z ∷ acts) (suc i) x at is others =
    ap (λ w. w ∷ changed_at i change (map f acts)) (others 0 z refl (λ never. cc))
    ∙ ap (λ ws. g z ∷ ws) (changed_as change f g acts i x at is (λ j y there other. others (suc j) y there (λ same. other (is_suc same))))

-- WHAT IS KEPT

something : {X : Type 0} {x : X} → Some x ≡ None → ⊥
something is = cc

-- of what goes on on a hart
pub record GoesOn (s : Setting) (before : History) (h : ℕ) (g : KeptGoing) : Type 0 where
  pub sequence : Known
  pub hart : sequence.hart ≡ h
  pub stands : StandsAt (standings s before) g.place (Going sequence)
  pub kept : g ≡ going_at s g.place sequence

module _ (s : Setting) (before : History) (k : Kept) (tied : IsTied s before k) where
  by_newest : (h : ℕ) (g : KeptGoing) → going_on k h ≡ Some g → (o : Option Known) → sequence_on s h before ≡ o → GoesOn s before h g
  by_newest h g on None none = absurd (something (sym on ∙ tied.rests h none))
  by_newest h g on (Some q) was =
      let among = on_is_going s before h q was in
      let own = hart_is s before h q was in
      let both : Some g ≡ Some (going_at s among.place q) = sym on ∙ ap (going_on k) (sym own) ∙ tied.going among.place q among.at in
      let same : g ≡ going_at s among.place q = cc in
      let place : g.place ≡ among.place = ap (λ (x : KeptGoing). x.place) same in
      record {
        sequence = q;
        hart = own;
        stands = ap (slice_get (standings s before)) place ∙ among.at;
        kept = same ∙ ap (λ n. going_at s n q) (sym place);
      }

  pub goes_on : (h : ℕ) (g : KeptGoing) → going_on k h ≡ Some g → GoesOn s before h g
  goes_on h g on = by_newest h g on (sequence_on s h before) refl

  pub as_many : length k.acts ≡ length (standings s before)
  as_many = ap length tied.acts ∙ length-map (standings s before) listed

  -- the places are those of acts
  pub places_of : (kept : List Act) → length kept ≡ length k.acts → HasPlaces (record k { acts = kept })
  places_of kept same = record {
    going = λ h g on. let within = slice_get_within (standings s before) g.place _ (goes_on h g on).stands in omega (arith, as_many);
    hanging = λ tid x is. let within = slice_get_within (standings s before) x.place _ (tied.hangs tid x is).stands in omega (arith, as_many);
  }

  pub has_places : HasPlaces k
  has_places = places_of k.acts refl

-- HART BY HART

module _ (s : Setting) (all : History) (k : Kept) (tied : IsTied s all k) where
  abbrev standing : List Standing
  standing = standings s all

  -- the ledger once the harts below this number are closed
  abbrev pub closed_below : ℕ → Kept
  closed_below n = record k { acts = map (closed_if s all n) standing }

  pub length-closed : (n : ℕ) → length (closed_below n).acts ≡ length k.acts
  length-closed n = length-map standing (closed_if s all n) ∙ sym (length-map standing listed) ∙ ap length (sym tied.acts)

  pub none_closed : k ≡ closed_below 0
  none_closed =
      ap (λ xs. record k { acts = xs }) (tied.acts ∙ map_as listed (closed_if s all 0) standing (λ j x at. listed_first x))
    where
      listed_first : (x : Standing) → listed x ≡ closed_if s all 0 x
      listed_first (Over act) = refl
      listed_first (Going q) =
          sym (ap (λ b. cond b (act_of (record { sequence = q; end = end_so_far s q all })) (unended q)) (le-ltb q.hart 0 (omega arith)))
      listed_first (Hanging q) = refl

  -- an act that isn't the one of a hart doesn't change with it
  not_of : (n : ℕ) (x : Standing) → ((q : Known) → x ≡ Going q → q.hart ≢ n) → closed_if s all n x ≡ closed_if s all (n + 1) x
  not_of n (Over act) other = refl
  not_of n (Going q) other =
      ap (λ b. cond b (act_of (record { sequence = q; end = end_so_far s q all })) (unended q)) (below (ltb q.hart n) refl)
    where
      below : (b : Bool) → ltb q.hart n ≡ b → ltb q.hart n ≡ ltb q.hart (n + 1)
      below true is = let lt = ltb-true q.hart n is in is ∙ sym (lt-ltb q.hart (n + 1) (omega arith))
      below false is =
          let ge = ltb-false q.hart n is in let apart = other q refl in is ∙ sym (le-ltb q.hart (n + 1) (omega arith))
  not_of n (Hanging q) other = refl

  -- the sequence of the hart ends as what is kept of it tells
  end_by_death : (q : Known) (dead inside : Bool) → cond dead ends.Dead (cond inside ends.Unended (cond (acts.moved_out s q) ends.Left ends.Dropped))
      ≡ cond dead ends.Dead (acts.left_or_dropped s q inside)
  end_by_death q true inside = refl
  end_by_death q false true = refl
  end_by_death q false false = refl

  pub ends_here : (q : Known) (inside : Bool) → inside ≡ is_inside_at s q.hart all → end_here (course_of s q) inside ≡ end_so_far s q all
  ends_here q inside is = end_by_death q (has_died q) inside ∙ ap (λ b. cond (has_died q) ends.Dead (acts.left_or_dropped s q b)) is

  -- one hart more is closed
  module _ (n : ℕ) (inside : Bool) (is : inside ≡ is_inside_at s n all) where
    by_going : (o : Option KeptGoing) → going_on k n ≡ o → closed_by o inside (closed_below n) ≡ closed_below (n + 1)
    by_going None none =
        ap (λ xs. record k { acts = xs })
        (map_as (closed_if s all n) (closed_if s all (n + 1)) standing
        (λ j x at. not_of n x
        (λ q same own. something (sym (tied.going j q (at ∙ ap Some same)) ∙ ap (going_on k) own ∙ none))))
    by_going (Some g) on =
        let there = goes_on s all k tied n g on in
        let q = there.sequence in
        let end : end_here g.course inside ≡ end_so_far s q all =
        ap (λ (x : KeptGoing). end_here x.course inside) there.kept ∙ ends_here q inside (is ∙ ap (λ h. is_inside_at s h all) (sym there.hart)) in
        let before : closed_if s all n (Going q) ≡ unended q =
        ap (λ b. cond b (act_of (record { sequence = q; end = end_so_far s q all })) (unended q)) (let own = there.hart in le-ltb q.hart n (omega arith)) in
        let later : closed_if s all (n + 1) (Going q) ≡ act_of (record { sequence = q; end = end_so_far s q all }) =
        ap (λ b. cond b (act_of (record { sequence = q; end = end_so_far s q all })) (unended q)) (let own = there.hart in lt-ltb q.hart (n + 1) (omega arith)) in
        ap (λ xs. record k { acts = xs })
        (changed_as (with_end (end_here g.course inside)) (closed_if s all n) (closed_if s all (n + 1)) standing g.place (Going q) there.stands
        (ap (with_end (end_here g.course inside)) before ∙ ap (λ e. act_of (record { sequence = q; end = e })) end ∙ sym later)
        (λ j y at other. not_of n y
        (λ r same own. other (one_going s all j g.place r q (at ∙ ap Some same) there.stands (own ∙ sym there.hart)))))

    pub one_closed : closed n inside (closed_below n) ≡ closed_below (n + 1)
    one_closed = by_going (going_on k n) refl

  -- once all are closed, the acts are those of the log
  is_below : (h : ℕ) (g : KeptGoing) (b : Bool) → ltb h (length k.going) ≡ b → going_on k h ≡ Some g → h < s.limits.harts
  is_below h g true lt on = let below = ltb-true h (length k.going) lt in let same = tied.harts in omega arith
  is_below h g false ge on = absurd (something (sym on ∙ get_or_past k.going h None (ltb-false h (length k.going) ge)))

  ended : (j : ℕ) (x : Standing) → StandsAt standing j x → closed_if s all s.limits.harts x ≡ at_the_end s all [] x
  ended j (Over act) at = refl
  ended j (Going q) at =
      ap (λ b. cond b (act_of (record { sequence = q; end = end_so_far s q all })) (unended q))
      (lt-ltb q.hart s.limits.harts (is_below q.hart (going_at s j q) (ltb q.hart (length k.going)) refl (tied.going j q at)))
  ended j (Hanging q) at = refl

  pub all_closed : map (closed_if s all s.limits.harts) standing ≡ map (at_the_end s all []) standing
  all_closed = map_as (closed_if s all s.limits.harts) (at_the_end s all []) standing ended
