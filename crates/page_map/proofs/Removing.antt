-- A page is mapped no longer: the last page of the list takes its place.
use Rattle.std.proofs.Common.{◌≡◌, ◌≢◌, ℕ, ◌+◌, ◌-◌, ◌<◌, ◌≤◌, inl, inr, cond, List, [], ◌∷◌, zero, suc, Option, Some, None, length, get_or, nat_eq, slice_get, slice_set, refl, sym, ap, ◌∙◌, subst, arith, eq-eqb}
use Rattle.std.proofs.lemmas.Bool.{cases_eq, ne_eqb}
use Rattle.std.proofs.lemmas.Option.{slice_get-get_or, slice_get_within}
use Rattle.elf_load.specs.Images.{IsPermission}
use Rattle.frame_pool.specs.Held.{AreHeld}
use Rattle.frame_pool.specs.Pool.{IsTaken, free_count}
use Rattle.frame_pool.proofs.Laws.{AreHeld-apart, AreHeld-of, IsTaken-other, free_count-giving}
use Rattle.page_map.specs.Map.{Map, page_in}
use Rattle.page_map.specs.Mapping.{CanLie, IsMap, StandsAt, frames_of}
use Rattle.page_map.specs.Table.{Table, place_in}
use Rattle.page_map.specs.declared.mapped_page.MappedPage.{MappedPage}
use Rattle.page_map.proofs.Maps.{all-of, frames-at, one-page, page-lies, page-none, page-permission, page-some, page-taken, place-own, place_or_none, same-bytes, slice_get-read, some-one}

-- what stands at a place stood at another one, or at the same, before
record StoodAt (mapped : List MappedPage) (i : ℕ) (q : MappedPage) : Type 0 where
  pub origin : ℕ
  pub there : slice_get mapped origin ≡ Some q
  pub other : origin ≢ i

-- the frame at a place is that of the page there
page-of-frame : (mapped : List MappedPage) (k f : ℕ) → slice_get (frames_of mapped) k ≡ Some f → (q : MappedPage) × (slice_get mapped k ≡ Some q) × (q.frame ≡ f)
page-of-frame [] k f at = cc
page-of-frame (q ∷ mapped) zero f at = (q, refl, some-one q.frame f at)
page-of-frame (q ∷ mapped) (suc k) f at = page-of-frame mapped k f at

-- page `number`, which stands at a place, was taken out of a list whose last page took its place, and the table says so
pub record IsRemoved (m : Map) (number : ℕ) (p : MappedPage) (mapped' : List MappedPage) (table' : Table) : Type 0 where
  pub i : ℕ
  pub j : ℕ
  pub last : MappedPage
  pub place : place_in m.table number ≡ Some i
  pub there : slice_get m.mapped i ≡ Some p
  pub ends : slice_get m.mapped j ≡ Some last
  pub is_end : j + 1 ≡ length m.mapped
  pub shorter : length mapped' ≡ j
  pub moved : j ≢ i → slice_get mapped' i ≡ Some last
  pub stays : (k : ℕ) → k ≢ i → k < j → slice_get mapped' k ≡ slice_get m.mapped k
  pub places : (n : ℕ) → place_in table' n ≡ cond (nat_eq n number) None (cond (nat_eq n last.number) (Some i) (place_in m.table n))

-- an element was swapped for the last one and removed
pub removed-by : (m : Map) (number i size : ℕ) (p last : MappedPage) (mapped' : List MappedPage) (table table' : Table)
    → place_in m.table number ≡ Some i → i < length m.mapped → size ≡ length m.mapped
    → p ≡ get_or m.mapped i p → last ≡ get_or m.mapped (size - 1) last → length mapped' + 1 ≡ length m.mapped
    → ((d : MappedPage) → i + 1 < size → get_or mapped' i d ≡ get_or m.mapped (size - 1) d)
    → ((k : ℕ) (d : MappedPage) → k ≢ i → k + 1 < size → get_or mapped' k d ≡ get_or m.mapped k d)
    → ((n : ℕ) → place_in table n ≡ cond (nat_eq n last.number) (Some i) (place_in m.table n))
    → ((n : ℕ) → place_in table' n ≡ cond (nat_eq n number) None (place_in table n))
    → IsRemoved m number p mapped' table'
removed-by m number i size p last mapped' table table' place within is_size is_p is_last shorter first rest entered gone = record {
  i = i;
  j = size - 1;
  last = last;
  place = place;
  there = slice_get-read m.mapped i p is_p within;
  ends = slice_get-read m.mapped (size - 1) last is_last (omega arith);
  is_end = omega arith;
  shorter = omega arith;
  moved = λ two.
      slice_get-get_or mapped' i last (omega arith) ∙ ap Some (first last (omega arith) ∙ sym is_last);
  stays = λ k two lt.
      slice_get-get_or mapped' k last (omega arith) ∙ ap Some (rest k last two (omega arith)) ∙ sym (slice_get-get_or m.mapped k last (omega arith));
  places = λ n. gone n ∙ ap (λ o. let q : Option ℕ = cond (nat_eq n number) None o in q) (entered n);
}

module _ (m : Map) (capacity : ℕ) (kept : IsMap m capacity) (number : ℕ) (p : MappedPage) (mapped' : List MappedPage) (table' : Table)
    (gone : IsRemoved m number p mapped' table') where
  open gone use {i, j, last, place, there as at, ends as end, is_end, shorter, moved, stays, places}

  abbrev after : Map
  after = record { pool = slice_set m.pool p.frame None; mapped = mapped'; table = table'; break_at = m.break_at; break_start = m.break_start }

  p-number : p.number ≡ number
  p-number =
      let there = kept.placed number i place in
      ap (λ (q : MappedPage). q.number) (one-page m.mapped i p there.page at there.there) ∙ there.number

  stood : (k : ℕ) (q : MappedPage) → slice_get mapped' k ≡ Some q → StoodAt m.mapped i q
  stood k q there = elim (cases_eq k i) [
    | inl same ↦
        let within : k < length mapped' = slice_get_within mapped' k q there in
        let two : j ≢ i = λ e. omega arith in
        let is : last ≡ q = one-page mapped' k last q (ap (slice_get mapped') same ∙ moved two) there in
        record { origin = j; there = end ∙ ap Some is; other = two }
    | inr two ↦
        let within : k < length mapped' = slice_get_within mapped' k q there in
        record { origin = k; there = sym (stays k two (omega arith)) ∙ there; other = two }
  ]

  -- no page that is left is the one that goes
  not-number : (o : ℕ) (q : MappedPage) → slice_get m.mapped o ≡ Some q → o ≢ i → q.number ≢ number
  not-number o q there two same =
      let one : Some o ≡ Some i = sym (kept.entered o q there) ∙ ap (place_in m.table) same ∙ place in
      two (some-one o i one)

  entered-after : (k : ℕ) (q : MappedPage) → slice_get mapped' k ≡ Some q → place_in table' q.number ≡ Some k
  entered-after k q there = elim (cases_eq k i) [
    | inl same ↦
        let within : k < length mapped' = slice_get_within mapped' k q there in
        let two : j ≢ i = λ e. omega arith in
        let is : last ≡ q = one-page mapped' k last q (ap (slice_get mapped') same ∙ moved two) there in
        let other : q.number ≢ number = not-number j q (end ∙ ap Some is) two in
        places q.number
        ∙ (rw (ne_eqb q.number number other, eq-eqb q.number last.number (ap (λ (r : MappedPage). r.number) (sym is))) (ap Some (sym same)))
    | inr two ↦
        let within : k < length mapped' = slice_get_within mapped' k q there in
        let old : slice_get m.mapped k ≡ Some q = sym (stays k two (omega arith)) ∙ there in
        let here : place_in m.table q.number ≡ Some k = kept.entered k q old in
        let other : q.number ≢ number = not-number k q old two in
        let not_last : q.number ≢ last.number = λ e. (let one : Some k ≡ Some j = sym here ∙ ap (place_in m.table) e ∙ kept.entered j last end in
        let same : k ≡ j = some-one k j one in omega arith) in
        places q.number ∙ (rw (ne_eqb q.number number other, ne_eqb q.number last.number not_last) here)
  ]

  -- a page with a place that doesn't go has one after
  record IsLeft (n o : ℕ) (q : MappedPage) : Type 0 where
    pub place_after : ℕ
    pub place_is : place_in table' n ≡ Some place_after
    pub there_after : slice_get mapped' place_after ≡ Some q

  left : (n o : ℕ) (q : MappedPage) → n ≢ number → place_in m.table n ≡ Some o → slice_get m.mapped o ≡ Some q → IsLeft n o q
  left n o q other is there =
      let q-number : q.number ≡ n = (let stands = kept.placed n o is in
      ap (λ (r : MappedPage). r.number) (one-page m.mapped o q stands.page there stands.there) ∙ stands.number) in
      let two : o ≢ i = λ e. other (place-own m capacity kept n number i (is ∙ ap Some e) place) in
      elim (cases_eq o j) [
        | inl same ↦
            let is_last : q ≡ last = one-page m.mapped o q last there (ap (slice_get m.mapped) same ∙ end) in
            let moves : j ≢ i = λ e. two (same ∙ e) in
            record {
              place_after = i;
              place_is =
                  places n ∙ (rw (ne_eqb n number other, eq-eqb n last.number (sym q-number ∙ ap (λ (r : MappedPage). r.number) is_last)) refl);
              there_after = moved moves ∙ ap Some (sym is_last);
            }
        | inr below ↦
            let within : o < length m.mapped = slice_get_within m.mapped o q there in
            let not_last : n ≢ last.number = λ e. (let one : Some o ≡ Some j = sym is ∙ ap (place_in m.table) e ∙ kept.entered j last end in
            let same : o ≡ j = some-one o j one in below same) in
            record {
              place_after = o;
              place_is = places n ∙ (rw (ne_eqb n number other, ne_eqb n last.number not_last) is);
              there_after = stays o two (omega arith) ∙ there;
            }
      ]

  frame-apart : (o : ℕ) (q : MappedPage) → slice_get m.mapped o ≡ Some q → o ≢ i → q.frame ≢ p.frame
  frame-apart o q there two same =
      two (AreHeld-apart m.pool (frames_of m.mapped) o i p.frame kept.held (frames-at m.mapped o q there ∙ ap Some same) (frames-at m.mapped i p at))

  removed-here : (n : ℕ) → n ≡ number → page_in after n ≡ None
  removed-here n same = page-none after n (places n ∙ (rw (eq-eqb n number same) refl))

  removed-other : (n : ℕ) → n ≢ number → page_in after n ≡ page_in m n
  removed-other n two = elim (place_or_none m capacity kept n (place_in m.table n) refl) [
    | inl none ↦
        let not_last : n ≢ last.number = λ e. (let some : place_in m.table n ≡ Some j = ap (place_in m.table) e ∙ kept.entered j last end in cc) in
        page-none after n (places n ∙ (rw (ne_eqb n number two, ne_eqb n last.number not_last) none)) ∙ sym (page-none m n none)
    | inr some ↦
        let is = left n some.0 some.2 two some.1 some.3 in
        let other : some.0 ≢ i = λ e. two (place-own m capacity kept n number i (some.1 ∙ ap Some e) place) in
        page-some after n is.place_after some.2 is.place_is is.there_after
        ∙ ap Some (same-bytes m capacity kept p.frame None some.2 (frame-apart some.0 some.2 some.3 other))
        ∙ sym (page-some m n some.0 some.2 some.1 some.3)
  ]

  pub removed-pages : (n : ℕ) → page_in after n ≡ cond (nat_eq n number) None (page_in m n)
  removed-pages n = elim (cases_eq n number) [
    | inl same ↦ rw (eq-eqb n number same) (removed-here n same)
    | inr two ↦ rw (ne_eqb n number two) (removed-other n two)
  ]

  pub removed-taken : IsTaken m.pool p.frame
  removed-taken = page-taken m capacity kept i p at

  pub removed-free : free_count (slice_set m.pool p.frame None) ≡ free_count m.pool + 1
  removed-free = free_count-giving m.pool p.frame (page-taken m capacity kept i p at)

  placed-after : (n k : ℕ) → place_in table' n ≡ Some k → StandsAt mapped' k n
  placed-after n k is = elim (cases_eq n number) [
    | inl same ↦
        let none : place_in table' n ≡ None = places n ∙ (rw (eq-eqb n number same) refl) in
        cc
    | inr two ↦ elim (place_or_none m capacity kept n (place_in m.table n) refl) [
      | inl none ↦
          let not_last : n ≢ last.number = λ e. (let some : place_in m.table n ≡ Some j = ap (place_in m.table) e ∙ kept.entered j last end in cc) in
          let absent : place_in table' n ≡ None = places n ∙ (rw (ne_eqb n number two, ne_eqb n last.number not_last) none) in
          cc
      | inr some ↦
          let is_left = left n some.0 some.2 two some.1 some.3 in
          let stands = kept.placed n some.0 some.1 in
          let here : is_left.place_after ≡ k = some-one is_left.place_after k (sym is_left.place_is ∙ is) in
          record {
            page = some.2;
            there = ap (slice_get mapped') (sym here) ∙ is_left.there_after;
            number = ap (λ (r : MappedPage). r.number) (one-page m.mapped some.0 some.2 stands.page some.3 stands.there) ∙ stands.number;
          }
    ]
  ]

  held-after : AreHeld (slice_set m.pool p.frame None) (frames_of mapped')
  held-after =
      AreHeld-of (slice_set m.pool p.frame None) (frames_of mapped')
      (λ k f there.
      let q = page-of-frame mapped' k f there in
      let was = stood k q.0 q.1 in
      subst (λ (x : ℕ). IsTaken (slice_set m.pool p.frame None) x) q.2
      (IsTaken-other m.pool p.frame q.0.frame None (page-taken m capacity kept was.origin q.0 was.there)
      (frame-apart was.origin q.0 was.there was.other)))
      (λ k l f first second.
      let q = page-of-frame mapped' k f first in
      let r = page-of-frame mapped' l f second in
      let was = stood k q.0 q.1 in
      let also = stood l r.0 r.1 in
      let one : was.origin ≡ also.origin =
      AreHeld-apart m.pool (frames_of m.mapped) was.origin also.origin f kept.held
      (frames-at m.mapped was.origin q.0 was.there ∙ ap Some q.2) (frames-at m.mapped also.origin r.0 also.there ∙ ap Some r.2) in
      let same : q.0 ≡ r.0 = one-page m.mapped also.origin q.0 r.0 (ap (slice_get m.mapped) (sym one) ∙ was.there) also.there in
      some-one k l (sym (entered-after k q.0 q.1) ∙ ap (λ (x : MappedPage). place_in table' x.number) same ∙ entered-after l r.0 r.1))

  pub removed-map : (capacity' : ℕ) → capacity ≤ capacity' → IsMap after capacity'
  removed-map capacity' grows =
      let more : free_count (slice_set m.pool p.frame None) ≡ free_count m.pool + 1 = removed-free in
      let room = kept.room in
      let numbers = kept.numbers in
      record {
        held = held-after;
        placed = placed-after;
        entered = entered-after;
        permissions = all-of (λ (q : MappedPage). IsPermission q.permission) mapped' (λ k q there.
            let was = stood k q there in page-permission m capacity kept was.origin q was.there);
        lie = all-of (λ (q : MappedPage). CanLie m.break_start m.break_at q.number q.permission) mapped' (λ k q there.
            let was = stood k q there in page-lies m capacity kept was.origin q was.there);
        break_from = kept.break_from;
        break_to = kept.break_to;
        room = omega arith;
        numbers = omega arith;
      }
