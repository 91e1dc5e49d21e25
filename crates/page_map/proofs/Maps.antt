-- What a page map shows and keeps where a page is found, mapped or written.
use Rattle.std.proofs.Common.{◌≡◌, ◌≢◌, ℕ, ◌+◌, ◌-◌, ◌<◌, ◌≤◌, ◌⊎◌, inl, inr, cond, is_some, List, [], ◌∷◌, ◌++◌, Option, Some, None, length, get_or, nat_eq, refl, sym, ap, ◌∙◌, subst, arith, length-append, eq-eqb, slice_get, slice_set, zero, suc}
use Rattle.std.specs.Prelude.{All}
use Rattle.std.specs.Option.{option_and_then, option_map}
use Rattle.std.proofs.lemmas.Bool.{cases_eq, ne_eqb}
use Rattle.std.proofs.lemmas.List.{get_or-append_right, map-append}
use Rattle.std.proofs.lemmas.List.Elements.{All-append, All-cons}
use Rattle.std.proofs.lemmas.Option.{get_or_from_slice_get, slice_get-get_or, slice_get-map, slice_get_within}
use Rattle.byte_views.specs.Words.{with_word}
use Rattle.mach_types.specs.Kernel.Pages.{pages_of}
use Rattle.elf_load.specs.Images.{IsPermission}
use Rattle.frame_pool.specs.Held.{AreHeld}
use Rattle.frame_pool.specs.Pool.{IsTaken, free_count, fresh}
use Rattle.frame_pool.proofs.Laws.{AreHeld-apart, AreHeld-at, AreHeld-push, AreHeld-write, IsTaken-apart, free_count-taking, free_count-writing, slice_get-append_left, slice_get-set_other, slice_get-set_same}
use Rattle.page_map.specs.Map.{Map, Page, frame_bytes, page_at, page_in, page_with, page_with_words, permission_in, with_words, zeroed_page}
use Rattle.page_map.specs.Mapping.{CanLie, IsMap, frames_of}
use Rattle.page_map.specs.declared.map.PageMap.TheInside.{Inside}
use Rattle.page_map.specs.Table.{Table, place_in}
use Rattle.page_map.specs.declared.mapped_page.MappedPage.{MappedPage}

-- a map by its fields
abbrev pub shown : Inside → Map
shown was = record { pool = was.pool; mapped = was.mapped.items; table = was.table; break_at = was.break_at; break_start = was.break_start }

-- a page without a place isn't mapped
pub page-none : (m : Map) (n : ℕ) → place_in m.table n ≡ None → page_in m n ≡ None
unfolding page_in
page-none m n none = ap (λ o. option_map (page_at m.pool) (option_and_then (slice_get m.mapped) o)) none

-- a page with a place is what stands there
pub page-some : (m : Map) (n i : ℕ) (p : MappedPage) → place_in m.table n ≡ Some i → slice_get m.mapped i ≡ Some p
    → page_in m n ≡ Some (page_at m.pool p)
unfolding page_in
page-some m n i p place stands =
    ap (λ o. option_map (page_at m.pool) (option_and_then (slice_get m.mapped) o)) place ∙ ap (option_map (page_at m.pool)) stands

-- no page is mapped over an empty list
pub page-empty : (m : Map) (n : ℕ) → ((k : ℕ) → place_in m.table k ≡ None) → page_in m n ≡ None
page-empty m n none = page-none m n (none n)

-- what is read at a place stands there
pub slice_get-read : {X : Type 0} (xs : List X) (i : ℕ) (x : X) → x ≡ get_or xs i x → i < length xs → slice_get xs i ≡ Some x
slice_get-read xs i x is lt = slice_get-get_or xs i x lt ∙ ap Some (sym is)

pub frames-at : (mapped : List MappedPage) (i : ℕ) (p : MappedPage) → slice_get mapped i ≡ Some p → slice_get (frames_of mapped) i ≡ Some p.frame
frames-at mapped i p stands = slice_get-map (λ (q : MappedPage). q.frame) mapped i ∙ ap (option_map (λ (q : MappedPage). q.frame)) stands

slice_get-append : {X : Type 0} (xs ys : List X) (i : ℕ) (x : X) → slice_get xs i ≡ Some x → slice_get (xs ++ ys) i ≡ Some x
slice_get-append [] ys i x at = cc
slice_get-append (y ∷ xs) ys zero x at = at
slice_get-append (y ∷ xs) ys (suc i) x at = slice_get-append xs ys i x at

pub some-one : (i j : ℕ) → Some i ≡ Some j → i ≡ j
some-one i j e = cc

-- what holds of each page of a list holds of the one at a place, and the other way round
pub all-at : (P : MappedPage → Type 0) (mapped : List MappedPage) (i : ℕ) (p : MappedPage) → All P mapped → slice_get mapped i ≡ Some p → P p
all-at P mapped i p all at = subst P (get_or_from_slice_get mapped i p p at) (all i p (slice_get_within mapped i p at))

pub all-of : (P : MappedPage → Type 0) (mapped : List MappedPage) → ((i : ℕ) (p : MappedPage) → slice_get mapped i ≡ Some p → P p) → All P mapped
all-of P mapped each i d lt = each i (get_or mapped i d) (slice_get-get_or mapped i d lt)

-- at one place stands one page
pub one-page : (mapped : List MappedPage) (i : ℕ) (p q : MappedPage) → slice_get mapped i ≡ Some p → slice_get mapped i ≡ Some q → p ≡ q
one-page mapped i p q first second = let both : Some p ≡ Some q = sym first ∙ second in cc

-- a page below the breaks can lie there
pub can_lie-low : (start at number permission : ℕ) → number < 33554432 → number < pages_of at → number < pages_of start
    → CanLie start at number permission
can_lie-low start at number permission small below before = record {
  inside = omega arith;
  gap = λ between. let from : 0x3FFFF40 ≤ number = between.0 in omega arith;
  past_break = λ past. absurd (omega arith);
  code = λ runs past. absurd (omega arith);
}

module _ (m : Map) (capacity : ℕ) (kept : IsMap m capacity) where
  -- the frame of a page is taken
  pub page-taken : (i : ℕ) (p : MappedPage) → slice_get m.mapped i ≡ Some p → IsTaken m.pool p.frame
  page-taken i p at = AreHeld-at m.pool (frames_of m.mapped) i p.frame kept.held (frames-at m.mapped i p at)

  pub place_or_none : (n : ℕ) (o : Option ℕ) → place_in m.table n ≡ o
      → (place_in m.table n ≡ None) ⊎ ((i : ℕ) × (place_in m.table n ≡ Some i) × (p : MappedPage) × (slice_get m.mapped i ≡ Some p))
  place_or_none n None is = inl is
  place_or_none n (Some i) is =
      let there = kept.placed n i is in
      inr (i, is, there.page, there.there)

  -- a place in the table is one of the list, and it is the place of one page
  pub place-within : (n i : ℕ) → place_in m.table n ≡ Some i → i < length m.mapped
  place-within n i is = let there = kept.placed n i is in slice_get_within m.mapped i there.page there.there

  pub place-own : (n k i : ℕ) → place_in m.table n ≡ Some i → place_in m.table k ≡ Some i → n ≡ k
  place-own n k i first second =
      let one = kept.placed n i first in
      let other = kept.placed k i second in
      sym one.number ∙ ap (λ (p : MappedPage). p.number) (one-page m.mapped i one.page other.page one.there other.there) ∙ other.number

  -- another page of a pool in which one frame was written is as it was
  pub same-bytes : (f : ℕ) (o : Option (List ℕ)) (p : MappedPage) → p.frame ≢ f → page_at (slice_set m.pool f o) p ≡ page_at m.pool p
  same-bytes f o p two =
      ap (λ b. let q : Page = record { permission = p.permission; bytes = frame_bytes b } in q) (slice_get-set_other m.pool f p.frame o two)

  -- a page is mapped, which gets a frame that was free and the next place
  module _ (f number permission : ℕ) (bytes : List ℕ) (free : slice_get m.pool f ≡ Some None) (mapped' : List MappedPage) (table' : Table)
      (appended : mapped' ≡ m.mapped ++ record { number = number; frame = f; permission = permission } ∷ [])
      (places : (n : ℕ) → place_in table' n ≡ cond (nat_eq n number) (Some (length m.mapped)) (place_in m.table n)) where
    appended-here : slice_get mapped' (length m.mapped) ≡ Some (record { number = number; frame = f; permission = permission })
    appended-here =
        ap (λ ps. slice_get ps (length m.mapped)) appended
        ∙ slice_get-get_or (m.mapped ++ record { number = number; frame = f; permission = permission } ∷ []) (length m.mapped) (record { number = number; frame = f; permission = permission })
        (omega (arith, length-append m.mapped (let q : List MappedPage = record { number = number; frame = f; permission = permission } ∷ [] in q)))
        ∙ ap Some (get_or-append_right m.mapped (record { number = number; frame = f; permission = permission } ∷ []) (length m.mapped) (length m.mapped) (record { number = number; frame = f; permission = permission }) refl (omega arith)
        ∙ ap (λ j. get_or (let q : List MappedPage = record { number = number; frame = f; permission = permission } ∷ [] in q) j (record { number = number; frame = f; permission = permission })) (let none : length m.mapped - length m.mapped ≡ 0 = omega arith in none))

    appended-below : (i : ℕ) (p : MappedPage) → slice_get m.mapped i ≡ Some p → slice_get mapped' i ≡ Some p
    appended-below i p at =
        ap (λ ps. slice_get ps i) appended ∙ slice_get-append m.mapped (record { number = number; frame = f; permission = permission } ∷ []) i p at

    added-here : (n : ℕ) → n ≡ number
        → page_in (record { pool = slice_set m.pool f (Some bytes); mapped = mapped'; table = table'; break_at = m.break_at; break_start = m.break_start }) n
        ≡ Some (record { permission = permission; bytes = bytes })
    added-here n same =
        page-some (record { pool = slice_set m.pool f (Some bytes); mapped = mapped'; table = table'; break_at = m.break_at; break_start = m.break_start }) n (length m.mapped)
        (record { number = number; frame = f; permission = permission }) (places n ∙ (rw (eq-eqb n number same) refl)) appended-here
        ∙ ap (λ b. let q : Option Page = Some (record { permission = permission; bytes = frame_bytes b }) in q)
        (slice_get-set_same m.pool f None (Some bytes) free)

    added-other : (n : ℕ) → n ≢ number
        → page_in (record { pool = slice_set m.pool f (Some bytes); mapped = mapped'; table = table'; break_at = m.break_at; break_start = m.break_start }) n ≡ page_in m n
    added-other n two =
        let place : place_in table' n ≡ place_in m.table n = places n ∙ (rw (ne_eqb n number two) refl) in
        elim (place_or_none n (place_in m.table n) refl) [
          | inl none ↦
              page-none (record { pool = slice_set m.pool f (Some bytes); mapped = mapped'; table = table'; break_at = m.break_at; break_start = m.break_start }) n (place ∙ none)
              ∙ sym (page-none m n none)
          | inr some ↦
              page-some (record { pool = slice_set m.pool f (Some bytes); mapped = mapped'; table = table'; break_at = m.break_at; break_start = m.break_start }) n some.0 some.2
              (place ∙ some.1) (appended-below some.0 some.2 some.3)
              ∙ ap Some (same-bytes f (Some bytes) some.2 (IsTaken-apart m.pool f some.2.frame (page-taken some.0 some.2 some.3) free))
              ∙ sym (page-some m n some.0 some.2 some.1 some.3)
        ]

    pub added-pages : (n : ℕ)
        → page_in (record { pool = slice_set m.pool f (Some bytes); mapped = mapped'; table = table'; break_at = m.break_at; break_start = m.break_start }) n
        ≡ cond (nat_eq n number) (Some (record { permission = permission; bytes = bytes })) (page_in m n)
    added-pages n = elim (cases_eq n number) [
      | inl same ↦ rw (eq-eqb n number same) (added-here n same)
      | inr two ↦ rw (ne_eqb n number two) (added-other n two)
    ]

    place-new : (n i : ℕ) → place_in table' n ≡ Some i → ((n ≡ number) × (i ≡ length m.mapped)) ⊎ ((n ≢ number) × (place_in m.table n ≡ Some i))
    place-new n i is = elim (cases_eq n number) [
      | inl same ↦
          let here : place_in table' n ≡ Some (length m.mapped) = places n ∙ (rw (eq-eqb n number same) refl) in
          let one : length m.mapped ≡ i = some-one (length m.mapped) i (sym here ∙ is) in
          inl (same, sym one)
      | inr two ↦ inr (two, sym (places n ∙ (rw (ne_eqb n number two) refl)) ∙ is)
    ]

    pub added-map : (capacity' : ℕ) → CanLie m.break_start m.break_at number permission → IsPermission permission → 0 < free_count m.pool
        → place_in m.table number ≡ None → capacity ≤ capacity'
        → IsMap (record { pool = slice_set m.pool f (Some bytes); mapped = mapped'; table = table'; break_at = m.break_at; break_start = m.break_start }) capacity'
    added-map capacity' lies allowed some unplaced grows =
        let size : length mapped' ≡ length m.mapped + 1 =
        ap length appended ∙ length-append m.mapped (record { number = number; frame = f; permission = permission } ∷ []) in
        let fewer : free_count (slice_set m.pool f (Some bytes)) + 1 ≡ free_count m.pool = free_count-taking m.pool f bytes free in
        let room = kept.room in
        let numbers = kept.numbers in
        record {
          held =
              subst (AreHeld (slice_set m.pool f (Some bytes)))
              (sym (ap frames_of appended ∙ map-append (λ (q : MappedPage). q.frame) m.mapped (record { number = number; frame = f; permission = permission } ∷ [])))
              (AreHeld-push m.pool (frames_of m.mapped) f bytes kept.held free);
          placed = λ n i is. elim (place-new n i is) [
            | inl new ↦ record {
              page = record { number = number; frame = f; permission = permission };
              there = ap (slice_get mapped') new.1 ∙ appended-here;
              number = sym new.0;
            }
            | inr old ↦ let there = kept.placed n i old.1 in record {
              page = there.page;
              there = appended-below i there.page there.there;
              number = there.number;
            }
          ];
          entered = λ i p at. elim (cases_eq i (length m.mapped)) [
            | inl last ↦
                let same = one-page mapped' i p (record { number = number; frame = f; permission = permission }) at (ap (slice_get mapped') last ∙ appended-here) in
                let here : p.number ≡ number = ap (λ (q : MappedPage). q.number) same in
                places p.number ∙ (rw (eq-eqb p.number number here) (ap Some (sym last)))
            | inr below ↦
                let lt : i < length m.mapped = let within = slice_get_within mapped' i p at in omega arith in
                let old : slice_get m.mapped i ≡ Some p =
                sym (slice_get-append_left m.mapped (record { number = number; frame = f; permission = permission } ∷ []) i lt)
                ∙ ap (λ ps. slice_get ps i) (sym appended) ∙ at in
                let place : place_in m.table p.number ≡ Some i = kept.entered i p old in
                let two : p.number ≢ number = λ e. (let none : place_in m.table p.number ≡ None = ap (place_in m.table) e ∙ unplaced in cc) in
                places p.number ∙ (rw (ne_eqb p.number number two) place)
          ];
          permissions =
              subst (All (λ (p : MappedPage). IsPermission p.permission)) (sym appended)
              (All-append (λ (p : MappedPage). IsPermission p.permission) m.mapped (record { number = number; frame = f; permission = permission } ∷ []) kept.permissions
              (All-cons (λ (p : MappedPage). IsPermission p.permission) (record { number = number; frame = f; permission = permission }) [] allowed (λ k d lt. absurd (omega arith))));
          lie =
              subst (All (λ (p : MappedPage). CanLie m.break_start m.break_at p.number p.permission)) (sym appended)
              (All-append (λ (p : MappedPage). CanLie m.break_start m.break_at p.number p.permission) m.mapped (record { number = number; frame = f; permission = permission } ∷ []) kept.lie
              (All-cons (λ (p : MappedPage). CanLie m.break_start m.break_at p.number p.permission) (record { number = number; frame = f; permission = permission }) [] lies (λ k d lt. absurd (omega arith))));
          break_from = kept.break_from;
          break_to = kept.break_to;
          room = omega arith;
          numbers = omega arith;
        }

  -- other bytes are in the frames
  pub repooled-map : (pool : List (Option (List ℕ))) → AreHeld pool (frames_of m.mapped) → free_count pool ≡ free_count m.pool
      → IsMap (record { pool = pool; mapped = m.mapped; table = m.table; break_at = m.break_at; break_start = m.break_start }) capacity
  repooled-map pool held same = record {
    held = held;
    placed = kept.placed;
    entered = kept.entered;
    permissions = kept.permissions;
    lie = kept.lie;
    break_from = kept.break_from;
    break_to = kept.break_to;
    room = rw same kept.room;
    numbers = rw same kept.numbers;
  }

  -- the frame of a mapped page is written
  module _ (number i : ℕ) (p : MappedPage) (bytes : List ℕ) (place : place_in m.table number ≡ Some i) (at : slice_get m.mapped i ≡ Some p) where
    pub written-map : IsMap (record { pool = slice_set m.pool p.frame (Some bytes); mapped = m.mapped; table = m.table; break_at = m.break_at; break_start = m.break_start }) capacity
    written-map =
        repooled-map (slice_set m.pool p.frame (Some bytes)) (AreHeld-write m.pool (frames_of m.mapped) p.frame bytes kept.held)
        (free_count-writing m.pool p.frame bytes (page-taken i p at))

    pub written-free : free_count (slice_set m.pool p.frame (Some bytes)) ≡ free_count m.pool
    written-free = free_count-writing m.pool p.frame bytes (page-taken i p at)

    written-here : (n : ℕ) → n ≡ number
        → page_in (record { pool = slice_set m.pool p.frame (Some bytes); mapped = m.mapped; table = m.table; break_at = m.break_at; break_start = m.break_start }) n
        ≡ Some (record { permission = p.permission; bytes = bytes })
    written-here n same =
        let taken = page-taken i p at in
        page-some (record { pool = slice_set m.pool p.frame (Some bytes); mapped = m.mapped; table = m.table; break_at = m.break_at; break_start = m.break_start }) n i p
        (ap (place_in m.table) same ∙ place) at
        ∙ ap (λ b. let q : Option Page = Some (record { permission = p.permission; bytes = frame_bytes b }) in q)
        (slice_get-set_same m.pool p.frame (Some taken.0) (Some bytes) taken.1)

    written-other : (n : ℕ) → n ≢ number
        → page_in (record { pool = slice_set m.pool p.frame (Some bytes); mapped = m.mapped; table = m.table; break_at = m.break_at; break_start = m.break_start }) n ≡ page_in m n
    written-other n two =
        elim (place_or_none n (place_in m.table n) refl) [
          | inl none ↦
              page-none (record { pool = slice_set m.pool p.frame (Some bytes); mapped = m.mapped; table = m.table; break_at = m.break_at; break_start = m.break_start }) n none
              ∙ sym (page-none m n none)
          | inr some ↦
              page-some (record { pool = slice_set m.pool p.frame (Some bytes); mapped = m.mapped; table = m.table; break_at = m.break_at; break_start = m.break_start }) n some.0 some.2 some.1 some.3
              ∙ ap Some (same-bytes p.frame (Some bytes) some.2 (λ e. two (place-own n number i
              (some.1 ∙ ap Some (AreHeld-apart m.pool (frames_of m.mapped) some.0 i p.frame kept.held (frames-at m.mapped some.0 some.2 some.3 ∙ ap Some e) (frames-at m.mapped i p at))) place)))
              ∙ sym (page-some m n some.0 some.2 some.1 some.3)
        ]

    pub written-pages : (n : ℕ)
        → page_in (record { pool = slice_set m.pool p.frame (Some bytes); mapped = m.mapped; table = m.table; break_at = m.break_at; break_start = m.break_start }) n
        ≡ cond (nat_eq n number) (Some (record { permission = p.permission; bytes = bytes })) (page_in m n)
    written-pages n = elim (cases_eq n number) [
      | inl same ↦ rw (eq-eqb n number same) (written-here n same)
      | inr two ↦ rw (ne_eqb n number two) (written-other n two)
    ]

  -- a number is written to the frame of a page
  pub written-with : (number i : ℕ) (p : MappedPage) (offset size value : ℕ) → place_in m.table number ≡ Some i → slice_get m.mapped i ≡ Some p → (n : ℕ)
      → page_in (record { pool = slice_set m.pool p.frame (Some (with_word (frame_bytes (slice_get m.pool p.frame)) offset size value)); mapped = m.mapped; table = m.table; break_at = m.break_at; break_start = m.break_start }) n
      ≡ cond (nat_eq n number) (option_map (page_with offset size value) (page_in m n)) (page_in m n)
  written-with number i p offset size value place at n =
      written-pages number i p (with_word (frame_bytes (slice_get m.pool p.frame)) offset size value) place at n
      ∙ elim (cases_eq n number) [
        | inl same ↦
            let here : page_in m n ≡ Some (page_at m.pool p) = page-some m n i p (ap (place_in m.table) same ∙ place) at in
            rw (eq-eqb n number same, here) refl
        | inr two ↦ rw (ne_eqb n number two) refl
      ]

  -- the frame of a page is zero
  pub written-zeros : (number i : ℕ) (p : MappedPage) → place_in m.table number ≡ Some i → slice_get m.mapped i ≡ Some p → (n : ℕ)
      → page_in (record { pool = slice_set m.pool p.frame (Some fresh); mapped = m.mapped; table = m.table; break_at = m.break_at; break_start = m.break_start }) n
      ≡ cond (nat_eq n number) (option_map zeroed_page (page_in m n)) (page_in m n)
  written-zeros number i p place at n =
      written-pages number i p fresh place at n
      ∙ elim (cases_eq n number) [
        | inl same ↦
            let here : page_in m n ≡ Some (page_at m.pool p) = page-some m n i p (ap (place_in m.table) same ∙ place) at in
            rw (eq-eqb n number same, here) refl
        | inr two ↦ rw (ne_eqb n number two) refl
      ]

  -- words are written to the frame of a page
  pub written-words : (number i : ℕ) (p : MappedPage) (offset : ℕ) (ws : List ℕ) → place_in m.table number ≡ Some i → slice_get m.mapped i ≡ Some p → (n : ℕ)
      → page_in (record { pool = slice_set m.pool p.frame (Some (with_words (frame_bytes (slice_get m.pool p.frame)) offset ws)); mapped = m.mapped; table = m.table; break_at = m.break_at; break_start = m.break_start }) n
      ≡ cond (nat_eq n number) (option_map (page_with_words offset ws) (page_in m n)) (page_in m n)
  written-words number i p offset ws place at n =
      written-pages number i p (with_words (frame_bytes (slice_get m.pool p.frame)) offset ws) place at n
      ∙ elim (cases_eq n number) [
        | inl same ↦
            let here : page_in m n ≡ Some (page_at m.pool p) = page-some m n i p (ap (place_in m.table) same ∙ place) at in
            rw (eq-eqb n number same, here) refl
        | inr two ↦ rw (ne_eqb n number two) refl
      ]

  -- a page has a permission that it can have
  pub page-permission : (i : ℕ) (p : MappedPage) → slice_get m.mapped i ≡ Some p → IsPermission p.permission
  page-permission i p at = all-at (λ (q : MappedPage). IsPermission q.permission) m.mapped i p kept.permissions at

  -- and lies where it can
  pub page-lies : (i : ℕ) (p : MappedPage) → slice_get m.mapped i ≡ Some p → CanLie m.break_start m.break_at p.number p.permission
  page-lies i p at = all-at (λ (q : MappedPage). CanLie m.break_start m.break_at q.number q.permission) m.mapped i p kept.lie at

-- a page that isn't mapped has no place
pub unmapped-place : (m : Map) (capacity : ℕ) → IsMap m capacity → (n : ℕ) → page_in m n ≡ None → place_in m.table n ≡ None
unmapped-place m capacity kept n none = elim (place_or_none m capacity kept n (place_in m.table n) refl) [
  | inl unplaced ↦ unplaced
  | inr some ↦ let there = page-some m n some.0 some.2 some.1 some.3 in cc
]

-- whether a page is mapped is whether it has a place
pub is_mapped-placed : (m : Map) (capacity : ℕ) → IsMap m capacity → (n : ℕ) → is_some (place_in m.table n) ≡ is_some (permission_in m n)
is_mapped-placed m capacity kept n = elim (place_or_none m capacity kept n (place_in m.table n) refl) [
  | inl none ↦ ap is_some none ∙ sym (ap (λ o. is_some (option_map (λ (p : Page). p.permission) o)) (page-none m n none))
  | inr some ↦ ap is_some some.1 ∙ sym (ap (λ o. is_some (option_map (λ (p : Page). p.permission) o)) (page-some m n some.0 some.2 some.1 some.3))
]

-- the pages don't depend on the break
pub page-break : (m : Map) (at n : ℕ) → page_in (record m { break_at = at }) n ≡ page_in m n
unfolding page_in
page-break m at n = refl
