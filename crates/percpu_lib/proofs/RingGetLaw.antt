-- A sequence of a ring get block gets its words out of the ring once or not at all.
use Rattle.std.proofs.Common.{◌≡◌, ◌≢◌, ℕ, ◌+◌, ◌*◌, ◌<◌, ◌≤◌, ◌%◌, ◌^◌, List, [], ◌∷◌, ◌++◌, ap, ◌∙◌}
use Rattle.std.proofs.Common.{arith, inl, inr, ◌⊎◌, append-nil, Option, Some, unwrap_or}
use Rattle.std.proofs.lemmas.Bool.{cases_lt}
use Rattle.mach_types.specs.Bytes.{word_at}
use Rattle.mach_types.specs.declared.user_memory.Store.{Store}
use Rattle.rv_inst.specs.Execution.{seen_byte}
use Rattle.alone_laws.specs.Spans.{seen_at, sees}
use Rattle.block_model.specs.History.{History, stores}
use Rattle.percpu_lib.specs.Pushes.{LieBeside, word_seen}
use Rattle.percpu_lib.specs.RingForms.{AreGot, Gets, IsNoGet, IsRingApart, IsRingKept, first_stores, gets_none}
use Rattle.percpu_lib.specs.RingForms.{gets_words, head_seen, slot_of, word_of}
use Rattle.percpu_lib.specs.RingKinds.{gets}
use Rattle.percpu_lib.proofs.Beginnings.{beginning, ring_seen}
use Rattle.percpu_lib.proofs.Changes.{value_changed}
use Rattle.percpu_lib.proofs.Courses.{IsCourse}
use Rattle.percpu_lib.proofs.RingData.{in_ring, in_slot, in_words, ring_there, ring_word, same_there, word_low}
use Rattle.percpu_lib.proofs.RingData.{word_ring}
use Rattle.percpu_lib.proofs.RingLaw.{After, Done, Inside, RingPlace, Stays, beside_number, course_by, executed}
use Rattle.percpu_lib.proofs.RingLaw.{form, last_store, stays_so, store}
use Rattle.percpu_lib.proofs.RingPlaces.{AreOfRing, head_in, slot_in, slot_low, tail_in}
use Rattle.percpu_lib.proofs.RingStores.{IsBeside, beside_first, beside_last, stored_first, stored_last}

other_word : (value i k : ℕ) → i ≢ k → LieBeside (value + 8 * i) 8 (value + 8 * k) 8
other_word value i k other = by_order (cases_lt i k)
  where
    by_order : (i < k) ⊎ (k ≤ i) → LieBeside (value + 8 * i) 8 (value + 8 * k) 8
    by_order (inl less) = inl (omega arith)
    by_order (inr more) = inr (omega arith)

module _ (r : RingPlace gets) where
  open r use {site.{s, at, area, h, t, begun}, size.{count, p}}
  open (beginning s p h t begun) use {value, ring}
  open (ring_seen s h ring begun) use {head, holds}

  -- the slot of word j behind those that were got
  later_slot : (j : ℕ) → slot_of ring ((head + count) % 2 ^ 64 + j) ≡ slot_of ring (head + (count + j))
  later_slot j = omega arith

  abbrev apart : IsRingApart s area.at ring value count h begun
  apart = r.place.apart

  abbrev stored : ℕ → List Store
  stored k = first_stores (store gets r) k

  -- the words at the value lie beside the ring
  ring_stays : (k from : ℕ) → k ≤ count → AreOfRing ring from 8 → Stays gets r (stored k) from
  ring_stays k from few its =
      beside_first (sees s h begun) (store gets r) k from 8
      (λ j lt. word_ring s h begun area.at ring value count apart j from 8 (omega arith) its)

  module _ (temps : ℕ → ℕ) (es : List Store) (last : History) (after : After gets r temps es last) where
    ring_kept : (k : ℕ) → k ≤ count → es ≡ stored k → IsRingKept s ring h begun last
    ring_kept k few is =
        ring_there s h begun area.at ring value count apart last es after.sees (so_far ring (head_in ring))
        (so_far (ring + 8) (tail_in ring)) (λ j lt. so_far (slot_of ring (head + j)) (slot_in ring (head + j)))
      where
        so_far : (from : ℕ) → AreOfRing ring from 8 → Stays gets r es from
        so_far from its = stays_so gets r es (stored k) is from (ring_stays k from few its)

    ran : (j : ℕ) → es ≡ stored j → stores h last ≡ stores h begun ++ stored j
    ran j is = executed gets r temps es last after (stored j) is

    not_got : Inside gets r es → IsNoGet s p ring h t count begun last
    not_got so_far = record {
      same = ring_kept so_far.0 so_far.1 so_far.3;
      stored = record { some = so_far.0; few = so_far.1; enough = so_far.2; stored = ran so_far.0 so_far.3 };
      kept = after.kept;
    }

    are_got : es ≡ stored count ++ last_store gets r ∷ [] → AreGot s ring h value count begun last
    are_got is = record {
      words = λ k lt.
          after.sees (value + 8 * k) (in_words s h begun area.at ring value count apart (value + 8 * k)
          (omega arith) (omega arith))
          ∙ so (value + 8 * k)
          ∙ beside_last (sees s h begun) (stored count) (last_store gets r) (value + 8 * k) 8
          (ring_word s h begun area.at ring value count apart k ring 8 lt (head_in ring))
          ∙ stored_first (sees s h begun) (store gets r) count k lt
          (λ i. word_low s h begun area.at ring value count apart (slot_of ring (head + i)))
          (λ i less other. other_word value i k other);
      head = head_now;
      tail = same_there s h begun area.at ring value count apart last es after.sees (ring + 8)
          (in_ring s h begun area.at ring value count apart (ring + 8) (tail_in ring))
          (left (ring + 8) (tail_in ring) (inl (omega arith)));
      contents = λ j lt.
          let same : head_seen s h ring last ≡ (head + count) % 2 ^ 64 =
          ap (λ (o : Option ℕ). unwrap_or o 0 % 2 ^ 64) head_now ∙ omega arith in
          ap (λ n. word_of s h (slot_of ring (n + j)) last) same ∙ ap (λ n. word_of s h n last) (later_slot j)
          ∙ ap (λ (o : Option ℕ). unwrap_or o 0 % 2 ^ 64) (slot_same (head + (count + j)));
      stored = after.stored ∙ ap (λ (x : List Store). stores h begun ++ x) is;
    }
      where
        so : (from : ℕ) → word_at (seen_byte es (seen_at s h begun)) from 8
            ≡ word_at (seen_byte (stored count ++ last_store gets r ∷ []) (seen_at s h begun)) from 8
        so from = ap (λ (x : List Store). word_at (seen_byte x (seen_at s h begun)) from 8) is

        left : (from : ℕ) → AreOfRing ring from 8 → IsBeside (last_store gets r) from 8 → Stays gets r es from
        left from its beside =
            stays_so gets r es (stored count ++ last_store gets r ∷ []) is from
            (beside_number gets r (stored count) from beside (ring_stays count from (omega arith) its))

        head_now : word_seen s h ring last ≡ Some ((head + count) % 2 ^ 64)
        head_now =
            after.sees ring (in_ring s h begun area.at ring value count apart ring (head_in ring))
            ∙ so ring ∙ stored_last (sees s h begun) (stored count) (last_store gets r) (omega arith)

        slot_same : (n : ℕ) → word_seen s h (slot_of ring n) last ≡ word_seen s h (slot_of ring n) begun
        slot_same n =
            let low = slot_low ring n in
            same_there s h begun area.at ring value count apart last es after.sees (slot_of ring n)
            (in_slot s h begun area.at ring value count apart n)
            (left (slot_of ring n) (slot_in ring n) (inl (omega arith)))

    gets_it : Done gets r temps es → Gets s p ring h t count begun last
    gets_it (inl short) =
        gets_none short.0 (after.temp p.value (value_changed p) ∙ short.1) (ring_kept 0 (omega arith) short.2)
        (after.stored ∙ ap (λ (x : List Store). stores h begun ++ x) short.2 ∙ append-nil (stores h begun))
    gets_it (inr done) =
        gets_words done.0 (after.temp p.value (value_changed p) ∙ done.1) (are_got done.2)

  -- the course of a ring get block
  pub get_course : IsCourse s (form gets r) at area h t begun
  get_course =
      course_by gets r not_got
      (λ temps es last after done. record { moves = gets_it temps es last after done; kept = after.kept })
