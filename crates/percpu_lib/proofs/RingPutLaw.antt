-- A sequence of a ring put block puts its words into the ring once or not at all.
use Rattle.std.proofs.Common.{◌≡◌, ◌≢◌, ℕ, ◌+◌, ◌*◌, ◌<◌, ◌≤◌, List, [], ◌∷◌, ◌++◌, ap, ◌∙◌, arith}
use Rattle.std.proofs.Common.{refl, inl, inr, append-nil}
use Rattle.mach_types.specs.Bytes.{word_at}
use Rattle.mach_types.specs.declared.user_memory.Store.{Store}
use Rattle.rv_inst.specs.Execution.{seen_byte}
use Rattle.alone_laws.specs.Spans.{seen_at, sees}
use Rattle.block_model.specs.History.{History, stores}
use Rattle.percpu_lib.specs.RingForms.{ArePut, IsNoPut, IsRingApart, IsRingKept, Puts, first_stores, puts_none}
use Rattle.percpu_lib.specs.RingForms.{puts_words, slot_of}
use Rattle.percpu_lib.specs.RingKinds.{puts}
use Rattle.percpu_lib.proofs.Beginnings.{beginning, ring_seen}
use Rattle.percpu_lib.proofs.Changes.{value_changed}
use Rattle.percpu_lib.proofs.Courses.{IsCourse}
use Rattle.percpu_lib.proofs.RingData.{apart_behind, behind_contents, content_there, head_there, in_ring, in_slot}
use Rattle.percpu_lib.proofs.RingData.{ring_there, word_low}
use Rattle.percpu_lib.proofs.RingLaw.{After, Done, Inside, RingPlace, Stays, beside_number, course_by, executed}
use Rattle.percpu_lib.proofs.RingLaw.{form, last_store, stays_so, store}
use Rattle.percpu_lib.proofs.RingPlaces.{slot_low, tail_in}
use Rattle.percpu_lib.proofs.RingStores.{beside_first, beside_last, stored_first, stored_last}

module _ (r : RingPlace puts) where
  open r use {site.{s, at, area, h, t, begun}, size.{count, p}}
  open (beginning s p h t begun) use {value, ring}
  open (ring_seen s h ring begun) use {head, tail, holds}

  abbrev apart : IsRingApart s area.at ring value count h begun
  apart = r.place.apart

  abbrev stored : ℕ → List Store
  stored k = first_stores (store puts r) k

  abbrev all_stored : List Store
  all_stored = stored count ++ last_store puts r ∷ []

  -- the first slots lie behind head and tail, and none of them among the contents
  head_stays : (k : ℕ) → Stays puts r (stored k) ring
  head_stays k =
      beside_first (sees s h begun) (store puts r) k ring 8
      (λ j lt. let low = slot_low ring (tail + j) in inr (omega arith))

  tail_stays : (k : ℕ) → Stays puts r (stored k) (ring + 8)
  tail_stays k =
      beside_first (sees s h begun) (store puts r) k (ring + 8) 8
      (λ j lt. let low = slot_low ring (tail + j) in inr (omega arith))

  contents_stay : (k : ℕ) → k ≤ count → (k ≢ 0 → holds + count ≤ 512) → (j : ℕ) → j < holds
      → Stays puts r (stored k) (slot_of ring (head + j))
  contents_stay k few room j lt =
      beside_first (sees s h begun) (store puts r) k (slot_of ring (head + j)) 8
      (λ i less. behind_contents s h begun area.at ring value count apart i j (room (λ none. omega arith))
      (omega arith) lt)

  module _ (temps : ℕ → ℕ) (es : List Store) (last : History) (after : After puts r temps es last) where
    ring_kept : (k : ℕ) → k ≤ count → (k ≢ 0 → holds + count ≤ 512) → es ≡ stored k
        → IsRingKept s ring h begun last
    ring_kept k few room is =
        ring_there s h begun area.at ring value count apart last es after.sees
        (stays_so puts r es (stored k) is ring (head_stays k))
        (stays_so puts r es (stored k) is (ring + 8) (tail_stays k))
        (λ j lt. stays_so puts r es (stored k) is (slot_of ring (head + j)) (contents_stay k few room j lt))

    ran : (j : ℕ) → es ≡ stored j → stores h last ≡ stores h begun ++ stored j
    ran j is = executed puts r temps es last after (stored j) is

    not_put : Inside puts r es → IsNoPut s p ring h t count begun last
    not_put so_far = record {
      same = ring_kept so_far.0 so_far.1 so_far.2 so_far.3;
      stored = record { some = so_far.0; few = so_far.1; room = so_far.2; stored = ran so_far.0 so_far.3 };
      kept = after.kept;
    }

    are_put : holds + count ≤ 512 → es ≡ all_stored → ArePut s ring h value count begun last
    are_put room is = record {
      words = λ k lt.
          after.sees (slot_of ring (tail + k)) (in_slot s h begun area.at ring value count apart (tail + k))
          ∙ stays_so_far (slot_of ring (tail + k))
          ∙ beside_last (sees s h begun) (stored count) (last_store puts r) (slot_of ring (tail + k)) 8
          (let low = slot_low ring (tail + k) in inl (omega arith))
          ∙ stored_first (sees s h begun) (store puts r) count k lt
          (λ i. word_low s h begun area.at ring value count apart (value + 8 * i))
          (λ i less other. apart_behind s h begun area.at ring value count apart i k room less lt other);
      tail =
          after.sees (ring + 8) (in_ring s h begun area.at ring value count apart (ring + 8) (tail_in ring))
          ∙ stays_so_far (ring + 8)
          ∙ stored_last (sees s h begun) (stored count) (last_store puts r) (omega arith);
      head = head_there s h begun area.at ring value count apart last es after.sees head_same;
      contents = λ j lt. content_there s h begun area.at ring value count apart last es after.sees j head_same
          (stays_so puts r es all_stored is (slot_of ring (head + j))
          (beside_number puts r (stored count) (slot_of ring (head + j))
          (let low = slot_low ring (head + j) in inl (omega arith))
          (contents_stay count (omega arith) (λ more. room) j lt)));
      stored = after.stored ∙ ap (λ (x : List Store). stores h begun ++ x) is;
    }
      where
        stays_so_far : (from : ℕ) → word_at (seen_byte es (seen_at s h begun)) from 8
            ≡ word_at (seen_byte all_stored (seen_at s h begun)) from 8
        stays_so_far from = ap (λ (x : List Store). word_at (seen_byte x (seen_at s h begun)) from 8) is

        head_same : Stays puts r es ring
        head_same =
            stays_so puts r es all_stored is ring
            (beside_number puts r (stored count) ring (inr (omega arith)) (head_stays count))

    puts_it : Done puts r temps es → Puts s p ring h t count begun last
    puts_it (inl full) =
        puts_none full.0 (after.temp p.value (value_changed p) ∙ full.1)
        (ring_kept 0 (omega arith) (λ more. absurd (more refl)) full.2)
        (after.stored ∙ ap (λ (x : List Store). stores h begun ++ x) full.2 ∙ append-nil (stores h begun))
    puts_it (inr done) =
        puts_words done.0 (after.temp p.value (value_changed p) ∙ done.1) (are_put done.0 done.2)

  -- the course of a ring put block
  pub put_course : IsCourse s (form puts r) at area h t begun
  put_course =
      course_by puts r not_put
      (λ temps es last after done. record { moves = puts_it temps es last after done; kept = after.kept })
