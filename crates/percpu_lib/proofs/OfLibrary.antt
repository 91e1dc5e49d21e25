-- A block whose words stand in a program is one of the library there.
use Rattle.std.proofs.Common.{◌≡◌, ℕ, zero, suc, ◌+◌, ◌*◌, ◌<◌, ◌≤◌, ◌^◌, List, [], ◌∷◌, ◌++◌, length, slice_get, take, drop, refl, sym}
use Rattle.std.proofs.Common.{ap, ◌∙◌, arith, Option, Some, None}
use Rattle.mach_types.specs.declared.sequences.Area.{Area}
use Rattle.rv_inst.specs.declared.instruction.Inst.{Inst}
use Rattle.percpu_lib.specs.Adds.{add_steps}
use Rattle.percpu_lib.specs.Allocs.{alloc_steps}
use Rattle.percpu_lib.specs.Beside.{HoldsSequence, IsOfLibrary, is_add, is_alloc, is_free, is_pop, is_push}
use Rattle.percpu_lib.specs.Beside.{is_ring_get, is_ring_put, sequence_lines}
use Rattle.percpu_lib.specs.Forms.{Form, committed, placed_of, range_of}
use Rattle.percpu_lib.specs.Frees.{free_steps}
use Rattle.percpu_lib.specs.Kinds.{Kind, adds, allocs, form_of, frees, pops, pushes}
use Rattle.percpu_lib.specs.Lines.{instructions}
use Rattle.percpu_lib.specs.Pops.{pop_steps}
use Rattle.percpu_lib.specs.Pushes.{push_steps}
use Rattle.percpu_lib.specs.RingForms.{ring_get_form, ring_put_form}
use Rattle.percpu_lib.specs.RingKinds.{RingKind, gets, puts, ring_form_of, ring_steps_of}
use Rattle.percpu_lib.specs.Rings.{get_steps, put_steps}
use Rattle.percpu_lib.specs.Words.{AreHeld}
use Rattle.percpu_lib.specs.declared.lines.Line.{Line}
use Rattle.percpu_lib.specs.declared.slots.Slots.{Slots}
use Rattle.percpu_lib.proofs.RingPlaces.{one_to_four}

-- what stands before others, and between others
before : (ys zs : List (Option Inst)) (k : ℕ) (o : Option Inst) → slice_get ys k ≡ Some o → slice_get (ys ++ zs) k ≡ Some o
before [] zs zero o is = absurd cc
before [] zs (suc k) o is = absurd cc
before (y ∷ ys) zs zero o is = is
before (y ∷ ys) zs (suc k) o is = before ys zs k o is

between : (xs ys zs : List (Option Inst)) (k : ℕ) (o : Option Inst) → slice_get ys k ≡ Some o
    → slice_get (xs ++ (ys ++ zs)) (length xs + k) ≡ Some o
between [] ys zs k o is =
    let here : 0 + k ≡ k = omega arith in
    ap (λ n. slice_get (ys ++ zs) n) here ∙ before ys zs k o is
between (x ∷ xs) ys zs k o is =
    let next : suc (length xs) + k ≡ suc (length xs + k) = omega arith in
    ap (λ n. slice_get (x ∷ (xs ++ (ys ++ zs))) n) next ∙ between xs ys zs k o is

-- labels of a block whose first word has index 0
abbrev labels_of : Form → List (Option ℕ)
labels_of form = Some 0 ∷ None ∷ Some (committed form) ∷ []

abbrev sequence_words : Form → Slots → ℕ → List Line → List (Option Inst)
sequence_words form p shift inside = instructions (labels_of form) form.first (sequence_lines p 0 shift inside)

-- the words of a form are its first ones, those of its sequence, and the rest
abbrev IsParted : Form → Slots → ℕ → List Line → Type 0
IsParted form p shift inside =
    (form.words ≡ take form.first form.words
    ++ (sequence_words form p shift inside ++ drop (committed form) form.words))
    × (length (take form.first form.words) ≡ form.first)
    × (form.inside ≡ length (sequence_words form p shift inside))

holds_sequence : (form : Form) (p : Slots) (shift : ℕ) (inside : List Line) (code : ℕ → Option Inst) (at : ℕ) (area : Area)
    → IsParted form p shift inside
    → AreHeld code at form.words → (range_of form at).start < 2 ^ 37 → form.slots.table < 0x7FFFF800
    → HoldsSequence code (placed_of form at area) p 0 shift inside
holds_sequence form p shift inside code at area parts held low low_table = record {
  labels = labels_of form;
  first = form.first;
  retry = 0;
  bound_retry = refl;
  leave = committed form;
  bound_leave = refl;
  stands = record {
    holds = λ k i is.
        let place : at + 4 * form.first + 4 * k ≡ at + 4 * (form.first + k) = omega arith in
        ap code place
        ∙ held.holds (form.first + k) i
        (ap (λ (ws : List (Option Inst)). slice_get ws (form.first + k)) parts.0
        ∙ ap (λ n. slice_get (take form.first form.words ++ (sequence_words form p shift inside
        ++ drop (committed form) form.words)) (n + k)) (sym parts.1)
        ∙ between (take form.first form.words) (sequence_words form p shift inside) (drop (committed form) form.words) k
        (Some i) is);
  };
  long = ap (λ n. 4 * n) parts.2;
  low = low;
  low_table = low_table;
}

pub of_library : (k : Kind) (code : ℕ → Option Inst) (p : Slots) (at : ℕ) (area : Area)
    → AreHeld code at (form_of k p).words → (range_of (form_of k p) at).start < 2 ^ 37 → p.table < 0x7FFFF800
    → IsOfLibrary code (placed_of (form_of k p) at area)
of_library adds code p at area held low low_table =
    is_add p 0 (holds_sequence (form_of adds p) p 6 (add_steps p) code at area (refl, refl, refl) held low low_table)
of_library pushes code p at area held low low_table =
    is_push p 0 (holds_sequence (form_of pushes p) p 6 (push_steps p) code at area (refl, refl, refl) held low low_table)
of_library pops code p at area held low low_table =
    is_pop p 0 (holds_sequence (form_of pops p) p 6 (pop_steps p 0) code at area (refl, refl, refl) held low low_table)
of_library allocs code p at area held low low_table =
    is_alloc p 0 (holds_sequence (form_of allocs p) p 13 (alloc_steps p 0) code at area (refl, refl, refl) held low low_table)
of_library frees code p at area held low low_table =
    is_free p 0 (holds_sequence (form_of frees p) p 13 (free_steps p 0) code at area (refl, refl, refl) held low low_table)

-- the same of ring blocks
ring_parted : (k : RingKind) (p : Slots) (count : ℕ) → 1 ≤ count → count ≤ 4
    → IsParted (ring_form_of k count p) p 13 (ring_steps_of k p 0 count)
ring_parted puts p =
    one_to_four (λ n. IsParted (ring_put_form n p) p 13 (put_steps p 0 n)) (refl, refl, refl) (refl, refl, refl)
    (refl, refl, refl) (refl, refl, refl)
ring_parted gets p =
    one_to_four (λ n. IsParted (ring_get_form n p) p 13 (get_steps p 0 n)) (refl, refl, refl) (refl, refl, refl)
    (refl, refl, refl) (refl, refl, refl)

pub ring_of_library : (k : RingKind) (count : ℕ) (code : ℕ → Option Inst) (p : Slots) (at : ℕ) (area : Area)
    → 1 ≤ count → count ≤ 4 → AreHeld code at (ring_form_of k count p).words
    → (range_of (ring_form_of k count p) at).start < 2 ^ 37 → p.table < 0x7FFFF800
    → IsOfLibrary code (placed_of (ring_form_of k count p) at area)
ring_of_library puts count code p at area some few held low low_table =
    is_ring_put p 0 count some few
    (holds_sequence (ring_put_form count p) p 13 (put_steps p 0 count) code at area
    (ring_parted puts p count some few) held low low_table)
ring_of_library gets count code p at area some few held low low_table =
    is_ring_get p 0 count some few
    (holds_sequence (ring_get_form count p) p 13 (get_steps p 0 count) code at area
    (ring_parted gets p count some few) held low low_table)
