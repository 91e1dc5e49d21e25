-- The blocks of each kind: their words lead on in them, and their sequences begin as all do.
use Rattle.std.proofs.Common.{ℕ, refl, arith, pos, rules}
use Rattle.rv_inst.specs.declared.instruction.Inst.TheVariants as inst
use Rattle.percpu_lib.specs.Adds.{add_block}
use Rattle.percpu_lib.specs.Allocs.{alloc_block, alloc_form}
use Rattle.percpu_lib.specs.Frees.{free_block, free_form}
use Rattle.percpu_lib.specs.Kinds.{Kind, adds, allocs, form_of, frees, pops, pushes}
use Rattle.percpu_lib.specs.Pops.{pop_block, pop_form}
use Rattle.percpu_lib.specs.Pushes.{push_block, push_form}
use Rattle.percpu_lib.specs.Uses.{add_form}
use Rattle.percpu_lib.specs.Words.{AreSlots}
use Rattle.percpu_lib.specs.declared.slots.Slots.{Slots}
use Rattle.percpu_lib.proofs.BlockCode.{IsFormed}
use Rattle.percpu_lib.proofs.CellPath.{BeginsSo, begins_of}
use Rattle.percpu_lib.proofs.Changes.{area_not_changed, cells_not_changed, value_changed}
use Rattle.percpu_lib.proofs.FormedWords.{formed_of, words_fit}

pub block_formed : (k : Kind) (p : Slots) → IsFormed (form_of k p)
block_formed adds p =
    formed_of (add_form p) (omega arith) (omega arith) (omega arith) (omega arith) refl refl refl
    (inst.Lw 5 p.area (pos 0)) refl
    (words_fit (add_form p) (omega arith) (omega arith) 0 (add_block p) (omega arith) (search rules))
block_formed pushes p =
    formed_of (push_form p) (omega arith) (omega arith) (omega arith) (omega arith) refl refl refl
    (inst.Lw 5 p.area (pos 0)) refl
    (words_fit (push_form p) (omega arith) (omega arith) 0 (push_block p) (omega arith) (search rules))
block_formed pops p =
    formed_of (pop_form p) (omega arith) (omega arith) (omega arith) (omega arith) refl refl refl
    (inst.Lw 5 p.area (pos 0)) refl
    (words_fit (pop_form p) (omega arith) (omega arith) 0 (pop_block p) (omega arith) (search
    (rules, value_changed p)))
block_formed allocs p =
    formed_of (alloc_form p) (omega arith) (omega arith) (omega arith) (omega arith) refl refl refl
    (inst.Lw 5 p.area (pos 0)) refl
    (words_fit (alloc_form p) (omega arith) (omega arith) 0 (alloc_block p) (omega arith) (search
    (rules, value_changed p)))
block_formed frees p =
    formed_of (free_form p) (omega arith) (omega arith) (omega arith) (omega arith) refl refl refl
    (inst.Addi 28 p.value (pos 0)) refl
    (words_fit (free_form p) (omega arith) (omega arith) 0 (free_block p) (omega arith) (search
    (rules, value_changed p)))

-- the processor's number, shifted by so many bits, is so many times that number: the data of a processor lie
-- so far behind those of the one before
abbrev pub shift_of : Kind → ℕ
shift_of allocs = 13
shift_of frees = 13
shift_of other = 6

abbrev pub scale_of : Kind → ℕ
scale_of allocs = 8192
scale_of frees = 8192
scale_of other = 64

pub block_begins : (k : Kind) (p : Slots) → AreSlots p → BeginsSo (form_of k p) (shift_of k) (scale_of k)
block_begins adds p slots =
    begins_of (add_form p) 6 64 refl refl refl refl (omega arith) refl refl slots.area slots.cells
    (λ cpu few. omega arith)
block_begins pushes p slots =
    begins_of (push_form p) 6 64 refl refl refl refl (omega arith) refl refl slots.area slots.cells
    (λ cpu few. omega arith)
block_begins pops p slots =
    begins_of (pop_form p) 6 64 refl refl refl refl (omega arith) refl refl (area_not_changed p slots)
    (cells_not_changed p slots)
    (λ cpu few. omega arith)
block_begins allocs p slots =
    begins_of (alloc_form p) 13 8192 refl refl refl refl (omega arith) refl refl (area_not_changed p slots)
    (cells_not_changed p slots)
    (λ cpu few. omega arith)
block_begins frees p slots =
    begins_of (free_form p) 13 8192 refl refl refl refl (omega arith) refl refl (area_not_changed p slots)
    (cells_not_changed p slots)
    (λ cpu few. omega arith)
