-- The lines of a block. At its retry label it asks the area for the processor and stores the address of its
-- descriptor in the area. Then the sequence starts (rseq(2)): the area must still name that processor, else
-- the block begins anew. A shift of the processor's number makes the offset of its data, whose address is
-- then in x5. Behind the sequence a jump leads to the word after the block; then stand the signature and the
-- abort handler, which begins anew.
use Rattle.std.specs.Prelude.{ℕ, ◌≡◌, ◌+◌, ◌<◌, List, [], ◌∷◌, ◌++◌, length, slice_get, Some, pos}
use Rattle.rv_asm.specs.Assembly.{Assembly, index_of}
use Rattle.rv_asm.specs.declared.item.Item.TheVariants as item
use Rattle.rv_inst.specs.declared.instruction.Inst.TheVariants as inst
use Rattle.percpu_lib.specs.Words.{lower, upper}
use Rattle.percpu_lib.specs.declared.lines.Line.{Line}
use Rattle.percpu_lib.specs.declared.lines.Line.TheVariants as line
use Rattle.percpu_lib.specs.declared.slots.Slots.{Slots}

-- what stands before a start, and the start: up to where the address of the processor's data is in x5
abbrev pub start_lines : Slots → ℕ → ℕ → List Line
start_lines p base shift =
    line.Plain (inst.Lw 5 p.area (pos 0))
    ∷ line.Plain (inst.Lui 6 (upper p.table))
    ∷ line.Plain (inst.Addi 6 6 (lower p.table))
    ∷ line.Plain (inst.Sd p.area 6 (pos 8))
    ∷ line.Label (base + 1)
    ∷ line.Plain (inst.Lw 6 p.area (pos 4))
    ∷ line.Branch (inst.Bne 6 5 (pos 0)) base
    ∷ line.Plain (inst.Slli 5 5 shift)
    ∷ line.Plain (inst.Add 5 5 p.cells)
    ∷ []

-- the post-commit address, the signature, and the abort label
abbrev pub leave_lines : ℕ → List Line
leave_lines base =
    line.Label (base + 2)
    ∷ line.Branch (inst.Jal 0 (pos 0)) (base + 4)
    ∷ line.Data 0xF1401073
    ∷ line.Label (base + 3)
    ∷ []

-- back to the retry label, and the end
abbrev pub end_lines : ℕ → List Line
end_lines base = line.Branch (inst.Jal 0 (pos 0)) base ∷ line.Label (base + 4) ∷ []

-- a block that does this first, this inside once the address is in x5, and this where it was aborted
abbrev pub block_lines : Slots → ℕ → ℕ → List Line → List Line → List Line → List Line
block_lines p base shift first inside aborted =
    line.Label base ∷ (first ++ (start_lines p base shift ++ (inside ++ (leave_lines base ++ (aborted ++ end_lines base)))))

-- lines without a label
abbrev pub HasNoLabel : List Line → Type 0
HasNoLabel [] = Unit {0}
HasNoLabel (line.Label n ∷ rest) = ⊥
HasNoLabel (line.Plain i ∷ rest) = HasNoLabel rest
HasNoLabel (line.Branch i n ∷ rest) = HasNoLabel rest
HasNoLabel (line.Data w ∷ rest) = HasNoLabel rest

-- the labels of a block are bound; and at the post-commit address stands a jump to the word after the block
pub record IsLabelled (base : ℕ) (b : Assembly) : Type 0 where
  pub bound : (k : ℕ) → k < 5 → (index : ℕ) × (index_of b.labels (base + k) ≡ Some index)
  pub committed : ℕ
  pub post_commit : index_of b.labels (base + 2) ≡ Some committed
  pub jump : slice_get b.items committed ≡ Some (item.Aimed (inst.Jal 0 (pos 0)) (base + 4))
  pub behind : index_of b.labels (base + 4) ≡ Some (length b.items)
