-- Blocks: code that a thread runs inside a restartable sequence (rseq(2)), and what makes each sequence of it
-- one run of the thread alone.
use Rattle.std.specs.Prelude.{ℕ, ◌≡◌, ◌≢◌, ◌+◌, ◌<◌, ◌&&◌, ◌⊎◌, Bool, true, nat_le, nat_lt, [], ◌∷◌, Option}
use Rattle.std.specs.Prelude.{Some}
use Rattle.mach_types.specs.Bytes.{word_at}
use Rattle.mach_types.specs.Kernel.Areas.{area_of, descriptor_at, is_inside, sequence_of}
use Rattle.mach_types.specs.declared.sequences.Area.{Area}
use Rattle.mach_types.specs.declared.sequences.Seq.{Seq}
use Rattle.mach_types.specs.declared.sequences.TheConstants.{RSEQ_CS}
use Rattle.rv_inst.specs.Execution.{seen_byte}
use Rattle.rv_inst.specs.declared.effects.Effect.{Effect}
use Rattle.rv_inst.specs.declared.instruction.Inst.{Inst}
use Rattle.alone.specs.Alone.{IsWithin, Stand, alone, effect_at}
use Rattle.block_model.specs.Acts.{Sequence, sequence_on}
use Rattle.block_model.specs.Here.{view}
use Rattle.block_model.specs.History.{Event, History, file, here_in_history, kernel}
use Rattle.block_model.specs.Setting.{Setting}
use Rattle.alone_laws.specs.Spans.{IsStanding, IsUsable, Leaves, alone_from, code_of, seen_at}

-- so many bytes from an address on
abbrev pub among : ℕ → ℕ → ℕ → Bool
among at n a = nat_le at a && nat_lt a (at + n)

-- the area of the thread, the address of the descriptor, the range of the descriptor, and the bytes that the
-- instructions inside use
pub record Block : Type 0 where
  pub area : Area
  pub table : ℕ
  pub range : Seq
  pub words : ℕ → Bool

-- the pointer of the area
abbrev pub pointer_bytes : Block → ℕ → Bool
pointer_bytes b = among (b.area.at + RSEQ_CS) 8

-- so many instructions of a thread alone begin inside the range
abbrev pub StaysInside : (ℕ → Option Inst) → (ℕ → Option ℕ) → Stand → Seq → ℕ → Type 0
StaysInside code seen x range n = (k : ℕ) → k < n → is_inside range (alone code seen x k).file.pc ≡ true

-- a thread that runs a block alone uses its bytes only, by plain loads and stores, as long as it is inside,
-- and leaves the pointer of its area as it is: that of the block's descriptor
pub record IsSole (code : ℕ → Option Inst) (seen : ℕ → Option ℕ) (x : Stand) (b : Block) : Type 0 where
  pub goes : (n : ℕ) → StaysInside code seen x b.range n
      → is_inside b.range (alone code seen x n).file.pc ≡ true
      → (does : Effect) × (effect_at code (alone code seen x n).file ≡ Some does) × IsWithin b.words does
  pub points : (n : ℕ) → StaysInside code seen x b.range n
      → word_at (seen_byte (alone code seen x n).executed seen) (b.area.at + RSEQ_CS) 8 ≡ Some b.table
  pub covers : (a : ℕ) → pointer_bytes b a ≡ true → b.words a ≡ true

-- a place at which a thread runs a block on a hart: the bytes of the block can be used, its area is the one
-- of the block, and the block's descriptor stands at its address
pub record IsPlaceOf (s : Setting) (b : Block) (h t : ℕ) (before : History) : Type 0 where
  pub usable : IsUsable s b.words before
  pub registered : area_of t (kernel s before).areas ≡ Some b.area
  pub described : sequence_of (descriptor_at (view (here_in_history s before h)) b.table) ≡ b.range

-- an event there of another hart leaves the pointer of the area, and the bytes of the block as long as the
-- thread is inside
pub record IsSpared (s : Setting) (b : Block) (h : ℕ) (inside : Bool) (e : Event) : Type 0 where
  pub pointer : e.entry.hart.0 ≢ h → Leaves (pointer_bytes b) e.done.entered
  pub words : e.entry.hart.0 ≢ h → inside ≡ true → Leaves b.words e.done.entered

-- a sequence that began at a place is the one of its hart's newest event, or begins there
abbrev pub IsOpen : Setting → ℕ → History → History → Type 0
IsOpen s h begun before = (before ≡ begun)
    ⊎ ((q : Sequence) × (sequence_on s h before ≡ Some q) × (q.begun ≡ begun))

-- a sequence goes so far: so many instructions of it were executed, after its newest event its thread stood
-- where it would stand if it had run alone from its beginning, and saw in the block's bytes what it would
-- see; and so it does as long as it is inside
pub record IsSoFar (s : Setting) (b : Block) (h t : ℕ) (begun last before : History) (n : ℕ) : Type 0 where
  pub below : StaysInside (code_of s.program.pages) (seen_at s h begun) (alone_from s h t begun 0) b.range n
  pub reached : IsStanding s b.words h t begun last (alone_from s h t begun n)
  pub now : IsStanding s (pointer_bytes b) h t begun before (alone_from s h t begun n)
  pub inside : is_inside b.range (alone_from s h t begun n).file.pc ≡ true
      → IsStanding s b.words h t begun before (alone_from s h t begun n)

-- what is needed of each event as long as a sequence is open that began at a place: it is of a place of the
-- block, and spares it where it is of another hart
pub record IsFair (s : Setting) (b : Block) (h t : ℕ) (e : Event) (before : History) : Type 0 where
  pub place : IsPlaceOf s b h t before
  pub spared : IsSpared s b h (is_inside b.range (file s t before).pc) e

abbrev pub IsFairSince : Setting → Block → ℕ → ℕ → History → History → Type 0
IsFairSince s b h t begun [] = Unit {0}
IsFairSince s b h t begun (e ∷ before) = IsFairSince s b h t begun before
    × (IsOpen s h begun before → IsFair s b h t e before)
