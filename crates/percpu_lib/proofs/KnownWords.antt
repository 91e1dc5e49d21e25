-- Finished code has the words of lines whose instructions are known, and so has the program of a file in which
-- it stands.
use Rattle.std.proofs.Common.{◌≡◌, ℕ, zero, suc, ◌+◌, ◌*◌, List, [], ◌∷◌, ◌++◌, length, slice_get, ap, ◌∙◌}
use Rattle.std.proofs.Common.{arith, Option, Some, get_or}
use Rattle.std.proofs.lemmas.Option.{slice_get-get_or, slice_get_within}
use Rattle.elf_load.specs.Images.{IsImage}
use Rattle.elf_load.specs.declared.image.Image.{Image}
use Rattle.rv_asm.specs.Assembly.{AreAssembled, Assembly}
use Rattle.rv_asm.specs.declared.item.Item.{Item}
use Rattle.rv_inst.specs.Table.{row_of}
use Rattle.rv_inst.specs.declared.instruction.Inst.{Inst}
use Rattle.block_model.specs.Instruction.{instruction_of}
use Rattle.alone_laws.specs.Spans.{code_of}
use Rattle.percpu_lib.specs.Files.{HoldsCode}
use Rattle.percpu_lib.specs.Lines.{AreEmitted, IsContinued, instructions}
use Rattle.percpu_lib.specs.Words.{AreHeld}
use Rattle.percpu_lib.specs.declared.lines.Line.{Line}
use Rattle.percpu_lib.proofs.FileCode.{word_fetched}
use Rattle.percpu_lib.proofs.HeldWords.{FindsItem, items_held}

-- an item stays where it is when others are appended
pub still_there : (xs ys : List Item) (n : ℕ) (x : Item) → slice_get xs n ≡ Some x → slice_get (xs ++ ys) n ≡ Some x
still_there [] ys n x is = absurd cc
still_there (y ∷ xs) ys zero x is = is
still_there (y ∷ xs) ys (suc n) x is = still_there xs ys n x is

-- the words of a block behind those of an assembler
pub record IsHeld (block : List (Option Inst)) (a c : Assembly) : Type 0 where
  pub words : (bytes : List ℕ) (k : ℕ) (i : Inst) (w : ℕ) → (code : AreAssembled c.labels c.items bytes)
      → slice_get block k ≡ Some (Some i) → slice_get code.words (length a.items + k) ≡ Some w → row_of w
      ≡ Some i
  pub file : (bytes file : List ℕ) (image : Image) (at : ℕ) → AreAssembled c.labels c.items bytes
      → IsImage file image
      → HoldsCode file at bytes → AreHeld (code_of image.pages.items) (at + 4 * length a.items) block

module _ (lines : List Line) (block : List (Option Inst)) (a b c : Assembly) (is : AreEmitted lines a b)
    (more : IsContinued b c) (same : instructions c.labels (length a.items) lines ≡ block) where
  module _ (bytes : List ℕ) (code : AreAssembled c.labels c.items bytes) (k : ℕ) (i : Inst)
      (at : slice_get block k ≡ Some (Some i)) where
    found : FindsItem c.labels b.items (length a.items + k) i
    found = items_held c.labels lines a b k i is.are (ap (λ (xs : List (Option Inst)). slice_get xs k) same ∙ at)

    entry_there : slice_get c.items (length a.items + k) ≡ Some found.entry
    entry_there =
        ap (λ (ys : List Item). slice_get ys (length a.items + k)) more.items
        ∙ still_there b.items more.later (length a.items + k) found.entry found.there

    held : (w : ℕ) → slice_get code.words (length a.items + k) ≡ Some w → row_of w ≡ Some i
    held w word = found.is w (code.each (length a.items + k) found.entry w entry_there word)

    some_word : (w : ℕ) × (slice_get code.words (length a.items + k) ≡ Some w)
    some_word =
        let within = slice_get_within c.items (length a.items + k) found.entry entry_there in
        let many = code.count in (
          get_or code.words (length a.items + k) 0,
          slice_get-get_or code.words (length a.items + k) 0 (omega (arith, many)),
        )

  pub are_held : IsHeld block a c
  are_held = record {
    words = λ bytes k i w code at word. held bytes code k i at w word;
    file = λ bytes file image from code its holds. record {
      holds = λ k i at.
          let some = some_word bytes code k i at in
          let place : from + 4 * length a.items + 4 * k ≡ from + 4 * (length a.items + k) = omega arith in
          ap (code_of image.pages.items) place
          ∙ ap instruction_of (word_fetched file image its from bytes holds c.labels c.items code
          (length a.items + k) some.0 some.1)
          ∙ held bytes code k i at some.0 some.1;
    };
  }
