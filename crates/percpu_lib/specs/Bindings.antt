-- Where the labels and the signature of a block stand that was emitted (rseq(2)).
use Rattle.std.specs.Prelude.{ℕ, ◌≡◌, ◌+◌, ◌-◌, List, length, Option, Some}
use Rattle.mach_types.specs.Bytes.{word_at}
use Rattle.mach_types.specs.declared.sequences.Seq.{Seq}
use Rattle.elf_load.specs.Start.{loaded_byte}
use Rattle.elf_load.specs.declared.image.ImagePage.{ImagePage}
use Rattle.rv_asm.specs.Assembly.{address_of, index_of}
use Rattle.percpu_lib.specs.Forms.{Form, committed}

-- the labels of a block of whose words the first has an index: they are bound to that word, to the first word of
-- the sequence, to the word at the post-commit address, to the second one behind it, where the abort handler is,
-- and to the word after the block
pub record AreBound (form : Form) (base first : ℕ) (labels : List (Option ℕ)) : Type 0 where
  pub retry : index_of labels base ≡ Some first
  pub start : index_of labels (base + 1) ≡ Some (first + form.first)
  pub post_commit : index_of labels (base + 2) ≡ Some (first + committed form)
  pub abort : index_of labels (base + 3) ≡ Some (first + (committed form + 2))
  pub behind : index_of labels (base + 4) ≡ Some (first + length form.words)

-- so the places of these labels, in code whose first word is at an address, are those of a sequence: its start,
-- the address after it, and where it is aborted to. A descriptor that is written from them names the sequence
pub record AreLabelsOf (range : Seq) (at base : ℕ) (labels : List (Option ℕ)) : Type 0 where
  pub start : address_of at (index_of labels (base + 1)) ≡ Some range.start
  pub post_commit : address_of at (index_of labels (base + 2)) ≡ Some (range.start + range.length)
  pub abort : address_of at (index_of labels (base + 3)) ≡ Some range.abort

-- the word of 4 bytes before the abort address of a sequence, in memory as a program's file gives it
abbrev pub word_before_abort : List ImagePage → Seq → Option ℕ
word_before_abort pages range = word_at (λ a. Some (loaded_byte pages a)) (range.abort - 4) 4
