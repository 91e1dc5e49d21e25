-- The words of the sync block are those of its lines.
use Rattle.std.proofs.Common.{◌≡◌, ℕ, ◌+◌, List, [], ◌∷◌, ◌++◌, length, length-append}
use Rattle.std.proofs.Common.{slice_get, refl, ap, ◌∙◌}
use Rattle.std.proofs.Common.{arith, Option, Some, None, pos}
use Rattle.std.proofs.Common.{negsuc}
use Rattle.rv_asm.specs.Assembly.{Assembly, index_of}
use Rattle.rv_asm.specs.declared.item.Item.{Item}
use Rattle.rv_asm.specs.declared.item.Item.TheVariants as item
use Rattle.rv_inst.specs.Table.{row_of}
use Rattle.rv_inst.specs.declared.instruction.Inst.{Inst}
use Rattle.rv_inst.specs.declared.instruction.Inst.TheVariants as inst
use Rattle.percpu_lib.specs.Lines.{AreEmitted, IsContinued, IsEmitted, instructions, with_item}
use Rattle.percpu_lib.specs.Lines.{with_label}
use Rattle.percpu_lib.specs.declared.lines.Line.{Line}
use Rattle.percpu_lib.specs.declared.lines.Line.TheVariants as line
use Rattle.percpu_lib.proofs.HeldWords.{labelled_items}
use Rattle.percpu_lib.proofs.KindWords.{back, branch_is, forth}
use Rattle.percpu_lib.proofs.Labels.{index_is, keeps, label_own}
use Rattle.percpu_lib.proofs.Labels.{label_other}
use Rattle.urcu_lib.specs.Blocks.{sync_block}
use Rattle.urcu_lib.specs.Lines.{AreFree, sync_lines}
use Rattle.urcu_lib.specs.declared.regs.SyncRegs.{SyncRegs}

-- LABELS OF THE SYNC BLOCK

-- the assembler behind some words: its labels, and how many words it has
record IsBehind (a between : Assembly) (n : ℕ) : Type 0 where
  labels : between.labels ≡ a.labels
  longer : length between.items ≡ length a.items + n

one_longer : (xs : List Item) (x : Item) → length (xs ++ x ∷ []) ≡ length xs + 1
one_longer xs x = length-append xs (x ∷ []) ∙ refl

record Behind (xs : List Inst) (ys : List Line) (a c : Assembly) : Type 0 where
  between : Assembly
  is : IsBehind a between (length xs)
  rest : IsEmitted ys between c

abbrev plain : List Inst → List Line → List Line
plain [] ys = ys
plain (i ∷ xs) ys = line.Plain i ∷ plain xs ys

behind : (xs : List Inst) (ys : List Line) (a c : Assembly) → IsEmitted (plain xs ys) a c → Behind xs ys a c
behind [] ys a c is = record { between = a; is = record { labels = refl; longer = omega arith }; rest = is }
behind (i ∷ xs) ys a c is =
    let old = behind xs ys (with_item a (item.Word is.0)) c is.2 in
    let one = one_longer a.items (item.Word is.0) in
    let more = old.is.longer in
    record {
      between = old.between;
      is = record
          { labels = old.is.labels; longer = omega arith };
      rest = old.rest;
    }

-- ITS WORDS

module _ (r : SyncRegs) (base readers : ℕ) where
  pub sync_instructions : (n : ℕ) (labels : List (Option ℕ)) → index_of labels base ≡ Some (n + 10)
      → index_of labels (base + 1) ≡ Some (n + 13)
      → instructions labels n (sync_lines r base readers) ≡ sync_block r readers
  sync_instructions n labels loop next =
      let ten = n + 1 + 1 + 1 + 1 + 1 + 1 + 1 + 1 + 1 + 1 in
      let eleven = ten + 1 in
      let twelve = eleven + 1 in
      let fifteen = twelve + 1 + 1 + 1 in
      let one = branch_is labels (inst.Beq 10 0 (pos 0)) (inst.Beq 10 0 (pos 8)) eleven (base + 1) (n + 13)
      (pos 8) next (forth (n + 13) eleven 2 8 (omega arith) refl) refl in
      let two = branch_is labels (inst.Bltu 10 5 (pos 0)) (inst.Bltu 10 5 (negsuc 7)) twelve base (n + 10)
      (negsuc 7) loop (back (n + 10) twelve 2 7 (omega arith) refl) refl in
      let three = branch_is labels (inst.Bne 7 0 (pos 0)) (inst.Bne 7 0 (negsuc 19)) fifteen base (n + 10)
      (negsuc 19) loop (back (n + 10) fifteen 5 19 (omega arith) refl) refl in
      cc

  abbrev before_loop : List Inst
  before_loop =
      inst.Addi 10 0 (pos 8)
      ∷ inst.Addi 11 0 (pos 0)
      ∷ inst.Addi 12 0 (pos 0)
      ∷ inst.Addi 17 0 (pos 283)
      ∷ inst.Ecall
      ∷ inst.Ld 5 r.gp (pos 0)
      ∷ inst.Addi 5 5 (pos 1)
      ∷ inst.Sd r.gp 5 (pos 0)
      ∷ inst.Addi 6 r.slots (pos 0)
      ∷ inst.Addi 7 0 (pos readers)
      ∷ []

  abbrev from_next : List Line
  from_next =
      line.Plain (inst.Addi 6 6 (pos 64))
      ∷ line.Plain (inst.Addi 7 7 (negsuc 0))
      ∷ line.Branch (inst.Bne 7 0 (pos 0)) base
      ∷ line.Plain (inst.Addi 10 0 (pos 0))
      ∷ []

  abbrev from_loop : List Line
  from_loop =
      line.Plain (inst.Ld 10 6 (pos 0))
      ∷ line.Branch (inst.Beq 10 0 (pos 0)) (base + 1)
      ∷ line.Branch (inst.Bltu 10 5 (pos 0)) base
      ∷ line.Label (base + 1)
      ∷ from_next

  module _ (a b : Assembly) (free : AreFree a.labels base)
      (is : AreEmitted (sync_lines r base readers) a b) where
    first : Behind before_loop (line.Label base ∷ from_loop) a b
    first = behind before_loop (line.Label base ∷ from_loop) a b is.are

    abbrev at_loop : Assembly
    at_loop = first.between

    free_loop : slice_get at_loop.labels base ≡ Some None
    free_loop = ap (λ (ls : List (Option ℕ)). slice_get ls base) first.is.labels ∙ free.loop

    -- where the loop is, and behind it the way to the next slot
    loop_at : index_of b.labels base ≡ Some (length a.items + 10)
    loop_at =
        index_is b base (Some (length at_loop.items))
        (keeps from_loop (with_label at_loop base) b base (length at_loop.items) first.rest
        (label_own at_loop base free_loop))
        ∙ ap Some first.is.longer

    abbrev looping : Assembly
    looping = with_label at_loop base

    loaded : (w : ℕ) × (row_of w ≡ Some (inst.Ld 10 6 (pos 0)))
        × IsEmitted
        (line.Branch (inst.Beq 10 0 (pos 0)) (base + 1) ∷ line.Branch (inst.Bltu 10 5 (pos 0)) base
        ∷ line.Label (base + 1) ∷ from_next)
        (with_item looping (item.Word w)) b
    loaded = first.rest

    abbrev at_next : Assembly
    at_next =
        with_item
        (with_item (with_item looping (item.Word loaded.0))
        (item.Aimed (inst.Beq 10 0 (pos 0)) (base + 1)))
        (item.Aimed (inst.Bltu 10 5 (pos 0)) base)

    free_next : slice_get at_next.labels (base + 1) ≡ Some None
    free_next =
        label_other at_loop base (base + 1) (λ same. let no : ⊥ = omega arith in no)
        ∙ ap (λ (ls : List (Option ℕ)). slice_get ls (base + 1)) first.is.labels ∙ free.next

    next_longer : length at_next.items ≡ length a.items + 13
    next_longer =
        let same = ap (λ (ys : List Item). length ys) (labelled_items at_loop base) in
        let ten = first.is.longer in
        let one = one_longer looping.items (item.Word loaded.0) in
        let two = one_longer (looping.items ++ item.Word loaded.0 ∷ [])
        (item.Aimed (inst.Beq 10 0 (pos 0)) (base + 1)) in
        let three = one_longer
        ((looping.items ++ item.Word loaded.0 ∷ []) ++ item.Aimed (inst.Beq 10 0 (pos 0)) (base + 1) ∷ [])
        (item.Aimed (inst.Bltu 10 5 (pos 0)) base) in
        omega arith

    next_at : index_of b.labels (base + 1) ≡ Some (length a.items + 13)
    next_at =
        index_is b (base + 1) (Some (length at_next.items))
        (keeps from_next (with_label at_next (base + 1)) b (base + 1) (length at_next.items) loaded.2
        (label_own at_next (base + 1) free_next))
        ∙ ap Some next_longer

    pub sync_same : (c : Assembly) → IsContinued b c
        → instructions c.labels (length a.items) (sync_lines r base readers) ≡ sync_block r readers
    sync_same c more =
        sync_instructions (length a.items) c.labels (more.labels base (length a.items + 10) loop_at)
        (more.labels (base + 1) (length a.items + 13) next_at)
