-- The code of the guests of worked logs, word for word: what their lines are assembled to, by computation.
use Rattle.std.proofs.Common.{◌≡◌, ℕ, ◌^◌, List, [], ◌∷◌, refl, true, nat_lt}
use Rattle.std.specs.List.{flat_map, list_all}
use Rattle.std.specs.Int.{to_le_bytes, w32}
use Rattle.rv_asm.specs.Assembly.{AreAssembled, Assembly, empty}
use Rattle.percpu_lib.specs.Lines.{AreEmitted}
use Rattle.percpu_lib.proofs.Computing.{by_table}
use Rattle.guest_names.specs.declared.names.Name.{Name}
use Rattle.guest_names.specs.declared.names.Name.TheVariants.{Counter, List as Lists, Urcu}
use Rattle.guest_programs.specs.Steps.{guest_lines}
use Rattle.guest_programs.specs.declared.layout.TheConstants.{CODE}
use Rattle.guest_programs.specs.declared.labels.TheConstants.{LABELS}
use Rattle.guest_programs.proofs.AssembledCode.{AreRows, assembled_so, emitted_so, put, put_items}
use Rattle.guest_programs.proofs.Blocks.{guest_labels}
use Rattle.guest_programs.proofs.Held.{labels_bound}

-- the bytes of words, and the assembler of a guest to whose lines they belong
abbrev pub code_of_words : List ℕ → List ℕ
code_of_words words = flat_map (λ w. to_le_bytes w32 w) words

abbrev pub assembler_of : Name → List ℕ → Assembly
assembler_of name words = put (guest_lines name) words (empty CODE LABELS)

-- a guest's lines are appended, and assembled to these words
pub record IsCodeOf (name : Name) (words : List ℕ) : Type 0 where
  pub emitted : AreEmitted (guest_lines name) (empty CODE LABELS) (assembler_of name words)
  pub assembled : AreAssembled (assembler_of name words).labels (assembler_of name words).items
      (code_of_words words)

code_so : (name : Name) (words : List ℕ) → AreRows (guest_labels name) 0 (guest_lines name) words
    → list_all (λ w. nat_lt w (2 ^ 32)) words ≡ true → IsCodeOf name words
code_so name words are small =
    let emitted = emitted_so (guest_labels name) 0 (guest_lines name) words (empty CODE LABELS) are in
    record {
      emitted = record { are = emitted };
      assembled =
          assembled_so (guest_labels name) (assembler_of name words).labels (guest_lines name) words
          (assembler_of name words).items (code_of_words words) are
          (put_items (guest_labels name) 0 (guest_lines name) words (empty CODE LABELS) are)
          (labels_bound (guest_lines name) (empty CODE LABELS) (assembler_of name words) emitted) refl small;
    }

abbrev pub counter_words : List ℕ
counter_words =
    0x00030237 ∷ 0x01C000EF ∷ 0x000214B7 ∷ 0x000202B7 ∷ 0x0002B983 ∷ 0x00100913 ∷ 0x04000B93 ∷ 0x1340006F
    ∷ 0x00020413 ∷ 0x00020513 ∷ 0x02000593 ∷ 0x00000613 ∷ 0xF14016B7 ∷ 0x07368693 ∷ 0x12500893 ∷ 0x00000073
    ∷ 0x00008067 ∷ 0x000A0A93 ∷ 0x00020793 ∷ 0x40078793 ∷ 0x00391537 ∷ 0xF0050513 ∷ 0x40078593 ∷ 0x04078613
    ∷ 0x00078693 ∷ 0x04078713 ∷ 0x0DC00893 ∷ 0x00000073 ∷ 0x00050863 ∷ 0xFFFA8A93 ∷ 0xFC0A9AE3 ∷ 0x00008067
    ∷ 0xFA1FF0EF ∷ 0x0E00006F ∷ 0x000A0A93 ∷ 0x00020793 ∷ 0x40078793 ∷ 0x0407A603 ∷ 0x00060E63 ∷ 0x04078513
    ∷ 0x00000593 ∷ 0x00000693 ∷ 0x06200893 ∷ 0x00000073 ∷ 0xFE5FF06F ∷ 0xFFFA8A93 ∷ 0xFC0A9CE3 ∷ 0x00008067
    ∷ 0x00000513 ∷ 0x05D00893 ∷ 0x00000073 ∷ 0x00000513 ∷ 0x00800A93 ∷ 0x00048793 ∷ 0x0007B283 ∷ 0x00550533
    ∷ 0x017787B3 ∷ 0xFFFA8A93 ∷ 0xFE0A98E3 ∷ 0x00020637 ∷ 0x0A060613 ∷ 0x00A00293 ∷ 0xFFF60593 ∷ 0x00558023
    ∷ 0x02557333 ∷ 0x02555533 ∷ 0x03030313 ∷ 0xFFF58593 ∷ 0x00658023 ∷ 0xFE0516E3 ∷ 0x40B60633 ∷ 0x00100513
    ∷ 0x04000893 ∷ 0x00000073 ∷ 0x00000513 ∷ 0x05E00893 ∷ 0x00000073 ∷ 0x05823423 ∷ 0x00000513 ∷ 0x00800593
    ∷ 0x04820613 ∷ 0x07A00893 ∷ 0x00000073 ∷ 0x00008067 ∷ 0x00300A13 ∷ 0xEF1FF0EF ∷ 0x014000EF ∷ 0xF2DFF0EF
    ∷ 0xF6DFF06F ∷ 0x008000EF ∷ 0xF59FF06F ∷ 0x00042283 ∷ 0x00020337 ∷ 0x02030313 ∷ 0x00643423 ∷ 0x00442303
    ∷ 0xFE5316E3 ∷ 0x00629293 ∷ 0x009282B3 ∷ 0x0002B303 ∷ 0x01230333 ∷ 0x0062B023 ∷ 0x00C0006F ∷ 0xF1401073
    ∷ 0xFCDFF06F ∷ 0xFFF98993 ∷ 0xFC0992E3 ∷ 0x00008067 ∷ []

counter_rows : AreRows (guest_labels Counter) 0 (guest_lines Counter) counter_words
unfolding by_table
counter_rows =
    (refl, (refl, (refl, (refl, (refl, (refl, (refl, (refl, (refl, (refl, (refl, (refl, (refl, (refl, (refl, (refl, (refl, (refl, (refl, (refl, (refl, (refl, (refl, (refl, (refl, (refl, (refl, (refl, (refl, (refl, (refl, (refl, (refl, (refl, (refl, (refl, (refl, (refl, (refl, (refl, (refl, (refl, (refl, (refl, (refl, (refl, (refl, (refl, (refl, (refl, (refl, (refl, (refl, (refl, (refl, (refl, (refl, (refl, (refl, (refl, (refl, (refl, (refl, (refl, (refl, (refl, (refl, (refl, (refl, (refl, (refl, (refl, (refl, (refl, (refl, (refl, (refl, (refl, (refl, (refl, (refl, (refl, (refl, (refl, (refl, (refl, (refl, (refl, (refl, (refl, (refl, (refl, (refl, (refl, (refl, (refl, (refl, (refl, (refl, (refl, (refl, (refl, (refl, (refl, (refl, (refl, (refl, (refl, refl))))))))))))))))))))))))))))))))))))))))))))))))))))))))))))))))))))))))))))))))))))))))))))))))))))))))))))

pub counter_code : IsCodeOf Counter counter_words
counter_code = code_so Counter counter_words counter_rows refl

abbrev pub list_words : List ℕ
list_words =
    0x00030237 ∷ 0x01C000EF ∷ 0x000214B7 ∷ 0x000202B7 ∷ 0x0002B983 ∷ 0x00100913 ∷ 0x04000B93 ∷ 0x1340006F
    ∷ 0x00020413 ∷ 0x00020513 ∷ 0x02000593 ∷ 0x00000613 ∷ 0xF14016B7 ∷ 0x07368693 ∷ 0x12500893 ∷ 0x00000073
    ∷ 0x00008067 ∷ 0x000A0A93 ∷ 0x00020793 ∷ 0x40078793 ∷ 0x00391537 ∷ 0xF0050513 ∷ 0x40078593 ∷ 0x04078613
    ∷ 0x00078693 ∷ 0x04078713 ∷ 0x0DC00893 ∷ 0x00000073 ∷ 0x00050863 ∷ 0xFFFA8A93 ∷ 0xFC0A9AE3 ∷ 0x00008067
    ∷ 0xFA1FF0EF ∷ 0x1440006F ∷ 0x000A0A93 ∷ 0x00020793 ∷ 0x40078793 ∷ 0x0407A603 ∷ 0x00060E63 ∷ 0x04078513
    ∷ 0x00000593 ∷ 0x00000693 ∷ 0x06200893 ∷ 0x00000073 ∷ 0xFE5FF06F ∷ 0xFFFA8A93 ∷ 0xFC0A9CE3 ∷ 0x00008067
    ∷ 0x00000513 ∷ 0x05D00893 ∷ 0x00000073 ∷ 0x00000513 ∷ 0x00800A93 ∷ 0x00048793 ∷ 0x0007B283 ∷ 0x00550533
    ∷ 0x017787B3 ∷ 0xFFFA8A93 ∷ 0xFE0A98E3 ∷ 0x00020637 ∷ 0x0A060613 ∷ 0x00A00293 ∷ 0xFFF60593 ∷ 0x00558023
    ∷ 0x02557333 ∷ 0x02555533 ∷ 0x03030313 ∷ 0xFFF58593 ∷ 0x00658023 ∷ 0xFE0516E3 ∷ 0x40B60633 ∷ 0x00100513
    ∷ 0x04000893 ∷ 0x00000073 ∷ 0x00000513 ∷ 0x05E00893 ∷ 0x00000073 ∷ 0x05823423 ∷ 0x00000513 ∷ 0x00800593
    ∷ 0x04820613 ∷ 0x07A00893 ∷ 0x00000073 ∷ 0x00008067 ∷ 0x00100A13 ∷ 0xEF1FF0EF ∷ 0x078000EF ∷ 0xF2DFF0EF
    ∷ 0x00100C13 ∷ 0x00000C93 ∷ 0xFCDFF0EF ∷ 0x04051A63 ∷ 0x00042283 ∷ 0x00020337 ∷ 0x04030313 ∷ 0x00643423
    ∷ 0x00442303 ∷ 0xFE5316E3 ∷ 0x00629293 ∷ 0x009282B3 ∷ 0x0002B903 ∷ 0x00090663 ∷ 0x00093303 ∷ 0x0062B023
    ∷ 0x00C0006F ∷ 0xF1401073 ∷ 0xFC9FF06F ∷ 0x00090663 ∷ 0x001C8C93 ∷ 0xFBDFF06F ∷ 0x001C1C13 ∷ 0xFADFF06F
    ∷ 0x000C8513 ∷ 0xF29FF06F ∷ 0x008000EF ∷ 0xEF5FF06F ∷ 0x000302B7 ∷ 0x40520933 ∷ 0x00491913 ∷ 0x000402B7
    ∷ 0x00590933 ∷ 0x00042283 ∷ 0x00020337 ∷ 0x02030313 ∷ 0x00643423 ∷ 0x00442303 ∷ 0xFE5316E3 ∷ 0x00629293
    ∷ 0x009282B3 ∷ 0x0002B303 ∷ 0x00693023 ∷ 0x0122B023 ∷ 0x00C0006F ∷ 0xF1401073 ∷ 0xFCDFF06F ∷ 0x01090913
    ∷ 0xFFF98993 ∷ 0xFC0990E3 ∷ 0x00008067 ∷ []

list_rows : AreRows (guest_labels Lists) 0 (guest_lines Lists) list_words
unfolding by_table
list_rows =
    (refl, (refl, (refl, (refl, (refl, (refl, (refl, (refl, (refl, (refl, (refl, (refl, (refl, (refl, (refl, (refl, (refl, (refl, (refl, (refl, (refl, (refl, (refl, (refl, (refl, (refl, (refl, (refl, (refl, (refl, (refl, (refl, (refl, (refl, (refl, (refl, (refl, (refl, (refl, (refl, (refl, (refl, (refl, (refl, (refl, (refl, (refl, (refl, (refl, (refl, (refl, (refl, (refl, (refl, (refl, (refl, (refl, (refl, (refl, (refl, (refl, (refl, (refl, (refl, (refl, (refl, (refl, (refl, (refl, (refl, (refl, (refl, (refl, (refl, (refl, (refl, (refl, (refl, (refl, (refl, (refl, (refl, (refl, (refl, (refl, (refl, (refl, (refl, (refl, (refl, (refl, (refl, (refl, (refl, (refl, (refl, (refl, (refl, (refl, (refl, (refl, (refl, (refl, (refl, (refl, (refl, (refl, (refl, (refl, (refl, (refl, (refl, (refl, (refl, (refl, (refl, (refl, (refl, (refl, (refl, (refl, (refl, (refl, (refl, (refl, (refl, (refl, (refl, (refl, (refl, (refl, (refl, (refl, (refl, (refl, (refl, (refl, (refl, (refl, refl)))))))))))))))))))))))))))))))))))))))))))))))))))))))))))))))))))))))))))))))))))))))))))))))))))))))))))))))))))))))))))))))))))))))))))

pub list_code : IsCodeOf Lists list_words
list_code = code_so Lists list_words list_rows refl

abbrev pub urcu_words : List ℕ
urcu_words =
    0x00030237 ∷ 0x01C000EF ∷ 0x000214B7 ∷ 0x000202B7 ∷ 0x0002B983 ∷ 0x00100913 ∷ 0x04000B93 ∷ 0x1340006F
    ∷ 0x00020413 ∷ 0x00020513 ∷ 0x02000593 ∷ 0x00000613 ∷ 0xF14016B7 ∷ 0x07368693 ∷ 0x12500893 ∷ 0x00000073
    ∷ 0x00008067 ∷ 0x000A0A93 ∷ 0x00020793 ∷ 0x40078793 ∷ 0x00391537 ∷ 0xF0050513 ∷ 0x40078593 ∷ 0x04078613
    ∷ 0x00078693 ∷ 0x04078713 ∷ 0x0DC00893 ∷ 0x00000073 ∷ 0x00050863 ∷ 0xFFFA8A93 ∷ 0xFC0A9AE3 ∷ 0x00008067
    ∷ 0xFA1FF0EF ∷ 0x17C0006F ∷ 0x000A0A93 ∷ 0x00020793 ∷ 0x40078793 ∷ 0x0407A603 ∷ 0x00060E63 ∷ 0x04078513
    ∷ 0x00000593 ∷ 0x00000693 ∷ 0x06200893 ∷ 0x00000073 ∷ 0xFE5FF06F ∷ 0xFFFA8A93 ∷ 0xFC0A9CE3 ∷ 0x00008067
    ∷ 0x00000513 ∷ 0x05D00893 ∷ 0x00000073 ∷ 0x00000513 ∷ 0x00800A93 ∷ 0x00048793 ∷ 0x0007B283 ∷ 0x00550533
    ∷ 0x017787B3 ∷ 0xFFFA8A93 ∷ 0xFE0A98E3 ∷ 0x00020637 ∷ 0x0A060613 ∷ 0x00A00293 ∷ 0xFFF60593 ∷ 0x00558023
    ∷ 0x02557333 ∷ 0x02555533 ∷ 0x03030313 ∷ 0xFFF58593 ∷ 0x00658023 ∷ 0xFE0516E3 ∷ 0x40B60633 ∷ 0x00100513
    ∷ 0x04000893 ∷ 0x00000073 ∷ 0x00000513 ∷ 0x05E00893 ∷ 0x00000073 ∷ 0x05823423 ∷ 0x00000513 ∷ 0x00800593
    ∷ 0x04820613 ∷ 0x07A00893 ∷ 0x00000073 ∷ 0x00008067 ∷ 0x00300A13 ∷ 0x00020D37 ∷ 0x008D0D13 ∷ 0x04048D93
    ∷ 0x00040E37 ∷ 0x00100293 ∷ 0x005E3023 ∷ 0x09CE3023 ∷ 0x01000513 ∷ 0x00000593 ∷ 0x00000613 ∷ 0x11B00893
    ∷ 0x00000073 ∷ 0xEC1FF0EF ∷ 0x000E0B13 ∷ 0x040E0C13 ∷ 0x00100293 ∷ 0x005C3023 ∷ 0x098E3023 ∷ 0x00800513
    ∷ 0x00000593 ∷ 0x00000613 ∷ 0x11B00893 ∷ 0x00000073 ∷ 0x000D3283 ∷ 0x00128293 ∷ 0x005D3023 ∷ 0x000D8313
    ∷ 0x00300393 ∷ 0x00033503 ∷ 0x00050463 ∷ 0xFE556CE3 ∷ 0x04030313 ∷ 0xFFF38393 ∷ 0xFE0396E3 ∷ 0x00000513
    ∷ 0x000B3023 ∷ 0x000B0293 ∷ 0x000C0B13 ∷ 0x00028C13 ∷ 0xFFF98993 ∷ 0xF8099EE3 ∷ 0xE91FF0EF ∷ 0xED1FF06F
    ∷ 0x000302B7 ∷ 0x405202B3 ∷ 0x0042D293 ∷ 0x00548CB3 ∷ 0x00000B13 ∷ 0x000D3C03 ∷ 0x018CB023 ∷ 0x080E3283
    ∷ 0x0002B283 ∷ 0x000CB023 ∷ 0x00029463 ∷ 0x001B0B13 ∷ 0xFFF98993 ∷ 0xFE0990E3 ∷ 0x0D6CB023 ∷ 0xE85FF06F ∷ []

urcu_rows : AreRows (guest_labels Urcu) 0 (guest_lines Urcu) urcu_words
unfolding by_table
urcu_rows =
    (refl, (refl, (refl, (refl, (refl, (refl, (refl, (refl, (refl, (refl, (refl, (refl, (refl, (refl, (refl, (refl, (refl, (refl, (refl, (refl, (refl, (refl, (refl, (refl, (refl, (refl, (refl, (refl, (refl, (refl, (refl, (refl, (refl, (refl, (refl, (refl, (refl, (refl, (refl, (refl, (refl, (refl, (refl, (refl, (refl, (refl, (refl, (refl, (refl, (refl, (refl, (refl, (refl, (refl, (refl, (refl, (refl, (refl, (refl, (refl, (refl, (refl, (refl, (refl, (refl, (refl, (refl, (refl, (refl, (refl, (refl, (refl, (refl, (refl, (refl, (refl, (refl, (refl, (refl, (refl, (refl, (refl, (refl, (refl, (refl, (refl, (refl, (refl, (refl, (refl, (refl, (refl, (refl, (refl, (refl, (refl, (refl, (refl, (refl, (refl, (refl, (refl, (refl, (refl, (refl, (refl, (refl, (refl, (refl, (refl, (refl, (refl, (refl, (refl, (refl, (refl, (refl, (refl, (refl, (refl, (refl, (refl, (refl, (refl, (refl, (refl, (refl, (refl, (refl, (refl, (refl, (refl, (refl, (refl, (refl, (refl, (refl, (refl, (refl, (refl, (refl, (refl, (refl, (refl, refl))))))))))))))))))))))))))))))))))))))))))))))))))))))))))))))))))))))))))))))))))))))))))))))))))))))))))))))))))))))))))))))))))))))))))))))))

pub urcu_code : IsCodeOf Urcu urcu_words
urcu_code = code_so Urcu urcu_words urcu_rows refl
