-- The lines of a restartable sequence: the area of a hart's thread, and what it names (rseq(2)).
use Rattle.std.specs.Prelude.{ℕ, Bool, true, false, List, [], ◌∷◌, Option, Some, None, codes}
use Rattle.std.specs.Fmt.{decimal}
use Rattle.mach_types.specs.Kernel.Areas.{is_inside}
use Rattle.mach_types.specs.declared.sequences.Area.{Area}
use Rattle.mach_types.specs.declared.sequences.BadWhy.{BadWhy}
use Rattle.mach_types.specs.declared.sequences.BadWhy.TheVariants.{AreaBytes, Pointer, Descriptor, Version, Range, AbortInside, Signature, SeqFlags}
use Rattle.mach_types.specs.declared.sequences.Named.{Named}
use Rattle.mach_types.specs.declared.sequences.Named.TheVariants.{Nothing, Good, Bad}
use Rattle.step_log.specs.Text.{hex_text}
use Rattle.place_text.specs.Fields.{hart_line, value_text}

-- `hart H area AT signature SIG`, or `none`; the signature has 8 digits
abbrev pub area_fields : Option Area → List (List ℕ)
area_fields None = codes "none" ∷ []
area_fields (Some area) = value_text area.at ∷ codes "signature" ∷ hex_text 8 area.sig ∷ []

abbrev pub area_line : ℕ → Option Area → List ℕ
area_line h area = hart_line h (codes "area" ∷ area_fields area)

-- what is wrong with an area, or with the descriptor that it names
abbrev pub bad_word : BadWhy → List ℕ
bad_word AreaBytes = codes "area-bytes"
bad_word Pointer = codes "pointer"
bad_word Descriptor = codes "descriptor"
bad_word Version = codes "version"
bad_word Range = codes "range"
bad_word AbortInside = codes "abort-inside"
bad_word Signature = codes "signature"
bad_word SeqFlags = codes "sequence-flags"

-- whether a thread is inside its sequence
abbrev pub inside_word : Bool → List ℕ
inside_word true = codes "inside"
inside_word false = codes "outside"

-- `hart H names nothing`, or `good START LENGTH ABORT` and whether the pc is inside, or `bad WHY`
abbrev pub names_fields : Named → ℕ → List (List ℕ)
names_fields Nothing pc = codes "nothing" ∷ []
names_fields (Good sequence) pc =
    codes "good"
    ∷ value_text sequence.start
    ∷ decimal sequence.length
    ∷ value_text sequence.abort
    ∷ inside_word (is_inside sequence pc)
    ∷ []
names_fields (Bad why) pc = codes "bad" ∷ bad_word why ∷ []

abbrev pub names_line : ℕ → Named → ℕ → List ℕ
names_line h named pc = hart_line h (codes "names" ∷ names_fields named pc)
