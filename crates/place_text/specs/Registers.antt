-- The lines of a hart's registers, x0 to x31, each with its name (RISC-V psABI, "Integer Register Convention").
use Rattle.std.specs.Prelude.{ℕ, List, [], ◌∷◌, ◌++◌, codes, get_or}
use Rattle.std.specs.Fmt.{decimal}
use Rattle.std.specs.List.{flat_map, range_with_len}
use Rattle.mach_types.specs.Registers.{register}
use Rattle.mach_types.specs.declared.registers.Regs.{Regs}
use Rattle.place_text.specs.Fields.{hart_line, value_text}

-- the names of x0, x1, x2, ..
unfoldable pub register_names : List (List ℕ)
register_names =
    codes "zero" ∷ codes "ra" ∷ codes "sp" ∷ codes "gp" ∷ codes "tp" ∷ codes "t0" ∷ codes "t1" ∷ codes "t2"
    ∷ codes "s0" ∷ codes "s1" ∷ codes "a0" ∷ codes "a1" ∷ codes "a2" ∷ codes "a3" ∷ codes "a4" ∷ codes "a5"
    ∷ codes "a6" ∷ codes "a7" ∷ codes "s2" ∷ codes "s3" ∷ codes "s4" ∷ codes "s5" ∷ codes "s6" ∷ codes "s7"
    ∷ codes "s8" ∷ codes "s9" ∷ codes "s10" ∷ codes "s11" ∷ codes "t3" ∷ codes "t4" ∷ codes "t5" ∷ codes "t6"
    ∷ []

-- the name of register n
abbrev pub register_name : ℕ → List ℕ
register_name n = get_or register_names n []

-- the fields of register n: `xN`, and its name
abbrev pub register_fields : ℕ → List (List ℕ)
register_fields n = (codes "x" ++ decimal n) ∷ register_name n ∷ []

-- `hart H xN NAME VALUE`
abbrev pub register_line : ℕ → Regs → ℕ → List ℕ
register_line h file n =
    hart_line h ((codes "x" ++ decimal n) ∷ register_name n ∷ value_text (register file n) ∷ [])

-- one line for each register
unfoldable pub register_lines : ℕ → Regs → List ℕ
register_lines h file = flat_map (register_line h file) (range_with_len 0 32)
