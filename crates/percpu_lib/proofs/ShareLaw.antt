-- Before the sequence of a block its thread is inside no sequence, where only blocks that lie beside it write the
-- pointer of the area.
use Rattle.std.proofs.Common.{◌≡◌, ℕ, zero, suc, ◌+◌, ◌*◌, ◌-◌, ◌%◌, ◌^◌, List, ◌∷◌, arith, subst}
use Rattle.std.proofs.Common.{true, false}
use Rattle.std.specs.Prelude.{Contains}
use Rattle.std.proofs.lemmas.Bool.{le-ltb, ltb-true}
use Rattle.mach_types.specs.Kernel.Areas.{is_inside}
use Rattle.mach_types.specs.declared.sequences.Area.{Area}
use Rattle.block_model.specs.History.{History}
use Rattle.block_model.specs.Run.{IsRunHistory}
use Rattle.block_model.specs.Setting.{Setting}
use Rattle.alone_laws.specs.Pointers.{LiesBeside}
use Rattle.alone_laws.specs.Uses.{AlwaysOutside, CanAlwaysBegin, Placed, is_before}
use Rattle.alone_laws.proofs.Pointers.{always_outside}
use Rattle.percpu_lib.specs.Forms.{Form, HoldsBlock, SharesAreaWith, placed_of, range_of}
use Rattle.percpu_lib.proofs.BlockCode.{IsFormed}

module _ (s : Setting) (form : Form) (at : ℕ) (area : Area) (t : ℕ) (formed : IsFormed form) (history : History)
    (held : HoldsBlock s history form at area t) where
  abbrev b : Placed
  b = placed_of form at area

  -- its own sequence begins behind these words
  own_apart : (pc : ℕ) → is_before b pc ≡ true → is_inside (range_of form at) pc ≡ false
  own_apart pc here =
      let low = held.low in
      let all = formed.short in
      let within = formed.within in
      let near = ltb-true ((pc + (2 ^ 64 - at)) % 2 ^ 64) ((at + 4 * form.first + (2 ^ 64 - at)) % 2 ^ 64) here in
      le-ltb ((pc + (2 ^ 64 - (at + 4 * form.first))) % 2 ^ 64) (4 * form.inside) (omega arith)

  beside : (others : List Placed) → SharesAreaWith s history b t others → (other : Placed)
      → Contains (b ∷ others) other → LiesBeside b other
  beside others shares other (zero, lt, is) =
      let low = held.low_table in
      subst (LiesBeside b) is (record { low_table = omega arith; apart = own_apart })
  beside others shares other (suc k, lt, is) = shares.beside other (k, omega arith, is)

  pub outside_before : (others : List Placed) → IsRunHistory s history → SharesAreaWith s history b t others
      → CanAlwaysBegin s b t history → AlwaysOutside s b t history
  outside_before others run shares can =
      always_outside s b (b ∷ others) t (beside others shares) history run shares.kept can shares.described
