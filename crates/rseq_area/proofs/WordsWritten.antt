-- Where the four words of an area can be written, each of them can.
use Rattle.std.proofs.Common.{◌≡◌, ℕ, ◌+◌, Bool, true, false, ◌&&◌, sym, ap, ◌∙◌, arith}
use Rattle.mach_types.specs.Bytes.{each_byte}
use Rattle.mach_types.specs.Kernel.Areas.{are_words_writable}
use Rattle.mach_types.specs.declared.sequences.Area.{Area}
use Rattle.mach_types.specs.declared.sequences.TheConstants.{MM_CID, NODE_ID}
use Rattle.mach_types.proofs.Laws.{each_byte-same, each_byte-split}

right_holds : (a b : Bool) → a && b ≡ true → b ≡ true
right_holds true b e = e
right_holds false b e = cc

-- the last one stands behind the node
pub mm_cid_writable : (before now : ℕ → Bool) (area : Area) → ((a : ℕ) → now a ≡ before a) → true ≡ are_words_writable before area → each_byte now (area.at + MM_CID) 4 ≡ true
mm_cid_writable before now area same writable =
    let last : area.at + NODE_ID + 4 ≡ area.at + MM_CID = omega arith in
    let pair = right_holds (each_byte before area.at 8) (each_byte before (area.at + NODE_ID) 8) (sym writable) in
    let second = right_holds (each_byte before (area.at + NODE_ID) 4) (each_byte before (area.at + NODE_ID + 4) 4) (sym (each_byte-split before (area.at + NODE_ID) 4 4) ∙ pair) in
    each_byte-same before now same (area.at + MM_CID) 4 ∙ ap (λ a. each_byte before a 4) (sym last) ∙ second
