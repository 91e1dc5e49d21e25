-- What the area of the thread on a hart names, and whether the thread is inside.
use Rattle.process.proofs.Common.{◌≡◌, ℕ, ap, ◌∙◌, refl, Option, Some, None, option_and_then, option_map_or, named, Area, HartState, IsTied, Parts, Plain, Saved, Setting, byte_in, file_on, hart_at, here_in_plain, Here, view, waiting_here, area_here, named_here, seen_byte}
use Rattle.mach_types.specs.declared.sequences.Named.TheVariants as names
use Rattle.process.proofs.Memory.{bytes_held}

-- memory behind the waiting stores of a hart is what the hart sees
pub view_is : (s : Setting) (p : Plain) (m : Parts) (h credit : ℕ) (x : HartState) → IsTied s p m → x ≡ hart_at s p h credit
    → seen_byte x.buffer (byte_in m.pages) ≡ view (here_in_plain s p h)
view_is s p m h credit x tied own =
    ap (λ (y : HartState). seen_byte y.buffer (byte_in m.pages)) own
    ∙ ap (seen_byte (waiting_here (here_in_plain s p h))) (bytes_held p.kernel s.program.break_at p.byte m.pages tied.pages)

-- where the thread has an area, and where there is none
pub named_by : (here : Here) (byte : ℕ → Option ℕ) (f : Saved) (area : Area) (o : Option ℕ) → byte ≡ view here → f ≡ file_on here o
    → option_and_then (area_here here) o ≡ Some area → named byte area f.pc ≡ option_map_or (named_here here) o names.Nothing
named_by here byte f area None bytes file has = cc
named_by here byte f area (Some t) bytes file has = rw (bytes, file, has) refl

pub unnamed : (here : Here) (o : Option ℕ) → option_and_then (area_here here) o ≡ None → names.Nothing ≡ option_map_or (named_here here) o names.Nothing
unnamed here None none = refl
unnamed here (Some t) none = rw none refl
