-- Worked examples of the layout, by computation.
use Rattle.std.proofs.Common.{◌≡◌, refl}
use Rattle.elf_make.specs.Layout.{place_from}

-- behind a file header and one program header, a part at 0x10078 has its place at once
at_once : place_from 120 0x10078 ≡ 120
at_once = refl

-- a byte later the next place is a page on
a_page_on : place_from 121 0x10078 ≡ 4216
a_page_on = refl
