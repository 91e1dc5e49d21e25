-- Which pages of a page map are mapped (own).
use Rattle.std.specs.Prelude.{ℕ, Bool, is_some}
use Rattle.page_map.specs.Map.{Map, permission_in}

-- whether page n is mapped
abbrev pub is_page : Map → ℕ → Bool
is_page m n = is_some (permission_in m n)
