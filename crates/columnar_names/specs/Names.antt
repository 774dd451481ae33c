-- The names of slices, in bytes.
use Rattle.std.specs.Prelude.{List, ℕ, [], ◌++◌, ◌==◌, ◌||◌, codes, if◌then◌else◌, length, slice_index_or}

-- the path of a field of the column at a path: a dot between the two, if neither is empty
unfoldable pub field_path : List ℕ → List ℕ → List ℕ
field_path path field = path ++ ((if (length field == 0) || (length path == 0) then [] else codes ".") ++ field)

-- the name at a place of a list, empty if there is none
abbrev pub name_at : List (List ℕ) → ℕ → List ℕ
name_at names i = slice_index_or names i []
