-- The severity of an event, as a row: a number below 4.
use Rattle.std.specs.Prelude.{ℕ, List, Bool, false, nat_lt, codes, bytes_eq, if◌then◌else◌}
use Rattle.columnar_core.specs.Row.{Row, number}
use Rattle.event_log.specs.declared.level.Level.{Level}
use Rattle.event_log.specs.declared.level.Level.TheVariants.{Debug, Info, Warn, Error}

abbrev pub level_number : Level → ℕ
level_number Debug = 0
level_number Info = 1
level_number Warn = 2
level_number Error = 3

abbrev pub level_row : Level → Row
level_row l = number (level_number l)

abbrev pub is_level : Row → Bool
is_level (number n) = nat_lt n 4
is_level _ = false

-- the number of the level with this name; 4 if there is none
abbrev pub named_level : List ℕ → ℕ
named_level word = if bytes_eq word (codes "debug") then 0 else (if bytes_eq word (codes "info") then 1 else (if bytes_eq word (codes "warn") then 2 else (if bytes_eq word (codes "error") then 3 else 4)))
