-- Columns of lists: the items of all lists one after another, and the end of each list.
use Rattle.std.specs.Prelude.{ℕ, Bool, false, List, [], ◌∷◌, ◌++◌, length, ◌+◌, ◌-◌, take, drop, ◌&&◌, ◌||◌, map}
use Rattle.columnar_base.specs.Row.{Row, list, number, items_of, list_end, row_eq}
use Rattle.columnar_base.specs.Format.{Format, Content, slice, both, part, plain, Fault, two_broken, all_alike, Excess}
use Rattle.columnar_core.specs.Bounds.{numbers, rises, last_or}

-- the lists into which the bounds divide vs, the first from `from` on
abbrev pub cut : ℕ → List ℕ → List Row → List Row
cut from [] vs = []
cut from (n ∷ ns) vs = list (take (n - from) (drop from vs)) ∷ cut n ns vs

-- the items of all lists
abbrev pub joined : List Row → List Row
joined [] = []
joined (r ∷ rs) = items_of r ++ joined rs

-- the end of each list, if the first starts at `from`
abbrev pub ends : ℕ → List Row → List Row
ends from [] = []
ends from (r ∷ rs) = number (from + length (items_of r)) ∷ ends (from + length (items_of r)) rs

-- whether the bounds rise to the number of values
abbrev pub lists_rise : Format → Format → Content → Content → Bool
lists_rise b t x y = rises 0 (numbers (b.rows x)) (length (t.rows y))

abbrev pub lists_broken : Format → Format → Content → List Fault
lists_broken b t = two_broken b t (lists_rise b t) 11

abbrev pub lists_rows : Format → Format → Content → List Row
lists_rows b t (both x y) = cut 0 (numbers (b.rows x)) (t.rows y)
lists_rows b t (slice bs) = []
lists_rows b t (part l u x) = []
lists_rows b t (plain rs) = []

-- the end of the first n lists
abbrev pub end_at : Format → Content → ℕ → ℕ
end_at b x n = last_or 0 (take n (numbers (b.rows x)))

abbrev pub lists_extent : Format → Format → Content → ℕ → List ℕ
lists_extent b t (both x y) n = b.extent x n ++ t.extent y (end_at b x n)
lists_extent b t (slice bs) n = []
lists_extent b t (part l u x) n = []
lists_extent b t (plain rs) n = []

-- compares item by item
abbrev pub list_alike : (Row → Row → Bool) → Row → Row → Bool
list_alike same r s = row_eq (list_end r) (list_end s) && all_alike same (items_of r) (items_of s)

-- the bounds refuse the ends of the lists, or the values refuse their items
abbrev pub lists_refuses : Format → Format → Excess → Content → ℕ → List Row → Bool
lists_refuses b t e (both x y) n rs = b.refuses e x n (ends (end_at b x n) rs) || t.refuses e y (end_at b x n) (joined rs)
lists_refuses b t e (slice bs) n rs = false
lists_refuses b t e (part l u x) n rs = false
lists_refuses b t e (plain ss) n rs = false

-- bounds, and the values that they divide into lists
abbrev pub lists_format : Format → Format → Format
lists_format b t = record {
  count = b.count + t.count;
  sizes = b.sizes ++ t.sizes;
  aligns = b.aligns ++ t.aligns;
  turns = 16;
  broken = lists_broken b t;
  rows = lists_rows b t;
  extent = lists_extent b t;
  build = λ ss. both (b.build ss) (t.build (drop b.count ss));
  alike = list_alike t.alike;
  kin = list_alike t.kin;
  refuses = lists_refuses b t;
}
