-- Columns of trees: the start of each tree, the end of each node's children, and the values of the nodes.
use Rattle.std.specs.Prelude.{ℕ, suc, Bool, true, false, List, [], ◌∷◌, length, ◌+◌, ◌*◌, drop, ◌||◌, slice_index, Vec}
use Rattle.std.specs.Global.{Global}
use Rattle.columnar_base.specs.Row.{Row}
use Rattle.columnar_base.specs.Format.{Format, Content, slice, both, part, plain, two_broken, Excess}
use Rattle.columnar_base.specs.Elements.{words_format, past_count, first_slice}
use Rattle.columnar_base.specs.WordViews.{words_in, bytes_of, le_bytes}
use Rattle.columnar_nested.specs.Pass.{accepts}
use Rattle.columnar_nested.specs.Reading.{trees_of}
use Rattle.columnar_nested.specs.TreeRows.{tree_rows, level_values, tree_alike}
use Rattle.columnar_nested.specs.declared.trees.Trees.{Trees}

-- the words of a slice
abbrev pub words_of : Content → List ℕ
words_of x = words_in (bytes_of x)

-- nodes, each with a value and the bound of its children: their rows are the values
abbrev pub nodes_rows : Format → Content → List Row
nodes_rows v (both y z) = v.rows z
nodes_rows v (slice bs) = []
nodes_rows v (part l u x) = []
nodes_rows v (plain rs) = []

-- there are too many nodes, or their values are refused
abbrev pub nodes_refuses : Format → Excess → Content → ℕ → List Row → Bool
nodes_refuses v e (both y z) n rs = past_count e (n + length rs) || v.refuses e z n rs
nodes_refuses v e (slice bs) n rs = false
nodes_refuses v e (part l u x) n rs = false
nodes_refuses v e (plain ss) n rs = false

abbrev pub nodes_extent : Format → Content → ℕ → List ℕ
nodes_extent v (both y z) n = (8 * suc n) ∷ v.extent z n
nodes_extent v (slice bs) n = []
nodes_extent v (part l u x) n = []
nodes_extent v (plain rs) n = []

-- bounds and values, without a rule of their own
abbrev pub nodes_format : Format → Format
nodes_format v = record {
  count = 1 + v.count;
  sizes = 8 ∷ v.sizes;
  aligns = 8 ∷ v.aligns;
  turns = 16;
  broken = two_broken words_format v (λ y z. true) 0;
  rows = nodes_rows v;
  extent = nodes_extent v;
  build = λ ss. both (first_slice ss) (v.build (drop 1 ss));
  alike = v.alike;
  kin = v.kin;
  refuses = nodes_refuses v;
}

-- the bounds of a content of nodes
abbrev pub bounds_of : Content → List ℕ
bounds_of (both y z) = words_of y
bounds_of (slice bs) = []
bounds_of (part l u x) = []
bounds_of (plain rs) = []

-- whether groups and bounds satisfy the rule of trees
abbrev pub trees_keep : Format → Content → Content → Bool
trees_keep v x n = accepts (words_of x) (bounds_of n) (length (nodes_rows v n))

abbrev pub trees_rows : Format → Content → List Row
trees_rows v (both x n) = tree_rows (trees_of (bounds_of n) (nodes_rows v n))
trees_rows v (slice bs) = []
trees_rows v (part l u x) = []
trees_rows v (plain rs) = []

-- where the first t trees end
abbrev pub end_of_trees : Content → ℕ → ℕ
end_of_trees x t = slice_index (words_of x) t

abbrev pub trees_extent : Format → Content → ℕ → List ℕ
trees_extent v (both x n) t = (8 * suc t) ∷ nodes_extent v n (end_of_trees x t)
trees_extent v (slice bs) t = []
trees_extent v (part l u x) t = []
trees_extent v (plain rs) t = []

-- there are too many trees, or the values of their nodes, level by level, are refused
abbrev pub trees_refuses : Format → Excess → Content → ℕ → List Row → Bool
trees_refuses v e (both x n) t rs = past_count e (t + length rs) || nodes_refuses v e n (end_of_trees x t) (level_values rs)
trees_refuses v e (slice bs) t rs = false
trees_refuses v e (part l u x) t rs = false
trees_refuses v e (plain ss) t rs = false

-- groups, bounds and values: each row is a tree
abbrev pub trees_format : Format → Format
trees_format v = record {
  count = 2 + v.count;
  sizes = 8 ∷ 8 ∷ v.sizes;
  aligns = 8 ∷ 8 ∷ v.aligns;
  turns = 16;
  broken = two_broken words_format (nodes_format v) (trees_keep v) 18;
  rows = trees_rows v;
  extent = trees_extent v;
  build = λ ss. both (first_slice ss) ((nodes_format v).build (drop 1 ss));
  alike = tree_alike v.alike;
  kin = tree_alike v.kin;
  refuses = trees_refuses v;
}

-- the content of a column of trees
abbrev pub trees_content : {V B : Type 0} → (B → List ℕ) → (V → Content) → Trees V B → Content
trees_content bytes values t = both (slice (bytes t.groups)) (both (slice (bytes t.bounds)) (values t.values))

-- the content of a column that owns its words
abbrev pub owned_trees : {V : Type 0} → (V → Content) → Trees V (Vec ℕ Global) → Content
owned_trees values t = trees_content (λ (v : Vec ℕ Global). le_bytes v.items) values t
