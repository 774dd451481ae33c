-- Values that stand for others, part by part.
use Rattle.std.proofs.Common.{Bor, ◌*◌, ◌≤◌, ◌++◌, ap, ◌∙◌, subst, append_assoc, ◌≡◌, Bool, string_bytes, rules, ℕ, zero, suc, ◌+◌, ◌<◌, List, [], ◌∷◌, length, drop, get_or, Vec, String, BTreeMap, Global, refl, sym, arith}
use Rattle.std.specs.Prelude.{Option, Some, None, MatchOption, option_map}
use Rattle.serde_json.specs.Data.{Data, null, boolean, number, string, array, object, Items, no_items, item, Members, no_members, member}
use Rattle.serde_json.specs.Find.{get}
use Rattle.serde_json.specs.View.{view, items_view, members_view, number_view}
use Rattle.serde_json.specs.declared.number.Number.{Number}
use Rattle.serde_json.specs.declared.value.Value.{Value, Null, Bool as Truth, Number as Numeral, String as Text, Array, Object, the_lemmas}
use Rattle.serde_json.proofs.Views.{Entry, view-Array, view-Object}
use Rattle.columnar_make.specs.Stands.{AreMembers, HasMembers, IsSameNumber, StandForItems, StandsFor}

-- the number of arrays and objects in a value
abbrev mutual
  pub size : Data → ℕ
  size (array ds) = suc (items_size ds)
  size (object ms) = suc (members_size ms)
  size _ = 0

  pub items_size : Items → ℕ
  items_size no_items = 0
  items_size (item d ds) = size d + items_size ds

  pub members_size : Members → ℕ
  members_size no_members = 0
  members_size (member k d ms) = size d + members_size ms

pub items_smaller : (es : Vec Value Global) (row : Value) (is : List Value) → row ≡ Array es → is ≡ es.items → 2 * items_size (items_view is) + 1 < 2 * size (view row)
items_smaller es row is e f = rw (e, f, view-Array es) (omega arith)

pub members_smaller : (es : BTreeMap (String Global) Value) (row : Value) → row ≡ Object es → 2 * members_size (members_view es.entries) + 1 < 2 * size (view row)
members_smaller es row e = rw (e, view-Object es) (omega arith)

item_size : (es : List Value) (i : ℕ) (d : Value) → i < length es → size (view (get_or es i d)) ≤ items_size (items_view es)
item_size [] i d h = absurd (omega (arith, h))
item_size (e ∷ es) zero d h = omega arith
item_size (e ∷ es) (suc i) d h = omega (arith, item_size es i d (omega (arith, h)))

pub item_smaller : (es : List Value) (i : ℕ) (e d : Value) → i < length es → e ≡ get_or es i d → 2 * size (view e) < 2 * items_size (items_view es) + 1
item_smaller es i e d h f = rw f (omega (arith, item_size es i d h))

pub member_size : (done : List Entry) (e : Entry) (left : List Entry) → size (view e.1) ≤ members_size (members_view (done ++ (e ∷ left)))
member_size [] e left = omega arith
member_size (x ∷ done) e left = omega (arith, member_size done e left)

pub member_smaller : (es done left at : List Entry) (e : Entry) → es ≡ done ++ at → at ≡ e ∷ left → 2 * size (view e.1) < 2 * members_size (members_view es) + 1
member_smaller es done left at e f g = rw (f, g) (omega (arith, member_size done e left))

-- a member before others
pub member_taken : (line : Data) (es done left at : List Entry) (e : Entry) → es ≡ done ++ at → at ≡ e ∷ left → MatchOption (get (string_bytes e.0) line) (view e.1 ≡ null) (λ f. StandsFor f (view e.1)) → (HasMembers line (members_view at) → HasMembers line (members_view es)) → (done : List Entry) × ((es ≡ done ++ left) × (HasMembers line (members_view left) → HasMembers line (members_view es)))
member_taken line es done left at e f g h k = (done ++ (e ∷ []), (f ∙ (ap (λ x. done ++ x) g ∙ sym (append_assoc done (e ∷ []) left)), (λ m. k (subst (λ x. HasMembers line (members_view x)) (sym g) (h, m)))))

-- what is found of a member, if there is one and if not
pub found_stands : (line e : Data) (key k : List ℕ) (o : Option (Bor Value)) (g : Bor Value) → o ≡ Some g → option_map (λ v. view v.now) o ≡ get key line → key ≡ k → StandsFor (view g.now) e → MatchOption (get k line) (e ≡ null) (λ f. StandsFor f e)
found_stands line e key k o g is f h s = rw (sym h, sym f, is) s

pub absent_stands : (line e : Data) (key k : List ℕ) (o : Option (Bor Value)) → o ≡ None → option_map (λ v. view v.now) o ≡ get key line → key ≡ k → e ≡ null → MatchOption (get k line) (e ≡ null) (λ f. StandsFor f e)
absent_stands line e key k o is f h s = rw (sym h, sym f, is) s

view_null : view Null ≡ null
view_null = search (rules, the_lemmas)

view_bool : (b : Bool) → view (Truth b) ≡ boolean b
view_bool b = search (rules, the_lemmas)

view_number : (n : Number) → view (Numeral n) ≡ number (number_view n)
view_number n = search (rules, the_lemmas)

view_string : (s : String Global) → view (Text s) ≡ string (string_bytes s)
view_string s = search (rules, the_lemmas)

pub null_stands : StandsFor (view Null) (view Null)
null_stands = rw view_null refl

pub bool_stands : (b c : Bool) → b ≡ c → StandsFor (view (Truth b)) (view (Truth c))
bool_stands b c e = rw (view_bool b, view_bool c, e) refl

pub number_stands : (m n : Number) → IsSameNumber (number_view m) (number_view n) → StandsFor (view (Numeral m)) (view (Numeral n))
number_stands m n h = rw (view_number m, view_number n) (number_view m, (refl, h))

pub string_stands : (s t : String Global) → string_bytes s ≡ string_bytes t → StandsFor (view (Text s)) (view (Text t))
string_stands s t e = rw (view_string s, view_string t, e) refl

pub array_stands : (ds es : Vec Value Global) → StandForItems (items_view ds.items) (items_view es.items) → StandsFor (view (Array ds)) (view (Array es))
array_stands ds es h = rw (view-Array ds, view-Array es) (items_view ds.items, (refl, h))

pub object_stands : (ds es : BTreeMap (String Global) Value) → HasMembers (view (Object ds)) (members_view es.entries) → AreMembers (members_view ds.entries) (view (Object es)) → StandsFor (view (Object ds)) (view (Object es))
object_stands ds es h k = rw (view-Object es) (members_view ds.entries, (view-Object ds, (h, rw (sym (view-Object es)) k)))

-- an item before others
pub item_stands : (ds es : List Value) (i : ℕ) (d : Value) → i < length ds → i < length es → StandsFor (view (get_or ds i d)) (view (get_or es i d)) → StandForItems (items_view (drop (i + 1) ds)) (items_view (drop (i + 1) es)) → StandForItems (items_view (drop i ds)) (items_view (drop i es))
item_stands [] es i d h k s t = absurd (omega (arith, h))
item_stands (x ∷ ds) [] i d h k s t = absurd (omega (arith, k))
item_stands (x ∷ ds) (y ∷ es) zero d h k s t = (s, t)
item_stands (x ∷ ds) (y ∷ es) (suc i) d h k s t =
    let m : suc i + 1 ≡ suc (i + 1) = omega arith in
    item_stands ds es i d (omega (arith, h)) (omega (arith, k)) s (rw m at t)
